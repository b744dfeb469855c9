-- Pieces of a list of bytes, one after the other.
use Rattle.std.proofs.Common.{◌≡◌, ℕ, ◌+◌, ◌-◌, List, length, arith, length-drop, length-append, ◌++◌, take, drop, None, Some, ◌∙◌, ap, append_assoc}
use Rattle.std.proofs.Math.Seq.{take-add, take-append-add}
use Rattle.std.proofs.lemmas.List.{take_all, take-append-le}
use Rattle.std.specs.Io.KnownBytes.{Appends}
use Rattle.std.specs.declared.option.Option.{Option}
use Rattle.kf_io.specs.Writes.{AppendsSome}

-- one piece and then the next
pub took_on : (a b c : Option (List ℕ)) (xs ys : List ℕ) → Appends a b xs → Appends b c ys → Appends a c (xs ++ ys)
took_on None b c xs ys p q = tt
took_on (Some x) None c xs ys p q = absurd p
took_on (Some x) (Some y) None xs ys p q = absurd q
took_on (Some x) (Some y) (Some z) xs ys p q = q ∙ ap (λ l. l ++ ys) p ∙ append_assoc x xs ys

-- where the next piece was offered as the rest
pub took_more : (a b c : Option (List ℕ)) (bytes : List ℕ) (d k : ℕ) → Appends a b (take d bytes) → Appends b c (take k (take (length bytes - d) (drop d bytes))) → Appends a c (take (d + k) bytes)
took_more a b c bytes d k p q =
    let rest : take (length bytes - d) (drop d bytes) ≡ drop d bytes = take_all _ _ (omega (arith, length-drop d bytes)) in
    rw (take-add d k bytes) (took_on a b c _ _ p (rw rest at q))

-- a front of the first piece is a front of both
pub front_more : (a b : Option (List ℕ)) (xs ys : List ℕ) → AppendsSome a b xs → AppendsSome a b (xs ++ ys)
front_more a b xs ys (n, le, took) = (n, omega (arith, le, length-append xs ys), rw (take-append-le n xs ys le) took)

-- the first piece, and a front of the second
pub front_then : (a b c : Option (List ℕ)) (xs ys : List ℕ) → Appends a b xs → AppendsSome b c ys → AppendsSome a c (xs ++ ys)
front_then a b c xs ys p (n, le, took) = (length xs + n, omega (arith, le, length-append xs ys), rw (take-append-add xs ys n) (took_on a b c xs (take n ys) p took))
