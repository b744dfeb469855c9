-- The first token after which more than 64 brackets stand open, told by what stood open before.
use Rattle.std.proofs.Common.{◌≡◌, ℕ, ◌+◌, ◌≤◌, ◌<◌, nat_lt, if◌then◌else◌, Bool, true, false, List, length, get_or, drop, drop-cons, [], ◌∷◌, ◌++◌, refl, sym, ◌∙◌, ap, subst, append-nil, append_assoc, arith, Option, Some, None, MatchOption, ◌⊎◌, inl, inr}
use Rattle.std.proofs.lemmas.List.{drop_all}
use Rattle.kf_lex.specs.declared.token.Token.{Token}
use Rattle.kf_parse.specs.Depth.{Open, open_brackets, opened, depth, IsShallow, IsDeep}
use Rattle.kf_parse.specs.Tokens.{open_after}

abbrev pub stand : Open → ℕ
stand c = c.brackets + c.ofs

abbrev pub deep_from : Open → List Token → Option ℕ
deep_from c [] = None
deep_from c (o ∷ ts) = if nat_lt 64 (stand (opened c o.kind)) then Some o.start else deep_from (opened c o.kind) ts

after-append : (c : Open) (ts us : List Token) → open_after c (ts ++ us) ≡ open_after (open_after c ts) us
after-append c [] us = refl
after-append c (o ∷ ts) us = after-append (opened c o.kind) ts us

after_one : (front : List Token) (c : Open) (o : Token) → open_after (open_brackets 0) front ≡ c → open_after (open_brackets 0) (front ++ o ∷ []) ≡ opened c o.kind
after_one front c o e = after-append (open_brackets 0) front (o ∷ []) ∙ ap (λ z. opened z o.kind) e

-- the beginnings of a list and one more are the whole and those of the list
one_more : (ts : List Token) (o : Token) (front rest : List Token) → ts ++ o ∷ [] ≡ front ++ rest → (front ≡ ts ++ o ∷ []) ⊎ ((back : List Token) × (ts ≡ front ++ back))
one_more ts o [] rest e = inr (ts, refl)
one_more [] o (u ∷ []) rest e = inl cc
one_more [] o (u ∷ v ∷ us) rest e = absurd (let h : [] ≡ v ∷ (us ++ rest) = cc in cc)
one_more (u ∷ ts) o (v ∷ front) rest e = elim (one_more ts o front rest cc) [
  | inl whole ↦ inl (let same : u ≡ v = cc in cc)
  | inr (back, begun) ↦ inr (back, let same : u ≡ v = cc in cc)
]

shallow_none : IsShallow []
shallow_none [] rest e = omega arith
shallow_none (o ∷ front) rest e = absurd (let h : [] ≡ o ∷ (front ++ rest) = e in cc)

shallow_more : (ts : List Token) (o : Token) → IsShallow ts → depth (ts ++ o ∷ []) ≤ 64 → IsShallow (ts ++ o ∷ [])
shallow_more ts o low here front rest e = elim (one_more ts o front rest e) [
  | inl whole ↦ rw whole here
  | inr (back, begun) ↦ low front back begun
]

abbrev pub Tells : Option ℕ → List Token → Type 0
Tells found ts = MatchOption found (IsShallow ts) (λ at. IsDeep ts at)

tells : (front rest : List Token) (c : Open) → open_after (open_brackets 0) front ≡ c → IsShallow front → Tells (deep_from c rest) (front ++ rest)
tells front [] c e low = rw append-nil low
tells front (o ∷ rest) c e low = by_test (nat_lt 64 (stand (opened c o.kind))) refl
    (λ few. let P : List Token → Type 0 = Tells (deep_from (opened c o.kind) rest) in subst P (append_assoc front (o ∷ []) rest) (tells (front ++ o ∷ []) rest (opened c o.kind) now (shallow_more front o low (rw now few))))
  where
    now : open_after (open_brackets 0) (front ++ o ∷ []) ≡ opened c o.kind
    now = after_one front c o e

    by_test : (b : Bool) → nat_lt 64 (stand (opened c o.kind)) ≡ b → (stand (opened c o.kind) ≤ 64 → Tells (deep_from (opened c o.kind) rest) (front ++ o ∷ rest)) → Tells (if b then Some o.start else deep_from (opened c o.kind) rest) (front ++ o ∷ rest)
    by_test true many ih = record { front = front; token = o; rest = rest; whole = refl; before = low; above = rw now (let h : 64 < stand (opened c o.kind) = grind arith in h); stands = refl }
    by_test false few ih = ih (grind arith)

pub told : (ts : List Token) (found : Option ℕ) → deep_from (open_brackets 0) ts ≡ found → Tells found ts
told ts found e = let P : Option ℕ → Type 0 = λ v. Tells v ts in subst P e (tells [] ts (open_brackets 0) refl shallow_none)

-- the token at which a loop stops, by what is left from it on
pub deep_at : (c c' : Open) (ts : List Token) (i : ℕ) (d : Token) → i < length ts → c' ≡ opened c (get_or ts i d).kind → nat_lt 64 (stand c') ≡ true → deep_from c (drop i ts) ≡ deep_from (open_brackets 0) ts → IsDeep ts (get_or ts i d).start
deep_at c c' ts i d within next many left = told ts (Some (get_or ts i d).start) (sym left ∙ ap (deep_from c) (drop-cons ts i d within) ∙ rw (← next, many) refl)

pub none_deep : (c : Open) (ts : List Token) (i : ℕ) → length ts ≤ i → deep_from c (drop i ts) ≡ deep_from (open_brackets 0) ts → IsShallow ts
none_deep c ts i past left = told ts None (sym left ∙ ap (deep_from c) (drop_all i ts past))
