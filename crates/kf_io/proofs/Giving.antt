-- What one read gives of a file.
use Rattle.std.proofs.Common.{◌≡◌, ℕ, ◌+◌, ◌≤◌, List, ◌++◌, length, take, drop, sym, ◌∙◌, ap, arith, take-append-drop, length-take, length-append, drop-drop}
use Rattle.std.proofs.lemmas.List.{take_at}
use Rattle.kf_io.specs.Reads.{Gives}

-- a buffer whose front is a copy of k bytes from `at` on; where that is none, there were none or the buffer is empty
pub gives_front : (file : List ℕ) (at k : ℕ) (copy rest : List ℕ) → copy ≡ take k (drop at file) → k ≤ length (drop at file) → (k ≡ 0 → length copy + length rest ≡ 0) → Gives file at k (copy ++ rest)
gives_front file at k copy rest is room none =
    let size : k ≡ length copy = omega (arith, ap length is, length-take k (drop at file)) in
    record {
      bytes = sym (take-append-drop k (drop at file)) ∙ (λ i. sym is i ++ drop-drop k at file i) ∙ ap (λ l. l ++ drop (at + k) file) (sym (take_at copy rest k (sym size)));
      end = λ zero some. absurd (omega (arith, none zero, some, length-append copy rest));
    }
