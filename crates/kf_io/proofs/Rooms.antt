-- Room that a sink in memory is certain to have.
use Rattle.std.proofs.Common.{◌≡◌, ℕ, ◌+◌, ◌≤◌, Bool, true, false, cond, List, [], ◌∷◌, nat_lt, refl, sym, subst, arith}
use Rattle.std.specs.List.{list_all, Contains}
use Rattle.std.proofs.lemmas.Bool.Decides.{nat_tests}
use Rattle.std.proofs.lemmas.Grind.{common_steps}
use Rattle.kf_io.specs.Sinks.{SinkState, certain_room, room_left}

-- whether each listed number is below this one
abbrev passed : List ℕ → ℕ → Bool
passed fail call = list_all (λ n. nat_lt n call) fail

-- the number of a call that fails hasn't passed
not_passed : (fail : List ℕ) (call : ℕ) → Contains fail call → passed fail call ≡ false
not_passed fail call listed = grind (arith, nat_tests, common_steps)

-- what has passed stays so
passed_later : (fail : List ℕ) (call later : ℕ) → call ≤ later → passed fail call ≡ true → passed fail later ≡ true
passed_later [] call later le past = refl
passed_later (n ∷ fail) call later le past = grind (arith, nat_tests, passed_later fail call later le)

cond_false : (b : Bool) (n : ℕ) → b ≡ false → cond b n 0 ≡ 0
cond_false true n is = cc
cond_false false n is = refl

cond_le : (b : Bool) (n : ℕ) → cond b n 0 ≤ n
cond_le true n = omega arith
cond_le false n = omega arith

cond_grows : (b d : Bool) (m n k : ℕ) → (b ≡ true → d ≡ true) → m ≤ n + k → cond b m 0 ≤ cond d n 0 + k
cond_grows true true m n k stays le = le
cond_grows true false m n k stays le = absurd (let h : false ≡ true = stays refl in cc)
cond_grows false d m n k stays le = omega arith

-- nothing is certain at a call that fails
pub certain_none : (s : SinkState) → Contains s.fail s.calls → certain_room s ≡ 0
certain_none s listed = cond_false _ _ (not_passed s.fail s.calls listed)

-- no more is certain than there is
pub certain_most : (s : SinkState) → certain_room s ≤ room_left s
certain_most s = cond_le _ _

-- what was certain stays so but for what was taken
pub certain_after : (s t : SinkState) (k : ℕ) → t.fail ≡ s.fail → s.calls ≤ t.calls → room_left s ≤ room_left t + k → certain_room s ≤ certain_room t + k
certain_after s t k same le left =
    cond_grows _ _ _ _ k (λ past. subst (λ (fail : List ℕ). passed fail t.calls ≡ true) (sym same) (passed_later s.fail s.calls t.calls le past)) left
