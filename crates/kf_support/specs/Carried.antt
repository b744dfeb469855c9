-- For bodies: the pass with its scales: each store that is reached has the scale of the ways to it, as long as it is at most 2^127 - 1.
use Rattle.std.specs.Prelude.{◌≡◌, ℕ, zero, suc, ◌*◌, ◌^◌, min, Bool, true, false, List, [], ◌∷◌, map, if◌then◌else◌, Option, None, Some, Ok, Err, MatchResult, IsOk}
use Rattle.std.specs.Ordering.{nat_cmp}
use Rattle.std.specs.Map.{lookup}
use Rattle.std.specs.BTreeMap.{insert_entry, is_at}
use Rattle.kf_frac.specs.Divisors.{lcm_of}
use Rattle.kf_value.specs.Types.{TypeTree}
use Rattle.kf_core.specs.Choices.{Weighted, total}
use Rattle.kf_core.specs.Dxs.{DxTree}
use Rattle.kf_core.specs.Sts.{StTree, StTrees, Skip, Assign, Observe, If, While, no_sts, more_sts, sts}
use Rattle.kf_core.specs.Programs.{ProgramTree}
use Rattle.kf_core.specs.Runs.{Tried, tried, place, replaced, copied}
use Rattle.kf_core.specs.Results.{then_ok}
use Rattle.kf_core.specs.Support.{Passed, can_be, bounded, program_pass}
use Rattle.kf_core.specs.Each.{each_moved}
use Rattle.kf_core.specs.Scale.{scale_of}

-- a scale, where 2^127 stands for all that pass 2^127 - 1
abbrev pub capped : ℕ → ℕ
capped n = min n (2 ^ 127)

-- stores in ascending number, each with the least common multiple of the scales of the ways to it
abbrev pub Reached : Type 0
Reached = List (ℕ × ℕ)

abbrev pub met : Option ℕ → ℕ → ℕ
met None scale = scale
met (Some old) scale = capped (lcm_of old scale)

-- with one way more to a store
abbrev pub with_way : Reached → ℕ → ℕ → Reached
with_way es n scale = insert_entry nat_cmp es n (met (lookup (is_at (nat_cmp n)) es) scale)

abbrev pub with_ways : Reached → List ℕ → ℕ → Reached
with_ways es [] scale = es
with_ways es (n ∷ ns) scale = with_ways (with_way es n scale) ns scale

-- all ways of both
abbrev pub with_all : Reached → Reached → Reached
with_all es [] = es
with_all es (f ∷ fs) = with_all (with_way es f.0 f.1) fs

-- where a store leads, and by what that multiplies the scale
abbrev pub Lead : Type 0
Lead = ℕ → Passed (List ℕ × ℕ)

-- the stores to which others lead, beside those that are reached already
abbrev pub carry_step : Lead → Reached → Reached → Passed Reached
carry_step lead es [] = Ok es
carry_step lead es (f ∷ fs) = then_ok (lead f.0) (λ to. carry_step lead (with_ways es to.0 (capped (f.1 * to.1))) fs)

abbrev pub assign_lead : List TypeTree → ℕ → DxTree → Lead
assign_lead ts i d n =
    then_ok (tried ts d n)
    (λ ws. then_ok (each_moved (place d) (map (λ w. replaced ts i w.value n) ws)) (λ ms. Ok (ms, total ws)))

-- the store itself, where there is some choice
abbrev pub staying : ℕ → List Weighted → List ℕ
staying n [] = []
staying n (w ∷ ws) = n ∷ []

abbrev pub observe_lead : List TypeTree → DxTree → Lead
observe_lead ts d n = then_ok (tried ts d n) (λ ws. Ok (staying n ws, total ws))

-- a store leads to itself where the guard can have the value
abbrev pub guard_lead : Bool → (ℕ → Tried) → Lead
guard_lead b guard n = then_ok (guard n) (λ ws. Ok (if can_be b (Ok ws) then n ∷ [] else [], total ws))

-- behind the last turn the guard must be false
abbrev pub last_lead : ℕ → (ℕ → Tried) → Lead
last_lead at guard n = then_ok (bounded at n (guard n)) (λ _. guard_lead false guard n)

-- a loop turn by turn, beside the stores that have left it already
abbrev pub carry_loop : ℕ → (ℕ → Tried) → ℕ → (Reached → Passed Reached) → Reached → Reached → Passed Reached
carry_loop zero guard at body left es = carry_step (last_lead at guard) left es
carry_loop (suc k) guard at body left es =
    then_ok (carry_step (guard_lead true guard) [] es)
    (λ turn. then_ok (carry_step (guard_lead false guard) left es) (λ gone. then_ok (body turn) (carry_loop k guard at body gone)))

abbrev mutual
  pub carry : List TypeTree → ℕ → StTree → Reached → Passed Reached
  carry ts turns Skip es = Ok es
  carry ts turns (Assign i d visible) es = carry_step (assign_lead ts i d) [] es
  carry ts turns (Observe d) es = carry_step (observe_lead ts d) [] es
  carry ts turns (If d xs ys) es =
      then_ok (carry_step (guard_lead true (tried ts d)) [] es)
      (λ on. then_ok (carry_step (guard_lead false (tried ts d)) [] es)
      (λ off. then_ok (carry_all ts turns xs on) (λ one. then_ok (carry_all ts turns ys off) (λ other. Ok (with_all one other)))))
  carry ts turns (While d xs) es = carry_loop turns (tried ts d) (place d) (carry_all ts turns xs) [] es

  pub carry_all : List TypeTree → ℕ → StTrees → Reached → Passed Reached
  carry_all ts turns no_sts es = Ok es
  carry_all ts turns (more_sts x xs) es = then_ok (carry ts turns x es) (carry_all ts turns xs)

abbrev pub carry_decls : List TypeTree → ℕ → List DxTree → Reached → Passed Reached
carry_decls ts i [] es = Ok es
carry_decls ts i (d ∷ ds) es = then_ok (carry_step (assign_lead ts i d) [] es) (carry_decls ts (suc i) ds)

-- a store leads to the one with its carried copies set
abbrev pub copy_lead : ProgramTree → Lead
copy_lead p n = Ok (copied p n ∷ [], 1)

abbrev pub carry_program : ℕ → ProgramTree → Passed Reached
carry_program turns p =
    then_ok (carry_decls p.types 0 p.decls ((0, 1) ∷ []))
    (λ es. then_ok (carry_step (copy_lead p) [] es) (carry_all p.types turns (sts p.body)))

-- the scale of all ways
abbrev pub scale_in : Reached → ℕ
scale_in [] = 1
scale_in (e ∷ es) = capped (lcm_of e.1 (scale_in es))

-- the pass with scales has the faults of the pass, and where it has none its scale is that of all runs, as far as it is told
abbrev pub CarryTells : Type 0
CarryTells = (turns : ℕ) (p : ProgramTree) → MatchResult (carry_program turns p)
    (λ es. IsOk (program_pass turns p) × (scale_in es ≡ capped (scale_of turns p)))
    (λ f. program_pass turns p ≡ Err f)

-- where no store is reached, none is reached behind
abbrev pub NothingLeadsNowhere : Type 0
NothingLeadsNowhere = (ts : List TypeTree) (turns : ℕ) (xs : StTrees) → carry_all ts turns xs [] ≡ Ok []
