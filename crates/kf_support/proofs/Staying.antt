-- Where each store leads to itself, and the scales stay.
use Rattle.std.proofs.Common.{◌≡◌, ℕ, ◌*◌, ◌<◌, List, [], ◌∷◌, length, map, Ok, refl, sym, ap, ◌∙◌}
use Rattle.kf_value.specs.Types.{TypeTree, count, product}
use Rattle.kf_core.specs.Checked.{IsChecked}
use Rattle.kf_core.specs.Choices.{total}
use Rattle.kf_core.specs.Dxs.{DxTree}
use Rattle.kf_core.specs.Programs.{ProgramTree}
use Rattle.kf_core.specs.Results.{then_ok}
use Rattle.kf_core.specs.Runs.{Tried, copied}
use Rattle.kf_core.specs.Support.{Passed}
use Rattle.kf_eval.specs.Totals.{IsAlwaysSure}
use Rattle.kf_support.specs.Answers.{AreReached, AreWays}
use Rattle.kf_support.specs.Carried.{Lead, Reached, capped, carry_step, copy_lead, observe_lead, staying, with_all, with_way, with_ways}
use Rattle.kf_support.proofs.Adding.{first_way}
use Rattle.kf_support.proofs.Copying.{copies_end}
use Rattle.kf_support.proofs.Settling.{ascending}
use Rattle.kf_support.proofs.Stepping.{led, same_scale}

-- each store leads to itself alone, and its scale stays
abbrev pub Stays : ℕ → Lead → Type 0
Stays size lead = (n : ℕ) → n < size → lead n ≡ led (n ∷ []) 1

all_stay : (lead : Lead) (size : ℕ) (es fs : Reached) → Stays size lead → AreWays size fs → carry_step lead es fs ≡ Ok (with_all es fs)
all_stay lead size es [] stays ways = refl
all_stay lead size es (f ∷ fs) stays ways =
    let way = first_way size f fs (f ∷ fs) refl ways in
    ap (λ (r : Passed (List ℕ × ℕ)). then_ok r (λ to. carry_step lead (with_ways es to.0 (capped (f.1 * to.1))) fs)) (stays f.0 way.0.0)
    ∙ (ap (λ s. carry_step lead (with_way es f.0 s) fs) (sym (same_scale f.1 way.0.1)) ∙ all_stay lead size (with_way es f.0 f.1) fs stays way.1)

pub stay_there : (lead : Lead) (size : ℕ) (es : Reached) → Stays size lead → AreReached size es → carry_step lead [] es ≡ Ok es
stay_there lead size es stays are = all_stay lead size [] es stays are.0 ∙ (let e = ascending es are.1 in λ i. Ok (e i))

pub observe_stays : (size : ℕ) (ts : List TypeTree) (d : DxTree) → IsAlwaysSure d → Stays size (observe_lead ts d)
observe_stays size ts d sure n below = ap (λ (r : Tried). then_ok {B = List ℕ × ℕ} r (λ ws. Ok (staying n ws, total ws))) (sure ts n).1

-- where there are no copies
pub copy_stays : (size : ℕ) (p : ProgramTree) → IsChecked p → size ≡ product (map count p.types) → p.copies ≡ [] → Stays size (copy_lead p)
copy_stays size p checked sized none n below =
    let same : n ≡ copied p n =
    copies_end p checked size n (length p.decls) n p.copies sized below none (record { below = below; whole = refl }) in
    ap (λ k. led (k ∷ []) 1) (sym same)
