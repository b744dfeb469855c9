-- An operator at evaluated arguments gives what its row of the table gives at their values.
use Rattle.std.proofs.Common.{◌≡◌, Bool, true, false, List, [], ◌∷◌, All, map, Ok, inl, inr, refl, ap}
use Rattle.std.proofs.lemmas.List.Elements.{All-head, All-tail}
use Rattle.std.specs.Prelude.{if◌then◌else◌}
use Rattle.kf_value.specs.Forms.{HasKind}
use Rattle.kf_value.specs.Kinds.{TruthKind}
use Rattle.kf_value.specs.Values.{ValueTree, Truth, Whole, Tuple, Set, truth}
use Rattle.kf_ops.specs.Values.{applied}
use Rattle.kf_ops.specs.declared.row.Op.{Op}
use Rattle.kf_ops.specs.declared.row.Op.TheVariants as op
use Rattle.kf_core.specs.Evaluation.{Evaluated, all_values, operated}
use Rattle.kf_core.specs.Results.{then_ok}
use Rattle.kf_meaning.specs.Choosing.{AndSkips, CondSkips, FirstIsAsked, OperatedIsApplied, OrSkips}

all_there : (vs : List ValueTree) → all_values (map (λ v. Ok v) vs) ≡ Ok vs
all_there [] = refl
all_there (v ∷ vs) = ap (λ r. then_ok r (λ ws. Ok (v ∷ ws))) (all_there vs)

then_there : (code : Op) (vs : List ValueTree) → then_ok (all_values (map (λ v. Ok v) vs)) (applied code) ≡ applied code vs
then_there code vs = ap (λ r. then_ok r (applied code)) (all_there vs)

abbrev IsTruth : ValueTree → Type 0
IsTruth v = HasKind v TruthKind

-- ---- `or` and `and` at truth values

or_at : (v w : ValueTree) → IsTruth v → IsTruth w → operated op.Or (Ok v ∷ Ok w ∷ []) ≡ applied op.Or (v ∷ w ∷ [])
or_at (Truth true) w one other = refl
or_at (Truth false) (Truth b) one other = refl
or_at (Truth false) (Whole i) one other = absurd other
or_at (Truth false) (Tuple vs) one other = absurd other
or_at (Truth false) (Set vs) one other = absurd other
or_at (Whole i) w one other = absurd one
or_at (Tuple vs) w one other = absurd one
or_at (Set vs) w one other = absurd one

and_at : (v w : ValueTree) → IsTruth v → IsTruth w → operated op.And (Ok v ∷ Ok w ∷ []) ≡ applied op.And (v ∷ w ∷ [])
and_at (Truth false) w one other = refl
and_at (Truth true) (Truth b) one other = refl
and_at (Truth true) (Whole i) one other = absurd other
and_at (Truth true) (Tuple vs) one other = absurd other
and_at (Truth true) (Set vs) one other = absurd other
and_at (Whole i) w one other = absurd one
and_at (Tuple vs) w one other = absurd one
and_at (Set vs) w one other = absurd one

two_truths : (v w : ValueTree) → All IsTruth (v ∷ w ∷ []) → IsTruth v × IsTruth w
two_truths v w are = (All-head IsTruth v (w ∷ []) are, All-head IsTruth w [] (All-tail IsTruth v (w ∷ []) are))

or_applied : (vs : List ValueTree) → All IsTruth vs → operated op.Or (map (λ v. Ok v) vs) ≡ applied op.Or vs
or_applied [] are = refl
or_applied (v ∷ []) are = refl
or_applied (v ∷ w ∷ []) are = let r = two_truths v w are in or_at v w r.0 r.1
or_applied (v ∷ w ∷ u ∷ vs) are = then_there op.Or (v ∷ w ∷ u ∷ vs)

and_applied : (vs : List ValueTree) → All IsTruth vs → operated op.And (map (λ v. Ok v) vs) ≡ applied op.And vs
and_applied [] are = refl
and_applied (v ∷ []) are = refl
and_applied (v ∷ w ∷ []) are = let r = two_truths v w are in and_at v w r.0 r.1
and_applied (v ∷ w ∷ u ∷ vs) are = then_there op.And (v ∷ w ∷ u ∷ vs)

-- ---- `cond`

chosen : (b : Bool) (v w : ValueTree) → ◌≡◌ {A = Evaluated} (if b then Ok v else Ok w) (Ok (if b then v else w))
chosen true v w = refl
chosen false v w = refl

cond_applied : (vs : List ValueTree) → operated op.Cond (map (λ v. Ok v) vs) ≡ applied op.Cond vs
cond_applied [] = refl
cond_applied (v ∷ []) = refl
cond_applied (v ∷ w ∷ []) = refl
cond_applied (v ∷ w ∷ u ∷ []) = chosen (truth v) w u
cond_applied (v ∷ w ∷ u ∷ t ∷ vs) = then_there op.Cond (v ∷ w ∷ u ∷ t ∷ vs)

-- ---- the laws

pub operated_is_applied : OperatedIsApplied
operated_is_applied op.Or vs are = or_applied vs (are (inl refl))
operated_is_applied op.And vs are = and_applied vs (are (inr refl))
operated_is_applied op.Cond vs are = cond_applied vs
operated_is_applied code vs are = then_there code vs

pub or_skips : OrSkips
or_skips v e is = ap (λ b. if b then Ok v else e) is

pub and_skips : AndSkips
and_skips v e is = ap (λ b. if b then e else Ok v) is

pub cond_skips : CondSkips
cond_skips v e f = (λ is. ap (λ b. if b then e else f) is, λ is. ap (λ b. if b then e else f) is)

pub first_is_asked : FirstIsAsked
first_is_asked op.Or f [] = refl
first_is_asked op.Or f (d ∷ []) = refl
first_is_asked op.Or f (d ∷ e ∷ es) = refl
first_is_asked op.And f [] = refl
first_is_asked op.And f (d ∷ []) = refl
first_is_asked op.And f (d ∷ e ∷ es) = refl
first_is_asked op.Cond f [] = refl
first_is_asked op.Cond f (d ∷ []) = refl
first_is_asked op.Cond f (d ∷ e ∷ []) = refl
first_is_asked op.Cond f (d ∷ e ∷ c ∷ es) = refl
first_is_asked code f es = refl
