-- For bodies: laws of columns, hypers and projections.
use Rattle.std.specs.Prelude.{◌≡◌, ◌↔◌, ℕ, ◌*◌, List, Some, true, All, map, sum_by, slice_get, if◌then◌else◌}
use Rattle.kf_value.specs.Values.{ValueTree}
use Rattle.kf_value.specs.Types.{TypeTree, count}
use Rattle.kf_value.specs.Numbers.{IsStore}
use Rattle.kf_column.specs.declared.entry.Entry.{Entry}
use Rattle.kf_column.specs.Columns.{IsColumn, weight_at, proportional}
use Rattle.kf_column.specs.Hypers.{Inner, IsInner, IsHyper, class_total}
use Rattle.kf_column.specs.Averages.{joint_weight, joint_column, average_weight}
use Rattle.kf_column.specs.Merged.{SameBeliefs, AreMerged}
use Rattle.kf_column.specs.Projection.{projected}

-- two columns are proportional exactly where all their cross products agree
abbrev pub ProportionalMeans : Type 0
ProportionalMeans = (u v : List Entry)
    → (proportional u v ≡ true) ↔ ((x y : ℕ) → weight_at u x * weight_at v y ≡ weight_at u y * weight_at v x)

-- columns have a hyper
abbrev pub SomeHyper : Type 0
SomeHyper = (columns : List (List Entry)) → All IsColumn columns → (inners : List Inner) × IsHyper columns inners

-- and at most one
abbrev pub AtMostOneHyper : Type 0
AtMostOneHyper = (columns : List (List Entry)) (inners others : List Inner)
    → IsHyper columns inners → IsHyper columns others → inners ≡ others

-- an inner's joint column gives each value the inner's joint weight
abbrev pub JointColumnWeighs : Type 0
JointColumnWeighs = (i : Inner) (x : ℕ) → weight_at (joint_column i) x ≡ joint_weight x i

-- what the columns that are proportional to this one give to a value
abbrev pub class_weight : List (List Entry) → List Entry → ℕ → ℕ
class_weight columns inner x = sum_by (λ c. if proportional c inner then weight_at c x else 0) columns

-- an inner's joint weight is the sum of its class's columns
abbrev pub ClassesWeigh : Type 0
ClassesWeigh = (columns : List (List Entry)) (inners : List Inner) → All IsColumn columns → IsHyper columns inners
    → All (λ i. (x : ℕ) → joint_weight x i ≡ class_weight columns i.entries x) inners

-- all inners together give to a value what all columns together give to it
abbrev pub AveragesWeigh : Type 0
AveragesWeigh = (columns : List (List Entry)) (inners : List Inner) → All IsColumn columns → IsHyper columns inners
    → (x : ℕ) → average_weight inners x ≡ sum_by (λ c. weight_at c x) columns

-- columns are merged in some way
abbrev pub SomeMerged : Type 0
SomeMerged = (columns : List (List Entry)) → All IsColumn columns → (merged : List (List Entry)) × AreMerged columns merged

-- and in one way
abbrev pub AtMostOneMerged : Type 0
AtMostOneMerged = (columns merged others : List (List Entry)) → AreMerged columns merged → AreMerged columns others → merged ≡ others

-- this holds of columns and what they are merged to
abbrev pub WhereMerged : (List (List Entry) → List (List Entry) → Type 0) → Type 0
WhereMerged P = (columns merged : List (List Entry)) → All IsColumn columns → AreMerged columns merged → P columns merged

-- a merged column gives to each value what the columns in proportion to it give together
abbrev pub MergedWeigh : Type 0
MergedWeigh = WhereMerged (λ columns merged. All (λ m. (x : ℕ) → weight_at m x ≡ class_weight columns m x) merged)

-- each of two lists has every hyper of the other exactly where all their classes have the same totals
abbrev pub TotalsTellBeliefs : Type 0
TotalsTellBeliefs = (columns others : List (List Entry)) → All IsColumn columns → All IsColumn others
    → SameBeliefs columns others ↔ ((inner : List Entry) → IsInner inner → class_total columns inner ≡ class_total others inner)

-- `there` are the members of the list at these places
abbrev pub AreAt : {A : Type 0} → List A → List ℕ → List A → Type 0
AreAt members places there = map (slice_get members) places ≡ map (λ m. Some m) there

-- a store's number becomes the number of its values at the slots, among the stores of the types at the slots
abbrev pub ProjectedNumbers : Type 0
ProjectedNumbers = (ts us : List TypeTree) (slots : List ℕ) (n : ℕ) (s vs : List ValueTree)
    → IsStore ts n s → AreAt ts slots us → AreAt s slots vs → IsStore us (projected (map count ts) slots n) vs
