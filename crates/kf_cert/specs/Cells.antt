-- For bodies: the rule on the cells of a matrix, inner by inner.
use Rattle.std.specs.Prelude.{◌≡◌, ℕ, ◌*◌, ◌==◌, List, [], map, sum_by, slice_index_or, if◌then◌else◌}
use Rattle.std.specs.List.Sorted.{IsStrictlyIncreasing}
use Rattle.kf_column.specs.declared.entry.Entry.{Entry}
use Rattle.kf_column.specs.Columns.{weight_at}
use Rattle.kf_hyper.specs.Sums.{ArePositive}
use Rattle.kf_refine.specs.Refinements.{HyperTree, joint}
use Rattle.kf_cert.specs.declared.matrix_rules.shares.Share.{Share}

-- values ascend, and each has a weight
abbrev pub AreAscending : List Entry → Type 0
AreAscending entries = IsStrictlyIncreasing (map (λ e. e.value) entries) × ArePositive entries

-- the total of a hyper's i-th inner; 0 past the last inner
abbrev pub total_at : HyperTree → ℕ → ℕ
total_at h i = (slice_index_or h.inners i (record { entries = []; total = 0 })).total

-- what shares make of a's joint weights of a value, and of a's totals
abbrev pub share_weight : HyperTree → List Share → ℕ → ℕ
share_weight a shares x = sum_by (λ s. joint a x s.row * s.amount) shares

abbrev pub share_total : HyperTree → List Share → ℕ
share_total a shares = sum_by (λ s. total_at a s.row * s.amount) shares

-- what those of the inner j of the other hyper make of them
abbrev pub column_weight : HyperTree → List Share → ℕ → ℕ → ℕ
column_weight a shares j x = sum_by (λ s. if s.column == j then joint a x s.row * s.amount else 0) shares

abbrev pub column_total : HyperTree → List Share → ℕ → ℕ
column_total a shares j = sum_by (λ s. if s.column == j then total_at a s.row * s.amount else 0) shares

-- the values that have such weights, with these
pub record AreCarried (a : HyperTree) (shares : List Share) (entries : List Entry) : Type 0 where
  pub ascending : AreAscending entries
  pub weights : (x : ℕ) → weight_at entries x ≡ share_weight a shares x

-- shares over d carry a's joint weights to those of b's inner j
abbrev pub IsCarried : HyperTree → HyperTree → ℕ → List Share → ℕ → Type 0
IsCarried a b d shares j = (x : ℕ) → b.scale * column_weight a shares j x ≡ a.scale * d * joint b x j
