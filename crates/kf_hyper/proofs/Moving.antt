-- Entries that are multiplied, and entries whose values become others.
use Rattle.std.proofs.Common.{◌≡◌, ℕ, ◌+◌, ◌*◌, ◌<◌, ◌≤◌, ◌==◌, List, ◌++◌, map, sym, ◌∙◌, ap, subst, length, take, if◌then◌else◌}
use Rattle.std.proofs.lemmas.List.{take_all}
use Rattle.std.proofs.lemmas.List.Elements.{All-append, All-map}
use Rattle.std.proofs.lemmas.List.Sums.{sum_by-append}
use Rattle.kf_column.specs.declared.entry.Entry.{Entry}
use Rattle.kf_column.specs.Averages.{scaled}
use Rattle.kf_column.specs.Columns.{weight_at, total}
use Rattle.kf_column.specs.Projection.{weight_through}
use Rattle.kf_column.specs.Shapes.{IsBelow}
use Rattle.kf_hyper.specs.Sums.{ArePositive, Gains}
use Rattle.kf_hyper.proofs.Averaging.{sum-mapped}
use Rattle.kf_column.proofs.Scaling.{product_positive, total-scaled, weight_at-scaled}

-- all entries, so many times, behind those that were there
module _ (old new entries : List Entry) (times i : ℕ) (past : length entries ≤ i) (made : new ≡ old ++ map (scaled times) (take i entries)) where
  behind : new ≡ old ++ map (scaled times) entries
  behind = made ∙ ap (λ (es : List Entry). old ++ map (scaled times) es) (take_all i entries past)

  pub times_gains : Gains (λ x. times * weight_at entries x) (times * total entries) old new
  times_gains = record {
    weights = λ x.
        ap (λ (es : List Entry). weight_at es x) behind ∙ sum_by-append (λ (e : Entry). if e.value == x then e.weight else 0) old (map (scaled times) entries)
        ∙ ap (λ (n : ℕ). weight_at old x + n) (weight_at-scaled times entries x);
    total = ap total behind ∙ sum_by-append (λ (e : Entry). e.weight) old (map (scaled times) entries) ∙ ap (λ (n : ℕ). total old + n) (total-scaled times entries);
  }

  pub times_positive : 0 < times → ArePositive entries → ArePositive old → ArePositive new
  times_positive some positive had =
      subst ArePositive (sym behind)
      (All-append (λ (e : Entry). 0 < e.weight) old (map (scaled times) entries) had
      (All-map (λ (e : Entry). 0 < e.weight) (scaled times) entries (λ k d within. product_positive times _ some (positive k d within))))

  pub times_below : (size : ℕ) → IsBelow size entries → IsBelow size old → IsBelow size new
  times_below size below had =
      subst (IsBelow size) (sym behind)
      (All-append (λ (e : Entry). e.value < size) old (map (scaled times) entries) had (All-map (λ (e : Entry). e.value < size) (scaled times) entries below))

-- an entry whose value becomes another
abbrev pub moved : (ℕ → ℕ) → Entry → Entry
moved become e = record { value = become e.value; weight = e.weight }

pub moved_weights : (become : ℕ → ℕ) (entries : List Entry) (x : ℕ) → weight_at (map (moved become) entries) x ≡ weight_through become entries x
moved_weights become entries x = sum-mapped (moved become) (λ (e : Entry). if e.value == x then e.weight else 0) entries

pub moved_total : (become : ℕ → ℕ) (entries : List Entry) → total (map (moved become) entries) ≡ total entries
moved_total become entries = sum-mapped (moved become) (λ (e : Entry). e.weight) entries

pub moved_positive : (become : ℕ → ℕ) (entries : List Entry) → ArePositive entries → ArePositive (map (moved become) entries)
moved_positive become entries positive = All-map (λ (e : Entry). 0 < e.weight) (moved become) entries positive

pub all_moved : (become : ℕ → ℕ) (column entries items : List Entry) (i : ℕ) → entries ≡ column → length entries ≤ i → items ≡ map (moved become) (take i entries) → items ≡ map (moved become) column
all_moved become column entries items i same past made = made ∙ ap (map (moved become)) (take_all i entries past ∙ same)
