-- One inner after the other: what its ranked entries add to the gains of the tries.
use Rattle.std.proofs.Common.{◌≡◌, ℕ, ◌+◌, ◌*◌, ◌/◌, ◌<◌, ◌≤◌, List, [], length, get_or, take, drop, sum_by, refl, sym, ◌∙◌, ap, subst, arith}
use Rattle.std.specs.Prelude.{ℤ, pos, ◌+ℤ◌}
use Rattle.std.proofs.Math.Nat.{div-mul_cancel}
use Rattle.std.proofs.lemmas.Int.{ints}
use Rattle.std.proofs.lemmas.List.Sums.{sum_by_more, sum_by-take-le}
use Rattle.std.proofs.lemmas.List.Sorted.{IsPermutation-map, sum_by-IsPermutation}
use Rattle.kf_column.specs.declared.entry.Entry.{Entry}
use Rattle.kf_column.specs.Columns.{total, IsColumn}
use Rattle.kf_column.specs.Hypers.{Inner}
use Rattle.kf_column.specs.Shapes.{IsShape}
use Rattle.kf_hyper.specs.Views.{entry_at}
use Rattle.kf_column.proofs.Weights.{above_column}
use Rattle.kf_gain.specs.Gains.{Tries}
use Rattle.kf_gain.specs.Worth.{IsVulnerability}
use Rattle.kf_gain.specs.Vulnerabilities.{IsPosterior}
use Rattle.kf_gain.proofs.Falling.{Falls, all, front, front-nil, front_taken}
use Rattle.kf_gain.proofs.Trying.{tries_are}
use Rattle.kf_gain.proofs.Turning.{is_inner, next_inner, all_seen}
use Rattle.kf_attack.specs.Attacks.{AreRanked}
use Rattle.kf_attack.specs.Positions.{AreGains}
use Rattle.kf_attack.proofs.Positions.{weights, front_added, all_added, added_within}
use Rattle.kf_attack.proofs.Ranks.{ranked_fall}

-- the first weights of ranked entries are the vulnerability with so many tries
pub ranked_tries : (k : ℕ) (column es : List Entry) → IsColumn column → AreRanked column es → IsVulnerability (Tries k) column (pos (front k (weights es)))
ranked_tries k column es is ranked =
    let f : (m : ℕ) × Falls m (weights es) = ranked_fall es ranked.ordered in
    tries_are k f.0 column (weights es) (above_column column is) (IsPermutation-map (λ (e : Entry). e.weight) column es ranked.same) f.1

-- the gains of the first i inners: with those of the others they are the gains of all
pub record Gathers (inners : List Inner) (i : ℕ) (gains : List ℕ) : Type 0 where
  pub others : (k : ℕ) (y : ℤ) → IsPosterior (Tries k) (drop i inners) y → IsPosterior (Tries k) inners (pos (front k gains) +ℤ y)
  pub whole : all gains ≡ sum_by (λ (j : Inner). j.total) (take i inners)

pub gathers_none : (inners : List Inner) → Gathers inners 0 []
gathers_none inners = record { others = λ k y p. let same : pos 0 +ℤ y ≡ y = omega (arith, ints) in rw (front-nil k, same) p; whole = refl }

module _ (size scale : ℕ) (inners : List Inner) (shape : IsShape size scale inners) (i : ℕ) (d : Inner) (inside : i < length inners) (es : List Entry)
    (ranked : AreRanked (get_or inners i d).entries es) (multiple : ℕ) (is : multiple ≡ (get_or inners i d).total / total (get_or inners i d).entries) where
  same_total : total es ≡ total (get_or inners i d).entries
  same_total = sum_by-IsPermutation (λ (e : Entry). e.weight) (get_or inners i d).entries es ranked.same

  -- the multiple of all weights is the inner's total
  adds_total : multiple * total es ≡ (get_or inners i d).total
  adds_total = (λ j. is j * same_total j) ∙ div-mul_cancel (total (get_or inners i d).entries) (shape.multiple i d inside)

  total_next : sum_by (λ (j : Inner). j.total) (take (i + 1) inners) ≡ sum_by (λ (j : Inner). j.total) (take i inners) + (get_or inners i d).total
  total_next = sum_by_more (λ (j : Inner). j.total) inners i d inside

  -- every sum stays within the scale
  pub adds_fit : (old : List ℕ) → Gathers inners i old → (j : ℕ) → get_or old j 0 + multiple * (entry_at es j).weight ≤ scale
  adds_fit old had j =
      omega (arith, added_within multiple es old j, had.whole, adds_total, total_next, sum_by-take-le (λ (j : Inner). j.total) inners (i + 1), shape.whole)

  pub gathers_next : (old new : List ℕ) → Gathers inners i old → ((j : ℕ) → get_or new j 0 ≡ get_or old j 0 + multiple * (entry_at es j).weight) → Gathers inners (i + 1) new
  gathers_next old new had added = record {
    others = λ k y p.
        let n : ℕ = front k (weights es) in
        let v : IsVulnerability (Tries k) (get_or inners i d).entries (pos n) =
        ranked_tries k (get_or inners i d).entries es (is_inner size scale (Tries k) inners shape i d inside).column ranked in
        let joint : IsPosterior (Tries k) inners ((pos (front k old) +ℤ pos (multiple * n)) +ℤ y) =
        next_inner size scale (Tries k) inners shape i d inside (pos n) v (pos (front k old)) (pos (multiple * n)) (ap (λ (m : ℕ). pos (m * n)) is) (had.others k) y p in
        subst (λ (m : ℕ). IsPosterior (Tries k) inners (pos m +ℤ y)) (sym (front_added multiple es old new added k)) joint;
    whole = omega (arith, all_added multiple es old new added, had.whole, adds_total, total_next);
  }

-- where no inner is left, these are the gains
pub all_gathered : (inners : List Inner) (i : ℕ) (gains : List ℕ) → drop i inners ≡ [] → Gathers inners i gains → AreGains inners gains
all_gathered inners i gains none had k =
    subst (λ (n : ℕ). IsPosterior (Tries k) inners (pos n)) (sym (front_taken k gains)) (all_seen (Tries k) inners i (pos (front k gains)) none (had.others k))
