-- What is missing of each row, share by share.
use Rattle.std.proofs.Common.{◌≡◌, ℕ, ◌+◌, ◌-◌, ◌<◌, ◌≤◌, ◌==◌, List, [], All, set, replicate, take, length, get_or, Bool, refl, sym, ap, ◌∙◌, arith, ⊎_elim, if◌then◌else◌}
use Rattle.std.proofs.lemmas.Bool.{cases_eq, eq-eqb, ne_eqb}
use Rattle.std.proofs.lemmas.List.{get_or-set_same, get_or-set_other, get_or_default, get_or-replicate, length-replicate, length-set, take_all}
use Rattle.std.proofs.lemmas.List.Elements.{All-from_get_or}
use Rattle.std.proofs.lemmas.List.Sums.{sum_by_more, sum_by_more_le}
use Rattle.kf_cert.specs.Rows.{row_amount, SumsToOne}
use Rattle.kf_cert.specs.declared.matrix_rules.shares.Share.{Share}

-- what is missing of each row, and what is there of it, is the whole
pub record IsMissing (rows over : ℕ) (shares : List Share) (missing : List ℕ) : Type 0 where
  pub long : length missing ≡ rows
  pub sums : (i : ℕ) → i < rows → get_or missing i 0 + row_amount shares i ≡ over

pub missing_start : (rows over : ℕ) (missing : List ℕ) → missing ≡ replicate rows over → IsMissing rows over [] missing
missing_start rows over missing is = record {
  long = ap length is ∙ length-replicate rows over;
  sums = λ i below. omega (arith, ap (λ (l : List ℕ). get_or l i 0) is, get_or-replicate rows i over 0 below);
}

abbrev of_row : ℕ → Share → ℕ
of_row i s = if s.row == i then s.amount else 0

module _ (rows over : ℕ) (shares : List Share) (missing : List ℕ) where
  module _ (k : ℕ) (s : Share) (within : k < length shares) (is : s ≡ get_or shares k s) (had : IsMissing rows over (take k shares) missing)
      (inside : s.row < rows) (before : ℕ) (here : before ≡ get_or missing s.row before) where
    there : get_or missing s.row 0 ≡ before
    there = get_or_default missing s.row 0 before (omega (arith, inside, had.long)) ∙ sym here

    own : of_row s.row s ≡ s.amount
    own = ap (λ (b : Bool). if b then s.amount else 0) (eq-eqb s.row s.row refl)

    pub missing_more : s.amount ≤ before → (left : List ℕ) → left ≡ set missing s.row (before - s.amount) → IsMissing rows over (take (k + 1) shares) left
    missing_more fits left put = record {
      long = ap length put ∙ length-set missing s.row (before - s.amount) ∙ had.long;
      sums = λ i below.
          let more : row_amount (take (k + 1) shares) i ≡ row_amount (take k shares) i + of_row i s =
          sum_by_more (of_row i) shares k s within ∙ ap (λ (t : Share). row_amount (take k shares) i + of_row i t) (sym is) in
          ⊎_elim
          (λ (same : i ≡ s.row).
          let new : get_or left i 0 ≡ before - s.amount =
          (λ v. get_or (put v) (same v) 0) ∙ get_or-set_same missing s.row (before - s.amount) 0 (omega (arith, inside, had.long)) in
          omega (
            arith,
            new,
            fits,
            more,
            own,
            there,
            had.sums i below,
            ap (λ (n : ℕ). of_row n s) same,
            ap (λ (n : ℕ). get_or missing n 0) same,
          ))
          (λ (other : i ≡ s.row → ⊥).
          let new : get_or left i 0 ≡ get_or missing i 0 =
          ap (λ (l : List ℕ). get_or l i 0) put ∙ get_or-set_other missing s.row i (before - s.amount) 0 other in
          let none : of_row i s ≡ 0 = ap (λ (b : Bool). if b then s.amount else 0) (ne_eqb s.row i (λ (same : s.row ≡ i). other (sym same))) in
          omega (arith, new, none, more, had.sums i below))
          (cases_eq i s.row);
    }

    pub too_much : before < s.amount → SumsToOne over rows shares → ⊥
    too_much past sums =
        let least : row_amount (take k shares) s.row + of_row s.row (get_or shares k s) ≤ row_amount shares s.row = sum_by_more_le (of_row s.row) shares k s within in
        absurd (omega (arith, past, least, ap (of_row s.row) is, own, there, had.sums s.row inside, sums s.row inside))

  module _ (k : ℕ) (past : length shares ≤ k) (had : IsMissing rows over (take k shares) missing) where
    all_there : (i : ℕ) → i < rows → get_or missing i 0 + row_amount shares i ≡ over
    all_there i below = ap (λ (l : List Share). get_or missing i 0 + row_amount l i) (sym (take_all k shares past)) ∙ had.sums i below

    pub nothing_missing : All (λ n. n ≡ 0) missing → SumsToOne over rows shares
    nothing_missing none i below = omega (arith, all_there i below, none i 0 (omega (arith, below, had.long)))

    pub sums_nothing : SumsToOne over rows shares → All (λ n. n ≡ 0) missing
    sums_nothing sums =
        All-from_get_or (λ (n : ℕ). n ≡ 0) missing 0
        (λ (i : ℕ) (inside : i < length missing).
        let below : i < rows = omega (arith, inside, had.long) in
        omega (arith, all_there i below, sums i below))
