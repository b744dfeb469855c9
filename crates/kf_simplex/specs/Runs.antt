-- Believed: the run of the simplex: from the basis of artificials to an answer, one pivot after another.
use Rattle.std.specs.Prelude.{◌≡◌, ◌≢◌, ℕ, ◌+◌, ◌^◌, ◌<◌, ◌≤◌, ℤ, pos, ◌*ℤ◌, ◌<ℤ◌, ◌≤ℤ◌, unsigned_abs, List, [], ◌∷◌, length, zero, suc}
use Rattle.kf_simplex.specs.Systems.{LinearSystem, right_column}
use Rattle.kf_simplex.specs.Tableaus.{Row, Tableau, IsTableau}

-- why a run ends
pub data Cause : Type 0 where
  wide : Cause
  solution : Cause
  multipliers : Cause
  budget : Cause

-- where these are the equations
module _ (s : LinearSystem) where
  -- the m-th number of the list that decides which row leaves: the right side, then the artificials in order
  abbrev pub key : Row → ℕ → ℤ
  key r m = r (elim m [ zero ↦ right_column s | suc k ↦ s.unknowns + k ])

  -- by first difference the deciding list of r over p is below that of q over a, both divisors positive
  abbrev pub IsBelow : Row → ℤ → Row → ℤ → Type 0
  IsBelow r p q a =
      (n : ℕ) × (n ≤ s.equations)
      × ((m : ℕ) → m < n → key r m *ℤ a ≡ key q m *ℤ p) × ((key r n *ℤ a) <ℤ (key q n *ℤ p))

  -- c is the least-numbered unknown with a positive entry in the objective row
  pub record Enters (w : Row) (c : ℕ) : Type 0 where
    pub unknown : c < s.unknowns
    pub positive : pos 0 <ℤ w c
    pub least : (j : ℕ) → j < c → w j ≤ℤ pos 0

  -- among the rows with a positive entry at column c, r has the least deciding list over that entry
  pub record Leaves (rows : ℕ → Row) (c r : ℕ) : Type 0 where
    pub row : r < s.equations
    pub positive : pos 0 <ℤ rows r c
    pub least : (i : ℕ) → i < s.equations → i ≢ r → pos 0 <ℤ rows i c → IsBelow (rows r) (rows r c) (rows i) (rows i c)

  -- u is the tableau after t: one column enters, one row leaves, and the rest of the basis stays
  pub record IsStep (t u : Tableau) : Type 0 where
    pub column : ℕ
    pub row : ℕ
    pub enters : Enters t.objective column
    pub leaves : Leaves t.rows column row
    pub replaced : u.basis row ≡ column
    pub kept : (k : ℕ) → k < s.equations → k ≢ row → u.basis k ≡ t.basis k
    pub tableau : IsTableau s u

  -- no entry passes 2^62 in absolute value
  pub record IsNarrow (t : Tableau) : Type 0 where
    pub rows : (i c : ℕ) → i < s.equations → c ≤ right_column s → unsigned_abs (t.rows i c) ≤ 2 ^ 62
    pub objective : (c : ℕ) → c ≤ right_column s → unsigned_abs (t.objective c) ≤ 2 ^ 62

  abbrev pub NoneEnters : Tableau → Type 0
  NoneEnters t = (j : ℕ) → j < s.unknowns → t.objective j ≤ℤ pos 0

  -- the run ends at t after p pivots: the causes are tried in this order
  abbrev pub Ends : ℕ → ℕ → Tableau → Cause → Type 0
  Ends limit p t wide = IsNarrow t → ⊥
  Ends limit p t solution = IsNarrow t × (t.objective (right_column s) ≡ pos 0)
  Ends limit p t multipliers = IsNarrow t × (t.objective (right_column s) ≢ pos 0) × NoneEnters t
  Ends limit p t budget = IsNarrow t × (t.objective (right_column s) ≢ pos 0) × (NoneEnters t → ⊥) × (p ≡ limit)

  -- none of them applies
  abbrev pub GoesOn : ℕ → ℕ → Tableau → Type 0
  GoesOn limit p t = IsNarrow t × (t.objective (right_column s) ≢ pos 0) × (NoneEnters t → ⊥) × (p ≢ limit)

  -- the tableaus of a run, the newest first; the first basis is all artificials
  abbrev pub IsRun : ℕ → List Tableau → Type 0
  IsRun limit [] = ⊥
  IsRun limit (t ∷ []) = IsTableau s t × ((k : ℕ) → k < s.equations → t.basis k ≡ s.unknowns + k)
  IsRun limit (t ∷ (u ∷ us)) = IsRun limit (u ∷ us) × GoesOn limit (length us) u × IsStep u t

  -- a run ends for this cause at t, after p pivots
  pub record EndsAt (limit p : ℕ) (t : Tableau) (cause : Cause) : Type 0 where
    pub before : List Tableau
    pub run : IsRun limit (t ∷ before)
    pub pivots : p ≡ length before
    pub ends : Ends limit p t cause
