-- Actions of a table: one of them gains most, and none gains more than the weights times the greatest gain.
use Rattle.std.proofs.Common.{◌≡◌, ◌≢◌, ℕ, ◌+◌, ◌*◌, ◌<◌, ◌≤◌, ◌==◌, List, [], ◌∷◌, ◌++◌, Bool, All, map, max, refl, sym, ◌∙◌, ap, subst, arith, suc, zero, length, flat_map, if◌then◌else◌, get_or, take, drop, drop-cons, add-one, true, false, ◌⊎◌, ⊎_elim, inl, inr}
use Rattle.std.specs.Prelude.{ℤ, pos, ◌+ℤ◌, ◌*ℤ◌, ◌≤ℤ◌, ◌<ℤ◌, unsigned_abs, Contains, int_lt}
use Rattle.std.specs.List.Sorted.{IsStrictlyIncreasing}
use Rattle.std.proofs.lemmas.Int.{ints, clamps, by_lt_z, unsigned_abs-mul}
use Rattle.std.specs.Int.{int_max}
use Rattle.std.proofs.lemmas.Bool.{cases_lt}
use Rattle.std.proofs.lemmas.List.{get_or_default}
use Rattle.std.proofs.lemmas.List.Elements.{All-head, All-tail}
use Rattle.std.proofs.lemmas.List.Sums.{get_or-le-sum_by, sum_by_more, sum_by-take-le}
use Rattle.kf_column.specs.declared.entry.Entry.{Entry}
use Rattle.kf_column.specs.Columns.{total}
use Rattle.kf_column.proofs.Scaling.{total-cons}
use Rattle.kf_gain.specs.declared.table.Action.{Action}
use Rattle.kf_gain.specs.declared.table.GainEntry.{GainEntry}
use Rattle.kf_gain.specs.Gains.{Table, TableTree, gain_at}
use Rattle.kf_gain.specs.Shapes.{IsTableShape}
use Rattle.kf_gain.specs.Worth.{gained, IsVulnerability}
use Rattle.kf_gain.specs.Vulnerabilities.{greatest, gains_of}

-- some action gains z, and none gains more
pub record Best (rest : ℤ) (actions : List Action) (c : List Entry) (z : ℤ) : Type 0 where
  pub reached : (a : Action) × Contains actions a × (z ≡ gained rest a.gains c)
  pub best : (a : Action) → Contains actions a → gained rest a.gains c ≤ℤ z

le_same : (y z : ℤ) → y ≡ z → y ≤ℤ z
le_same y z same = omega (arith, ints, same)

module _ (rest : ℤ) (c : List Entry) where
  pub alone : (a : Action) → Best rest (a ∷ []) c (gained rest a.gains c)
  alone a = record {
    reached = (a, (0, omega arith, refl), refl);
    best = λ b (k, inside, is). le_same (gained rest b.gains c) (gained rest a.gains c) (ap (λ (d : Action). gained rest d.gains c) (only k b inside is));
  }
    where
      only : (k : ℕ) (b : Action) → k < length (a ∷ []) → get_or (a ∷ []) k b ≡ b → b ≡ a
      only zero b inside is = sym is
      only (suc k) b inside is = absurd (omega (arith, inside))

  later : (a b : Action) (actions : List Action) → Contains actions b → Contains (a ∷ actions) b
  later a b actions (k, inside, is) = (suc k, omega (arith, inside), is)

  bounded : (a : Action) (actions : List Action) (z : ℤ) → gained rest a.gains c ≤ℤ z → ((b : Action) → Contains actions b → gained rest b.gains c ≤ℤ z)
      → (b : Action) → Contains (a ∷ actions) b → gained rest b.gains c ≤ℤ z
  bounded a actions z first others b (zero, inside, is) = subst (λ (d : Action). gained rest d.gains c ≤ℤ z) is first
  bounded a actions z first others b (suc k, inside, is) = others b (k, omega (arith, inside), is)

  pub some_best : (a : Action) (actions : List Action) → (z : ℤ) × Best rest (a ∷ actions) c z
  some_best a [] = (gained rest a.gains c, alone a)
  some_best a (b ∷ actions) =
      let r : (z : ℤ) × Best rest (b ∷ actions) c z = some_best b actions in
      by_lt_z (gained rest a.gains c) r.0
      (λ (less : gained rest a.gains c <ℤ r.0). (
        r.0,
        record {
          reached = (r.1.reached.0, later a r.1.reached.0 (b ∷ actions) r.1.reached.1, r.1.reached.2);
          best = bounded a (b ∷ actions) r.0 (omega (arith, ints, less)) r.1.best;
        },
      ))
      (λ (most : r.0 ≤ℤ gained rest a.gains c). (
        gained rest a.gains c,
        record {
          reached = (a, (0, omega arith, refl), refl);
          best = bounded a (b ∷ actions) (gained rest a.gains c) (le_same (gained rest a.gains c) (gained rest a.gains c) refl)
              (λ d there. omega (arith, ints, most, r.1.best d there));
        },
      ))

pub best_is : (t : TableTree) (c : List Entry) (z : ℤ) → Best t.rest t.actions c z → IsVulnerability (Table t) c z
best_is t c z best = record {
  reached = best.reached;
  best = λ y (a, there, is). subst (λ (y : ℤ). y ≤ℤ z) (sym is) (best.best a there);
}

from_actions : (t : TableTree) (c : List Entry) (actions : List Action) → t.actions ≡ actions → actions ≢ [] → (z : ℤ) × IsVulnerability (Table t) c z
from_actions t c [] is some = absurd (some refl)
from_actions t c (a ∷ actions) is some =
    let r = some_best t.rest c a actions in (r.0, best_is t c r.0 (subst (λ (l : List Action). Best t.rest l c r.0) (sym is) r.1))

pub some_action : (t : TableTree) (c : List Entry) → t.actions ≢ [] → (z : ℤ) × IsVulnerability (Table t) c z
some_action t c some = from_actions t c t.actions refl some

-- ---- bounds

chosen : (b : Bool) (y z : ℤ) (m : ℕ) → unsigned_abs y ≤ m → unsigned_abs z ≤ m → unsigned_abs (if b then y else z) ≤ m
chosen b y z m p q = grind arith

pub gain_within : (rest : ℤ) (gains : List GainEntry) (x m : ℕ) → unsigned_abs rest ≤ m → greatest (map (λ (e : GainEntry). e.gain) gains) ≤ m → unsigned_abs (gain_at rest gains x) ≤ m
gain_within rest [] x m first others = first
gain_within rest (e ∷ gains) x m first others =
    chosen (e.value == x) e.gain (gain_at rest gains x) m (omega (arith, others)) (gain_within rest gains x m first (omega (arith, others)))

pub abs_sum : (a b : ℤ) → unsigned_abs (a +ℤ b) ≤ unsigned_abs a + unsigned_abs b
abs_sum a b = omega (arith, ints)

product_within : (w g m : ℕ) → g ≤ m → w * g ≤ w * m
product_within w g m order = grind arith

pub gained_within : (rest : ℤ) (gains : List GainEntry) (c : List Entry) (m : ℕ) → unsigned_abs rest ≤ m → greatest (map (λ (e : GainEntry). e.gain) gains) ≤ m → unsigned_abs (gained rest gains c) ≤ total c * m
gained_within rest gains [] m first others = omega arith
gained_within rest gains (e ∷ es) m first others =
    let z : ℤ = pos e.weight *ℤ gain_at rest gains e.value in
    let here : unsigned_abs z ≤ e.weight * m = omega (
      arith,
      unsigned_abs-mul (pos e.weight) (gain_at rest gains e.value),
      product_within e.weight (unsigned_abs (gain_at rest gains e.value)) m (gain_within rest gains e.value m first others),
    ) in
    omega (arith, abs_sum z (gained rest gains es), here, gained_within rest gains es m first others, ap (λ (n : ℕ). n * m) (total-cons e es))

-- a weight's turn
module _ (rest : ℤ) (gains : List GainEntry) (c : List Entry) (i m : ℕ) (sum : ℤ) (d : Entry) (inside : i < length c) (first : unsigned_abs rest ≤ m)
    (others : greatest (map (λ (e : GainEntry). e.gain) gains) ≤ m) where
  weight_here : (get_or c i d).weight ≤ total c
  weight_here = get_or-le-sum_by (λ (e : Entry). e.weight) c i d inside

  gain_here : unsigned_abs (gain_at rest gains (get_or c i d).value) ≤ m
  gain_here = gain_within rest gains (get_or c i d).value m first others

  scaled_here : (w n t m : ℕ) → w ≤ t → n ≤ m → w * n ≤ t * m
  scaled_here w n t m p q = grind arith

  pub weight_fits : (room : ℕ) → total c ≤ room → (get_or c i d).weight ≤ room
  weight_fits room fits = omega (arith, weight_here, fits)

  pub product_fits : (room : ℕ) → total c * m ≤ room → (get_or c i d).weight * unsigned_abs (gain_at rest gains (get_or c i d).value) ≤ room
  product_fits room fits =
      omega (arith, scaled_here (get_or c i d).weight (unsigned_abs (gain_at rest gains (get_or c i d).value)) (total c) m weight_here gain_here, fits)

  module _ (bounded : unsigned_abs sum ≤ total (take i c) * m) (z : ℤ) (is : z ≡ pos (get_or c i d).weight *ℤ gain_at rest gains (get_or c i d).value) where
    pub next_within : unsigned_abs (sum +ℤ z) ≤ total (take (i + 1) c) * m
    next_within =
        let product : unsigned_abs z ≤ (get_or c i d).weight * m =
        omega (
          arith,
          ap unsigned_abs is,
          unsigned_abs-mul (pos (get_or c i d).weight) (gain_at rest gains (get_or c i d).value),
          product_within (get_or c i d).weight (unsigned_abs (gain_at rest gains (get_or c i d).value)) m gain_here,
        ) in
        omega (arith, abs_sum sum z, bounded, product, ap (λ (n : ℕ). n * m) (sum_by_more (λ (e : Entry). e.weight) c i d inside))

    pub next_fits : (room : ℕ) → total c * m ≤ room → unsigned_abs (sum +ℤ z) ≤ room
    next_fits room fits = omega (arith, next_within, scaled_here (total (take (i + 1) c)) m (total c) m (sum_by-take-le (λ (e : Entry). e.weight) c (i + 1)) (omega arith), fits)

    pub next_gained : sum +ℤ gained rest gains (drop i c) ≡ gained rest gains c → (sum +ℤ z) +ℤ gained rest gains (drop (i + 1) c) ≡ gained rest gains c
    next_gained had =
        let left : drop i c ≡ get_or c i d ∷ drop (i + 1) c = rw add-one (drop-cons c i d inside) in
        let here : gained rest gains (drop i c) ≡ pos (get_or c i d).weight *ℤ gain_at rest gains (get_or c i d).value +ℤ gained rest gains (drop (i + 1) c) = ap (λ (l : List Entry). gained rest gains l) left in
        omega (arith, ints, had, here, is)

greatest_front : (ys zs : List ℤ) → greatest ys ≤ greatest (ys ++ zs)
greatest_front [] zs = omega arith
greatest_front (y ∷ ys) zs = omega (arith, greatest_front ys zs)

greatest_back : (ys zs : List ℤ) → greatest zs ≤ greatest (ys ++ zs)
greatest_back [] zs = omega arith
greatest_back (y ∷ ys) zs = omega (arith, greatest_back ys zs)

among : (actions : List Action) (k : ℕ) (a : Action) → k < length actions → get_or actions k a ≡ a
    → greatest (map (λ (e : GainEntry). e.gain) a.gains) ≤ greatest (flat_map (λ (a : Action). map (λ (e : GainEntry). e.gain) a.gains) actions)
among [] k a inside is = absurd (omega (arith, inside))
among (b ∷ actions) zero a inside is =
    let mine : Action → List ℤ = λ (a : Action). map (λ (e : GainEntry). e.gain) a.gains in
    omega (arith, greatest_front (mine b) (flat_map mine actions), ap (λ (d : Action). greatest (mine d)) is)
among (b ∷ actions) (suc k) a inside is =
    let mine : Action → List ℤ = λ (a : Action). map (λ (e : GainEntry). e.gain) a.gains in
    omega (arith, greatest_back (mine b) (flat_map mine actions), among actions k a (omega (arith, inside)) is)

-- what an action gains is at most the weights times the greatest gain
pub action_within : (t : TableTree) (a : Action) (c : List Entry) → Contains t.actions a → unsigned_abs (gained t.rest a.gains c) ≤ total c * greatest (gains_of t)
action_within t a c (k, inside, is) =
    gained_within t.rest a.gains c (greatest (gains_of t)) (omega arith) (omega (arith, among t.actions k a inside is))

pub some_actions : (actions : List Action) → actions ≢ [] → 0 < length actions
some_actions [] some = absurd (some refl)
some_actions (a ∷ actions) some = omega arith

-- the greatest gain of an action, then of the others
pub greatest-append : (most : ℕ) (ys zs : List ℤ) → max (max most (greatest ys)) (greatest zs) ≡ max most (greatest (ys ++ zs))
greatest-append most [] zs = omega arith
greatest-append most (y ∷ ys) zs = omega (arith, greatest-append most ys zs)

-- an action's turn
pub next_greatest : (most new : ℕ) (actions : List Action) (i : ℕ) (a : Action) (gains : List GainEntry) → i < length actions → a ≡ get_or actions i a → gains ≡ a.gains
    → new ≡ max most (greatest (map (λ (e : GainEntry). e.gain) gains))
    → max new (greatest (flat_map (λ (a : Action). map (λ (e : GainEntry). e.gain) a.gains) (drop (i + 1) actions))) ≡ max most (greatest (flat_map (λ (a : Action). map (λ (e : GainEntry). e.gain) a.gains) (drop i actions)))
next_greatest most new actions i a gains inside here same is =
    let mine : Action → List ℤ = λ (a : Action). map (λ (e : GainEntry). e.gain) a.gains in
    let left : drop i actions ≡ get_or actions i a ∷ drop (i + 1) actions = rw add-one (drop-cons actions i a inside) in
    let now : drop i actions ≡ a ∷ drop (i + 1) actions = left ∙ ap (λ (b : Action). b ∷ drop (i + 1) actions) (sym here) in
    let whole : max most (greatest (flat_map mine (drop i actions))) ≡ max most (greatest (mine a ++ flat_map mine (drop (i + 1) actions))) = ap (λ (l : List Action). max most (greatest (flat_map mine l))) now in
    let step : new ≡ max most (greatest (mine a)) = is ∙ ap (λ (l : List GainEntry). max most (greatest (map (λ (e : GainEntry). e.gain) l))) same in
    ap (λ (n : ℕ). max n (greatest (flat_map mine (drop (i + 1) actions)))) step ∙ greatest-append most (mine a) (flat_map mine (drop (i + 1) actions)) ∙ sym whole

pub greatest_limit : (room : ℕ) (zs : List ℤ) → All (λ (z : ℤ). unsigned_abs z ≤ room) zs → greatest zs ≤ room
greatest_limit room [] all = omega arith
greatest_limit room (z ∷ zs) all =
    omega (arith, All-head (λ (z : ℤ). unsigned_abs z ≤ room) z zs all, greatest_limit room zs (All-tail (λ (z : ℤ). unsigned_abs z ≤ room) z zs all))

-- the gains of one action are among the table's
pub action_fits : (t : TableTree) (a : Action) (gains : List GainEntry) (c : List Entry) (k room : ℕ) (rest : ℤ) → rest ≡ t.rest → gains ≡ a.gains → k < length t.actions → a ≡ get_or t.actions k a
    → total c * greatest (gains_of t) ≤ room → total c * max (unsigned_abs rest) (greatest (map (λ (e : GainEntry). e.gain) gains)) ≤ room
action_fits t a gains c k room rest same_rest same inside is fits =
    let mine : greatest (map (λ (e : GainEntry). e.gain) gains) ≤ greatest (gains_of t) =
    omega (arith, ap (λ (l : List GainEntry). greatest (map (λ (e : GainEntry). e.gain) l)) same, among t.actions k a inside (sym is)) in
    omega (
      arith,
      product_within (total c) (max (unsigned_abs rest) (greatest (map (λ (e : GainEntry). e.gain) gains))) (greatest (gains_of t)) (omega (arith, mine, ap unsigned_abs same_rest)),
      fits,
    )

-- each action's values ascend
pub action_ascends : (t : TableTree) → IsTableShape t → (a : Action) (gains : List GainEntry) (k : ℕ) → gains ≡ a.gains → k < length t.actions
    → a ≡ get_or t.actions k a → IsStrictlyIncreasing (map (λ (e : GainEntry). e.value) gains)
action_ascends t shape a gains k same inside is =
    subst (λ (l : List GainEntry). IsStrictlyIncreasing (map (λ (e : GainEntry). e.value) l)) (sym (same ∙ ap (λ (b : Action). b.gains) is))
    (shape.ascending k a inside)

-- the best of the actions so far, and of the next one
max_cases : (b : Bool) (x y : ℤ) → ((if b then x else y) ≡ x) ⊎ ((if b then x else y) ≡ y)
max_cases true x y = inl refl
max_cases false x y = inr refl

pub max_is : (x y z : ℤ) → z ≡ int_max x y → (z ≡ x) ⊎ (z ≡ y)
max_is x y z is = ⊎_elim (λ (e : int_max x y ≡ x). inl (is ∙ e)) (λ (e : int_max x y ≡ y). inr (is ∙ e)) (max_cases (int_lt y x) x y)

module _ (rest : ℤ) (c : List Entry) (actions : List Action) (i : ℕ) (a : Action) (inside : i < length actions) (here : a ≡ get_or actions i a) (best new z : ℤ) (gains : new ≡ gained rest a.gains c)
    (most : z ≡ int_max best new) where
  pub reached_next : (b : Action) × Contains actions b × (best ≡ gained rest b.gains c) → (b : Action) × Contains actions b × (z ≡ gained rest b.gains c)
  reached_next (b, there, is) =
      ⊎_elim (λ (e : z ≡ best). (b, there, e ∙ is)) (λ (e : z ≡ new). (a, (i, inside, sym here), e ∙ gains)) (max_is best new z most)

  pub bounds_next : ((k : ℕ) (b : Action) → k < i → get_or actions k b ≡ b → gained rest b.gains c ≤ℤ best) → (k : ℕ) (b : Action) → k < i + 1 → get_or actions k b ≡ b → gained rest b.gains c ≤ℤ z
  bounds_next had k b below is =
      let bound : (best ≤ℤ z) × (new ≤ℤ z) = grown best new z most in
      ⊎_elim
      (λ (h : k < i). omega (arith, ints, had k b h is, bound.0))
      (λ (h : i ≤ k). let same : gained rest b.gains c ≡ new = at k b (omega (arith, h, below)) is in omega (arith, ints, same, bound.1))
      (cases_lt k i)
    where
      grown : (x y z : ℤ) → z ≡ int_max x y → (x ≤ℤ z) × (y ≤ℤ z)
      grown x y z is = (omega (arith, ints, clamps, is), omega (arith, ints, clamps, is))

      at : (k : ℕ) (b : Action) → k ≡ i → get_or actions k b ≡ b → gained rest b.gains c ≡ new
      at k b same is =
          let first : get_or actions i b ≡ b = subst (λ (n : ℕ). get_or actions n b ≡ b) same is in
          let other : get_or actions i b ≡ get_or actions i a = get_or_default actions i b a inside in
          ap (λ (d : Action). gained rest d.gains c) (sym first ∙ other ∙ sym here) ∙ sym gains
