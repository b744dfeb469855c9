-- A table whose gains are multiplied at each value: it gains from weights what the table itself gains from the weights times as much.
use Rattle.std.proofs.Common.{◌≡◌, ℕ, ◌*◌, ◌<◌, Bool, List, [], ◌∷◌, Contains, length, get_or, map, if◌then◌else◌, eq-eqb, ⊎_elim}
use Rattle.std.proofs.Common.{refl, sym, ap, ◌∙◌, arith}
use Rattle.std.proofs.Math.IntN.{ℤ, pos, ◌+ℤ◌, ◌*ℤ◌, zero-*ℤ}
use Rattle.std.proofs.lemmas.Bool.{cases_eq, ne_eqb}
use Rattle.std.proofs.lemmas.Int.{ints}
use Rattle.std.proofs.lemmas.List.{get_or-map, length-map}
use Rattle.std.proofs.lemmas.List.Elements.{Contains-get_or}
use lib.Signed.{◌≤ℤ◌}
use Rattle.kf_frac.proofs.Ring.{mul_assoc, ring}
use Rattle.kf_column.specs.declared.entry.Entry.{Entry}
use Rattle.kf_column.specs.Columns.{weight_at}
use Rattle.kf_column.proofs.AtMostOne.{In}
use Rattle.kf_column.proofs.Weights.{same_column, weight_at_head, weight_at_other}
use Rattle.kf_gain.specs.declared.table.Action.{Action}
use Rattle.kf_gain.specs.declared.table.GainEntry.{GainEntry}
use Rattle.kf_gain.specs.Gains.{Table, TableTree, gain_at}
use Rattle.kf_gain.specs.Laws.{HasActions}
use Rattle.kf_gain.specs.Worth.{IsVulnerability, Reaches, gained}
use Rattle.kf_gain.proofs.Adding.{Joined, join}
use Rattle.kf_gain.proofs.Measures.{order_times}

-- ---- columns by their weights

-- whatever their order, columns that give each value one weight gain the same
one_gained : (rest : ℤ) (gains : List GainEntry) (c d : List Entry) → ((x : ℕ) → weight_at c x ≡ weight_at d x) → gained rest gains c ≡ gained rest gains d
one_gained rest gains c d same =
    let r : Joined c [] = join c [] tt in
    let s : Joined d [] = join d [] tt in
    let sums : r.sum ≡ s.sum = same_column 0 r.sum s.sum r.above s.above (λ x. omega (arith, r.weights x, s.weights x, same x)) in
    omega (arith, ints, r.gains rest gains, s.gains rest gains, ap (gained rest gains) sums)

-- each weight times what the factor is at its value
abbrev reweighed : (ℕ → ℕ) → List Entry → List Entry
reweighed factor column = map (λ e. record { value = e.value; weight = e.weight * factor e.value }) column

reweighed_weighs : (factor : ℕ → ℕ) (column : List Entry) (x : ℕ) → weight_at (reweighed factor column) x ≡ weight_at column x * factor x
reweighed_weighs factor [] x = omega arith
reweighed_weighs factor (e ∷ es) x =
    let f : Entry = record { value = e.value; weight = e.weight * factor e.value } in
    ⊎_elim
    (λ (here : e.value ≡ x).
    omega (
      arith,
      weight_at_head f (reweighed factor es) x here,
      ap (λ (v : ℕ). e.weight * factor v) here,
      reweighed_weighs factor es x,
      ap (λ (w : ℕ). w * factor x) (weight_at_head e es x here),
    ))
    (λ (apart : e.value ≡ x → ⊥).
    weight_at_other f (reweighed factor es) x apart ∙ reweighed_weighs factor es x ∙ ap (λ (w : ℕ). w * factor x) (sym (weight_at_other e es x apart)))
    (cases_eq e.value x)

module _ (rest rest' : ℤ) (gains gains' : List GainEntry) (p : ℕ) (factor : ℕ → ℕ)
    (times : (x : ℕ) → pos p *ℤ gain_at rest' gains' x ≡ pos (factor x) *ℤ gain_at rest gains x) where
  gained_reweighed : (column : List Entry) → pos p *ℤ gained rest' gains' column ≡ gained rest gains (reweighed factor column)
  gained_reweighed [] = omega (arith, ints)
  gained_reweighed (e ∷ es) =
      split (pos p) (pos e.weight) (gain_at rest' gains' e.value) (gained rest' gains' es)
      ∙ (λ i. pos e.weight *ℤ times e.value i +ℤ gained_reweighed es i)
      ∙ ap (λ (z : ℤ). z +ℤ gained rest gains (reweighed factor es)) (sym (mul_assoc (pos e.weight) (pos (factor e.value)) (gain_at rest gains e.value)))
    where
      split : (p w g others : ℤ) → p *ℤ (w *ℤ g +ℤ others) ≡ w *ℤ (p *ℤ g) +ℤ p *ℤ others
      split p w g others = simp ring refl

-- ---- an action and a table, times a factor at each value

-- these gains at these values
abbrev listed : (ℕ → ℤ) → List ℕ → List GainEntry
listed gain xs = map (λ x. record { value = x; gain = gain x }) xs

gain_listed : (gain : ℕ → ℤ) (xs : List ℕ) (x : ℕ) → ((In x xs → ⊥) → gain x ≡ pos 0) → gain_at (pos 0) (listed gain xs) x ≡ gain x
gain_listed gain [] x none = sym (none (λ here. here))
gain_listed gain (y ∷ ys) x none =
    ⊎_elim
    (λ (same : y ≡ x). ap (λ (b : Bool). if b then gain y else gain_at (pos 0) (listed gain ys) x) (eq-eqb y x same) ∙ ap gain same)
    (λ (apart : y ≡ x → ⊥).
    ap (λ (b : Bool). if b then gain y else gain_at (pos 0) (listed gain ys) x) (ne_eqb y x apart)
    ∙ gain_listed gain ys x (λ past. none (⊎_elim (λ (same : x ≡ y). apart (sym same)) past)))
    (cases_eq y x)

module _ (t : TableTree) (xs : List ℕ) (factor : ℕ → ℕ) where
  abbrev times_at : Action → ℕ → ℤ
  times_at a x = pos (factor x) *ℤ gain_at t.rest a.gains x

  abbrev multiplied_action : Action → Action
  multiplied_action a = record { name = a.name; gains = listed (times_at a) xs }

  abbrev none : Action
  none = record { name = []; gains = [] }

  -- at every other value it gains 0
  abbrev pub multiplied : TableTree
  multiplied = record { over = t.over; rest = pos 0; actions = map multiplied_action t.actions }

  pub still_actions : HasActions (Table t) → HasActions (Table multiplied)
  still_actions = some_images t.actions
    where
      some_images : (actions : List Action) → (actions ≡ [] → ⊥) → map multiplied_action actions ≡ [] → ⊥
      some_images [] some none = some refl
      some_images (a ∷ actions) some none = (cc)

  -- ---- columns whose weights, p times and times the factor, are those of others, q times

  module _ (outside : (x : ℕ) → (In x xs → ⊥) → factor x ≡ 0) (p q : ℕ) (c d : List Entry)
      (weights : (x : ℕ) → weight_at c x * (p * factor x) ≡ weight_at d x * q) where
    gain_times : (a : Action) (x : ℕ) → gain_at (pos 0) (multiplied_action a).gains x ≡ times_at a x
    gain_times a x =
        gain_listed (times_at a) xs x (λ past. ap (λ (n : ℕ). pos n *ℤ gain_at t.rest a.gains x) (outside x past) ∙ zero-*ℤ (gain_at t.rest a.gains x))

    gained_both : (a : Action) → pos p *ℤ gained (pos 0) (multiplied_action a).gains c ≡ pos q *ℤ gained t.rest a.gains d
    gained_both a =
        gained_reweighed t.rest (pos 0) a.gains (multiplied_action a).gains p (λ x. p * factor x)
        (λ x. ap (λ (z : ℤ). pos p *ℤ z) (gain_times a x) ∙ sym (mul_assoc (pos p) (pos (factor x)) (gain_at t.rest a.gains x))) c
        ∙ one_gained t.rest a.gains (reweighed (λ x. p * factor x) c) (reweighed (λ x. q) d)
        (λ x. reweighed_weighs (λ x. p * factor x) c x ∙ weights x ∙ sym (reweighed_weighs (λ x. q) d x))
        ∙ sym (gained_reweighed t.rest t.rest a.gains a.gains q (λ x. q) (λ x. refl) d)

    less : (y z : ℤ) → Reaches (Table multiplied) c y → IsVulnerability (Table t) d z → (pos p *ℤ y) ≤ℤ (pos q *ℤ z)
    less y z (m, (k, within, at), is) v =
        let a : Action = get_or t.actions k none in
        let here : k < length t.actions = omega (arith, within, length-map t.actions multiplied_action) in
        let same : m ≡ multiplied_action a = sym at ∙ get_or-map multiplied_action t.actions k none m here in
        let gains : y ≡ gained (pos 0) (multiplied_action a).gains c = is ∙ ap (λ (m : Action). gained (pos 0) m.gains c) same in
        let best = v.best (gained t.rest a.gains d) (a, Contains-get_or t.actions k none here, refl) in
        omega (arith, ints, ap (λ (z : ℤ). pos p *ℤ z) gains, gained_both a, order_times q (gained t.rest a.gains d) z best)

    more : (y z : ℤ) → IsVulnerability (Table multiplied) c y → Reaches (Table t) d z → (pos q *ℤ z) ≤ℤ (pos p *ℤ y)
    more y z v (a, (k, within, at), is) =
        let m : Action = multiplied_action a in
        let same : get_or (map multiplied_action t.actions) k m ≡ m = get_or-map multiplied_action t.actions k a m within ∙ ap multiplied_action at in
        let here : Contains (map multiplied_action t.actions) m = (k, omega (arith, within, length-map t.actions multiplied_action), same) in
        let best = v.best (gained (pos 0) m.gains c) (m, here, refl) in
        omega (arith, ints, ap (λ (z : ℤ). pos q *ℤ z) is, gained_both a, order_times p (gained (pos 0) m.gains c) y best)

    pub worth_both : (y z : ℤ) → IsVulnerability (Table multiplied) c y → IsVulnerability (Table t) d z → pos p *ℤ y ≡ pos q *ℤ z
    worth_both y z v w = omega (arith, ints, less y z v.reached w, more y z v w.reached)
