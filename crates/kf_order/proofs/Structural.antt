-- Refinement is structural: a table that separates hypers of one prior, its gains multiplied at each value, separates those of any other.
use Rattle.std.proofs.Common.{◌≡◌, ℕ, ◌*◌, ◌/◌, ◌<◌, List, [], ◌∷◌, All, get_or, map, ◌⊎◌, inl, inr, ⊎_elim}
use Rattle.std.proofs.Common.{refl, sym, ap, subst, ◌∙◌, arith}
use Rattle.std.specs.List.{AllZip}
use Rattle.std.proofs.Math.IntN.{ℤ, pos, ◌+ℤ◌, ◌*ℤ◌, zero-*ℤ}
use Rattle.std.proofs.Math.Nat.{div-mul_cancel, eq-zero-or-pos}
use Rattle.std.proofs.lemmas.Int.{ints}
use Rattle.std.proofs.lemmas.List.{get_or-map, length-map}
use Rattle.std.proofs.lemmas.List.Elements.{All-get_or, All-map, recursion_from_All}
use Prim.Native.Nat.{◌∣◌}
use lib.Signed.{◌<ℤ◌, ◌≤ℤ◌}
use Rattle.kf_frac.specs.Divisors.{common_multiple}
use Rattle.kf_frac.proofs.Multiples.{common_divided, common_positive}
use Rattle.kf_frac.proofs.Ring.{mul_add, ring}
use Rattle.kf_column.specs.declared.entry.Entry.{Entry}
use Rattle.kf_column.specs.Averages.{joint_column}
use Rattle.kf_column.specs.Columns.{IsColumn, weight_at}
use Rattle.kf_column.specs.Hypers.{Inner}
use Rattle.kf_column.specs.Traces.{Row, value_weight}
use Rattle.kf_column.proofs.AtMostOne.{In}
use Rattle.kf_column.proofs.Scaling.{product_positive}
use Rattle.kf_core.proofs.OneTable.{in_from_contains}
use Rattle.kf_channel.specs.Channels.{AreSecrets}
use Rattle.kf_gain.specs.Gains.{Table, TableTree}
use Rattle.kf_gain.specs.Laws.{HasActions}
use Rattle.kf_gain.specs.Vulnerabilities.{IsPosterior}
use Rattle.kf_gain.specs.Worth.{IsVulnerability}
use Rattle.kf_gain.proofs.Measures.{some}
use Rattle.kf_gain.proofs.Reports.{some_report}
use Rattle.kf_capacity.specs.Grids.{ChannelTree}
use Rattle.kf_quiet.proofs.Worths.{posterior_worth, worth}
use Rattle.kf_simplex.proofs.Signs.{product_monotone, product_strict}
use Rattle.kf_order.specs.Channels.{IsWorth}
use Rattle.kf_order.specs.Structure.{HaveOneMatrix, IsStructural}
use Rattle.kf_order.proofs.AnyOrder.{same_worth}
use Rattle.kf_order.proofs.Cells.{weigh}
use Rattle.kf_order.proofs.Leaking.{IsHyperOfRows, rows_of}
use Rattle.kf_order.proofs.OneMatrix.{all_reweighed, still_secret}
use Rattle.kf_order.proofs.Refining.{refinement_leaks_no_more}
use Rattle.kf_order.proofs.Reweighing.{multiplied, still_actions, worth_both}
use Rattle.kf_order.proofs.Worths.{inners_worth, some_actions}

-- ---- hypers of channels of one matrix

worths_both : (p q : ℕ) (f g : Row → ℤ) (R : Row → Row → Type 0) → ((r r' : Row) → R r r' → pos p *ℤ f r ≡ pos q *ℤ g r') → (rs rs' : List Row)
    → AllZip R rs rs' → pos p *ℤ worth f rs ≡ pos q *ℤ worth g rs'
worths_both p q f g R each [] [] all = omega (arith, ints)
worths_both p q f g R each [] (r' ∷ rs') all = absurd all
worths_both p q f g R each (r ∷ rs) [] all = absurd all
worths_both p q f g R each (r ∷ rs) (r' ∷ rs') all =
    mul_add (pos p) (f r) (worth f rs)
    ∙ (λ i. each r r' all.0 i +ℤ worths_both p q f g R each rs rs' all.1 i)
    ∙ sym (mul_add (pos q) (g r') (worth g rs'))

module _ (c c' : ChannelTree) (inners inners' : List Inner) (is : IsHyperOfRows c inners) (is' : IsHyperOfRows c' inners') (one : HaveOneMatrix c c')
    (t : TableTree) (has : HasActions (Table t)) (xs : List ℕ) (factor : ℕ → ℕ) (outside : (x : ℕ) → (In x xs → ⊥) → factor x ≡ 0) (p q : ℕ)
    (prior : (x : ℕ) → value_weight c.rows x * (p * factor x) ≡ value_weight c'.rows x * q) where
  abbrev more : TableTree
  more = multiplied t xs factor

  abbrev best : List Entry → ℤ
  best d = (some (Table more) d (still_actions t xs factor has)).0

  abbrev best' : List Entry → ℤ
  best' d = (some (Table t) d has).0

  are : (d : List Entry) → IsVulnerability (Table more) d (best d)
  are d = (some (Table more) d (still_actions t xs factor has)).1

  are' : (d : List Entry) → IsVulnerability (Table t) d (best' d)
  are' d = (some (Table t) d has).1

  posterior_both : (y z : ℤ) → IsPosterior (Table more) inners y → IsPosterior (Table t) inners' z → pos p *ℤ y ≡ pos q *ℤ z
  posterior_both y z of_y of_z =
      let (rows, order, reweighed) = all_reweighed c c' is.secrets is'.secrets one p q factor prior in
      ap (λ (v : ℤ). pos p *ℤ v)
      (posterior_worth (Table more) best are c.rows inners (recursion_from_All (λ (r : Row). IsColumn r.column) c.rows is.columns) is.hyper y of_y
      ∙ same_worth (λ (r : Row). best r.column) c.rows rows order)
      ∙ worths_both p q (λ r. best r.column) (λ r. best' r.column) (λ r r'. (x : ℕ) → weight_at r.column x * (p * factor x) ≡ weight_at r'.column x * q)
      (λ r r' weights. worth_both t xs factor outside p q r.column r'.column weights (best r.column) (best' r'.column) (are r.column) (are' r'.column)) rows c'.rows
      reweighed
      ∙ ap (λ (v : ℤ). pos q *ℤ v)
      (sym (posterior_worth (Table t) best' are' c'.rows inners' (recursion_from_All (λ (r : Row). IsColumn r.column) c'.rows is'.columns) is'.hyper z of_z))

-- ---- from one prior to another

-- a number that each secret's weight divides
abbrev common : ChannelTree → ℕ
common c = common_multiple (map (value_weight c.rows) c.secrets)

-- what makes, so many times, the second prior of the first one
abbrev between : ChannelTree → ChannelTree → ℕ → ℕ
between c c' x = common c / value_weight c.rows x * value_weight c'.rows x

module _ (c : ChannelTree) (are : AreSecrets c.rows c.secrets) where
  abbrev weights : List ℕ
  weights = map (value_weight c.rows) c.secrets

  positive : All (λ n. 0 < n) weights
  positive = All-map (λ n. 0 < n) (value_weight c.rows) c.secrets (weigh c are)

  common_some : 0 < common c
  common_some = common_positive weights positive

  divided : (x : ℕ) → 0 < value_weight c.rows x → common c / value_weight c.rows x * value_weight c.rows x ≡ common c
  divided x heavy =
      let (i, here, at) = (are.listed x).1 heavy in
      let same : get_or weights i 0 ≡ value_weight c.rows x = get_or-map (value_weight c.rows) c.secrets i x 0 here ∙ ap (value_weight c.rows) at in
      div-mul_cancel (value_weight c.rows x)
      (subst (λ n. n ∣ common c) same
      (All-get_or (λ n. n ∣ common c) weights i 0 (omega (arith, here, length-map c.secrets (value_weight c.rows))) (common_divided weights positive)))

module _ (c c' : ChannelTree) (are : AreSecrets c.rows c.secrets) (are' : AreSecrets c'.rows c'.secrets) (same : c.secrets ≡ c'.secrets) where
  outside_none : (x : ℕ) → (In x c'.secrets → ⊥) → between c c' x ≡ 0
  outside_none x past =
      ⊎_elim (λ (none : value_weight c'.rows x ≡ 0). omega (arith, ap (λ (n : ℕ). common c / value_weight c.rows x * n) none))
      (λ (heavy : 0 < value_weight c'.rows x). absurd (past (in_from_contains c'.secrets x ((are'.listed x).1 heavy))))
      (eq-zero-or-pos (value_weight c'.rows x))

  prior_between : (x : ℕ) → value_weight c.rows x * (1 * between c c' x) ≡ value_weight c'.rows x * common c
  prior_between x =
      ⊎_elim
      (λ (none : value_weight c.rows x ≡ 0).
      let nothing : value_weight c'.rows x ≡ 0 =
      ⊎_elim (λ (none : value_weight c'.rows x ≡ 0). none)
      (λ (heavy : 0 < value_weight c'.rows x). absurd (omega (arith, none, still_secret c' c are' are (sym same) x heavy))) (eq-zero-or-pos (value_weight c'.rows x)) in
      omega (arith, ap (λ (n : ℕ). n * (1 * between c c' x)) none, ap (λ (n : ℕ). n * common c) nothing))
      (λ (heavy : 0 < value_weight c.rows x).
      times (value_weight c.rows x) (common c / value_weight c.rows x) (value_weight c'.rows x) (common c) (divided c are x heavy))
      (eq-zero-or-pos (value_weight c.rows x))
    where
      times : (v k v' whole : ℕ) → k * v ≡ whole → v * (1 * (k * v')) ≡ v' * whole
      times v k v' whole p = omega (arith, ap (λ (n : ℕ). v' * n) p)

-- over another scale a prior is as much less or more as over the first
over_scales : (v w v' w' m n m' n' f k : ℕ) → v * n ≡ w * m → v' * n' ≡ w' * m' → v * (1 * f) ≡ v' * k → w * (m * n' * f) ≡ w' * (k * n * m')
over_scales v w v' w' m n m' n' f k p p' q = omega (arith, ap (λ (i : ℕ). i * (n' * f)) p, ap (λ (i : ℕ). i * (k * n)) p', ap (λ (i : ℕ). i * (n * n')) q)

-- ---- what is separated stays so

-- y and z, and y' and z', are what b and a are worth: the ones by the multiplied table, the others by the table itself, at the other prior
opposed : (y z y' z' : ℤ) (m n m' n' k : ℕ) → 0 < k → 0 < n → pos 1 *ℤ z ≡ pos k *ℤ z' → pos (m * n') *ℤ y ≡ pos (k * n * m') *ℤ y'
    → (y *ℤ pos m) ≤ℤ (z *ℤ pos n) → (z' *ℤ pos n') <ℤ (y' *ℤ pos m') → ⊥
opposed y z y' z' m n m' n' k some_k some_n of_z of_y less below =
    let same : z ≡ pos k *ℤ z' = omega (arith, ints, of_z) in
    let first : (pos n' *ℤ (y *ℤ pos m)) ≤ℤ (pos n' *ℤ (z *ℤ pos n)) = product_monotone (y *ℤ pos m) (z *ℤ pos n) (pos n') (omega (arith, ints)) less in
    let second : (pos (k * n) *ℤ (z' *ℤ pos n')) <ℤ (pos (k * n) *ℤ (y' *ℤ pos m')) =
    product_strict (z' *ℤ pos n') (y' *ℤ pos m') (pos (k * n)) (omega (arith, ints, product_positive k n some_k some_n)) below in
    let left : pos n' *ℤ (y *ℤ pos m) ≡ pos (k * n) *ℤ (y' *ℤ pos m') = turned_y (pos m) (pos n') y ∙ of_y ∙ turned (pos (k * n)) (pos m') y' in
    let right : pos n' *ℤ (z *ℤ pos n) ≡ pos (k * n) *ℤ (z' *ℤ pos n') =
    turned_z (pos n) (pos n') z ∙ ap (λ (v : ℤ). v *ℤ (pos n *ℤ pos n')) same ∙ turned_both (pos k) (pos n) (pos n') z' in
    omega (arith, ints, first, second, left, right)
  where
    turned_y : (m n y : ℤ) → n *ℤ (y *ℤ m) ≡ m *ℤ n *ℤ y
    turned_y m n y = simp ring refl

    turned : (k m y : ℤ) → k *ℤ m *ℤ y ≡ k *ℤ (y *ℤ m)
    turned k m y = simp ring refl

    turned_z : (n m z : ℤ) → m *ℤ (z *ℤ n) ≡ z *ℤ (n *ℤ m)
    turned_z n m z = simp ring refl

    turned_both : (k n m z : ℤ) → k *ℤ z *ℤ (n *ℤ m) ≡ k *ℤ n *ℤ (z *ℤ m)
    turned_both k n m z = simp ring refl

pub is_structural : IsStructural
is_structural a b a' b' c d c' d' of_a of_b of_a' of_b' shown_a shown_b shown_a' shown_b' one_a one_b prior prior' refines t separates =
    with_actions (some_actions (Table t))
  where
    rows_a : IsHyperOfRows c a.inners
    rows_a = rows_of of_a c a.inners shown_a.rows shown_a.secrets shown_a.hyper

    rows_b : IsHyperOfRows d b.inners
    rows_b = rows_of of_b d b.inners shown_b.rows shown_b.secrets shown_b.hyper

    rows_a' : IsHyperOfRows c' a'.inners
    rows_a' = rows_of of_a' c' a'.inners shown_a'.rows shown_a'.secrets shown_a'.hyper

    rows_b' : IsHyperOfRows d' b'.inners
    rows_b' = rows_of of_b' d' b'.inners shown_b'.rows shown_b'.secrets shown_b'.hyper

    separated : HasActions (Table t) → ⊥
    separated has =
        let factor : ℕ → ℕ = between c c' in
        let more : TableTree = multiplied t c'.secrets factor in
        let none = outside_none c c' shown_a.secrets shown_a'.secrets one_a.secrets in
        let first = prior_between c c' shown_a.secrets shown_a'.secrets one_a.secrets in
        let (z, is_z) = (some_report (Table more) a.inners (still_actions t c'.secrets factor has)).1 in
        let (y, is_y) = (some_report (Table more) b.inners (still_actions t c'.secrets factor has)).1 in
        let of_z = posterior_both c c' a.inners a'.inners rows_a rows_a' one_a t has c'.secrets factor none 1 (common c) first z separates.of_a is_z separates.is_of_a in
        let of_y =
        posterior_both d d' b.inners b'.inners rows_b rows_b' one_b t has c'.secrets factor none (a.scale * b'.scale) (common c * b.scale * a'.scale)
        (λ x.
        over_scales (value_weight c.rows x) (value_weight d.rows x) (value_weight c'.rows x) (value_weight d'.rows x) a.scale b.scale a'.scale b'.scale (factor x)
        (common c) (prior x) (prior' x) (first x)) y separates.of_b is_y separates.is_of_b in
        opposed y z separates.of_b separates.of_a a.scale b.scale a'.scale b'.scale (common c) (common_some c shown_a.secrets) shown_b.proper.some of_z of_y
        (refinement_leaks_no_more a b (Table more) y z shown_a.proper shown_b.proper refines is_y is_z) separates.below

    with_actions : HasActions (Table t) ⊎ ((columns : List (List Entry)) (z : ℤ) → IsWorth (Table t) columns z → z ≡ pos 0) → ⊥
    with_actions (inl has) = separated has
    with_actions (inr none) =
        let no_a : separates.of_a ≡ pos 0 = none (map joint_column a'.inners) separates.of_a (inners_worth (Table t) a'.inners separates.of_a separates.is_of_a) in
        let no_b : separates.of_b ≡ pos 0 = none (map joint_column b'.inners) separates.of_b (inners_worth (Table t) b'.inners separates.of_b separates.is_of_b) in
        omega (
          arith,
          ints,
          separates.below,
          ap (λ (z : ℤ). z *ℤ pos b'.scale) no_a,
          zero-*ℤ (pos b'.scale),
          ap (λ (z : ℤ). z *ℤ pos a'.scale) no_b,
          zero-*ℤ (pos a'.scale),
        )
