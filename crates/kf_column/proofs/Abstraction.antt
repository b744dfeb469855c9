-- Ordered classes of columns make their hyper.
use Rattle.std.proofs.Common.{◌≡◌, ℕ, ◌+◌, ◌<◌, ◌≤◌, List, [], ◌∷◌, Bool, true, All, map, sum_by, count_by, refl, sym, ◌∙◌, ap, subst, arith, length, get_or, if◌then◌else◌}
use Rattle.std.specs.List.{AllByRecursion}
use Rattle.std.specs.List.Sorted.{IsStrictlySortedBy}
use Rattle.std.specs.Int.{◌∣◌}
use Rattle.std.specs.declared.cmp.Ordering.TheVariants.{Less}
use Rattle.std.proofs.lemmas.List.Elements.{All-map, All-head, All-tail}
use Rattle.std.proofs.lemmas.List.Sums.{sum_by-cons, get_or-le-sum_by}
use Rattle.kf_frac.specs.Fractions.{limit}
use Rattle.kf_column.specs.declared.entry.Entry.{Entry}
use Rattle.kf_column.specs.Columns.{total, proportional}
use Rattle.kf_column.specs.Shapes.{IsBelow, IsShape, as_inner, list_order}
use Rattle.kf_column.specs.Joint.{mass}
use Rattle.kf_column.specs.Hypers.{Inner, IsInner, IsHyper, class_total}
use Rattle.kf_column.specs.Classes.{ClassesOf, HasInner, total_in}
use Rattle.kf_column.proofs.Ordered.{Ordered, one_class, own_totals}
use Rattle.kf_column.proofs.Scaling.{proportional_reduced, proportional_itself}

abbrev Pair : Type 0
Pair = List Entry × ℕ

sum-shown : (f : Inner → ℕ) (ps : List Pair) → sum_by f (map as_inner ps) ≡ sum_by (λ (c : Pair). f (as_inner c)) ps
sum-shown f [] = refl
sum-shown f (p ∷ ps) = sum_by-cons f (as_inner p) (map as_inner ps) ∙ ap (λ (n : ℕ). f (as_inner p) + n) (sum-shown f ps) ∙ sym (sum_by-cons (λ (c : Pair). f (as_inner c)) p ps)

entries-shown : (ps : List Pair) → map (λ (i : Inner). i.entries) (map as_inner ps) ≡ map (λ (c : Pair). c.0) ps
entries-shown [] = refl
entries-shown (p ∷ ps) = ap (λ (l : List (List Entry)). p.0 ∷ l) (entries-shown ps)

after_all : (inner : List Entry) (ps : List Pair) → All (λ (q : Pair). list_order inner q.0 ≡ Less) ps → AllByRecursion (λ (l : List Entry). list_order inner l ≡ Less) (map (λ (c : Pair). c.0) ps)
after_all inner [] all = tt
after_all inner (p ∷ ps) all = (All-head (λ (q : Pair). list_order inner q.0 ≡ Less) p ps all, after_all inner ps (All-tail (λ (q : Pair). list_order inner q.0 ≡ Less) p ps all))

sorted_again : (ps : List Pair) → Ordered ps → IsStrictlySortedBy list_order (map (λ (c : Pair). c.0) ps)
unfolding IsStrictlySortedBy
sorted_again [] o = tt
sorted_again (p ∷ ps) o = (after_all p.0 ps o.0, sorted_again ps o.1)

agreeing : (f g : Pair → ℕ) → ((c : Pair) → f c ≡ g c) → (ps : List Pair) → sum_by f ps ≡ sum_by g ps
agreeing f g same [] = refl
agreeing f g same (p ∷ ps) = sum_by-cons f p ps ∙ (λ i. same p i + agreeing f g same ps i) ∙ sym (sum_by-cons g p ps)

-- ordered classes with the totals of these columns
module _ (columns : List (List Entry)) (pairs : List Pair) (reduced : All HasInner columns) (inners : All (λ (c : Pair). IsInner c.0) pairs) (used : All (λ (c : Pair). 0 < c.1) pairs)
    (totals : (inner : List Entry) → IsInner inner → total_in pairs inner ≡ class_total columns inner) (sorted : Ordered pairs) where
  covered : (k : ℕ) (d : List Entry) → k < length columns → 0 < total (get_or columns k d) → count_by (λ (i : Inner). proportional (get_or columns k d) i.entries) (map as_inner pairs) ≡ 1
  covered k d below some =
      let c : List Entry = get_or columns k d in
      let h : HasInner c = reduced k d below in
      let r : List Entry = h.inner in
      let itself : proportional c r ≡ true = proportional_reduced c r r h.is_reduced ∙ proportional_itself r in
      let at_least : (if proportional c r then total c else 0) ≤ class_total columns r = get_or-le-sum_by (λ (c : List Entry). if proportional c r then total c else 0) columns k d below in
      let whole : (if proportional c r then total c else 0) ≡ total c = ap (λ (b : Bool). if b then total c else 0) itself in
      let gathers : 0 < total_in pairs r = omega (arith, totals r h.is_reduced.is_inner, at_least, whole, some) in
      sum-shown (λ (i : Inner). if proportional c i.entries then 1 else 0) pairs
      ∙ agreeing (λ (p : Pair). if proportional c p.0 then 1 else 0) (λ (p : Pair). if proportional r p.0 then 1 else 0) (λ p. ap (λ (b : Bool). if b then 1 else 0) (proportional_reduced c r p.0 h.is_reduced)) pairs
      ∙ one_class r h.is_reduced.is_inner pairs inners sorted gathers

  ascends : IsStrictlySortedBy list_order (map (λ (i : Inner). i.entries) (map as_inner pairs))
  ascends = subst (IsStrictlySortedBy list_order) (sym (entries-shown pairs)) (sorted_again pairs sorted)

  pub hyper_by_totals : IsHyper columns (map as_inner pairs)
  hyper_by_totals = record {
    covered = covered;
    totals = All-map (λ (i : Inner). i.total ≡ class_total columns i.entries) as_inner pairs
        (λ k d below. let c : Pair = get_or pairs k d in sym (own_totals pairs inners sorted k d below) ∙ totals c.0 (inners k d below));
    used = All-map (λ (i : Inner). 0 < i.total) as_inner pairs used;
    inner = All-map (λ (i : Inner). IsInner i.entries) as_inner pairs inners;
    ascending = ascends;
  }

module _ (columns : List (List Entry)) (pairs : List Pair) (had : ClassesOf columns pairs) (sorted : Ordered pairs) where
  pub is_hyper : IsHyper columns (map as_inner pairs)
  is_hyper = hyper_by_totals columns pairs had.reduced had.inners had.used had.totals sorted

  pub is_shape : (size scale : ℕ) → 0 < scale → scale ≤ limit → mass columns ≡ scale → All (IsBelow size) columns → IsShape size scale (map as_inner pairs)
  is_shape size scale some narrow whole below = record {
    some = some;
    narrow = narrow;
    within = All-map (λ (i : Inner). IsBelow size i.entries) as_inner pairs (had.within size below);
    inner = All-map (λ (i : Inner). IsInner i.entries) as_inner pairs had.inners;
    ascending = is_hyper.ascending;
    used = All-map (λ (i : Inner). 0 < i.total) as_inner pairs had.used;
    multiple = All-map (λ (i : Inner). total i.entries ∣ i.total) as_inner pairs had.whole;
    whole = sum-shown (λ (i : Inner). i.total) pairs ∙ had.mass ∙ whole;
  }
