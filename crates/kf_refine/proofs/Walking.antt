-- A walk over rows that keeps the first value of each ratio.
use Rattle.std.proofs.Common.{◌≡◌, ◌↔◌, ℕ, ◌<◌, ◌==◌, List, [], ◌∷◌, ◌++◌, Bool, true, false, Vec, Option, Some, All, cond, not, nat_cmp, nat_lt, refl, sym, ap, subst, ◌∙◌, arith, append_assoc, append-nil, ◌⊎◌, inl, inr, true≢false, eqb-true}
use Rattle.std.specs.Prelude.{IsSome}
use Rattle.std.specs.declared.alloc.Global.{Global}
use Rattle.std.specs.declared.cmp.Ordering.{Ordering}
use Rattle.std.specs.declared.cmp.Ordering.TheVariants.{Less, Equal, Greater}
use Rattle.std.specs.Ordering.{is_eq}
use Rattle.std.specs.List.{list_any}
use Rattle.std.specs.Map.{keys_of}
use Rattle.std.specs.BTreeMap.{is_at}
use Rattle.std.proofs.lemmas.Bool.Decides.{nat_tests}
use Rattle.kf_column.specs.declared.entry.Entry.{Entry}
use Rattle.kf_column.specs.Columns.{proportional}
use Rattle.kf_column.specs.Classes.{IsReduced}
use Rattle.kf_column.proofs.AtMostOne.{In}
use Rattle.kf_column.proofs.Gathering.{same_list}
use Rattle.kf_column.proofs.Ordered.{proportional-swap}
use Rattle.kf_column.proofs.Posteriors.{same_inner}
use Rattle.kf_column.proofs.Proportions.{proportional_all, all_proportional}
use Rattle.kf_column.proofs.Scaling.{proportional_reduced, proportional_itself}
use Rattle.kf_column.specs.Shapes.{list_order}
use Rattle.kf_refine.specs.Rows.{Rows, found, row_of, row_at, AreAlike, AreSmallest}
use Rattle.kf_refine.proofs.Members.{Rises, in_contains, contains_in, in_left, in_right, in_either, all_in, rises_increasing, rises_behind, front_below, back_above}

abbrev pub Row : Type 0
Row = Vec Entry Global

-- whether one of these rows is this list
abbrev pub has : List Row → List Entry → Bool
has rows list = list_any (λ (r : Row). is_eq (list_order list r.items)) rows

-- ---- values with rows

-- the order of numbers finds the equal one
below_or_same : (s t : Bool) → (s ≡ true → t ≡ false) → is_eq (cond s Less (cond t Equal Greater)) ≡ t
below_or_same true t h = sym (h refl)
below_or_same false true h = refl
below_or_same false false h = refl

test_is : (x y : ℕ) → is_at (nat_cmp x) y ≡ (x == y)
test_is x y = below_or_same (nat_lt x y) (x == y) (λ less. grind (arith, nat_tests))

some_here : (b : Bool) (row : Row) (o : Option Row) → b ≡ true ⊎ IsSome o → IsSome (cond b (Some row) o)
some_here true row o h = refl
some_here false row o (inl is) = absurd (true≢false (sym is))
some_here false row o (inr is) = is

pub key_found : (rows : Rows) (x : ℕ) → In x (keys_of rows) → IsSome (found rows x)
key_found [] x here = absurd here
key_found (e ∷ es) x (inl is) = some_here (is_at (nat_cmp x) e.0) e.1 (found es x) (inl (test_is x e.0 ∙ (let same : x ≡ e.0 = is in grind (arith, nat_tests))))
key_found (e ∷ es) x (inr is) = some_here (is_at (nat_cmp x) e.0) e.1 (found es x) (inr (key_found es x is))

here_or_later : (x y : ℕ) (row : Row) (o : Option Row) (ys : List ℕ) (b : Bool) → b ≡ (x == y) → (IsSome o → In x ys) → IsSome (cond b (Some row) o) → In x (y ∷ ys)
here_or_later x y row o ys true is rest some = inl (eqb-true x y (sym is))
here_or_later x y row o ys false is rest some = inr (rest some)

pub found_key : (rows : Rows) (x : ℕ) → IsSome (found rows x) → In x (keys_of rows)
found_key [] x some = absurd (true≢false (sym some))
found_key (e ∷ es) x some = here_or_later x e.0 e.1 (found es x) (keys_of es) (is_at (nat_cmp x) e.0) (test_is x e.0) (found_key es x) some

-- ---- rows in one ratio are multiples of one list

same_test : (u v r s : List Entry) → IsReduced u r → IsReduced v s → proportional u v ≡ proportional r s
same_test u v r s is is' =
    proportional_reduced u r v is ∙ (proportional-swap r v ∙ (proportional_reduced v s r is' ∙ proportional-swap s r))

alike_same : (u v r s : List Entry) → IsReduced u r → IsReduced v s → AreAlike u v → r ≡ s
alike_same u v r s is is' alike =
    same_inner r s is.is_inner is'.is_inner (proportional_all r s (sym (same_test u v r s is is') ∙ all_proportional u v alike))

same_alike : (u v r : List Entry) → IsReduced u r → IsReduced v r → AreAlike u v
same_alike u v r is is' = proportional_all u v (same_test u v r r is is' ∙ proportional_itself r)

-- ---- the walk

module _ (rows : Rows) where
  -- no smaller value's row is in one ratio with that of x
  abbrev pub IsFirst : ℕ → Type 0
  IsFirst x = (y : ℕ) → y < x → IsSome (found rows y) → AreAlike (row_at rows x) (row_at rows y) → ⊥

  -- what has been seen and kept of the rows so far, and what is left
  pub record Walks (seen : List Row) (left : Rows) (values : List ℕ) : Type 0 where
    pub past : List ℕ
    pub split : past ++ keys_of left ≡ keys_of rows
    pub rest : (e : ℕ × Row) → In e left → found rows e.0 ≡ Some e.1
    pub ascending : Rises values
    pub smallest : (x : ℕ) → In x values ↔ (In x past × IsFirst x)
    pub named : (y : ℕ) → In y past → (q : Row) × (has seen q.items ≡ true) × IsReduced (row_at rows y) q.items
    pub told : (q : Row) → has seen q.items ≡ true → (y : ℕ) × In y past × IsReduced (row_at rows y) q.items

  pub walk_start : All (λ e. found rows e.0 ≡ Some e.1) rows → Walks [] rows []
  walk_start each = record {
    past = [];
    split = refl;
    rest = all_in (λ e. found rows e.0 ≡ Some e.1) rows each;
    ascending = tt;
    smallest = λ x. (λ h. absurd h, λ h. absurd h.0);
    named = λ y h. absurd h;
    told = λ q h. absurd (true≢false (sym h));
  }

  pub walk_end : (seen : List Row) (left : Rows) (values : List ℕ) → left ≡ [] → Walks seen left values → AreSmallest rows values
  walk_end seen left values none had =
      let all : had.past ≡ keys_of rows = sym (append-nil had.past) ∙ (ap (λ l. had.past ++ keys_of l) (sym none) ∙ had.split) in
      record {
        ascending = rises_increasing values had.ascending;
        smallest = λ x. (
          λ h. let r = (had.smallest x).0 (contains_in x values h) in (key_found rows x (subst (λ ks. In x ks) all r.0), r.1),
          λ h. in_contains x values ((had.smallest x).1 (subst (λ ks. In x ks) (sym all) (found_key rows x h.0), h.1)),
        );
      }

  module _ (rises : Rises (keys_of rows)) (seen : List Row) (x : ℕ) (row : Row) (left next : Rows) (values : List ℕ) (had : Walks seen left values) (is : left ≡ (x, row) ∷ next) where
    apart : had.past ++ x ∷ keys_of next ≡ keys_of rows
    apart = ap (λ l. had.past ++ keys_of l) (sym is) ∙ had.split

    rising : Rises (had.past ++ x ∷ keys_of next)
    rising = subst Rises (sym apart) rises

    row_is : found rows x ≡ Some row
    row_is = had.rest (x, row) (subst (λ l. In (x, row) l) (sym is) (inl refl))

    -- the row that is met is that of its value
    pub row_here : row_at rows x ≡ row.items
    row_here = ap row_of row_is

    pub row_found : IsSome (found rows x)
    row_found = subst IsSome (sym row_is) refl

    not_later : (y : ℕ) → y < x → In y had.past ⊎ In y (x ∷ keys_of next) → In y had.past
    not_later y less (inl h) = h
    not_later y less (inr (inl h)) = absurd (omega (arith, less, h))
    not_later y less (inr (inr h)) = absurd (omega (arith, less, back_above x had.past (keys_of next) rising y h))

    module _ (key : Row) (now : List Row) (reduced : IsReduced row.items key.items) (added : has now key.items ≡ true)
        (updated : (q : Row) → has now q.items ≡ cond (is_eq (list_order key.items q.items)) true (has seen q.items)) where
      of_row : IsReduced (row_at rows x) key.items
      of_row = subst (λ l. IsReduced l key.items) (sym row_here) reduced

      -- nothing like it was seen: it is the first
      new_first : has seen key.items ≡ false → IsFirst x
      new_first new y less some alike =
          let before : In y had.past = not_later y less (in_either y had.past (x ∷ keys_of next) (subst (λ ks. In y ks) (sym apart) (found_key rows y some))) in
          let n = had.named y before in
          let same : key.items ≡ n.0.items = alike_same (row_at rows x) (row_at rows y) key.items n.0.items of_row n.2 alike in
          true≢false (sym n.1 ∙ (ap (has seen) (sym same) ∙ new))

      -- its like was seen: it isn't
      seen_later : has seen key.items ≡ true → IsFirst x → ⊥
      seen_later old first =
          let t = had.told key old in
          let less : t.0 < x = front_below x had.past (keys_of next) rising t.0 t.1 in
          let known : In t.0 (keys_of rows) = subst (λ ks. In t.0 ks) apart (in_left t.0 had.past (x ∷ keys_of next) t.1) in
          first t.0 less (key_found rows t.0 known) (same_alike (row_at rows x) (row_at rows t.0) key.items of_row t.2)

      kept_before : (b : Bool) (r : Bool) → r ≡ true → cond b true r ≡ true
      kept_before true r h = refl
      kept_before false r h = h

      named_now : (y : ℕ) → In y had.past ⊎ In y (x ∷ []) → (q : Row) × (has now q.items ≡ true) × IsReduced (row_at rows y) q.items
      named_now y (inl h) = let n = had.named y h in (n.0, updated n.0 ∙ kept_before (is_eq (list_order key.items n.0.items)) (has seen n.0.items) n.1, n.2)
      named_now y (inr (inl h)) = (key, added, subst (λ z. IsReduced (row_at rows z) key.items) (sym h) of_row)
      named_now y (inr (inr h)) = absurd h

      equal_is : (r : Ordering) → is_eq r ≡ true → r ≡ Equal
      equal_is Less h = absurd (true≢false (sym h))
      equal_is Equal h = refl
      equal_is Greater h = absurd (true≢false (sym h))

      told_by : (q : Row) (b r : Bool) → b ≡ is_eq (list_order key.items q.items) → r ≡ has seen q.items → cond b true r ≡ true
          → (y : ℕ) × In y (had.past ++ x ∷ []) × IsReduced (row_at rows y) q.items
      told_by q true r test old h =
          let same : key.items ≡ q.items = same_list key.items q.items (equal_is (list_order key.items q.items) (sym test)) in
          (x, in_right x had.past (x ∷ []) (inl refl), subst (λ l. IsReduced (row_at rows x) l) same of_row)
      told_by q false r test old h =
          let t = had.told q (sym old ∙ h) in (t.0, in_left t.0 had.past (x ∷ []) t.1, t.2)

      told_now : (q : Row) → has now q.items ≡ true → (y : ℕ) × In y (had.past ++ x ∷ []) × IsReduced (row_at rows y) q.items
      told_now q h = told_by q (is_eq (list_order key.items q.items)) (has seen q.items) refl refl (sym (updated q) ∙ h)

      carried : (kept : List ℕ) → Rises kept → ((z : ℕ) → In z kept ↔ (In z (had.past ++ x ∷ []) × IsFirst z)) → Walks now next kept
      carried kept ascends small = record {
        past = had.past ++ x ∷ [];
        split = append_assoc had.past (x ∷ []) (keys_of next) ∙ apart;
        rest = λ e h. had.rest e (subst (λ l. In e l) (sym is) (inr h));
        ascending = ascends;
        smallest = small;
        named = λ y h. named_now y (in_either y had.past (x ∷ []) h);
        told = told_now;
      }

      kept_more : IsFirst x → (z : ℕ) → In z values ⊎ In z (x ∷ []) → In z (had.past ++ x ∷ []) × IsFirst z
      kept_more first z (inl h) = let r = (had.smallest z).0 h in (in_left z had.past (x ∷ []) r.0, r.1)
      kept_more first z (inr (inl h)) = (in_right z had.past (x ∷ []) (inl h), subst IsFirst (sym h) first)
      kept_more first z (inr (inr h)) = absurd h

      more_kept : (z : ℕ) → In z had.past ⊎ In z (x ∷ []) → IsFirst z → In z (values ++ x ∷ [])
      more_kept z (inl h) first = in_left z values (x ∷ []) ((had.smallest z).1 (h, first))
      more_kept z (inr h) first = in_right z values (x ∷ []) h

      only_before : (IsFirst x → ⊥) → (z : ℕ) → In z had.past ⊎ In z (x ∷ []) → IsFirst z → In z values
      only_before later z (inl h) first = (had.smallest z).1 (h, first)
      only_before later z (inr (inl h)) first = absurd (later (subst IsFirst h first))
      only_before later z (inr (inr h)) first = absurd h

      not_false : (b : Bool) → not b ≡ true → b ≡ false
      not_false true h = absurd (true≢false (sym h))
      not_false false h = refl

      not_true : (b : Bool) → not b ≡ false → b ≡ true
      not_true true h = refl
      not_true false h = absurd (true≢false h)

      pub walk_keeps : not (has seen key.items) ≡ true → Walks now next (values ++ x ∷ [])
      walk_keeps new =
          let first : IsFirst x = new_first (not_false (has seen key.items) new) in
          carried (values ++ x ∷ []) (rises_behind x values had.ascending (λ z h. front_below x had.past (keys_of next) rising z ((had.smallest z).0 h).0))
          (λ z. (λ h. kept_more first z (in_either z values (x ∷ []) h), λ h. more_kept z (in_either z had.past (x ∷ []) h.0) h.1))

      pub walk_drops : not (has seen key.items) ≡ false → Walks now next values
      walk_drops old =
          let later : IsFirst x → ⊥ = seen_later (not_true (has seen key.items) old) in
          carried values had.ascending
          (λ z. (λ h. let r = (had.smallest z).0 h in (in_left z had.past (x ∷ []) r.0, r.1), λ h. only_before later z (in_either z had.past (x ∷ []) h.0) h.1))
