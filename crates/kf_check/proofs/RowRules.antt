-- The kinds that an operator takes, as the code meets them.
use Rattle.std.proofs.Common.{◌≡◌, ℕ, ◌+◌, ◌<◌, ◌≤◌, ◌⊎◌, ⊎_elim, Box, Global, Result, Ok, Err, IfOk, List, [], ◌∷◌, ◌++◌, length, map, take, get_or, slice_get, Some, ltb, Bool, true, refl, sym, ap, ◌∙◌, subst, arith}
use Rattle.std.specs.List.{list_all}
use Rattle.std.specs.Option.{option_map}
use Rattle.std.proofs.lemmas.Bool.Decides.{Decides-ltb}
use Rattle.std.proofs.lemmas.Option.{slice_get-map, slice_get-get_or, slice_get_within}
use Rattle.std.proofs.lemmas.List.{length-map, map-append, take_more, take_all}
use Rattle.kf_value.specs.declared.kind.Kind.{Kind, Kind-F, out-Kind, roll-Kind, roll-out-Kind}
use Rattle.kf_value.specs.declared.kind.KindList.{KindList}
use Rattle.kf_value.specs.declared.kind.Kind.TheVariants as kind
use Rattle.kf_value.specs.Kinds.{KindTree, TruthKind, WholeKind, TupleKind, SetKind, kind_parts}
use Rattle.kf_value.specs.Views.{kind_tree, kind_trees}
use Rattle.kf_ops.specs.declared.row.Pat.{Pat}
use Rattle.kf_ops.specs.declared.row.Pat.TheVariants as pat
use Rattle.kf_ops.specs.declared.row.OpRow.{OpRow}
use Rattle.kf_ops.specs.Rows.{Row, operators}
use Rattle.kf_ops.specs.Views.{row_of, rows_of}
use Rattle.kf_ops.specs.Fitting.{Takes}
use Rattle.kf_ops.specs.Places.{IsRow, pattern_kind}
use Rattle.kf_check.specs.Kinds.{IsResult}
use Rattle.kf_check.specs.Picks.{HasNoResult, Fit}
use Rattle.kf_check.proofs.Each.{mapped_read}
use Rattle.kf_check.proofs.LawsFits.{all_at}
use Rattle.kf_check.proofs.Nodes.{kind_tree-Bool, kind_tree-Int, kind_tree-Tuple, kind_tree-Set}

-- where the kinds are those of the patterns, the first patterns don't tell what `Any` stands for
abbrev pub Unsettled : List Pat → List Kind → ℕ → Type 0
Unsettled ps ks i = (any other : KindTree) → map kind_tree ks ≡ map (pattern_kind any) ps → map (pattern_kind any) (take i ps) ≡ map (pattern_kind other) (take i ps)

get_or_mapped : {A B : Type 0} (f : A → B) (xs : List A) (i : ℕ) (d : A) → i < length xs → slice_get (map f xs) i ≡ Some (f (get_or xs i d))
get_or_mapped f xs i d within = slice_get-map f xs i ∙ ap (option_map f) (slice_get-get_or xs i d within)

-- ---- the kinds at one place

pub other_pattern : (p : Pat) (any : KindTree) → (p ≡ pat.Bool → ⊥) → (p ≡ pat.Int → ⊥) → (p ≡ pat.SetOfAny → ⊥) → pattern_kind any p ≡ any
other_pattern pat.Bool any no_truth no_whole no_set = absurd (no_truth refl)
other_pattern pat.Int any no_truth no_whole no_set = absurd (no_whole refl)
other_pattern pat.SetOfAny any no_truth no_whole no_set = absurd (no_set refl)
other_pattern pat.Any any no_truth no_whole no_set = refl
other_pattern pat.Nothing any no_truth no_whole no_set = refl

-- only a set's kind reads as one
no_set_kind : (x : Kind) (k : KindTree) → ((of : Box Kind Global) → x ≡ kind.Set of → ⊥) → kind_tree x ≡ SetKind k → ⊥
no_set_kind x k other is = by (out-Kind x) (roll-out-Kind x)
  where
    by : (f : Kind-F Kind KindList) → roll-Kind f ≡ x → ⊥
    by Kind-F.Bool e = let h : TruthKind ≡ SetKind k = sym kind_tree-Bool ∙ (ap kind_tree (sym kind.rolls-Bool ∙ e) ∙ is) in cc
    by Kind-F.Int e = let h : WholeKind ≡ SetKind k = sym kind_tree-Int ∙ (ap kind_tree (sym kind.rolls-Int ∙ e) ∙ is) in cc
    by (Kind-F.Tuple parts) e = let h : TupleKind (kind_parts (kind_trees parts)) ≡ SetKind k = sym (kind_tree-Tuple parts) ∙ (ap kind_tree (sym (kind.rolls-Tuple parts) ∙ e) ∙ is) in cc
    by (Kind-F.Set of) e = other of (sym (sym (kind.rolls-Set of) ∙ e))

module _ (ps : List Pat) (ks : List Kind) (i : ℕ) (d : Pat) (within : i < length ps) (within' : i < length ks) where
  -- the kind there is the pattern's
  pub kind_at : (x : Kind) (any : KindTree) → x ≡ get_or ks i x → map kind_tree ks ≡ map (pattern_kind any) ps → kind_tree x ≡ pattern_kind any (get_or ps i d)
  kind_at x any read same =
      let both : Some (kind_tree x) ≡ Some (pattern_kind any (get_or ps i d)) =
      sym (mapped_read kind_tree ks i x within' read) ∙ (ap (λ zs. slice_get zs i) same ∙ get_or_mapped (pattern_kind any) ps i d within) in
      cc

  taken : (any : KindTree) → map (pattern_kind any) (take (i + 1) ps) ≡ map (pattern_kind any) (take i ps) ++ pattern_kind any (get_or ps i d) ∷ []
  taken any = ap (map (pattern_kind any)) (take_more ps i d within) ∙ map-append (pattern_kind any) (take i ps) (get_or ps i d ∷ [])

  still : (any other : KindTree) → map (pattern_kind any) (take i ps) ≡ map (pattern_kind other) (take i ps) → pattern_kind any (get_or ps i d) ≡ pattern_kind other (get_or ps i d)
      → map (pattern_kind any) (take (i + 1) ps) ≡ map (pattern_kind other) (take (i + 1) ps)
  still any other before here =
      taken any ∙ (ap (λ zs. zs ++ pattern_kind any (get_or ps i d) ∷ []) before ∙ (ap (λ z. map (pattern_kind other) (take i ps) ++ z ∷ []) here ∙ sym (taken other)))

  -- a turn at a pattern that stands for one kind alone
  pub unsettled_plain : (get_or ps i d ≡ pat.Bool) ⊎ (get_or ps i d ≡ pat.Int) → Unsettled ps ks i → Unsettled ps ks (i + 1)
  unsettled_plain is before any other same =
      let at : (p : Pat) → get_or ps i d ≡ p → pattern_kind any p ≡ pattern_kind other p → pattern_kind any (get_or ps i d) ≡ pattern_kind other (get_or ps i d) =
      λ p e h. ap (pattern_kind any) e ∙ (h ∙ sym (ap (pattern_kind other) e)) in
      still any other (before any other same) (⊎_elim (λ e. at pat.Bool e refl) (λ e. at pat.Int e refl) is)

  -- a turn at a set's pattern where there is no set
  pub unsettled_no_set : (x : Kind) → get_or ps i d ≡ pat.SetOfAny → x ≡ get_or ks i x → ((of : Box Kind Global) → x ≡ kind.Set of → ⊥) → Unsettled ps ks (i + 1)
  unsettled_no_set x is here no_set any other same = absurd (no_set_kind x any no_set (kind_at x any here same ∙ ap (pattern_kind any) is))

  -- what `Any` stands for where a pattern tells it
  pub told_by_set : (x : Kind) (of : Box Kind Global) (read copied : Kind) (any : KindTree) → get_or ps i d ≡ pat.SetOfAny → x ≡ get_or ks i x → x ≡ kind.Set of → read ≡ of.value
      → kind_tree copied ≡ kind_tree read → map kind_tree ks ≡ map (pattern_kind any) ps → map kind_tree ks ≡ map (pattern_kind (kind_tree copied)) ps
  told_by_set x of read copied any is here set reads copies same =
      let there : SetKind (kind_tree of.value) ≡ SetKind any = sym (ap kind_tree set ∙ kind_tree-Set of) ∙ (kind_at x any here same ∙ ap (pattern_kind any) is) in
      let inner : kind_tree of.value ≡ any = cc in
      let found : any ≡ kind_tree copied = sym (copies ∙ (ap kind_tree reads ∙ inner)) in
      subst (λ k. map kind_tree ks ≡ map (pattern_kind k) ps) found same

  pub told_by_kind : (x copied : Kind) (any : KindTree) → (get_or ps i d ≡ pat.Bool → ⊥) → (get_or ps i d ≡ pat.Int → ⊥) → (get_or ps i d ≡ pat.SetOfAny → ⊥) → x ≡ get_or ks i x
      → kind_tree copied ≡ kind_tree x → map kind_tree ks ≡ map (pattern_kind any) ps → map kind_tree ks ≡ map (pattern_kind (kind_tree copied)) ps
  told_by_kind x copied any no_truth no_whole no_set here copies same =
      let found : any ≡ kind_tree copied = sym (copies ∙ (kind_at x any here same ∙ other_pattern (get_or ps i d) any no_truth no_whole no_set)) in
      subst (λ k. map kind_tree ks ≡ map (pattern_kind k) ps) found same

-- at the end of the loop every kind does as well
pub unsettled_end : (ps : List Pat) (ks : List Kind) (i : ℕ) (any other : KindTree) → length ps ≤ i → Unsettled ps ks i → map kind_tree ks ≡ map (pattern_kind any) ps
    → map kind_tree ks ≡ map (pattern_kind other) ps
unsettled_end ps ks i any other past before same =
    let whole = take_all i ps past in
    same ∙ subst (λ qs. map (pattern_kind any) qs ≡ map (pattern_kind other) qs) whole (before any other same)

pub where_ok : {T E : Type 0} {P Q : T → Type 0} (r : Result T E) → IfOk r P → ((x : T) → P x → Q x) → IfOk r Q
where_ok (Ok x) h f = f x h
where_ok (Err e) h f = tt

-- ---- the row at a place

abbrev takes_few : Row → Bool
takes_few r = ltb r.arity 4

operators_take_few : list_all takes_few operators ≡ true
operators_take_few = refl

pub few_taken : (place n : ℕ) → Takes place n → n ≤ 3
few_taken place n takes =
    let below : takes.0.arity < 4 = (Decides-ltb takes.0.arity 4).0 (all_at takes_few operators place takes.0 operators_take_few takes.1) in
    omega (arith, takes.2)

pub row_there : (place n : ℕ) → Takes place n → place < length operators
row_there place n takes = slice_get_within operators place takes.0 takes.1

module _ (table : List OpRow) (place n : ℕ) (d : OpRow) (same : rows_of table ≡ operators) (takes : Takes place n) where
  within : place < length table
  within = subst (λ m. place < m) (sym (ap length same) ∙ length-map table row_of) (slice_get_within operators place takes.0 takes.1)

  here : IsRow place (row_of (get_or table place d))
  here = ap (λ rows. slice_get rows place) (sym same) ∙ get_or_mapped row_of table place d within

  one_row : (r : Row) → IsRow place r → r ≡ row_of (get_or table place d)
  one_row r found = let both : Some r ≡ Some (row_of (get_or table place d)) = sym found ∙ here in cc

  as_many : (get_or table place d).arity ≡ n
  as_many = sym (ap (λ (r : Row). r.arity) (one_row takes.0 takes.1)) ∙ takes.2

  pub row_gives : (ks : List KindTree) (any k : KindTree) → ks ≡ map (pattern_kind any) (take n (get_or table place d).args) → k ≡ pattern_kind any (get_or table place d).result → IsResult place ks k
  row_gives ks any k fit is = (row_of (get_or table place d), any, here, subst (λ m. ks ≡ map (pattern_kind any) (take m (get_or table place d).args)) (sym as_many) fit, is)

  pub row_takes_none : (ks : List KindTree) (found : KindTree)
      → ((any : KindTree) → ks ≡ map (pattern_kind any) (take n (get_or table place d).args) → ks ≡ map (pattern_kind found) (take n (get_or table place d).args))
      → (ks ≡ map (pattern_kind found) (take n (get_or table place d).args) → ⊥) → HasNoResult place ks
  row_takes_none ks found as_found none r any is fit =
      let here_fit : Fit (row_of (get_or table place d)) any ks = subst (λ s. Fit s any ks) (one_row r is) fit in
      none (as_found any (subst (λ m. ks ≡ map (pattern_kind any) (take m (get_or table place d).args)) as_many here_fit))
