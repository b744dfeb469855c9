-- The rules of expressions, as the code meets them.
use Rattle.std.proofs.Common.{◌≡◌, ◌≢◌, ℕ, suc, ◌<◌, ◌≤◌, List, [], ◌∷◌, ◌++◌, length, map, get_or, take, Result, Ok, Err, IfOk, IfErr, inl, inr, refl, sym, ap, ◌∙◌, subst}
use Rattle.std.proofs.lemmas.List.{length-map}
use Rattle.std.specs.Result.{IsErrAnd}
use Rattle.kf_value.specs.declared.kind.Kind.{Kind}
use Rattle.kf_value.specs.Kinds.{KindTree, TupleKind, SetKind, kind_parts}
use Rattle.kf_value.specs.declared.kind.KindList.{KindList}
use Rattle.kf_value.specs.Views.{kind_tree, kind_trees, kind_items}
use Rattle.kf_ast.specs.declared.decl.Ident.{Ident}
use Rattle.kf_ast.specs.Views.{name_tree, expr_tree}
use Rattle.kf_ast.specs.declared.expr.Expr.{Expr}
use Rattle.kf_ast.specs.Exprs.{ExprTree, ExprTrees, no_exprs, more_exprs, expr_at, Name, Apply, Tuple, SetOf, Part, exprs}
use Rattle.kf_ast.specs.Built.{expr_count, IsBuilt, AreBuilt}
use Rattle.kf_ops.specs.Fitting.{Takes}
use Rattle.kf_core.specs.declared.ex.Ex.{Ex}
use Rattle.kf_core.specs.Exs.{more_exs}
use Rattle.kf_core.specs.Views.{ex_tree}
use Rattle.kf_core.specs.Exs as ex
use Rattle.kf_core.specs.Each.{exs}
use Rattle.kf_check.specs.declared.errors.TypeError.{TypeError}
use Rattle.kf_check.specs.declared.errors.TypeError.TheVariants as broken
use Rattle.kf_check.specs.declared.typed.TypedEx.{TypedEx}
use Rattle.kf_check.specs.Kinds.{Known, IsCommon, IsPart, IsResult, Judges, JudgesAll}
use Rattle.kf_check.specs.Translation.{ex_of, exs_of}
use Rattle.kf_check.proofs.Kinding.{same_ok}
use Rattle.kf_check.proofs.LawsKinds.{not_unknown}
use Rattle.kf_check.specs.Picks.{names_in, IsFound, HasNoCommon, HasNoPart, HasNoResult}
use Rattle.kf_check.specs.Answers.{AnswersEx}
use Rattle.kf_check.proofs.Each.{Each, around}
use Rattle.kf_check.proofs.Each as each
use Rattle.kf_check.specs.Variables.{IsUnknown}

module _ (known : List Known) where
  -- an expression has this kind, and becomes this one
  abbrev pub HasItsKind : Expr → Kind → Type 0
  HasItsKind x k = Judges known (expr_tree x) (Ok (kind_tree k))

  abbrev pub Becomes : Expr → Ex → Type 0
  Becomes x y = ex_tree y ≡ ex_of (names_in known) (expr_tree x)

  pub all_judged : {xs : List Expr} {ks : List Kind} → Each HasItsKind xs ks → JudgesAll known (exprs (map expr_tree xs)) (Ok (map kind_tree ks))
  all_judged each.none = refl
  all_judged (each.more {y = k} {ys = ks} h hs) = (kind_tree k, h, (map kind_tree ks, all_judged hs, refl))

  pub all_become : {xs : List Expr} {ys : List Ex} → Each Becomes xs ys → exs (map ex_tree ys) ≡ exs_of (names_in known) (exprs (map expr_tree xs))
  all_become each.none = refl
  all_become (each.more {x = x} {ys = ys} h hs) = ap (λ y. more_exs y (exs (map ex_tree ys))) h ∙ ap (λ zs. more_exs (ex_of (names_in known) (expr_tree x)) zs) (all_become hs)

  first_broken : {ps : List Expr} {ks : List Kind} (x : Expr) (rest : List Expr) (e : TypeError) → Each HasItsKind ps ks → Judges known (expr_tree x) (Err e)
      → JudgesAll known (exprs (map expr_tree (ps ++ x ∷ rest))) (Err e)
  first_broken x rest e each.none h = inl h
  first_broken x rest e (each.more {y = k} r rs) h = inr (kind_tree k, r, inl (first_broken x rest e rs h))

  pub all_broken : (xs : List Expr) (ks : List Kind) (i : ℕ) (x : Expr) (e : TypeError) → i < length xs → x ≡ get_or xs i x → Each HasItsKind (take i xs) ks
      → Judges known (expr_tree x) (Err e) → JudgesAll known (exprs (map expr_tree xs)) (Err e)
  all_broken xs ks i x e within read before h =
      let P : List Expr → Type 0 = λ ys. JudgesAll known (exprs (map expr_tree ys)) (Err e) in
      subst P (sym (around xs i x within read)) (first_broken x _ e before h)

  pub counted : (xs : ExprTrees) (ks : List KindTree) → JudgesAll known xs (Ok ks) → expr_count xs ≡ length ks
  counted no_exprs ks h = ap length (sym (same_ok ks [] h))
  counted (more_exprs x xs) ks h = ap suc (counted xs h.2.0 h.2.1) ∙ ap length (sym (same_ok ks (h.0 ∷ h.2.0) h.2.2))

  pub reread : (xs : ExprTrees) (l : KindList) (s : List Kind) → s ≡ kind_items l → JudgesAll known xs (Ok (kind_trees l)) → JudgesAll known xs (Ok (map kind_tree s))
  reread xs l s same h = let P : List Kind → Type 0 = λ ks. JudgesAll known xs (Ok (map kind_tree ks)) in subst P (sym same) h

  -- an error is passed on
  pub fails : (x : ExprTree) (r : Result TypedEx TypeError) (e : TypeError) → IsErrAnd r (λ f. f ≡ e) → (e ≢ broken.Mem → Judges known x (Err e)) → AnswersEx known x r
  fails x (Ok t) e h told = absurd h
  fails x (Err f) e h told = let P : TypeError → Type 0 = λ g. g ≢ broken.Mem → Judges known x (Err g) in subst P (sym h) told

  pub answered : (x y : ExprTree) (r : Result TypedEx TypeError) → x ≡ y → AnswersEx known y r → AnswersEx known x r
  answered x y r same h = let P : ExprTree → Type 0 = λ z. AnswersEx known z r in subst P (sym same) h

  -- a name is that of a variable or of none
  module _ (x : Ident) (text : List ℕ) (reads : text ≡ x.text) where
    pub variable_found : (at i : ℕ) (k : KindTree) → IsFound known text i k → Judges known (expr_at at (Name (name_tree x))) (Ok k) × (ex.Slot i ≡ ex_of (names_in known) (expr_at at (Name (name_tree x))))
    variable_found at i k h =
        let here : IsFound known x.text i k = subst (λ t. IsFound known t i k) reads h in
        ((i, here.0), ap ex.Slot (sym here.1))

    pub variable_unknown : (at : ℕ) → IsUnknown known text → Judges known (expr_at at (Name (name_tree x))) (Err (broken.Unknown x.at))
    variable_unknown at h = let unheard = subst (IsUnknown known) reads h in (λ k g. not_unknown known x.text g.0 k g.1 unheard, refl)

  -- a tree that is shown to be another
  as_shown : (x y : ExprTree) → x ≡ y → (r : Result KindTree TypeError) → Judges known y r → Judges known x r
  as_shown x y same r h = subst (λ z. Judges known z r) (sym same) h

  module _ (x : ExprTree) (at row : ℕ) (xs items : List Expr) (shown : x ≡ expr_at at (Apply row (exprs (map expr_tree items)))) (same : xs ≡ items) where
    pub applied : x ≡ expr_at at (Apply row (exprs (map expr_tree xs)))
    applied = shown ∙ ap (λ ys. expr_at at (Apply row (exprs (map expr_tree ys)))) (sym same)

    pub apply_built : IsBuilt Takes x → Takes row (expr_count (exprs (map expr_tree xs))) × AreBuilt Takes (exprs (map expr_tree xs))
    apply_built h = subst (IsBuilt Takes) applied h

    pub apply_takes : (ks : List KindTree) → IsBuilt Takes x → JudgesAll known (exprs (map expr_tree xs)) (Ok ks) → Takes row (length ks)
    apply_takes ks built h = subst (Takes row) (counted (exprs (map expr_tree xs)) ks h) (apply_built built).0

    pub apply_broken : (e : TypeError) → JudgesAll known (exprs (map expr_tree xs)) (Err e) → Judges known x (Err e)
    apply_broken e h = as_shown x _ applied (Err e) (inl h)

  module _ (x : ExprTree) (at : ℕ) (xs items : List Expr) (shown : x ≡ expr_at at (Tuple (exprs (map expr_tree items)))) (same : xs ≡ items) where
    in_tuple : x ≡ expr_at at (Tuple (exprs (map expr_tree xs)))
    in_tuple = shown ∙ ap (λ ys. expr_at at (Tuple (exprs (map expr_tree ys)))) (sym same)

    pub tuple_broken : (e : TypeError) → JudgesAll known (exprs (map expr_tree xs)) (Err e) → Judges known x (Err e)
    tuple_broken e h = as_shown x _ in_tuple (Err e) (inl h)

    pub tuple_judged : (ks : List KindTree) → JudgesAll known (exprs (map expr_tree xs)) (Ok ks) → Judges known x (Ok (TupleKind (kind_parts ks)))
    tuple_judged ks h = as_shown x _ in_tuple (Ok (TupleKind (kind_parts ks))) (ks, h, refl)

    pub tuple_becomes : (ys : List Ex) → exs (map ex_tree ys) ≡ exs_of (names_in known) (exprs (map expr_tree xs)) → ex.Tuple (exs (map ex_tree ys)) ≡ ex_of (names_in known) x
    tuple_becomes ys h = ap ex.Tuple h ∙ sym (ap (ex_of (names_in known)) in_tuple)

  module _ (x : ExprTree) (at : ℕ) (xs items : List Expr) (shown : x ≡ expr_at at (SetOf (exprs (map expr_tree items)))) (same : xs ≡ items) where
    pub in_set : x ≡ expr_at at (SetOf (exprs (map expr_tree xs)))
    in_set = shown ∙ ap (λ ys. expr_at at (SetOf (exprs (map expr_tree ys)))) (sym same)

    pub set_built : IsBuilt Takes x → (1 ≤ expr_count (exprs (map expr_tree xs))) × AreBuilt Takes (exprs (map expr_tree xs))
    set_built h = subst (IsBuilt Takes) in_set h

    pub set_some : (ks : List KindTree) → IsBuilt Takes x → JudgesAll known (exprs (map expr_tree xs)) (Ok ks) → 1 ≤ length ks
    set_some ks built h = let P : ℕ → Type 0 = λ n. 1 ≤ n in subst P (counted (exprs (map expr_tree xs)) ks h) (set_built built).0

    pub set_broken : (e : TypeError) → JudgesAll known (exprs (map expr_tree xs)) (Err e) → Judges known x (Err e)
    set_broken e h = as_shown x _ in_set (Err e) (inl h)

  module _ (x : ExprTree) (at n : ℕ) (y : ExprTree) (shown : x ≡ expr_at at (Part y n)) where
    pub part_broken : (e : TypeError) → Judges known y (Err e) → Judges known x (Err e)
    part_broken e h = as_shown x _ shown (Err e) (inl h)

  -- ---- what is made of parts that are read
  module _ (at : ℕ) (xs : ExprTrees) (l : KindList) (s : List Kind) (same : s ≡ kind_items l) (judged : JudgesAll known xs (Ok (kind_trees l))) where
    read : JudgesAll known xs (Ok (map kind_tree s))
    read = reread xs l s same judged

    pub apply_clashes : (row : ℕ) (e : TypeError) → (e ≡ broken.Clash at) × HasNoResult row (map kind_tree s) → Judges known (expr_at at (Apply row xs)) (Err e)
    apply_clashes row e h =
        let P : TypeError → Type 0 = λ f. Judges known (expr_at at (Apply row xs)) (Err f) in
        subst P (sym h.0) (inr (map kind_tree s, read, (λ k q. h.1 q.0 q.1 q.2 q.3, refl)))

    pub apply_judged : (row : ℕ) (k : KindTree) → IsResult row (map kind_tree s) k → Judges known (expr_at at (Apply row xs)) (Ok k)
    apply_judged row k result = (map kind_tree s, read, result)

    pub set_clashes : (e : TypeError) → (e ≡ broken.Clash at) × HasNoCommon (map kind_tree s) → Judges known (expr_at at (SetOf xs)) (Err e)
    set_clashes e h =
        let P : TypeError → Type 0 = λ f. Judges known (expr_at at (SetOf xs)) (Err f) in
        subst P (sym h.0) (inr (map kind_tree s, read, inl (h.1, refl)))

    pub set_judged : (k : KindTree) → IsCommon (map kind_tree s) k → Judges known (expr_at at (SetOf xs)) (Ok (SetKind k))
    set_judged k common = (map kind_tree s, read, (k, common, refl))

  module _ (at n : ℕ) (x : ExprTree) (j : KindTree) (judged : Judges known x (Ok j)) where
    pub part_clashes : (found : Result Kind TypeError) (e : TypeError) → found ≡ Err e → IfErr found (λ f. f ≢ broken.Mem → (f ≡ broken.Clash at) × HasNoPart j n) → e ≢ broken.Mem → Judges known (expr_at at (Part x n)) (Err e)
    part_clashes found e is h other =
        let P : TypeError → Type 0 = λ f. Judges known (expr_at at (Part x n)) (Err f) in
        let none = subst (λ r. IfErr r (λ f. f ≢ broken.Mem → (f ≡ broken.Clash at) × HasNoPart j n)) is h other in
        subst P (sym none.0) (inr (j, judged, (none.1, refl)))

    pub part_judged : (found : Result Kind TypeError) (k : Kind) → found ≡ Ok k → IfOk found (λ p. IsPart j n (kind_tree p)) → Judges known (expr_at at (Part x n)) (Ok (kind_tree k))
    part_judged found k is h = (j, judged, subst (λ r. IfOk r (λ p. IsPart j n (kind_tree p))) is h)

-- an element of a list of well-built expressions
built_behind : (ps : List Expr) (x : Expr) (rest : List Expr) → AreBuilt Takes (exprs (map expr_tree (ps ++ x ∷ rest))) → IsBuilt Takes (expr_tree x)
built_behind [] x rest h = h.0
built_behind (p ∷ ps) x rest h = built_behind ps x rest h.1

pub built_at : (xs : List Expr) (i : ℕ) (x : Expr) → i < length xs → x ≡ get_or xs i x → AreBuilt Takes (exprs (map expr_tree xs)) → IsBuilt Takes (expr_tree x)
built_at xs i x within read h =
    let P : List Expr → Type 0 = λ ys. AreBuilt Takes (exprs (map expr_tree ys)) in
    built_behind (take i xs) x _ (subst P (around xs i x within read) h)

-- a list that is read out of a list of kinds is as long
module _ (l : KindList) (s : List Kind) (same : s ≡ kind_items l) where
  as_long : length (kind_trees l) ≡ length s
  as_long = length-map (kind_items l) kind_tree ∙ ap length (sym same)

  pub takes_slice : (row : ℕ) → Takes row (length (kind_trees l)) → Takes row (length s)
  takes_slice row h = subst (Takes row) as_long h

  pub some_slice : 1 ≤ length (kind_trees l) → 1 ≤ length s
  some_slice h = let P : ℕ → Type 0 = λ n. 1 ≤ n in subst P as_long h
