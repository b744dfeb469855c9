-- The rules of distributions, as the code meets them.
use Rattle.std.proofs.Common.{◌≡◌, ◌≢◌, ℕ, ◌<◌, ◌≤◌, ◌⊎◌, List, [], ◌∷◌, ◌++◌, length, map, get_or, take, Result, Ok, Err, IfOk, IfErr, inl, inr, refl, sym, ap, ◌∙◌, subst, rules, arith}
use Rattle.std.specs.Result.{IsErrAnd}
use Rattle.kf_value.specs.declared.kind.Kind.{Kind}
use Rattle.kf_value.specs.Kinds.{KindTree, TruthKind, WholeKind, SetKind}
use Rattle.kf_value.specs.Views.{kind_tree}
use Rattle.kf_ast.specs.declared.dist.Case.{Case}
use Rattle.kf_ast.specs.declared.dist.Dist.{Dist}
use Rattle.kf_ast.specs.declared.dist.DistNode.TheVariants as node
use Rattle.kf_ast.specs.declared.expr.Expr.{Expr, the_lemmas as expr_lemmas}
use Rattle.kf_ast.specs.Exprs.{place}
use Rattle.kf_ast.specs.Views.{expr_tree, case_tree, dist_tree, dist_shape}
use Rattle.kf_ast.specs.Dists.{DistTree, dist_at, Sure, UniformSet, Choose, Flip}
use Rattle.kf_ast.specs.Built.{IsBuilt, AreCasesBuilt}
use Rattle.kf_ops.specs.Fitting.{Takes}
use Rattle.kf_core.specs.declared.dx.DxCase.{DxCase}
use Rattle.kf_core.specs.declared.dx.Dx.{Dx}
use Rattle.kf_core.specs.Exs.{ExTree}
use Rattle.kf_core.specs.Views.{ex_tree, dx_tree, dx_case_tree}
use Rattle.kf_core.specs.Dxs.{DxTree, dx_at}
use Rattle.kf_core.specs.Dxs as dx
use Rattle.kf_check.specs.declared.errors.TypeError.{TypeError}
use Rattle.kf_check.specs.declared.errors.TypeError.TheVariants as broken
use Rattle.kf_core.specs.declared.ex.Ex.{Ex}
use Rattle.kf_check.specs.declared.typed.TypedEx.{TypedEx}
use Rattle.kf_check.specs.declared.typed.TypedDx.{TypedDx}
use Rattle.kf_check.specs.Kinds.{Known, Judges, JudgesPair, JudgesCases, JudgesDist, AsksDist}
use Rattle.kf_check.specs.Translation.{ex_of, dx_of, dx_case_of}
use Rattle.kf_check.proofs.Judging.{past}
use Rattle.kf_check.specs.Picks.{HasNoElement, names_in}
use Rattle.kf_check.specs.Answers.{AnswersEx, AnswersCase, AnswersDx, AnswersAskedDx}
use Rattle.kf_check.proofs.Each.{Each, around}
use Rattle.kf_check.proofs.Each as each

expr_place : (x : Expr) → place (expr_tree x) ≡ x.at
expr_place x = search (rules, expr_lemmas)

not_chance : (num den : ℕ) → (den ≡ 0) ⊎ (den < num) → (1 ≤ den) × (num ≤ den) → ⊥
not_chance num den (inl e) h = let some = h.0 in omega arith
not_chance num den (inr e) h = let low = h.1 in omega arith

-- an expression that was asked for its kind
pub asked_beside : (t : TypedEx) (k : KindTree) (found : Result Ex TypeError) (x : Ex) → found ≡ Ok x → IfOk found (λ y. (y ≡ t.ex) × (kind_tree t.kind ≡ k)) → (x ≡ t.ex) × (kind_tree t.kind ≡ k)
asked_beside t k found x is h = subst (λ r. IfOk r (λ y. (y ≡ t.ex) × (kind_tree t.kind ≡ k))) is h

pub clash_beside : (t : TypedEx) (k : KindTree) (at : ℕ) (found : Result Ex TypeError) (e : TypeError) → found ≡ Err e → IfErr found (λ f. (f ≡ broken.Clash at) × (kind_tree t.kind ≡ k → ⊥)) → (e ≡ broken.Clash at) × (kind_tree t.kind ≡ k → ⊥)
clash_beside t k at found e is h = subst (λ r. IfErr r (λ f. (f ≡ broken.Clash at) × (kind_tree t.kind ≡ k → ⊥))) is h

module _ (known : List Known) where
  -- an error is passed on
  pub fails_dist : (d : DistTree) (r : Result TypedDx TypeError) (e : TypeError) → IsErrAnd r (λ f. f ≡ e) → (e ≢ broken.Mem → JudgesDist known d (Err e)) → AnswersDx known d r
  fails_dist d (Ok t) e h told = absurd h
  fails_dist d (Err f) e h told = let P : TypeError → Type 0 = λ g. g ≢ broken.Mem → JudgesDist known d (Err g) in subst P (sym h) told

  pub fails_asked : (k : KindTree) (d : DistTree) (r : Result Dx TypeError) (e : TypeError) → IsErrAnd r (λ f. f ≡ e) → (e ≢ broken.Mem → AsksDist known k d (Err e))
      → AnswersAskedDx known k d r
  fails_asked k d (Ok t) e h told = absurd h
  fails_asked k d (Err f) e h told = let P : TypeError → Type 0 = λ g. g ≢ broken.Mem → AsksDist known k d (Err g) in subst P (sym h) told

  -- a distribution that was asked for its kind
  pub asked_answers : (k : KindTree) (d : Dist) (t : TypedDx) → AnswersDx known (dist_tree d) (Ok t) → (r : Result Dx TypeError) → IfOk r (λ x. (x ≡ t.dx) × (kind_tree t.kind ≡ k))
      → IfErr r (λ e. (e ≡ broken.Clash d.at) × (kind_tree t.kind ≡ k → ⊥)) → AnswersAskedDx known k (dist_tree d) r
  asked_answers k d t typed (Ok x) ok err = ((kind_tree t.kind, typed.0, (ok.1, refl)), ap dx_tree ok.0 ∙ typed.1)
  asked_answers k d t typed (Err e) ok err = λ told.
      let P : TypeError → Type 0 = λ f. AsksDist known k (dist_tree d) (Err f) in
      subst P (sym err.0) (inr (kind_tree t.kind, typed.0, (λ j q. err.1 q.0, refl)))

  -- what was read beside an expression that is held
  pub read_beside : (x : Expr) (found r : Result TypedEx TypeError) → found ≡ r → AnswersEx known (expr_tree x) found → AnswersEx known (expr_tree x) r
  read_beside x found r is h = subst (AnswersEx known (expr_tree x)) is h

  pub held_beside : (x : Expr) (t u : TypedEx) → u ≡ t → AnswersEx known (expr_tree x) (Ok t) → AnswersEx known (expr_tree x) (Ok u)
  held_beside x t u is h = subst (λ v. AnswersEx known (expr_tree x) (Ok v)) (sym is) h

  pub fails_case : (k : KindTree) (c : Case) (r : Result DxCase TypeError) (e : TypeError) → IsErrAnd r (λ f. f ≡ e)
      → (e ≢ broken.Mem → JudgesPair known k (expr_tree c.value) (expr_tree c.weight) (Err e)) → AnswersCase known k (case_tree c) r
  fails_case k c (Ok t) e h told = absurd h
  fails_case k c (Err f) e h told = let P : TypeError → Type 0 = λ g. g ≢ broken.Mem → JudgesPair known k (expr_tree c.value) (expr_tree c.weight) (Err g) in subst P (sym h) told

  -- a distribution that was made of its parts
  pub made : (d : DistTree) (r : TypedDx) (k : KindTree) (y : DxTree) → kind_tree r.kind ≡ k → dx_tree r.dx ≡ y → JudgesDist known d (Ok k) → y ≡ dx_of (names_in known) d
      → AnswersDx known d (Ok r)
  made d r k y kind dist judged is =
      (let P : KindTree → Type 0 = λ j. JudgesDist known d (Ok j) in subst P (sym kind) judged, dist ∙ is)

  -- a tree that is shown to be another
  as_shown : (d e : DistTree) → d ≡ e → (r : Result KindTree TypeError) → JudgesDist known e r → JudgesDist known d r
  as_shown d e same r h = subst (λ z. JudgesDist known z r) (sym same) h

  -- ---- one value for certain
  module _ (d : Dist) (x : Expr) (is : d.node ≡ node.Sure x) where
    is_sure : dist_tree d ≡ dist_at d.at (Sure (expr_tree x))
    is_sure = ap (λ n. dist_at d.at (dist_shape n)) is

    pub sure_judged : (r : Result KindTree TypeError) → Judges known (expr_tree x) r → JudgesDist known (dist_tree d) r
    sure_judged r h = as_shown (dist_tree d) _ is_sure r h

    pub sure_becomes : (y : ExTree) → y ≡ ex_of (names_in known) (expr_tree x) → dx_at d.at (dx.Sure y) ≡ dx_of (names_in known) (dist_tree d)
    sure_becomes y h = ap (λ z. dx_at d.at (dx.Sure z)) h ∙ sym (ap (dx_of (names_in known)) is_sure)

  -- ---- each element of a set
  module _ (d : Dist) (x : Expr) (is : d.node ≡ node.UniformSet x) where
    is_set : dist_tree d ≡ dist_at d.at (UniformSet (expr_tree x))
    is_set = ap (λ n. dist_at d.at (dist_shape n)) is

    pub set_broken : (e : TypeError) → Judges known (expr_tree x) (Err e) → JudgesDist known (dist_tree d) (Err e)
    set_broken e h = as_shown (dist_tree d) _ is_set (Err e) (inl h)

    pub set_clashes : (j : KindTree) (found : Result Kind TypeError) (e : TypeError) → Judges known (expr_tree x) (Ok j) → found ≡ Err e → IfErr found (λ f. f ≢ broken.Mem → (f ≡ broken.Clash x.at) × HasNoElement j) → e ≢ broken.Mem
        → JudgesDist known (dist_tree d) (Err e)
    set_clashes j found e h failed told other =
        let none = subst (λ r. IfErr r (λ f. f ≢ broken.Mem → (f ≡ broken.Clash x.at) × HasNoElement j)) failed told other in
        let P : TypeError → Type 0 = λ f. JudgesDist known (dist_tree d) (Err f) in
        subst P (sym (none.0 ∙ ap broken.Clash (sym (expr_place x)))) (as_shown (dist_tree d) _ is_set (Err (broken.Clash (place (expr_tree x)))) (inr (j, h, (none.1, refl))))

    pub set_judged : (j : KindTree) (found : Result Kind TypeError) (k : Kind) → Judges known (expr_tree x) (Ok j) → found ≡ Ok k → IfOk found (λ element. j ≡ SetKind (kind_tree element)) → JudgesDist known (dist_tree d) (Ok (kind_tree k))
    set_judged j found k h is set = as_shown (dist_tree d) _ is_set (Ok (kind_tree k)) (j, h, subst (λ r. IfOk r (λ element. j ≡ SetKind (kind_tree element))) is set)

    pub set_becomes : (y : ExTree) → y ≡ ex_of (names_in known) (expr_tree x) → dx_at d.at (dx.UniformSet y) ≡ dx_of (names_in known) (dist_tree d)
    set_becomes y h = ap (λ z. dx_at d.at (dx.UniformSet z)) h ∙ sym (ap (dx_of (names_in known)) is_set)

  -- ---- a flip
  module _ (d : Dist) (num den : ℕ) (is : d.node ≡ node.Flip num den) where
    is_flip : dist_tree d ≡ dist_at d.at (Flip num den)
    is_flip = ap (λ n. dist_at d.at (dist_shape n)) is

    pub bad_flip : (den ≡ 0) ⊎ (den < num) → JudgesDist known (dist_tree d) (Err (broken.BadFlip d.at))
    bad_flip h = as_shown (dist_tree d) _ is_flip (Err (broken.BadFlip d.at)) (λ k q. not_chance num den h q.0, refl)

    pub flip_judged : 1 ≤ den → num ≤ den → JudgesDist known (dist_tree d) (Ok TruthKind)
    flip_judged some few = as_shown (dist_tree d) _ is_flip (Ok TruthKind) ((some, few), refl)

    pub flip_becomes : dx_at d.at (dx.Flip num den) ≡ dx_of (names_in known) (dist_tree d)
    flip_becomes = sym (ap (dx_of (names_in known)) is_flip)

  -- ---- two expressions of which kinds are asked
  module _ (k : KindTree) (x y : Expr) (j i : KindTree) (first : Judges known (expr_tree x) (Ok j)) (second : Judges known (expr_tree y) (Ok i)) where
    pub first_clashes : (j ≡ k → ⊥) → JudgesPair known k (expr_tree x) (expr_tree y) (Err (broken.Clash x.at))
    first_clashes differ =
        let P : ℕ → Type 0 = λ n. JudgesPair known k (expr_tree x) (expr_tree y) (Err (broken.Clash n)) in
        subst P (expr_place x) (inr (j, first, inr (i, second, inl (λ z q. differ q.0, refl))))

    pub second_clashes : j ≡ k → (i ≡ WholeKind → ⊥) → JudgesPair known k (expr_tree x) (expr_tree y) (Err (broken.Clash y.at))
    second_clashes same differ =
        let P : ℕ → Type 0 = λ n. JudgesPair known k (expr_tree x) (expr_tree y) (Err (broken.Clash n)) in
        subst P (expr_place y) (inr (j, first, inr (i, second, inr (k, (same, refl), inl (λ z q. differ q.0, refl)))))

    pub pair_judged : j ≡ k → i ≡ WholeKind → JudgesPair known k (expr_tree x) (expr_tree y) (Ok k)
    pair_judged same whole = (j, first, (i, second, (k, (same, refl), (WholeKind, (whole, refl), refl))))

  -- ---- the cases of a `choose` whose values are of this kind
  module _ (k : KindTree) where
    abbrev pub IsCase : Case → DxCase → Type 0
    IsCase c t = JudgesPair known k (expr_tree c.value) (expr_tree c.weight) (Ok k) × (ex_tree t.value ≡ ex_of (names_in known) (expr_tree c.value)) × (ex_tree t.weight ≡ ex_of (names_in known) (expr_tree c.weight))

    pub cases_judged : {cs : List Case} {ts : List DxCase} → Each IsCase cs ts → JudgesCases known k (map case_tree cs) (Ok k)
    cases_judged each.none = refl
    cases_judged (each.more h hs) = (k, h.0, cases_judged hs)

    pub cases_become : {cs : List Case} {ts : List DxCase} → Each IsCase cs ts → map dx_case_tree ts ≡ map (dx_case_of (names_in known)) (map case_tree cs)
    cases_become each.none = refl
    cases_become (each.more {x = c} {y = t} {ys = ts} h hs) =
        ap (λ a. dx.case_of a (ex_tree t.weight) ∷ map dx_case_tree ts) h.1 ∙ ap (λ b. dx.case_of (ex_of (names_in known) (expr_tree c.value)) b ∷ map dx_case_tree ts) h.2
        ∙ ap (λ ds. dx.case_of (ex_of (names_in known) (expr_tree c.value)) (ex_of (names_in known) (expr_tree c.weight)) ∷ ds) (cases_become hs)

    first_broken : {ps : List Case} {ts : List DxCase} (c : Case) (rest : List Case) (e : TypeError) → Each IsCase ps ts → JudgesPair known k (expr_tree c.value) (expr_tree c.weight) (Err e)
        → JudgesCases known k (map case_tree (ps ++ c ∷ rest)) (Err e)
    first_broken c rest e each.none h = inl h
    first_broken c rest e (each.more r rs) h = inr (k, r.0, first_broken c rest e rs h)

    pub cases_broken : (cs : List Case) (ts : List DxCase) (i : ℕ) (c : Case) (e : TypeError) → i < length cs → c ≡ get_or cs i c → Each IsCase (take i cs) ts
        → JudgesPair known k (expr_tree c.value) (expr_tree c.weight) (Err e) → JudgesCases known k (map case_tree cs) (Err e)
    cases_broken cs ts i c e within read before h =
        let P : List Case → Type 0 = λ ds. JudgesCases known k (map case_tree ds) (Err e) in
        subst P (sym (around cs i c within read)) (first_broken c _ e before h)

  pub choose_judged : (at : ℕ) (cs : List Case) (d : Case) (k : KindTree) (r : Result KindTree TypeError) → 1 ≤ length cs → Judges known (expr_tree (get_or cs 0 d).value) (Ok k)
      → JudgesCases known k (map case_tree cs) r → JudgesDist known (dist_at at (Choose (map case_tree cs))) r
  choose_judged at [] d k r some h hs = absurd (omega arith)
  choose_judged at (c ∷ cs) d k r some h hs = past (Judges known (expr_tree c.value)) (λ k. JudgesCases known k (map case_tree (c ∷ cs))) k r h hs

  pub choose_broken : (at : ℕ) (cs : List Case) (d : Case) (e : TypeError) → 1 ≤ length cs → Judges known (expr_tree (get_or cs 0 d).value) (Err e)
      → JudgesDist known (dist_at at (Choose (map case_tree cs))) (Err e)
  choose_broken at [] d e some h = absurd (omega arith)
  choose_broken at (c ∷ cs) d e some h = inl h

-- a case of a list of well-built ones
case_built_behind : (ps : List Case) (c : Case) (rest : List Case) → AreCasesBuilt Takes (map case_tree (ps ++ c ∷ rest)) → IsBuilt Takes (expr_tree c.value) × IsBuilt Takes (expr_tree c.weight)
case_built_behind [] c rest h = (h.0, h.1)
case_built_behind (p ∷ ps) c rest h = case_built_behind ps c rest h.2

pub case_built : (cs : List Case) (i : ℕ) (c : Case) → i < length cs → c ≡ get_or cs i c → AreCasesBuilt Takes (map case_tree cs)
    → IsBuilt Takes (expr_tree c.value) × IsBuilt Takes (expr_tree c.weight)
case_built cs i c within read h =
    let P : List Case → Type 0 = λ ds. AreCasesBuilt Takes (map case_tree ds) in
    case_built_behind (take i cs) c _ (subst P (around cs i c within read) h)
