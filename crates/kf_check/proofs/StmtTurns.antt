-- What checking a statement gives, form by form, and a turn of the loop over statements.
use Rattle.std.proofs.Common.{◌≡◌, ◌≢◌, ℕ, Bool, false, List, [], ◌∷◌, ◌++◌, map, get_or, Result, Ok, Err, inl, inr, refl, sym, ap, ◌∙◌, subst, rules, append_assoc, append-nil}
use Rattle.std.proofs.lemmas.List.{map-append}
use Rattle.kf_value.specs.declared.kind.Kind.{the_lemmas as kind_lemmas}
use Rattle.kf_value.specs.declared.kind.Kind.TheVariants as kind
use Rattle.kf_value.specs.Kinds.{KindTree, TruthKind}
use Rattle.kf_value.specs.Views.{kind_tree}
use Rattle.kf_ops.specs.Fitting.{Takes}
use Rattle.kf_ast.specs.declared.decl.Ident.{Ident}
use Rattle.kf_ast.specs.declared.dist.Dist.{Dist}
use Rattle.kf_ast.specs.declared.stmt.Stmt.{Stmt, the_lemmas}
use Rattle.kf_ast.specs.declared.stmt.StmtList.{StmtList}
use Rattle.kf_ast.specs.declared.stmt.StmtNode.TheVariants as node
use Rattle.kf_ast.specs.Views.{name_tree, dist_tree, stmt_tree, stmt_items}
use Rattle.kf_ast.specs.Stmts.{StmtTree, stmt_at, Skip, Assign, Observe, If, While, stmts}
use Rattle.kf_ast.specs.Built.{IsStmtBuilt, AreStmtsBuilt, AreListedBuilt}
use Rattle.kf_core.specs.declared.dx.Dx.{Dx}
use Rattle.kf_core.specs.declared.st.St.{St, the_lemmas as st_lemmas}
use Rattle.kf_core.specs.declared.st.St.TheVariants as code
use Rattle.kf_core.specs.declared.st.StList.{StList}
use Rattle.kf_core.specs.Views.{dx_tree, st_tree, st_items}
use Rattle.kf_core.specs.Sts.{StTree, sts}
use Rattle.kf_core.specs.Sts as st
use Rattle.kf_check.specs.declared.errors.TypeError.{TypeError}
use Rattle.kf_check.specs.declared.errors.TypeError.TheVariants as broken
use Rattle.kf_check.specs.Kinds.{Known, JudgesDist, AsksDist}
use Rattle.kf_check.specs.Statements.{JudgesStmt, JudgesStmts}
use Rattle.kf_check.specs.Translation.{place_of, dx_of, st_of, sts_of}
use Rattle.kf_check.proofs.Judging.{past}
use Rattle.kf_check.proofs.Kinding.{sts_of_all}
use Rattle.kf_check.proofs.LawsKinds.{not_unknown}
use Rattle.kf_check.specs.Answers.{AnswersAskedDx}
use Rattle.kf_check.specs.Picks.{names_in, IsFound}
use Rattle.kf_check.specs.SourceAnswers.{AnswersSt, AnswersSts}
use Rattle.kf_check.specs.Variables.{IsUnknown}

-- ---- the tree of each form

tree-Skip : (s : Stmt) → s.node ≡ node.Skip → stmt_tree s ≡ stmt_at s.at Skip
tree-Skip s is = search (rules, the_lemmas)

tree-Assign : (s : Stmt) (n : Ident) (d : Dist) → s.node ≡ node.Assign n d → stmt_tree s ≡ stmt_at s.at (Assign (name_tree n) (dist_tree d))
tree-Assign s n d is = search (rules, the_lemmas)

tree-Observe : (s : Stmt) (d : Dist) → s.node ≡ node.Observe d → stmt_tree s ≡ stmt_at s.at (Observe (dist_tree d))
tree-Observe s d is = search (rules, the_lemmas)

tree-If : (s : Stmt) (d : Dist) (xs ys : StmtList) → s.node ≡ node.If d xs ys → stmt_tree s ≡ stmt_at s.at (If (dist_tree d) (stmts (map stmt_tree (stmt_items xs))) (stmts (map stmt_tree (stmt_items ys))))
tree-If s d xs ys is = search (rules, the_lemmas)

tree-While : (s : Stmt) (d : Dist) (xs : StmtList) → s.node ≡ node.While d xs → stmt_tree s ≡ stmt_at s.at (While (dist_tree d) (stmts (map stmt_tree (stmt_items xs))))
tree-While s d xs is = search (rules, the_lemmas)

code-Skip : st_tree code.Skip ≡ st.Skip
code-Skip = search (rules, st_lemmas)

code-Assign : (i : ℕ) (d : Dx) (shown : Bool) → st_tree (code.Assign i d shown) ≡ st.Assign i (dx_tree d) shown
code-Assign i d shown = search (rules, st_lemmas)

code-Observe : (d : Dx) → st_tree (code.Observe d) ≡ st.Observe (dx_tree d)
code-Observe d = search (rules, st_lemmas)

code-If : (d : Dx) (xs ys : StList) → st_tree (code.If d xs ys) ≡ st.If (dx_tree d) (sts (map st_tree (st_items xs))) (sts (map st_tree (st_items ys)))
code-If d xs ys = search (rules, st_lemmas)

code-While : (d : Dx) (xs : StList) → st_tree (code.While d xs) ≡ st.While (dx_tree d) (sts (map st_tree (st_items xs)))
code-While d xs = search (rules, st_lemmas)

pub kind-Bool : kind_tree kind.Bool ≡ TruthKind
kind-Bool = search (rules, kind_lemmas)

-- ---- blocks that are well built

listed : (xs : List StmtTree) → AreStmtsBuilt Takes (stmts xs) → AreListedBuilt Takes xs
listed [] h = tt
listed (x ∷ xs) h = (h.0, listed xs h.1)

pub yes_built : (s : Stmt) (d : Dist) (xs ys : StmtList) → s.node ≡ node.If d xs ys → IsStmtBuilt Takes (stmt_tree s) → AreListedBuilt Takes (map stmt_tree (stmt_items xs))
yes_built s d xs ys is h = listed (map stmt_tree (stmt_items xs)) (rw (tree-If s d xs ys is) at h).1

pub no_built : (s : Stmt) (d : Dist) (xs ys : StmtList) → s.node ≡ node.If d xs ys → IsStmtBuilt Takes (stmt_tree s) → AreListedBuilt Takes (map stmt_tree (stmt_items ys))
no_built s d xs ys is h = listed (map stmt_tree (stmt_items ys)) (rw (tree-If s d xs ys is) at h).2

pub body_built : (s : Stmt) (d : Dist) (xs : StmtList) → s.node ≡ node.While d xs → IsStmtBuilt Takes (stmt_tree s) → AreListedBuilt Takes (map stmt_tree (stmt_items xs))
body_built s d xs is h = listed (map stmt_tree (stmt_items xs)) (rw (tree-While s d xs is) at h).1

pub built_as : (xs ys : List Stmt) → xs ≡ ys → AreListedBuilt Takes (map stmt_tree ys) → AreListedBuilt Takes (map stmt_tree xs)
built_as xs ys same h = subst (λ zs. AreListedBuilt Takes (map stmt_tree zs)) (sym same) h

module _ (known : List Known) (flags : List Bool) where
  pub answers_as : (xs ys : List Stmt) (found r : Result StList TypeError) → xs ≡ ys → found ≡ r → AnswersSts known flags (map stmt_tree xs) found → AnswersSts known flags (map stmt_tree ys) r
  answers_as xs ys found r same is h = subst (AnswersSts known flags (map stmt_tree ys)) is (subst (λ zs. AnswersSts known flags (map stmt_tree zs) found) same h)

  -- the answer is this error
  pub failing : (x : StmtTree) (r : Result St TypeError) (e : TypeError) → r ≡ Err e → (e ≢ broken.Mem → JudgesStmt known x (Err e)) → AnswersSt known flags x r
  failing x r e is h = subst (AnswersSt known flags x) (sym is) h

  pub failing_all : (xs : List StmtTree) (r : Result StList TypeError) (e : TypeError) → r ≡ Err e → (e ≢ broken.Mem → JudgesStmts known (stmts xs) (Err e)) → AnswersSts known flags xs r
  failing_all xs r e is h = subst (AnswersSts known flags xs) (sym is) h

  -- a tree that is shown to be another
  as_shown : (x y : StmtTree) → x ≡ y → (e : TypeError) → JudgesStmt known y (Err e) → JudgesStmt known x (Err e)
  as_shown x y same e h = subst (λ z. JudgesStmt known z (Err e)) (sym same) h

  made : (x y : StmtTree) (s : St) (z : StTree) → x ≡ y → st_tree s ≡ z → JudgesStmt known y (Ok tt) → z ≡ st_of (names_in known) flags y → AnswersSt known flags x (Ok s)
  made x y s z same code h is = (subst (λ w. JudgesStmt known w (Ok tt)) (sym same) h, code ∙ is ∙ sym (ap (st_of (names_in known) flags) same))

  -- ---- each form of statement

  pub skip : (s : Stmt) → s.node ≡ node.Skip → AnswersSt known flags (stmt_tree s) (Ok code.Skip)
  skip s is = made (stmt_tree s) (stmt_at s.at Skip) code.Skip st.Skip (tree-Skip s is) code-Skip refl refl

  -- an assignment and an observation, wherever they stand
  pub assignment_at : (s : Stmt) (n : Ident) (d : Dist) (r : Result St TypeError) → s.node ≡ node.Assign n d → AnswersSt known flags (stmt_at s.at (Assign (name_tree n) (dist_tree d))) r → AnswersSt known flags (stmt_tree s) r
  assignment_at s n d r is h = subst (λ x. AnswersSt known flags x r) (sym (tree-Assign s n d is)) h

  pub observation_at : (s : Stmt) (d : Dist) (r : Result St TypeError) → s.node ≡ node.Observe d → AnswersSt known flags (stmt_at s.at (Observe (dist_tree d))) r → AnswersSt known flags (stmt_tree s) r
  observation_at s d r is h = subst (λ x. AnswersSt known flags x r) (sym (tree-Observe s d is)) h

  module _ (at : ℕ) (n : Ident) (d : Dist) (text : List ℕ) (reads : text ≡ n.text) where
    abbrev assigned : StmtTree
    assigned = stmt_at at (Assign (name_tree n) (dist_tree d))

    pub unknown : IsUnknown known text → JudgesStmt known assigned (Err (broken.Unknown n.at))
    unknown h = let unheard = subst (IsUnknown known) reads h in inl (λ k g. not_unknown known n.text g.0 k g.1 unheard, refl)

    module _ (i : ℕ) (k : KindTree) (found : IsFound known text i k) where
      here : IsFound known n.text i k
      here = subst (λ t. IsFound known t i k) reads found

      pub assign_fails : (e : TypeError) → (e ≢ broken.Mem → AsksDist known k (dist_tree d) (Err e)) → e ≢ broken.Mem → JudgesStmt known assigned (Err e)
      assign_fails e h other = inr (k, (i, here.0), inl (h other))

      pub assign : (x : Dx) (shown : Bool) → AnswersAskedDx known k (dist_tree d) (Ok x) → shown ≡ get_or flags i false → AnswersSt known flags assigned (Ok (code.Assign i x shown))
      assign x shown h flagged = (
        (k, (i, here.0), (k, h.0, refl)),
        code-Assign i x shown ∙ (ap (λ b. st.Assign i (dx_tree x) b) flagged ∙ ap (λ j. st.Assign j (dx_tree x) (get_or flags j false)) (sym here.1)
            ∙ ap (λ e. st.Assign (place_of (names_in known) n.text) e (get_or flags (place_of (names_in known) n.text) false)) h.1),
      )

  module _ (at : ℕ) (d : Dist) where
    pub observe_fails : (e : TypeError) → (e ≢ broken.Mem → JudgesDist known (dist_tree d) (Err e)) → e ≢ broken.Mem → JudgesStmt known (stmt_at at (Observe (dist_tree d))) (Err e)
    observe_fails e h other = inl (h other)

    pub observe : (x : Dx) (k : KindTree) → JudgesDist known (dist_tree d) (Ok k) × (dx_tree x ≡ dx_of (names_in known) (dist_tree d)) → AnswersSt known flags (stmt_at at (Observe (dist_tree d))) (Ok (code.Observe x))
    observe x k h = ((k, h.0, refl), code-Observe x ∙ ap st.Observe h.1)

  -- a block becomes what its statements become
  block : (xs : List StmtTree) (ys : List StTree) → ys ≡ map (st_of (names_in known) flags) xs → sts ys ≡ sts_of (names_in known) flags (stmts xs)
  block xs ys h = ap sts h ∙ sts_of_all (names_in known) flags xs

  module _ (s : Stmt) (d : Dist) (xs ys : StmtList) (is : s.node ≡ node.If d xs ys) (k : KindTree) (truth : k ≡ TruthKind) where
    abbrev branched : StmtTree
    branched = stmt_at s.at (If (dist_tree d) (stmts (map stmt_tree (stmt_items xs))) (stmts (map stmt_tree (stmt_items ys))))

    pub if_fails : (e : TypeError) → (e ≢ broken.Mem → AsksDist known k (dist_tree d) (Err e)) → e ≢ broken.Mem → JudgesStmt known (stmt_tree s) (Err e)
    if_fails e h other = as_shown (stmt_tree s) branched (tree-If s d xs ys is) e (inl (subst (λ j. AsksDist known j (dist_tree d) (Err e)) truth (h other)))

    module _ (x : Dx) (guard : AnswersAskedDx known k (dist_tree d) (Ok x)) where
      if_guard : AsksDist known TruthKind (dist_tree d) (Ok TruthKind)
      if_guard = subst (λ j. AsksDist known j (dist_tree d) (Ok j)) truth guard.0

      pub yes_fails : (e : TypeError) → AnswersSts known flags (map stmt_tree (stmt_items xs)) (Err e) → e ≢ broken.Mem → JudgesStmt known (stmt_tree s) (Err e)
      yes_fails e h other = as_shown (stmt_tree s) branched (tree-If s d xs ys is) e (inr (TruthKind, if_guard, inl (h other)))

      module _ (us : StList) (yes : AnswersSts known flags (map stmt_tree (stmt_items xs)) (Ok us)) where
        pub no_fails : (e : TypeError) → AnswersSts known flags (map stmt_tree (stmt_items ys)) (Err e) → e ≢ broken.Mem → JudgesStmt known (stmt_tree s) (Err e)
        no_fails e h other = as_shown (stmt_tree s) branched (tree-If s d xs ys is) e (inr (TruthKind, if_guard, inr (tt, yes.0, h other)))

        pub if_else : (vs : StList) → AnswersSts known flags (map stmt_tree (stmt_items ys)) (Ok vs) → AnswersSt known flags (stmt_tree s) (Ok (code.If x us vs))
        if_else vs h =
            let first = block (map stmt_tree (stmt_items xs)) (map st_tree (st_items us)) yes.1 in
            let second = block (map stmt_tree (stmt_items ys)) (map st_tree (st_items vs)) h.1 in
            made (stmt_tree s) branched (code.If x us vs) (st.If (dx_tree x) (sts (map st_tree (st_items us))) (sts (map st_tree (st_items vs)))) (tree-If s d xs ys is) (code-If x us vs) (TruthKind, if_guard, (tt, yes.0, h.0))
            (ap (λ e. st.If e (sts (map st_tree (st_items us))) (sts (map st_tree (st_items vs)))) guard.1 ∙ ap (λ a. st.If (dx_of (names_in known) (dist_tree d)) a (sts (map st_tree (st_items vs)))) first
            ∙ ap (λ b. st.If (dx_of (names_in known) (dist_tree d)) (sts_of (names_in known) flags (stmts (map stmt_tree (stmt_items xs)))) b) second)

  module _ (s : Stmt) (d : Dist) (xs : StmtList) (is : s.node ≡ node.While d xs) (k : KindTree) (truth : k ≡ TruthKind) where
    abbrev looped : StmtTree
    looped = stmt_at s.at (While (dist_tree d) (stmts (map stmt_tree (stmt_items xs))))

    pub while_fails : (e : TypeError) → (e ≢ broken.Mem → AsksDist known k (dist_tree d) (Err e)) → e ≢ broken.Mem → JudgesStmt known (stmt_tree s) (Err e)
    while_fails e h other = as_shown (stmt_tree s) looped (tree-While s d xs is) e (inl (subst (λ j. AsksDist known j (dist_tree d) (Err e)) truth (h other)))

    module _ (x : Dx) (guard : AnswersAskedDx known k (dist_tree d) (Ok x)) where
      while_guard : AsksDist known TruthKind (dist_tree d) (Ok TruthKind)
      while_guard = subst (λ j. AsksDist known j (dist_tree d) (Ok j)) truth guard.0

      pub body_fails : (e : TypeError) → AnswersSts known flags (map stmt_tree (stmt_items xs)) (Err e) → e ≢ broken.Mem → JudgesStmt known (stmt_tree s) (Err e)
      body_fails e h other = as_shown (stmt_tree s) looped (tree-While s d xs is) e (inr (TruthKind, while_guard, h other))

      pub while : (us : StList) → AnswersSts known flags (map stmt_tree (stmt_items xs)) (Ok us) → AnswersSt known flags (stmt_tree s) (Ok (code.While x us))
      while us h =
          made (stmt_tree s) looped (code.While x us) (st.While (dx_tree x) (sts (map st_tree (st_items us)))) (tree-While s d xs is) (code-While x us) (TruthKind, while_guard, h.0)
          (ap (λ e. st.While e (sts (map st_tree (st_items us)))) guard.1 ∙ ap (λ a. st.While (dx_of (names_in known) (dist_tree d)) a) (block (map stmt_tree (stmt_items xs)) (map st_tree (st_items us)) h.1))

  -- ---- the loop

  -- the statements that are done break no rule, and are these in the program
  pub record DoneBefore (whole left : List StmtTree) (done : List StTree) : Type 0 where
    pub judged : (r : Result (Unit {0}) TypeError) → JudgesStmts known (stmts left) r → JudgesStmts known (stmts whole) r
    pub translated : done ++ map (st_of (names_in known) flags) left ≡ map (st_of (names_in known) flags) whole
    pub built : AreListedBuilt Takes left

  module _ (whole left : List StmtTree) (done : List St) (x : StmtTree) (before : DoneBefore whole (x ∷ left) (map st_tree done)) where
    pub done_fails : (e : TypeError) → (e ≢ broken.Mem → JudgesStmt known x (Err e)) → e ≢ broken.Mem → JudgesStmts known (stmts whole) (Err e)
    done_fails e h other = before.judged (Err e) (inl (h other))

    pub done_more : (y : St) → AnswersSt known flags x (Ok y) → DoneBefore whole left (map st_tree (done ++ y ∷ []))
    done_more y h =
        let listed : map st_tree (done ++ y ∷ []) ≡ map st_tree done ++ st_tree y ∷ [] = map-append st_tree done (y ∷ []) in
        rw listed (record {
          judged = λ r j. before.judged r (past (JudgesStmt known x) (λ _. JudgesStmts known (stmts left)) tt r h.0 j);
          translated = append_assoc (map st_tree done) (st_tree y ∷ []) (map (st_of (names_in known) flags) left) ∙ (ap (λ z. map st_tree done ++ z ∷ map (st_of (names_in known) flags) left) h.1 ∙ before.translated);
          built = before.built.1;
        })

  pub done_all : (whole : List StmtTree) (done : List StTree) → DoneBefore whole [] done → JudgesStmts known (stmts whole) (Ok tt) × (done ≡ map (st_of (names_in known) flags) whole)
  done_all whole done h = (h.judged (Ok tt) refl, sym (append-nil done) ∙ h.translated)
