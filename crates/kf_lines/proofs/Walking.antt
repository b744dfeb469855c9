-- The sites of a statement after its form, and those of a block one statement after the other.
use Rattle.std.proofs.Common.{◌≡◌, ℕ, ◌+◌, ◌<◌, ◌≤◌, List, [], ◌∷◌, ◌++◌, map, drop, length, get_or, min, refl, sym, ap, ◌∙◌, append_assoc, append-nil, ⊎_elim, arith, rules}
use Rattle.std.proofs.lemmas.Bool.{cases_lt}
use Rattle.std.proofs.lemmas.List.{drop_all, drop_more, map-append}
use Rattle.kf_ast.specs.declared.dist.Dist.{Dist}
use Rattle.kf_ast.specs.declared.stmt.Stmt.{Stmt, the_lemmas}
use Rattle.kf_ast.specs.declared.stmt.StmtList.{StmtList}
use Rattle.kf_ast.specs.declared.stmt.StmtNode.TheVariants as node
use Rattle.kf_ast.specs.Dists.{DistTree}
use Rattle.kf_ast.specs.Stmts.{StmtTree, StmtTrees, If, While, stmt_at, stmts}
use Rattle.kf_ast.specs.Views.{dist_tree, stmt_items, stmt_tree}
use Rattle.kf_core.specs.declared.dx.Dx.{Dx}
use Rattle.kf_core.specs.declared.st.St.{St, the_lemmas as st_lemmas}
use Rattle.kf_core.specs.declared.st.St.TheVariants as code
use Rattle.kf_core.specs.declared.st.StList.{StList}
use Rattle.kf_core.specs.Dxs.{DxTree}
use Rattle.kf_core.specs.Sts.{StTree, StTrees, no_sts, sts}
use Rattle.kf_core.specs.Sts as st
use Rattle.kf_core.specs.Views.{dx_tree, st_items, st_tree}
use Rattle.kf_silent.specs.Silent.{Path}
use Rattle.kf_lines.specs.Sites.{Site, block_sites, own_sites, sites, under}
use Rattle.kf_lines.specs.Views.{behind}

-- ---- forms

tree-If : (s : Stmt) (d : Dist) (xs ys : StmtList) → s.node ≡ node.If d xs ys → stmt_tree s ≡ stmt_at s.at (If (dist_tree d) (stmts (map stmt_tree (stmt_items xs))) (stmts (map stmt_tree (stmt_items ys))))
tree-If s d xs ys is = search (rules, the_lemmas)

tree-While : (s : Stmt) (d : Dist) (xs : StmtList) → s.node ≡ node.While d xs → stmt_tree s ≡ stmt_at s.at (While (dist_tree d) (stmts (map stmt_tree (stmt_items xs))))
tree-While s d xs is = search (rules, the_lemmas)

code-If : (d : Dx) (xs ys : StList) → st_tree (code.If d xs ys) ≡ st.If (dx_tree d) (sts (map st_tree (st_items xs))) (sts (map st_tree (st_items ys)))
code-If d xs ys = search (rules, st_lemmas)

code-While : (d : Dx) (xs : StList) → st_tree (code.While d xs) ≡ st.While (dx_tree d) (sts (map st_tree (st_items xs)))
code-While d xs = search (rules, st_lemmas)

-- ---- paths

-- a site that a longer path leads to
behind_one : (path : Path) (i : ℕ) (site : Site) → behind path (under i site) ≡ behind (path ++ i ∷ []) site
behind_one path i site = ap (λ (p : Path). record { path = p; at = site.at }) (sym (append_assoc path (i ∷ []) site.path))

behind_under : (path : Path) (i : ℕ) (ss : List Site) → map (behind path) (map (under i) ss) ≡ map (behind (path ++ i ∷ [])) ss
behind_under path i [] = refl
behind_under path i (site ∷ ss) =
    ap (λ (s : Site). s ∷ map (behind path) (map (under i) ss)) (behind_one path i site)
    ∙ ap (λ (others : List Site). behind (path ++ i ∷ []) site ∷ others) (behind_under path i ss)

within_is : (path longer : Path) (i : ℕ) → longer ≡ path ++ i ∷ [] → (ss : List Site) → map (behind longer) ss ≡ map (behind path) (map (under i) ss)
within_is path longer i is ss = ap (λ (p : Path). map (behind p) ss) is ∙ sym (behind_under path i ss)

-- ---- what was added

-- own sites, and those within one block
one_added : (f : Site → Site) (before own within : List Site) → (before ++ map f own) ++ map f within ≡ before ++ map f (own ++ within)
one_added f before own within = append_assoc before (map f own) (map f within) ∙ ap (λ (ss : List Site). before ++ ss) (sym (map-append f own within))

-- own sites, and those within two blocks
two_added : (f : Site → Site) (before own one other : List Site) → ((before ++ map f own) ++ map f one) ++ map f other ≡ before ++ map f (own ++ (one ++ other))
two_added f before own one other =
    append_assoc (before ++ map f own) (map f one) (map f other)
    ∙ append_assoc before (map f own) (map f one ++ map f other)
    ∙ ap (λ (ss : List Site). before ++ (map f own ++ ss)) (sym (map-append f one other))
    ∙ ap (λ (ss : List Site). before ++ ss) (sym (map-append f own (one ++ other)))

-- ---- a conditional and a loop

-- the sites of a conditional and of a loop, whatever their trees are
if_sites : (x : StmtTree) (u : StTree) (at : ℕ) (d : DistTree) (xs ys : StmtTrees) (e : DxTree) (us vs : StTrees) → x ≡ stmt_at at (If d xs ys) → u ≡ st.If e us vs
    → own_sites at u ++ (map (under 0) (block_sites 0 xs us) ++ map (under 1) (block_sites 0 ys vs)) ≡ sites x u
if_sites x u at d xs ys e us vs text code = rw (text, code) refl

while_sites : (x : StmtTree) (u : StTree) (at : ℕ) (d : DistTree) (xs : StmtTrees) (e : DxTree) (us : StTrees) → x ≡ stmt_at at (While d xs) → u ≡ st.While e us
    → own_sites at u ++ map (under 0) (block_sites 0 xs us) ≡ sites x u
while_sites x u at d xs e us text code = rw (text, code) refl

-- sites that were added: own ones, and then those of two blocks, each with its longer path
if_made : (path one other : Path) → one ≡ path ++ 0 ∷ [] → other ≡ path ++ 1 ∷ [] → (before first mid now own taken left whole : List Site)
    → first ≡ before ++ map (behind path) own → mid ≡ first ++ map (behind one) taken → now ≡ mid ++ map (behind other) left
    → own ++ (map (under 0) taken ++ map (under 1) left) ≡ whole → now ≡ before ++ map (behind path) whole
if_made path one other one_is other_is before first mid now own taken left whole owned next last is =
    rw (last, next, owned, within_is path one 0 one_is taken, within_is path other 1 other_is left)
    (two_added (behind path) before own (map (under 0) taken) (map (under 1) left) ∙ ap (λ (ss : List Site). before ++ map (behind path) ss) is)

while_made : (path one : Path) → one ≡ path ++ 0 ∷ [] → (before first now own again whole : List Site) → first ≡ before ++ map (behind path) own
    → now ≡ first ++ map (behind one) again → own ++ map (under 0) again ≡ whole → now ≡ before ++ map (behind path) whole
while_made path one one_is before first now own again whole owned last is =
    rw (last, owned, within_is path one 0 one_is again)
    (one_added (behind path) before own (map (under 0) again) ∙ ap (λ (ss : List Site). before ++ map (behind path) ss) is)

-- lists as those of a statement's blocks
listed_texts : (xs ys : List Stmt) → xs ≡ ys → stmts (map stmt_tree ys) ≡ stmts (map stmt_tree xs)
listed_texts xs ys same = ap (λ (zs : List Stmt). stmts (map stmt_tree zs)) (sym same)

listed_codes : (xs ys : List St) → xs ≡ ys → sts (map st_tree ys) ≡ sts (map st_tree xs)
listed_codes xs ys same = ap (λ (zs : List St). sts (map st_tree zs)) (sym same)

module _ (path : Path) (s : Stmt) (t : St) (before first : List Site) (owned : first ≡ before ++ map (behind path) (own_sites s.at (st_tree t))) where
  pub if_added : (d : Dist) (xs ys : StmtList) → s.node ≡ node.If d xs ys → (e : Dx) (us vs : StList) → t ≡ code.If e us vs
      → (ps qs : List Stmt) → ps ≡ stmt_items xs → qs ≡ stmt_items ys → (rs ws : List St) → rs ≡ st_items us → ws ≡ st_items vs
      → (one other : Path) → one ≡ path ++ 0 ∷ [] → other ≡ path ++ 1 ∷ [] → (mid now : List Site)
      → mid ≡ first ++ map (behind one) (block_sites 0 (stmts (map stmt_tree ps)) (sts (map st_tree rs)))
      → now ≡ mid ++ map (behind other) (block_sites 0 (stmts (map stmt_tree qs)) (sts (map st_tree ws)))
      → now ≡ before ++ map (behind path) (sites (stmt_tree s) (st_tree t))
  if_added d xs ys is e us vs means ps qs ps_is qs_is rs ws rs_is ws_is one other one_is other_is mid now next last =
      let text : stmt_tree s ≡ stmt_at s.at (If (dist_tree d) (stmts (map stmt_tree ps)) (stmts (map stmt_tree qs))) =
      tree-If s d xs ys is ∙ ap (λ (b : StmtTrees). stmt_at s.at (If (dist_tree d) b (stmts (map stmt_tree (stmt_items ys))))) (listed_texts ps (stmt_items xs) ps_is)
      ∙ ap (λ (b : StmtTrees). stmt_at s.at (If (dist_tree d) (stmts (map stmt_tree ps)) b)) (listed_texts qs (stmt_items ys) qs_is) in
      let meant : st_tree t ≡ st.If (dx_tree e) (sts (map st_tree rs)) (sts (map st_tree ws)) =
      ap st_tree means ∙ code-If e us vs ∙ ap (λ (b : StTrees). st.If (dx_tree e) b (sts (map st_tree (st_items vs)))) (listed_codes rs (st_items us) rs_is)
      ∙ ap (λ (b : StTrees). st.If (dx_tree e) (sts (map st_tree rs)) b) (listed_codes ws (st_items vs) ws_is) in
      if_made path one other one_is other_is before first mid now (own_sites s.at (st_tree t)) (block_sites 0 (stmts (map stmt_tree ps)) (sts (map st_tree rs)))
      (block_sites 0 (stmts (map stmt_tree qs)) (sts (map st_tree ws))) (sites (stmt_tree s) (st_tree t)) owned next last
      (if_sites (stmt_tree s) (st_tree t) s.at (dist_tree d) (stmts (map stmt_tree ps)) (stmts (map stmt_tree qs)) (dx_tree e) (sts (map st_tree rs)) (sts (map st_tree ws)) text meant)

  pub while_added : (d : Dist) (xs : StmtList) → s.node ≡ node.While d xs → (e : Dx) (us : StList) → t ≡ code.While e us
      → (ps : List Stmt) → ps ≡ stmt_items xs → (rs : List St) → rs ≡ st_items us → (one : Path) → one ≡ path ++ 0 ∷ [] → (now : List Site)
      → now ≡ first ++ map (behind one) (block_sites 0 (stmts (map stmt_tree ps)) (sts (map st_tree rs)))
      → now ≡ before ++ map (behind path) (sites (stmt_tree s) (st_tree t))
  while_added d xs is e us means ps ps_is rs rs_is one one_is now last =
      let text : stmt_tree s ≡ stmt_at s.at (While (dist_tree d) (stmts (map stmt_tree ps))) =
      tree-While s d xs is ∙ ap (λ (b : StmtTrees). stmt_at s.at (While (dist_tree d) b)) (listed_texts ps (stmt_items xs) ps_is) in
      let meant : st_tree t ≡ st.While (dx_tree e) (sts (map st_tree rs)) =
      ap st_tree means ∙ code-While e us ∙ ap (λ (b : StTrees). st.While (dx_tree e) b) (listed_codes rs (st_items us) rs_is) in
      while_made path one one_is before first now (own_sites s.at (st_tree t)) (block_sites 0 (stmts (map stmt_tree ps)) (sts (map st_tree rs)))
      (sites (stmt_tree s) (st_tree t)) owned last
      (while_sites (stmt_tree s) (st_tree t) s.at (dist_tree d) (stmts (map stmt_tree ps)) (dx_tree e) (sts (map st_tree rs)) text meant)

-- ---- a block

left_step : {X Y : Type 0} (f : X → Y) (xs : List X) (i : ℕ) (x : X) → i < length xs → x ≡ get_or xs i x → map f (drop i xs) ≡ f x ∷ map f (drop (i + 1) xs)
left_step f xs i x within read = ap (map f) (drop_more xs i x within) ∙ ap (λ y. f y ∷ map f (drop (i + 1) xs)) (sym read)

left_end : {X Y : Type 0} (f : X → Y) (xs : List X) (i : ℕ) → length xs ≤ i → map f (drop i xs) ≡ []
left_end f xs i past = ap (map f) (drop_all i xs past)

-- the sites of a block from one of its statements on
abbrev pub left_sites : ℕ → List Stmt → List St → List Site
left_sites i xs ys = block_sites i (stmts (map stmt_tree (drop i xs))) (sts (map st_tree (drop i ys)))

none_left : (i : ℕ) (xs : List StmtTree) → block_sites i (stmts xs) no_sts ≡ []
none_left i [] = refl
none_left i (x ∷ xs) = refl

pub block_end : (i : ℕ) (xs : List Stmt) (ys : List St) → min (length xs) (length ys) ≤ i → left_sites i xs ys ≡ []
block_end i xs ys past =
    ⊎_elim
    (λ (lt : i < length xs).
    let short : length ys ≤ i = omega (arith, past, lt) in
    ap (λ (us : List StTree). block_sites i (stmts (map stmt_tree (drop i xs))) (sts us)) (left_end st_tree ys i short) ∙ none_left i (map stmt_tree (drop i xs)))
    (λ (le : length xs ≤ i). ap (λ (us : List StmtTree). block_sites i (stmts us) (sts (map st_tree (drop i ys)))) (left_end stmt_tree xs i le))
    (cases_lt i (length xs))

-- the sites of a block's first statement, and of those after it
first_sites : (i : ℕ) (xs rest : List StmtTree) (us others : List StTree) (x : StmtTree) (u : StTree) → xs ≡ x ∷ rest → us ≡ u ∷ others
    → block_sites i (stmts xs) (sts us) ≡ map (under i) (sites x u) ++ block_sites (i + 1) (stmts rest) (sts others)
first_sites i xs rest us others x u text code = rw (text, code) refl

pub block_parts : (i : ℕ) (xs : List Stmt) (ys : List St) (x : Stmt) (y : St) → i < length xs → i < length ys → x ≡ get_or xs i x → y ≡ get_or ys i y
    → left_sites i xs ys ≡ map (under i) (sites (stmt_tree x) (st_tree y)) ++ left_sites (i + 1) xs ys
block_parts i xs ys x y in_xs in_ys x_is y_is =
    first_sites i (map stmt_tree (drop i xs)) (map stmt_tree (drop (i + 1) xs)) (map st_tree (drop i ys)) (map st_tree (drop (i + 1) ys)) (stmt_tree x) (st_tree y)
    (left_step stmt_tree xs i x in_xs x_is) (left_step st_tree ys i y in_ys y_is)

-- what was added, and what is left, is the whole
block_made : (path longer : Path) (i : ℕ) → longer ≡ path ++ i ∷ [] → (now next left own rest whole : List Site) → next ≡ now ++ map (behind longer) own
    → left ≡ map (under i) own ++ rest → now ++ map (behind path) left ≡ whole → next ++ map (behind path) rest ≡ whole
block_made path longer i longer_is now next left own rest whole added parts had =
    rw (added, within_is path longer i longer_is own)
    (append_assoc now (map (behind path) (map (under i) own)) (map (behind path) rest)
    ∙ ap (λ (ss : List Site). now ++ ss) (sym (map-append (behind path) (map (under i) own) rest))
    ∙ ap (λ (ss : List Site). now ++ map (behind path) ss) (sym parts) ∙ had)

pub block_step : (path longer : Path) (i : ℕ) (xs : List Stmt) (ys : List St) (x : Stmt) (y : St) → i < length xs → i < length ys → x ≡ get_or xs i x → y ≡ get_or ys i y
    → longer ≡ path ++ i ∷ [] → (now next whole : List Site) → next ≡ now ++ map (behind longer) (sites (stmt_tree x) (st_tree y))
    → now ++ map (behind path) (left_sites i xs ys) ≡ whole → next ++ map (behind path) (left_sites (i + 1) xs ys) ≡ whole
block_step path longer i xs ys x y in_xs in_ys x_is y_is longer_is now next whole added had =
    block_made path longer i longer_is now next (left_sites i xs ys) (sites (stmt_tree x) (st_tree y)) (left_sites (i + 1) xs ys) whole added
    (block_parts i xs ys x y in_xs in_ys x_is y_is) had

pub block_last : (path : Path) (i : ℕ) (xs : List Stmt) (ys : List St) (now whole : List Site) → min (length xs) (length ys) ≤ i
    → now ++ map (behind path) (left_sites i xs ys) ≡ whole → now ≡ whole
block_last path i xs ys now whole past had =
    sym (append-nil now) ∙ ap (λ (ss : List Site). now ++ map (behind path) ss) (sym (block_end i xs ys past)) ∙ had

-- the empty path leads nowhere else
pub behind_none : (ss : List Site) → map (behind []) ss ≡ ss
behind_none [] = refl
behind_none (site ∷ ss) = ap (λ (others : List Site). site ∷ others) (behind_none ss)
