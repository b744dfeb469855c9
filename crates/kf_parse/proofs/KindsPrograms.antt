-- Whether tokens are a program rests on their kinds alone.
use Rattle.std.proofs.Common.{◌≡◌, List, [], ◌∷◌, ◌++◌, ℕ, true, false, refl, ◌∙◌, ap, Bool}
use Rattle.kf_lex.specs.declared.token.Token.{Token}
use Rattle.kf_ast.specs.Stmts.{StmtTree, stmt_at, Skip, Assign, Observe, If, While, stmts}
use Rattle.kf_ast.specs.Sources.{DeclTree, declared, ItemTree, item, SourceTree, source}
use Rattle.kf_parse.specs.Grammar as grammar
use Rattle.kf_parse.specs.Grammar.{named, Listed}
use Rattle.kf_parse.specs.Programs as g
use Rattle.kf_parse.specs.Programs.{Statement, Block, Statements, DeclarationWord, Declaration, Declarations, Item, Target, IsProgram}
use Rattle.kf_parse.specs.Laws.{KindsAlone}
use Rattle.kf_parse.proofs.KindsSame.{Same, none_same, more_same, same_of, split, pieces, last, last_of_two, Made, kind_of}
use Rattle.kf_parse.proofs.KindsExprs.{same_type, same_dist}

module _ (src src' : List ℕ) where
  mutual
    same_statement : {ts us : List Token} {x : StmtTree} → Statement src ts x → Same ts us → Made (Statement src') us
    same_statement (g.skip k e i j) (more_same k' u h (more_same e' v m none_same)) = record { value = stmt_at u.start Skip; tells = g.skip u v (kind_of h i) (kind_of m j) }
    same_statement (g.assign {a = a} n o e i j f k w) (more_same n' u h (more_same o' v m s)) =
        let p = last a e w s in
        let d = same_dist src src' f p.same_left in
        record { value = stmt_at u.start (Assign (named src' u) d.value); tells = g.assign u v p.at (kind_of h i) (kind_of m j) d.tells (kind_of p.same_at k) p.whole }
    same_statement (g.observe {a = a} o e i f k w) (more_same o' u h s) =
        let p = last a e w s in
        let d = same_dist src src' f p.same_left in
        record { value = stmt_at u.start (Observe d.value); tells = g.observe u p.at (kind_of h i) d.tells (kind_of p.same_at k) p.whole }
    same_statement (g.if_else {a = a} {b = b} {c = c} o e i f k j l w) (more_same o' u h s) =
        let p = split a (b ++ e ∷ c) w s in
        let q = pieces b e c refl p.same_right in
        let d = same_dist src src' f p.same_left in
        let m = same_block k q.same_left in
        let n = same_block l q.same_right in
        record { value = stmt_at u.start (If d.value (stmts m.value) (stmts n.value)); tells = g.if_else u q.at (kind_of h i) d.tells m.tells (kind_of q.same_at j) n.tells (p.whole ∙ ap (λ z. p.left ++ z) q.whole) }
    same_statement (g.while {a = a} {b = b} o i f k w) (more_same o' u h s) =
        let p = split a b w s in
        let d = same_dist src src' f p.same_left in
        let m = same_block k p.same_right in
        record { value = stmt_at u.start (While d.value (stmts m.value)); tells = g.while u (kind_of h i) d.tells m.tells p.whole }

    same_block : {ts us : List Token} {xs : List StmtTree} → Block src ts xs → Same ts us → Made (Block src') us
    same_block (g.braces {a = a} o q i f k w) (more_same o' u h s) = let p = last a q w s in let m = same_statements f p.same_left in record { value = m.value; tells = g.braces u p.at (kind_of h i) m.tells (kind_of p.same_at k) p.whole }

    same_statements : {ts us : List Token} {xs : List StmtTree} → Statements src ts xs → Same ts us → Made (Statements src') us
    same_statements g.no_statement none_same = record { value = []; tells = g.no_statement }
    same_statements (g.statement {a = a} {b = b} f e w) s = let p = split a b w s in let m = same_statements f p.same_left in let n = same_statement e p.same_right in record { value = m.value ++ n.value ∷ []; tells = g.statement m.tells n.tells p.whole }

  same_word : {visible : Bool} {v u : Token} → DeclarationWord visible v → v.kind ≡ u.kind → DeclarationWord visible u
  same_word (g.var i) h = g.var (kind_of h i)
  same_word (g.vis i) h = g.vis (kind_of h i)

  same_declaration : {ts us : List Token} {x : DeclTree} → Declaration src ts x → Same ts us → Made (Declaration src') us
  same_declaration (g.variable {visible = visible} {a = a} {b = b} v n c o e i j k f l h m w) (more_same v' u hu (more_same n' x hx (more_same c' z hz s))) =
      let p = pieces a o (b ++ e ∷ []) w s in
      let q = last b e refl p.same_right in
      let y = same_type f p.same_left in
      let d = same_dist src src' h q.same_left in
      record { value = declared visible (named src' x) y.value d.value; tells = g.variable u x z p.at q.at (same_word i hu) (kind_of hx j) (kind_of hz k) y.tells (kind_of p.same_at l) d.tells (kind_of q.same_at m) (p.whole ∙ ap (λ r. p.left ++ p.at ∷ r) q.whole) }

  same_declarations : {ts us : List Token} {xs : List DeclTree} → Declarations src ts xs → Same ts us → Made (Declarations src') us
  same_declarations g.no_declaration none_same = record { value = []; tells = g.no_declaration }
  same_declarations (g.declaration {a = a} {b = b} f e w) s = let p = split a b w s in let m = same_declarations f p.same_left in let n = same_declaration e p.same_right in record { value = m.value ++ n.value ∷ []; tells = g.declaration m.tells n.tells p.whole }

  same_item : {ts us : List Token} {x : ItemTree} → Item src ts x → Same ts us → Made (Item src') us
  same_item (g.last n i) (more_same n' u h none_same) = record { value = item false (named src' u); tells = g.last u (kind_of h i) }
  same_item (g.first o n i j) (more_same o' u h (more_same n' v m none_same)) = record { value = item true (named src' v); tells = g.first u v (kind_of h i) (kind_of m j) }

  same_items : {xs ys : List ItemTree} {ts us : List Token} → Listed (Item src) xs ts ys → (zs : List ItemTree) → Same ts us → Made (Listed (Item src') zs) us
  same_items grammar.no_more zs none_same = record { value = zs; tells = grammar.no_more }
  same_items (grammar.one_more {a = a} {b = b} c f i e w) zs s = let p = pieces a c b w s in let m = same_items f zs p.same_left in let n = same_item e p.same_right in record { value = m.value ++ n.value ∷ []; tells = grammar.one_more p.at m.tells (kind_of p.same_at i) n.tells p.whole }

  same_target : {ts us : List Token} {xs : List ItemTree} → Target src ts xs → Same ts us → Made (Target src') us
  same_target g.no_target none_same = record { value = []; tells = g.no_target }
  same_target (g.about {a = a} {b = b} o e i f l j w) (more_same o' u h s) =
      let r = last_of_two a b e w s in
      let m = same_item f r.same_left in
      let n = same_items l (m.value ∷ []) r.same_middle in
      record { value = n.value; tells = g.about u r.at (kind_of h i) m.tells n.tells (kind_of r.same_at j) r.whole }

  same_program : {ts us : List Token} {x : SourceTree} → IsProgram src ts x → Same ts us → Made (IsProgram src') us
  same_program (g.program {a = a} {b = b} {c = c} f t l w) s =
      let p = split a (b ++ c) w s in
      let q = split b c refl p.same_right in
      let m = same_declarations f p.same_left in
      let n = same_target t q.same_left in
      let k = same_statements l q.same_right in
      record { value = source m.value n.value k.value; tells = g.program m.tells n.tells k.tells (p.whole ∙ ap (λ z. p.left ++ z) q.whole) }

pub kinds_alone : KindsAlone
kinds_alone src src' ts us x e k = let m = same_program src src' e (same_of ts us k) in (m.value, m.tells)
