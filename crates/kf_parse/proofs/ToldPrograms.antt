-- Each reader of statements, declarations, targets and programs reads its form.
use Rattle.std.proofs.Common.{◌≡◌, ℕ, zero, suc, true, false, List, [], ◌∷◌, ◌++◌, refl, Option, Some, None, IfSome, Bool}
use Rattle.kf_lex.specs.declared.token.Token.{Token}
use Rattle.kf_lex.specs.declared.token.Tok.{Tok}
use Rattle.kf_lex.specs.declared.token.Tok.TheVariants as t
use Rattle.kf_lex.specs.declared.token.Word.TheVariants as w
use Rattle.kf_lex.specs.declared.token.Sign.TheVariants as s
use Rattle.kf_ast.specs.Stmts.{StmtTree, stmt_at, Skip, Assign, Observe, If, While, stmts}
use Rattle.kf_ast.specs.Sources.{DeclTree, declared, ItemTree, item, source}
use Rattle.kf_parse.specs.Grammar as grammar
use Rattle.kf_parse.specs.Grammar.{IsWord, IsName, named, TypeOf, Dist, Listed}
use Rattle.kf_parse.specs.Programs as g
use Rattle.kf_parse.specs.Programs.{Statement, Block, Statements, DeclarationWord, Declaration, Declarations, Item, Target, IsProgram}
use Rattle.kf_parse.specs.Begins.{begins_declaration}
use Rattle.kf_parse.specs.Tokens.{is}
use Rattle.kf_parse.specs.Outcomes.{Parser, pure, where_true}
use Rattle.kf_parse.specs.Plain.{whole_trees}
use Rattle.kf_parse.specs.Reading as r
use Rattle.kf_parse.proofs.Told.{Told, After, Reader, then_reads, deep_reads, pure_reads, done_reads, first_reads, where_true_some, if_first_reads, token_of, expect_reads, repeat_reads}
use Rattle.kf_parse.proofs.ToldTokens.{is_same}
use Rattle.kf_parse.proofs.ToldTypes.{type_reads}
use Rattle.kf_parse.proofs.ToldDists.{dist_reads}

module _ (src : List ℕ) where
  -- a statement after its first token
  module _ (statements : Parser (List StmtTree)) (d : ℕ) (reads : Reader (Statements src) statements) where
    block_reads : Reader (Block src) (r.block whole_trees src statements d)
    unfolding r.block
    block_reads =
        expect_reads (Block src) (is (t.Sign s.BraceOpen)) _ (t.Sign s.BraceOpen) refl (λ p op.
        then_reads (Statements src) (After (p ∷ []) (Block src)) statements _ reads (λ a xs h.
        expect_reads (After (p ∷ a) (Block src)) (is (t.Sign s.BraceClose)) (λ q. pure xs) (t.Sign s.BraceClose) refl (λ q cl.
        pure_reads _ xs (g.braces p q (is_same (t.Sign s.BraceOpen) p.kind op) h (is_same (t.Sign s.BraceClose) q.kind cl) refl))))

    assign_reads : (n : Token) → IsName n → Reader (After (n ∷ []) (Statement src)) (r.assign whole_trees src statements d n)
    unfolding r.assign
    assign_reads n name =
        expect_reads _ (is (t.Sign s.Assign)) _ (t.Sign s.Assign) refl (λ u hu.
        then_reads (Dist src) (After (n ∷ u ∷ []) (Statement src)) (r.dist whole_trees src d) _ (dist_reads src d) (λ a x h.
        expect_reads (After (n ∷ u ∷ a) (Statement src)) (is (t.Sign s.Semi)) (λ e. pure (stmt_at n.start (Assign (named src n) x))) (t.Sign s.Semi) refl (λ e he.
        pure_reads _ (stmt_at n.start (Assign (named src n) x)) (g.assign n u e name (is_same (t.Sign s.Assign) u.kind hu) h (is_same (t.Sign s.Semi) e.kind he) refl))))

    observe_reads : (o : Token) → IsWord w.ObserveWord o → Reader (After (o ∷ []) (Statement src)) (r.observe whole_trees src statements d o)
    unfolding r.observe
    observe_reads o word =
        then_reads (Dist src) (After (o ∷ []) (Statement src)) (r.dist whole_trees src d) _ (dist_reads src d) (λ a x h.
        expect_reads (After (o ∷ a) (Statement src)) (is (t.Sign s.Semi)) (λ e. pure (stmt_at o.start (Observe x))) (t.Sign s.Semi) refl (λ e he.
        pure_reads _ (stmt_at o.start (Observe x)) (g.observe o e word h (is_same (t.Sign s.Semi) e.kind he) refl)))

    if_else_reads : (i : Token) → IsWord w.IfWord i → Reader (After (i ∷ []) (Statement src)) (r.if_else whole_trees src statements d i)
    unfolding r.if_else
    if_else_reads i word =
        then_reads (Dist src) (After (i ∷ []) (Statement src)) (r.dist whole_trees src d) _ (dist_reads src d) (λ a x h.
        then_reads (Block src) (After (i ∷ a) (Statement src)) (r.block whole_trees src statements d) _ block_reads (λ b xs hx.
        expect_reads (After b (After (i ∷ a) (Statement src))) (is (t.Word w.ElseWord)) _ (t.Word w.ElseWord) refl (λ e he.
        then_reads (Block src) (After (e ∷ []) (After b (After (i ∷ a) (Statement src)))) (r.block whole_trees src statements d) (λ ys. pure (stmt_at i.start (If x (stmts xs) (stmts ys)))) block_reads (λ c ys hy.
        done_reads (After (e ∷ []) (After b (After (i ∷ a) (Statement src)))) c (stmt_at i.start (If x (stmts xs) (stmts ys)))
        (g.if_else i e word h hx (is_same (t.Word w.ElseWord) e.kind he) hy refl)))))

    while_reads : (o : Token) → IsWord w.WhileWord o → Reader (After (o ∷ []) (Statement src)) (r.while whole_trees src statements d o)
    unfolding r.while
    while_reads o word =
        then_reads (Dist src) (After (o ∷ []) (Statement src)) (r.dist whole_trees src d) _ (dist_reads src d) (λ a x h.
        then_reads (Block src) (After (o ∷ a) (Statement src)) (r.block whole_trees src statements d) (λ xs. pure (stmt_at o.start (While x (stmts xs)))) block_reads (λ b xs hx.
        done_reads (After (o ∷ a) (Statement src)) b (stmt_at o.start (While x (stmts xs))) (g.while o word h hx refl)))

    statement_by_reads : (o : Token) (k : Tok) → o.kind ≡ k → IfSome (r.statement_by whole_trees src statements d o k) (λ p. Reader (After (o ∷ []) (Statement src)) p)
    statement_by_reads o (t.Word w.SkipWord) is_word = expect_reads (After (o ∷ []) (Statement src)) (is (t.Sign s.Semi)) (λ e. pure (stmt_at o.start Skip)) (t.Sign s.Semi) refl (λ e he.
        pure_reads _ (stmt_at o.start Skip) (g.skip o e is_word (is_same (t.Sign s.Semi) e.kind he)))
    statement_by_reads o t.Name is_name = assign_reads o is_name
    statement_by_reads o (t.Word w.ObserveWord) is_word = observe_reads o is_word
    statement_by_reads o (t.Word w.IfWord) is_word = if_else_reads o is_word
    statement_by_reads o (t.Word w.WhileWord) is_word = while_reads o is_word
    statement_by_reads o _ is_other = tt

    all_statements_reads : Reader (Statements src) (r.all_statements whole_trees src statements d)
    unfolding r.all_statements
    all_statements_reads = repeat_reads (Statements src) (λ o xs. r.pushed whole_trees src statements d xs (r.statement_by whole_trees src statements d o o.kind))
        (λ front xs h o. pushed_reads front xs h o (r.statement_by whole_trees src statements d o o.kind) (statement_by_reads o o.kind refl)) [] g.no_statement
      where
        pushed_reads : (front : List Token) (xs : List StmtTree) → Statements src front xs → (o : Token) (w : Option (Parser StmtTree)) → IfSome w (λ p. Reader (After (o ∷ []) (Statement src)) p)
            → IfSome (r.pushed whole_trees src statements d xs w) (λ p. Reader (After (o ∷ []) (After front (Statements src))) p)
        pushed_reads front xs h o (Some p) k = then_reads (After (o ∷ []) (Statement src)) (After (o ∷ []) (After front (Statements src))) p (λ x. pure (xs ++ x ∷ [])) k
            (λ b x hx. done_reads (After (o ∷ []) (After front (Statements src))) b (xs ++ x ∷ []) (g.statement h hx refl))
        pushed_reads front xs h o None k = tt

  statements_reads : (d : ℕ) → Reader (Statements src) (r.statements whole_trees src d)
  unfolding r.statements
  statements_reads zero = deep_reads (Statements src) (record { tokens = []; value = []; tells = g.no_statement })
  statements_reads (suc d) = all_statements_reads (r.statements whole_trees src d) (suc d) (statements_reads d)

  -- a declaration after its word, at the end of others
  declaration_reads : (G : List Token → List DeclTree → Type 0) (d : ℕ) (visible : Bool) (ds : List DeclTree) (v : Token) → DeclarationWord visible v
      → ((us : List Token) (x : DeclTree) → Declaration src (v ∷ us) x → G us (ds ++ x ∷ [])) → Reader G (r.declaration whole_trees src d visible ds)
  unfolding r.declaration
  declaration_reads G d visible ds v word made =
      expect_reads G (is t.Name) _ t.Name refl (λ n hn.
      expect_reads (After (n ∷ []) G) (is (t.Sign s.Colon)) _ (t.Sign s.Colon) refl (λ c hc.
      then_reads TypeOf (After (n ∷ c ∷ []) G) (r.type d) _ (type_reads d) (λ a y hy.
      expect_reads (After (n ∷ c ∷ a) G) (is (t.Sign s.Assign)) _ (t.Sign s.Assign) refl (λ u hu.
      then_reads (Dist src) (After (u ∷ []) (After (n ∷ c ∷ a) G)) (r.dist whole_trees src d) _ (dist_reads src d) (λ b x hx.
      expect_reads (After b (After (u ∷ []) (After (n ∷ c ∷ a) G))) (is (t.Sign s.Semi)) (λ e. pure (ds ++ declared visible (named src n) y x ∷ [])) (t.Sign s.Semi) refl (λ e he.
      pure_reads _ (ds ++ declared visible (named src n) y x ∷ []) (made (n ∷ c ∷ (a ++ u ∷ (b ++ e ∷ []))) (declared visible (named src n) y x)
      (g.variable v n c u e word (is_same t.Name n.kind hn) (is_same (t.Sign s.Colon) c.kind hc) hy (is_same (t.Sign s.Assign) u.kind hu) hx (is_same (t.Sign s.Semi) e.kind he) refl))))))))

  declarations_reads : (d : ℕ) → Reader (Declarations src) (r.declarations whole_trees src d)
  unfolding r.declarations
  declarations_reads d = repeat_reads (Declarations src) _ (λ front ds h v. by_kind front ds h v v.kind refl) [] g.no_declaration
    where
      by_kind : (front : List Token) (ds : List DeclTree) → Declarations src front ds → (v : Token) (k : Tok) → v.kind ≡ k
          → IfSome (where_true (begins_declaration k) (r.declaration whole_trees src d (is (t.Word w.VisWord) k) ds)) (λ p. Reader (After (v ∷ []) (After front (Declarations src))) p)
      by_kind front ds h v (t.Word w.VarWord) e = declaration_reads (After (v ∷ []) (After front (Declarations src))) d false ds v (g.var e) (λ us x k. g.declaration h k refl)
      by_kind front ds h v (t.Word w.VisWord) e = declaration_reads (After (v ∷ []) (After front (Declarations src))) d true ds v (g.vis e) (λ us x k. g.declaration h k refl)
      by_kind front ds h v _ e = tt

  one_item_reads : Reader (Item src) (r.one_item whole_trees src)
  unfolding r.one_item
  one_item_reads = first_reads (Item src) (λ o. r.item_by whole_trees src o o.kind) (token_of t.Name) _ refl (λ o. by_kind o o.kind refl)
    where
      by_kind : (o : Token) (k : Tok) → o.kind ≡ k → IfSome (r.item_by whole_trees src o k) (λ p. Reader (After (o ∷ []) (Item src)) p)
      by_kind o t.Name e = pure_reads _ (item false (named src o)) (g.last o e)
      by_kind o (t.Word w.OldWord) e = expect_reads (After (o ∷ []) (Item src)) (is t.Name) (λ n. pure (item true (named src n))) t.Name refl (λ n hn.
          pure_reads _ (item true (named src n)) (g.first o n e (is_same t.Name n.kind hn)))
      by_kind o _ e = tt

  other_items_reads : (xs : List ItemTree) → Reader (Listed (Item src) xs) (r.other_items whole_trees src xs)
  unfolding r.other_items
  other_items_reads xs = repeat_reads (Listed (Item src) xs) _
      (λ front ys h c. where_true_some (is (t.Sign s.Comma) c.kind) _ _
      (λ e. then_reads (Item src) (After (c ∷ []) (After front (Listed (Item src) xs))) (r.one_item whole_trees src) (λ y. pure (ys ++ y ∷ [])) one_item_reads
      (λ b y k. done_reads (After (c ∷ []) (After front (Listed (Item src) xs))) b (ys ++ y ∷ []) (grammar.one_more c h (is_same (t.Sign s.Comma) c.kind e) k refl))))
      xs grammar.no_more

  items_reads : (o : Token) → IsWord w.AboutWord o → Reader (After (o ∷ []) (Target src)) (r.items whole_trees src)
  unfolding r.items
  items_reads o word =
      then_reads (Item src) (After (o ∷ []) (Target src)) (r.one_item whole_trees src) _ one_item_reads (λ a x hx.
      then_reads (Listed (Item src) (x ∷ [])) (After (o ∷ a) (Target src)) (r.other_items whole_trees src (x ∷ [])) _ (other_items_reads (x ∷ [])) (λ b xs h.
      expect_reads (After b (After (o ∷ a) (Target src))) (is (t.Sign s.Semi)) (λ e. pure xs) (t.Sign s.Semi) refl (λ e he.
      pure_reads _ xs (g.about o e word hx h (is_same (t.Sign s.Semi) e.kind he) refl))))

  target_reads : Reader (Target src) (r.target whole_trees src)
  unfolding r.target
  target_reads = if_first_reads (Target src) (is (t.Word w.AboutWord)) (λ o. r.items whole_trees src) (pure [])
      (λ o e. items_reads o (is_same (t.Word w.AboutWord) o.kind e))
      (pure_reads (Target src) [] g.no_target)

  program_reads : (d : ℕ) → Reader (IsProgram src) (r.program whole_trees src d)
  unfolding r.program
  program_reads d =
      then_reads (Declarations src) (IsProgram src) (r.declarations whole_trees src d) _ (declarations_reads d) (λ a ds hd.
      then_reads (Target src) (After a (IsProgram src)) (r.target whole_trees src) _ target_reads (λ b xs ht.
      then_reads (Statements src) (After b (After a (IsProgram src))) (r.statements whole_trees src d) (λ ss. pure (source ds xs ss)) (statements_reads d) (λ c ss hs.
      done_reads (After b (After a (IsProgram src))) c (source ds xs ss) (g.program hd ht hs refl))))

-- a front of the tokens is the program that was read, or what stands before the place where reading is stuck begins one
pub program_told : (src : List ℕ) (d : ℕ) (ts : List Token) → Told (IsProgram src) ts (r.program whole_trees src d ts)
program_told src d ts = (program_reads src d).told ts
