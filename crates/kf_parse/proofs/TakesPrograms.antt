-- Statements, declarations, targets and programs are read whole.
use Rattle.std.proofs.Common.{◌≡◌, ℕ, zero, suc, ◌+◌, ◌≤◌, false, List, [], ◌∷◌, ◌++◌, refl, sym, ◌∙◌, ap, append_assoc, arith, Option, Some, None, Bool}
use Rattle.std.proofs.lemmas.List.{append-nil}
use Rattle.kf_lex.specs.declared.token.Token.{Token}
use Rattle.kf_lex.specs.declared.token.Tok.{Tok}
use Rattle.kf_lex.specs.declared.token.Tok.TheVariants as t
use Rattle.kf_lex.specs.declared.token.Word.TheVariants as w
use Rattle.kf_lex.specs.declared.token.Sign.TheVariants as s
use Rattle.kf_ast.specs.TypeForms.{TypeForm}
use Rattle.kf_ast.specs.Dists.{DistTree}
use Rattle.kf_ast.specs.Stmts.{StmtTree, stmt_at, Skip, Assign, Observe, If, While, stmts}
use Rattle.kf_ast.specs.Sources.{DeclTree, declared, ItemTree, SourceTree, source}
use Rattle.kf_parse.specs.OperatorTokens.{infix_op}
use Rattle.kf_parse.specs.Begins.{begins_declaration}
use Rattle.kf_parse.specs.Tokens.{is}
use Rattle.kf_parse.specs.Grammar as grammar
use Rattle.kf_parse.specs.Grammar.{IsSign, IsWord, IsName, named, Listed}
use Rattle.kf_parse.specs.Programs as g
use Rattle.kf_parse.specs.Programs.{Statement, Block, Statements, DeclarationWord, Declaration, Declarations, Item, Target, IsProgram}
use Rattle.kf_parse.specs.Outcomes.{got, Parser, and_then, where_true, expect, pure, ◌>>=◌, repeat}
use Rattle.kf_parse.specs.Plain.{whole_trees}
use Rattle.kf_parse.specs.Reading as r
use Rattle.kf_parse.proofs.TakesTurns.{apart, before_close, Ends, repeat_takes, Reads, Runs, runs_nowhere, runs_on}
use Rattle.kf_parse.proofs.Takes.{stops_at}
use Rattle.kf_parse.proofs.TakesForms.{Anything, type_whole, Closes, Dists, dist_whole}

-- the first token, if any, doesn't pass the test
abbrev Without : (Tok → Bool) → List Token → Type 0
Without test [] = Unit {0}
Without test (o ∷ us) = test o.kind ≡ false

-- nothing goes on with declarations or a target
abbrev NoHeader : List Token → Type 0
NoHeader us = Without begins_declaration us × Without (is (t.Word w.AboutWord)) us

-- nothing goes on with statements
abbrev IsBlockEnd : List Token → Type 0
IsBlockEnd [] = Unit {0}
IsBlockEnd (o ∷ us) = IsSign s.BraceClose o

end_no_header : (us : List Token) → IsBlockEnd us → NoHeader us
end_no_header [] e = (tt, tt)
end_no_header (o ∷ us) e = (ap begins_declaration e, ap (is (t.Word w.AboutWord)) e)

closes_at : (o : Token) (k : Tok) (us : List Token) → o.kind ≡ k → infix_op k ≡ None → is (t.Sign s.Dot) k ≡ false → is (t.Sign s.Range) k ≡ false → Closes (o ∷ us)
closes_at o k us i none dot range = (stops_at 1 o k us (omega arith) i none dot, ap (is (t.Sign s.Range)) i ∙ range)

module _ (src : List ℕ) where
  -- the step of a list of statements
  abbrev statement_step : ℕ → Token → List StmtTree → Option (Parser (List StmtTree))
  statement_step d o xs = r.pushed whole_trees src (r.statements whole_trees src d) (suc d) xs (r.statement_by whole_trees src (r.statements whole_trees src d) (suc d) o o.kind)

  -- tokens that are a statement
  record StatementTaken (ts : List Token) (x : StmtTree) : Type 0 where
    head : Token
    tail : List Token
    whole : ts ≡ head ∷ tail
    begins : (us : List Token) → NoHeader (head ∷ us)
    parser : ℕ → Parser StmtTree
    by_kind : (d : ℕ) → r.statement_by whole_trees src (r.statements whole_trees src d) (suc d) head head.kind ≡ Some (parser d)
    reads : Reads parser Anything tail x

  record BlockTaken (ts : List Token) (xs : List StmtTree) : Type 0 where
    closes : (rest : List Token) → Closes (ts ++ rest)
    reads : Reads (λ d. r.block whole_trees src (r.statements whole_trees src d) (suc d)) Anything ts xs

  abbrev StatementRuns : List Token → List StmtTree → Type 0
  StatementRuns ts xs = Runs statement_step NoHeader [] ts xs

  statements_read : (ts : List Token) (xs : List StmtTree) → StatementRuns ts xs → Reads (r.statements whole_trees src) IsBlockEnd ts xs
  unfolding r.statements r.all_statements
  statements_read ts xs f = record { depth = suc f.depth; takes = takes }
    where
      ends : (d : ℕ) (us : List Token) → IsBlockEnd us → Ends (statement_step d) xs us
      ends d [] e = tt
      ends d (o ∷ us) e = rw e refl

      takes : (d : ℕ) → suc f.depth ≤ d → (rest : List Token) → IsBlockEnd rest → r.statements whole_trees src d (ts ++ rest) ≡ got xs rest
      takes zero de rest e = absurd (omega arith)
      takes (suc d) de rest e = repeat_takes (statement_step d) [] xs (ts ++ rest) rest (f.leads d (omega arith) rest (end_no_header rest e)) (ends d rest e)

  module _ (statements : Parser (List StmtTree)) (d : ℕ) where
    block_goes : (p q : Token) (xs : List StmtTree) (us rest : List Token) → IsSign s.BraceOpen p → statements us ≡ got xs (q ∷ rest) → IsSign s.BraceClose q → r.block whole_trees src statements d (p ∷ us) ≡ got xs rest
    unfolding r.block
    block_goes p q xs us rest i e j = rw (i, e, j) refl

    assign_goes : (n g e : Token) (x : DistTree) (us rest : List Token) → IsSign s.Assign g → r.dist whole_trees src d us ≡ got x (e ∷ rest) → IsSign s.Semi e → r.assign whole_trees src statements d n (g ∷ us) ≡ got (stmt_at n.start (Assign (named src n) x)) rest
    unfolding r.assign
    assign_goes n g e x us rest i h j = rw (i, h, j) refl

    observe_goes : (o e : Token) (x : DistTree) (us rest : List Token) → r.dist whole_trees src d us ≡ got x (e ∷ rest) → IsSign s.Semi e → r.observe whole_trees src statements d o us ≡ got (stmt_at o.start (Observe x)) rest
    unfolding r.observe
    observe_goes o e x us rest h j = rw (h, j) refl

    if_else_goes : (i e : Token) (x : DistTree) (xs ys : List StmtTree) (us vs zs rest : List Token) → r.dist whole_trees src d us ≡ got x vs → r.block whole_trees src statements d vs ≡ got xs (e ∷ zs) → IsWord w.ElseWord e → r.block whole_trees src statements d zs ≡ got ys rest
        → r.if_else whole_trees src statements d i us ≡ got (stmt_at i.start (If x (stmts xs) (stmts ys))) rest
    unfolding r.if_else
    if_else_goes i e x xs ys us vs zs rest h k j l = rw (h, k, j, l) refl

    while_goes : (o : Token) (x : DistTree) (xs : List StmtTree) (us vs rest : List Token) → r.dist whole_trees src d us ≡ got x vs → r.block whole_trees src statements d vs ≡ got xs rest → r.while whole_trees src statements d o us ≡ got (stmt_at o.start (While x (stmts xs))) rest
    unfolding r.while
    while_goes o x xs us vs rest h k = rw (h, k) refl

  -- a token that begins a statement
  begins_by : (o : Token) (k : Tok) (us : List Token) → o.kind ≡ k → begins_declaration k ≡ false → is (t.Word w.AboutWord) k ≡ false → NoHeader (o ∷ us)
  begins_by o k us i declares about = (ap begins_declaration i ∙ declares, ap (is (t.Word w.AboutWord)) i ∙ about)

  taken_skip : (k e : Token) → IsWord w.SkipWord k → IsSign s.Semi e → StatementTaken (k ∷ e ∷ []) (stmt_at k.start Skip)
  taken_skip k e i j = record {
    head = k;
    tail = e ∷ [];
    whole = refl;
    begins = λ us. begins_by k (t.Word w.SkipWord) us i refl refl;
    parser = λ d. expect (is (t.Sign s.Semi)) (λ e'. pure (stmt_at k.start Skip));
    by_kind = λ d. rw i refl;
    reads = record { depth = 0; takes = λ d de rest u. rw j refl };
  }

  taken_assign : (a ts : List Token) (n g e : Token) (x : DistTree) → IsName n → IsSign s.Assign g → Dists src a x → IsSign s.Semi e → ts ≡ a ++ e ∷ [] → StatementTaken (n ∷ g ∷ ts) (stmt_at n.start (Assign (named src n) x))
  taken_assign a ts n g e x i j h k split = record {
    head = n;
    tail = g ∷ ts;
    whole = refl;
    begins = λ us. begins_by n t.Name us i refl refl;
    parser = λ d. r.assign whole_trees src (r.statements whole_trees src d) (suc d) n;
    by_kind = λ d. rw i refl;
    reads = record {
      depth = h.depth;
      takes = λ d de rest u. ap (λ v. r.assign whole_trees src (r.statements whole_trees src d) (suc d) n (g ∷ v)) (apart a (e ∷ []) rest split)
          ∙ assign_goes (r.statements whole_trees src d) (suc d) n g e x (a ++ e ∷ rest) rest j (h.takes (suc d) (omega arith) (e ∷ rest) (closes_at e (t.Sign s.Semi) rest k refl refl refl)) k;
    };
  }

  taken_observe : (a ts : List Token) (o e : Token) (x : DistTree) → IsWord w.ObserveWord o → Dists src a x → IsSign s.Semi e → ts ≡ a ++ e ∷ [] → StatementTaken (o ∷ ts) (stmt_at o.start (Observe x))
  taken_observe a ts o e x i h k split = record {
    head = o;
    tail = ts;
    whole = refl;
    begins = λ us. begins_by o (t.Word w.ObserveWord) us i refl refl;
    parser = λ d. r.observe whole_trees src (r.statements whole_trees src d) (suc d) o;
    by_kind = λ d. rw i refl;
    reads = record {
      depth = h.depth;
      takes = λ d de rest u. ap (r.observe whole_trees src (r.statements whole_trees src d) (suc d) o) (apart a (e ∷ []) rest split)
          ∙ observe_goes (r.statements whole_trees src d) (suc d) o e x (a ++ e ∷ rest) rest (h.takes (suc d) (omega arith) (e ∷ rest) (closes_at e (t.Sign s.Semi) rest k refl refl refl)) k;
    };
  }

  taken_if : (a b c ts : List Token) (i e : Token) (x : DistTree) (xs ys : List StmtTree) → IsWord w.IfWord i → Dists src a x → BlockTaken b xs → IsWord w.ElseWord e → BlockTaken c ys → ts ≡ a ++ (b ++ e ∷ c) → StatementTaken (i ∷ ts) (stmt_at i.start (If x (stmts xs) (stmts ys)))
  taken_if a b c ts i e x xs ys j h f k l split = record {
    head = i;
    tail = ts;
    whole = refl;
    begins = λ us. begins_by i (t.Word w.IfWord) us j refl refl;
    parser = λ d. r.if_else whole_trees src (r.statements whole_trees src d) (suc d) i;
    by_kind = λ d. rw j refl;
    reads = record {
      depth = h.depth + f.reads.depth + l.reads.depth;
      takes = λ d de rest u. ap (r.if_else whole_trees src (r.statements whole_trees src d) (suc d) i) (apart a (b ++ e ∷ c) rest split ∙ ap (λ v. a ++ v) (append_assoc b (e ∷ c) rest))
          ∙ if_else_goes (r.statements whole_trees src d) (suc d) i e x xs ys (a ++ (b ++ e ∷ (c ++ rest))) (b ++ e ∷ (c ++ rest)) (c ++ rest) rest
          (h.takes (suc d) (omega arith) (b ++ e ∷ (c ++ rest)) (f.closes (e ∷ (c ++ rest)))) (f.reads.takes d (omega arith) (e ∷ (c ++ rest)) tt) k (l.reads.takes d (omega arith) rest tt);
    };
  }

  taken_while : (a b ts : List Token) (o : Token) (x : DistTree) (xs : List StmtTree) → IsWord w.WhileWord o → Dists src a x → BlockTaken b xs → ts ≡ a ++ b → StatementTaken (o ∷ ts) (stmt_at o.start (While x (stmts xs)))
  taken_while a b ts o x xs j h f split = record {
    head = o;
    tail = ts;
    whole = refl;
    begins = λ us. begins_by o (t.Word w.WhileWord) us j refl refl;
    parser = λ d. r.while whole_trees src (r.statements whole_trees src d) (suc d) o;
    by_kind = λ d. rw j refl;
    reads = record {
      depth = h.depth + f.reads.depth;
      takes = λ d de rest u. ap (r.while whole_trees src (r.statements whole_trees src d) (suc d) o) (apart a b rest split)
          ∙ while_goes (r.statements whole_trees src d) (suc d) o x xs (a ++ (b ++ rest)) (b ++ rest) rest (h.takes (suc d) (omega arith) (b ++ rest) (f.closes rest)) (f.reads.takes d (omega arith) rest tt);
    };
  }

  taken_block : (a ts : List Token) (p q : Token) (xs : List StmtTree) → IsSign s.BraceOpen p → StatementRuns a xs → IsSign s.BraceClose q → ts ≡ a ++ q ∷ [] → BlockTaken (p ∷ ts) xs
  taken_block a ts p q xs i f j split = let e = statements_read a xs f in record {
    closes = λ rest. closes_at p (t.Sign s.BraceOpen) (ts ++ rest) i refl refl refl;
    reads = record {
      depth = e.depth;
      takes = λ d de rest u. ap (λ v. r.block whole_trees src (r.statements whole_trees src d) (suc d) (p ∷ v)) (apart a (q ∷ []) rest split)
          ∙ block_goes (r.statements whole_trees src d) (suc d) p q xs (a ++ q ∷ rest) rest i (e.takes d de (q ∷ rest) j) j;
    };
  }

  one_more : (a b ts : List Token) (xs : List StmtTree) (x : StmtTree) → StatementRuns a xs → StatementTaken b x → ts ≡ a ++ b → StatementRuns ts (xs ++ x ∷ [])
  one_more a b ts xs x f c split = runs_on statement_step NoHeader [] xs (xs ++ x ∷ []) a c.tail ts c.head (λ d. c.parser d >>= (λ y. pure (xs ++ y ∷ []))) f c.begins
      (λ d. ap (r.pushed whole_trees src (r.statements whole_trees src d) (suc d) xs) (c.by_kind d))
      (record { depth = c.reads.depth; takes = λ d de rest u. ap (λ v. and_then v (λ y. pure (xs ++ y ∷ []))) (c.reads.takes d de rest tt) })
      (split ∙ ap (λ z. a ++ z) c.whole)

  mutual
    statement_taken : {ts : List Token} {x : StmtTree} → Statement src ts x → StatementTaken ts x
    statement_taken (g.skip k e i j) = taken_skip k e i j
    statement_taken (g.assign {a = a} {ts = ts} n o e {d = x} i j h k split) = taken_assign a ts n o e x i j (dist_whole src a x h) k split
    statement_taken (g.observe {a = a} {ts = ts} o e {d = x} i h k split) = taken_observe a ts o e x i (dist_whole src a x h) k split
    statement_taken (g.if_else {a = a} {b = b} {c = c} {ts = ts} i e {d = x} {xs = xs} {ys = ys} j h f k l split) = taken_if a b c ts i e x xs ys j (dist_whole src a x h) (block_taken f) k (block_taken l) split
    statement_taken (g.while {a = a} {b = b} {ts = ts} o {d = x} {xs = xs} j h f split) = taken_while a b ts o x xs j (dist_whole src a x h) (block_taken f) split

    block_taken : {ts : List Token} {xs : List StmtTree} → Block src ts xs → BlockTaken ts xs
    block_taken (g.braces {a = a} {ts = ts} p q {xs = xs} i f j split) = taken_block a ts p q xs i (statements_run f) j split

    statements_run : {ts : List Token} {xs : List StmtTree} → Statements src ts xs → StatementRuns ts xs
    statements_run g.no_statement = runs_nowhere statement_step NoHeader []
    statements_run (g.statement {a = a} {b = b} {ts = ts} {xs = xs} {x = x} f c split) = one_more a b ts xs x (statements_run f) (statement_taken c) split

  -- declarations
  abbrev declaration_step : ℕ → Token → List DeclTree → Option (Parser (List DeclTree))
  declaration_step d v ds = where_true (begins_declaration v.kind) (r.declaration whole_trees src d (is (t.Word w.VisWord) v.kind) ds)

  by_word : {visible : Bool} {v : Token} → DeclarationWord visible v → (d : ℕ) (ds : List DeclTree) → declaration_step d v ds ≡ Some (r.declaration whole_trees src d visible ds)
  by_word (g.var i) d ds = rw i refl
  by_word (g.vis i) d ds = rw i refl

  declaration_goes : (d : ℕ) (visible : Bool) (ds : List DeclTree) (n c g e : Token) (y : TypeForm) (x : DistTree) (us vs rest : List Token) → IsName n → IsSign s.Colon c → r.type d us ≡ got y (g ∷ vs) → IsSign s.Assign g → r.dist whole_trees src d vs ≡ got x (e ∷ rest) → IsSign s.Semi e
      → r.declaration whole_trees src d visible ds (n ∷ c ∷ us) ≡ got (ds ++ declared visible (named src n) y x ∷ []) rest
  unfolding r.declaration
  declaration_goes d visible ds n c g e y x us vs rest i j h k l m = rw (i, j, h, k, l, m) refl

  abbrev DeclarationRuns : List Token → List DeclTree → Type 0
  DeclarationRuns ts ds = Runs declaration_step Anything [] ts ds

  declaration_more : {b : List Token} {y : DeclTree} (a ts : List Token) (ds : List DeclTree) → DeclarationRuns a ds → Declaration src b y → ts ≡ a ++ b → DeclarationRuns ts (ds ++ y ∷ [])
  declaration_more a ts ds f (g.variable {visible = visible} {a = b} {b = c} {ts = us} v n o h e {y = y} {d = x} i j k l m p q split) u = let ty = type_whole b y l in let di = dist_whole src c x p in
      runs_on declaration_step Anything [] ds (ds ++ declared visible (named src n) y x ∷ []) a (n ∷ o ∷ us) ts v (λ d. r.declaration whole_trees src d visible ds) f (λ vs. tt) (λ d. by_word i d ds)
      (record {
        depth = ty.depth + di.depth;
        takes = λ d de rest u'. ap (λ z. r.declaration whole_trees src d visible ds (n ∷ o ∷ z)) (apart b (h ∷ (c ++ e ∷ [])) rest split ∙ ap (λ z. b ++ h ∷ z) (append_assoc c (e ∷ []) rest))
            ∙ declaration_goes d visible ds n o h e y x (b ++ h ∷ (c ++ e ∷ rest)) (c ++ e ∷ rest) rest j k (ty.takes d (omega arith) (h ∷ (c ++ e ∷ rest)) tt) m
            (di.takes d (omega arith) (e ∷ rest) (closes_at e (t.Sign s.Semi) rest q refl refl refl)) q;
      }) u

  declarations_run : {ts : List Token} {ds : List DeclTree} → Declarations src ts ds → DeclarationRuns ts ds
  declarations_run g.no_declaration = runs_nowhere declaration_step Anything []
  declarations_run (g.declaration {a = a} {ts = ts} {xs = ds} f c split) = declaration_more a ts ds (declarations_run f) c split

  declarations_read : (ts : List Token) (ds : List DeclTree) → DeclarationRuns ts ds → Reads (r.declarations whole_trees src) (Without begins_declaration) ts ds
  unfolding r.declarations
  declarations_read ts ds f = record { depth = f.depth; takes = λ d de rest e. repeat_takes (declaration_step d) [] ds (ts ++ rest) rest (f.leads d de rest tt) (ends d rest e) }
    where
      ends : (d : ℕ) (us : List Token) → Without begins_declaration us → Ends (declaration_step d) ds us
      ends d [] e = tt
      ends d (o ∷ us) e = rw e refl

  -- the target
  abbrev item_step : Token → List ItemTree → Option (Parser (List ItemTree))
  item_step c xs = where_true (is (t.Sign s.Comma) c.kind) (r.one_item whole_trees src >>= (λ y. pure (xs ++ y ∷ [])))

  item_reads : {ts : List Token} {x : ItemTree} → Item src ts x → Reads (λ d. r.one_item whole_trees src) Anything ts x
  unfolding r.one_item
  item_reads (g.last n i) = record { depth = 0; takes = λ d de rest u. rw i refl }
  item_reads (g.first o n i j) = record { depth = 0; takes = λ d de rest u. rw (i, j) refl }

  items_run : {ts : List Token} {xs ys : List ItemTree} → Listed (Item src) xs ts ys → Runs (λ d. item_step) Anything xs ts ys
  items_run (grammar.no_more {xs = xs}) = runs_nowhere (λ d. item_step) Anything xs
  items_run (grammar.one_more {a = a} {b = b} {ts = ts} c {xs = xs} {ys = ys} {y = y} f i e split) = let h = item_reads e in
      runs_on (λ d. item_step) Anything xs ys (ys ++ y ∷ []) a b ts c (λ d. r.one_item whole_trees src >>= (λ y'. pure (ys ++ y' ∷ []))) (items_run f) (λ us. tt) (λ d. rw i refl)
      (record { depth = h.depth; takes = λ d de rest u. ap (λ v. and_then v (λ y'. pure (ys ++ y' ∷ []))) (h.takes d de rest u) }) split

  target_goes : (o e : Token) (x : ItemTree) (xs : List ItemTree) (us vs rest : List Token) → IsWord w.AboutWord o → r.one_item whole_trees src us ≡ got x vs → repeat item_step (x ∷ []) vs ≡ got xs (e ∷ rest) → IsSign s.Semi e → r.target whole_trees src (o ∷ us) ≡ got xs rest
  unfolding r.target r.items r.other_items
  target_goes o e x xs us vs rest i h l j = rw (i, h, l, j) refl

  no_target_goes : (rest : List Token) → Without (is (t.Word w.AboutWord)) rest → r.target whole_trees src rest ≡ got [] rest
  unfolding r.target
  no_target_goes [] n = refl
  no_target_goes (o ∷ us) n = rw n refl

  record TargetTaken (ts : List Token) (xs : List ItemTree) : Type 0 where
    ends : (rest : List Token) → NoHeader rest → Without begins_declaration (ts ++ rest)
    takes : (rest : List Token) → NoHeader rest → r.target whole_trees src (ts ++ rest) ≡ got xs rest

  target_taken : {ts : List Token} {xs : List ItemTree} → Target src ts xs → TargetTaken ts xs
  target_taken g.no_target = record { ends = λ rest n. n.0; takes = λ rest n. no_target_goes rest n.1 }
  target_taken (g.about {a = a} {b = b} {ts = ts} o e {x = x} {xs = xs} i h l j split) = let f = item_reads h in let r' = items_run l in let n : ℕ = f.depth + r'.depth in record {
    ends = λ rest n. ap begins_declaration i;
    takes = λ rest u. ap (λ v. r.target whole_trees src (o ∷ v)) (before_close a b e rest split)
        ∙ target_goes o e x xs (a ++ (b ++ e ∷ rest)) (b ++ e ∷ rest) rest i (f.takes n (omega arith) (b ++ e ∷ rest) tt)
        (repeat_takes item_step (x ∷ []) xs (b ++ e ∷ rest) (e ∷ rest) (r'.leads n (omega arith) (e ∷ rest) tt) (rw j refl)) j;
  }

  program_goes : (d : ℕ) (ds : List DeclTree) (is : List ItemTree) (xs : List StmtTree) (us vs zs rest : List Token) → r.declarations whole_trees src d us ≡ got ds vs → r.target whole_trees src vs ≡ got is zs → r.statements whole_trees src d zs ≡ got xs rest → r.program whole_trees src d us ≡ got (source ds is xs) rest
  unfolding r.program
  program_goes d ds is xs us vs zs rest h i j = rw (h, i, j) refl

-- A program of the grammar is read whole, at every depth that suffices.
pub program_takes : (src : List ℕ) (ts : List Token) (x : SourceTree) → IsProgram src ts x → (n : ℕ) × ((d : ℕ) → n ≤ d → r.program whole_trees src d ts ≡ got x [])
program_takes src ts x (g.program {a = a} {b = b} {c = c} {ds = ds} {is = is} {xs = xs} h i j split) =
    let f = declarations_read src a ds (declarations_run src h) in
    let k = target_taken src i in
    let run = statements_run src j in
    let l = statements_read src c xs run in
    let head : NoHeader (c ++ []) = run.starts [] (tt, tt) in (
      f.depth + l.depth,
      λ d de. ap (r.program whole_trees src d) (split ∙ ap (λ v. a ++ (b ++ v)) (sym (append-nil c)))
          ∙ program_goes src d ds is xs (a ++ (b ++ (c ++ []))) (b ++ (c ++ [])) (c ++ []) [] (f.takes d (omega arith) (b ++ (c ++ [])) (k.ends (c ++ []) head)) (k.takes (c ++ []) head) (l.takes d (omega arith) [] tt),
    )
