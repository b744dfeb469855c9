-- An operand is read whole, and so is each expression of the grammar.
use Rattle.std.proofs.Common.{◌≡◌, ℕ, suc, ◌+◌, ◌-◌, ◌≤◌, true, false, List, [], ◌∷◌, ◌++◌, length, refl, ◌∙◌, ap, length-append, arith, Some, None}
use Rattle.kf_ops.specs.declared.row.Op.{Op}
use Rattle.kf_lex.specs.declared.token.Token.{Token}
use Rattle.kf_lex.specs.declared.token.Tok.{Tok}
use Rattle.kf_lex.specs.declared.token.Tok.TheVariants as t
use Rattle.kf_lex.specs.declared.token.Word.TheVariants as w
use Rattle.kf_lex.specs.declared.token.Sign.TheVariants as s
use Rattle.kf_ast.specs.Exprs.{ExprTree, expr_at, Number, Truth, Name, Apply, Tuple, SetOf, exprs, placed}
use Rattle.kf_parse.specs.Operators.{arity_of}
use Rattle.kf_parse.specs.OperatorTokens.{prefix_op, called_op, row_of, IsCalled}
use Rattle.kf_parse.specs.Grammar as g
use Rattle.kf_parse.specs.Grammar.{IsSign, IsWord, IsNumber, IsName, named, joined, E, Chain, Operand, Others}
use Rattle.kf_parse.specs.Outcomes.{and_then, pure, ◌>>=◌}
use Rattle.kf_parse.specs.Plain.{whole_trees}
use Rattle.kf_parse.specs.Reading as r
use Rattle.kf_parse.proofs.OperatorTokens.{called_known, called_no_prefix}
use Rattle.kf_parse.proofs.TakesTurns.{apart, before_close, repeat_takes, runs_nowhere, runs_on}
use Rattle.kf_parse.proofs.TakesSteps as step
use Rattle.kf_parse.proofs.Takes.{Stops, stops_at, Heads, at_level, Claim, Exprs, expr_reads, Taken, Chains, Lists, claim_chain, claim_alone, claim_compare, claim_prefix, claim_parts, chain_on, parts_lead}

module _ (src : List ℕ) where
  -- a list read by the number of its members
  record Counts (xs : List ExprTree) (ts : List Token) (ys : List ExprTree) : Type 0 where
    depth : ℕ
    more : ℕ
    long : length ys ≡ length xs + more
    counts : (d : ℕ) → depth ≤ d → (n m : ℕ) → n ≡ more + m → (rest : List Token) → Stops 1 rest → r.arguments whole_trees src (r.expr whole_trees src d) n xs (ts ++ rest) ≡ r.arguments whole_trees src (r.expr whole_trees src d) m ys rest

  record Listed (xs : List ExprTree) (ts : List Token) (ys : List ExprTree) : Type 0 where
    lists : Lists src xs ts ys
    counts : Counts xs ts ys

  none_listed : (xs : List ExprTree) → Listed xs [] xs
  none_listed xs = record {
    lists = runs_nowhere (λ d. step.other_step src (r.expr whole_trees src d)) (Stops 1) xs;
    counts = record { depth = 0; more = 0; long = omega arith; counts = λ d de n m e rest st. let same : n ≡ m = omega arith in ap (λ j. r.arguments whole_trees src (r.expr whole_trees src d) j xs rest) same };
  }

  one_listed : (a b ts : List Token) (c : Token) (xs ys : List ExprTree) (y : ExprTree) → Listed xs a ys → IsSign s.Comma c → Exprs src b y → ts ≡ a ++ c ∷ b → Listed xs ts (ys ++ y ∷ [])
  one_listed a b ts c xs ys y l i e w = record {
    lists = runs_on (λ d. step.other_step src (r.expr whole_trees src d)) (Stops 1) xs ys (ys ++ y ∷ []) a b ts c (λ d. r.expr whole_trees src d >>= (λ y'. pure (ys ++ y' ∷ []))) l.lists
        (λ us. stops_at 1 c (t.Sign s.Comma) us (omega arith) i refl refl) (λ d. rw i refl)
        (record { depth = e.depth; takes = λ d de rest st. ap (λ v. and_then v (λ y'. pure (ys ++ y' ∷ []))) (e.takes d de rest st) }) w;
    counts = record {
      depth = l.counts.depth + e.depth;
      more = suc l.counts.more;
      long = (let n : length (ys ++ y ∷ []) ≡ length ys + 1 = length-append ys (y ∷ []) in omega (arith, l.counts.long));
      counts = λ d de n m h rest st. ap (r.arguments whole_trees src (r.expr whole_trees src d) n xs) (apart a (c ∷ b) rest w)
          ∙ l.counts.counts d (omega arith) n (suc m) (omega arith) (c ∷ (b ++ rest)) (stops_at 1 c (t.Sign s.Comma) (b ++ rest) (omega arith) i refl refl)
          ∙ step.arguments_go src (r.expr whole_trees src d) m c ys y (b ++ rest) rest i (e.takes d (omega arith) rest st);
    };
  }

  heads_of : (o : Token) (k : Tok) (ts : List Token) → o.kind ≡ k → prefix_op k ≡ None → ((d : ℕ) (v : Token) → r.dist_by whole_trees src d v k ≡ None) → Heads src 8 (o ∷ ts)
  heads_of o k ts i none sure = record { head = o; tail = ts; whole = refl; says = λ l less. ap (λ j. r.binds_at l (prefix_op j)) i ∙ ap (r.binds_at l) none; sure = λ d v. ap (r.dist_by whole_trees src d v) i ∙ sure d v }

  taken_number : (n : Token) (k : ℕ) → IsNumber k n → Taken src (n ∷ []) (expr_at n.start (Number k))
  taken_number n k i = record { heads = heads_of n (t.Number k) [] i refl (λ d v. refl); reads = record { depth = 0; takes = λ d de rest u. step.operand_number src (r.expr whole_trees src d) n k rest i } }

  taken_true : (o : Token) → IsWord w.TrueWord o → Taken src (o ∷ []) (expr_at o.start (Truth true))
  taken_true o i = record { heads = heads_of o (t.Word w.TrueWord) [] i refl (λ d v. refl); reads = record { depth = 0; takes = λ d de rest u. step.operand_true src (r.expr whole_trees src d) o rest i } }

  taken_false : (o : Token) → IsWord w.FalseWord o → Taken src (o ∷ []) (expr_at o.start (Truth false))
  taken_false o i = record { heads = heads_of o (t.Word w.FalseWord) [] i refl (λ d v. refl); reads = record { depth = 0; takes = λ d de rest u. step.operand_false src (r.expr whole_trees src d) o rest i } }

  taken_name : (n : Token) → IsName n → Taken src (n ∷ []) (expr_at n.start (Name (named src n)))
  taken_name n i = record { heads = heads_of n t.Name [] i refl (λ d v. refl); reads = record { depth = 0; takes = λ d de rest u. step.operand_name src (r.expr whole_trees src d) n rest i } }

  taken_parens : (a ts : List Token) (p q : Token) (x : ExprTree) → IsSign s.ParenOpen p → Exprs src a x → IsSign s.ParenClose q → ts ≡ a ++ q ∷ [] → Taken src (p ∷ ts) (placed p.start x)
  taken_parens a ts p q x i e j w = record {
    heads = heads_of p (t.Sign s.ParenOpen) ts i refl (λ d v. refl);
    reads = record {
      depth = e.depth;
      takes = λ d de rest u. ap (λ v. r.operand whole_trees src (r.expr whole_trees src d) (p ∷ v)) (apart a (q ∷ []) rest w)
          ∙ step.operand_parens src (r.expr whole_trees src d) p q x (a ++ q ∷ rest) rest i (e.takes d de (q ∷ rest) (stops_at 1 q (t.Sign s.ParenClose) rest (omega arith) j refl refl)) j;
    };
  }

  taken_tuple : (a b c ts : List Token) (p o q : Token) (x y : ExprTree) (xs : List ExprTree) → IsSign s.ParenOpen p → Exprs src a x → IsSign s.Comma o → Exprs src b y → Listed (x ∷ y ∷ []) c xs → IsSign s.ParenClose q
      → ts ≡ a ++ o ∷ (b ++ (c ++ q ∷ [])) → Taken src (p ∷ ts) (expr_at p.start (Tuple (exprs xs)))
  taken_tuple a b c ts p o q x y xs i e j f l k w = record {
    heads = heads_of p (t.Sign s.ParenOpen) ts i refl (λ d v. refl);
    reads = record {
      depth = e.depth + f.depth + l.lists.depth;
      takes = λ d de rest u. let close = stops_at 1 q (t.Sign s.ParenClose) rest (omega arith) k refl refl in
          ap (λ v. r.operand whole_trees src (r.expr whole_trees src d) (p ∷ v)) (apart a (o ∷ (b ++ (c ++ q ∷ []))) rest w ∙ ap (λ v. a ++ o ∷ v) (before_close b c q rest refl))
          ∙ step.operand_tuple src (r.expr whole_trees src d) p o q x y xs (a ++ o ∷ (b ++ (c ++ q ∷ rest))) (b ++ (c ++ q ∷ rest)) (c ++ q ∷ rest) rest i
          (e.takes d (omega arith) (o ∷ (b ++ (c ++ q ∷ rest))) (stops_at 1 o (t.Sign s.Comma) (b ++ (c ++ q ∷ rest)) (omega arith) j refl refl)) j
          (f.takes d (omega arith) (c ++ q ∷ rest) (l.lists.starts (q ∷ rest) close))
          (repeat_takes (step.other_step src (r.expr whole_trees src d)) (x ∷ y ∷ []) xs (c ++ q ∷ rest) (q ∷ rest) (l.lists.leads d (omega arith) (q ∷ rest) close) (rw k refl)) k;
    };
  }

  taken_set : (a b ts : List Token) (p q : Token) (x : ExprTree) (xs : List ExprTree) → IsSign s.BraceOpen p → Exprs src a x → Listed (x ∷ []) b xs → IsSign s.BraceClose q → ts ≡ a ++ (b ++ q ∷ []) → Taken src (p ∷ ts) (expr_at p.start (SetOf (exprs xs)))
  taken_set a b ts p q x xs i e l k w = record {
    heads = heads_of p (t.Sign s.BraceOpen) ts i refl (λ d v. refl);
    reads = record {
      depth = e.depth + l.lists.depth;
      takes = λ d de rest u. let close = stops_at 1 q (t.Sign s.BraceClose) rest (omega arith) k refl refl in
          ap (λ v. r.operand whole_trees src (r.expr whole_trees src d) (p ∷ v)) (before_close a b q rest w)
          ∙ step.operand_set src (r.expr whole_trees src d) p q x xs (a ++ (b ++ q ∷ rest)) (b ++ q ∷ rest) rest i
          (e.takes d (omega arith) (b ++ q ∷ rest) (l.lists.starts (q ∷ rest) close))
          (repeat_takes (step.other_step src (r.expr whole_trees src d)) (x ∷ []) xs (b ++ q ∷ rest) (q ∷ rest) (l.lists.leads d (omega arith) (q ∷ rest) close) (rw k refl)) k;
    };
  }

  called_no_dist : (k : Tok) (op : Op) → called_op k ≡ Some op → (d : ℕ) (o : Token) → r.dist_by whole_trees src d o k ≡ None
  called_no_dist (t.Word w.UniformWord) op e d o = absurd (let none : None ≡ Some op = e in cc)
  called_no_dist (t.Word w.ChooseWord) op e d o = absurd (let none : None ≡ Some op = e in cc)
  called_no_dist (t.Word w.FlipWord) op e d o = absurd (let none : None ≡ Some op = e in cc)
  called_no_dist _ op e d o = refl

  taken_call : (a b ts : List Token) (f p q : Token) (arity : ℕ) (op : Op) (x : ExprTree) (xs : List ExprTree) → IsCalled arity op f → IsSign s.ParenOpen p → Exprs src a x → Listed (x ∷ []) b xs → length xs ≡ arity → IsSign s.ParenClose q
      → ts ≡ a ++ (b ++ q ∷ []) → Taken src (f ∷ p ∷ ts) (expr_at f.start (Apply (row_of op) (exprs xs)))
  taken_call a b ts f p q arity op x xs c i e l n k w = record {
    heads = heads_of f f.kind (p ∷ ts) refl (called_no_prefix f.kind op (called_known f.kind op c.0)) (called_no_dist f.kind op (called_known f.kind op c.0));
    reads = record {
      depth = e.depth + l.lists.depth + l.counts.depth;
      takes = λ d de rest u. let close = stops_at 1 q (t.Sign s.ParenClose) rest (omega arith) k refl refl in
          ap (λ v. r.operand whole_trees src (r.expr whole_trees src d) (f ∷ p ∷ v)) (before_close a b q rest w)
          ∙ step.operand_called src (r.expr whole_trees src d) f op (p ∷ (a ++ (b ++ q ∷ rest))) (called_known f.kind op c.0)
          ∙ step.call_goes src (r.expr whole_trees src d) f op p q x xs (a ++ (b ++ q ∷ rest)) (b ++ q ∷ rest) rest i
          (e.takes d (omega arith) (b ++ q ∷ rest) (l.lists.starts (q ∷ rest) close))
          (l.counts.counts d (omega arith) (arity_of op - 1) 0 (omega (arith, l.counts.long, c.1)) (q ∷ rest) close ∙ step.arguments_end src (r.expr whole_trees src d) xs (q ∷ rest)) k;
    };
  }

  mutual
    pub claim_e : {l : ℕ} {ts : List Token} {x : ExprTree} → 1 ≤ l → E src l ts x → Claim src l ts x
    claim_e low (g.chain {l = l} {a = a} {b = b} {ts = ts} {x = x} {z = z} ne e f w) = claim_chain src l a b ts x z low ne (claim_e (omega arith) e) (chains low f) w
    claim_e low (g.alone {ts = ts} {x = x} e) = claim_alone src ts x (claim_e (omega arith) e)
    claim_e low (g.compare {a = a} {b = b} {ts = ts} o op {x = x} {y = y} e i f w) = claim_compare src a b ts o op x y (claim_e (omega arith) e) i (claim_e (omega arith) f) w
    claim_e low (g.prefix {l = l} {ts = ts} o op {x = x} i e) = claim_prefix src l ts o op x low i (claim_e (omega arith) e)
    claim_e low (g.parts {a = a} {b = b} {ts = ts} {x = x} {z = z} o p w) = claim_parts src a b ts x z (taken o) (parts_lead src p) w

    chains : {l : ℕ} {x z : ExprTree} {ts : List Token} → 1 ≤ l → Chain src l x ts z → Chains src l x ts z
    chains low (g.unchained {l = l} {x = x}) = runs_nowhere (λ d. r.operation whole_trees src (at_level src (suc l) d) l) (Stops (suc l)) x
    chains low (g.chained {l = l} {a = a} {b = b} {ts = ts} o op {x = x} {y = y} {z = z} f i e w) = chain_on src l a b ts o op x y z (chains low f) i (claim_e (omega arith) e) w

    taken : {ts : List Token} {x : ExprTree} → Operand src ts x → Taken src ts x
    taken (g.number n {k = k} i) = taken_number n k i
    taken (g.truth o i) = taken_true o i
    taken (g.untruth o i) = taken_false o i
    taken (g.variable n i) = taken_name n i
    taken (g.parens {a = a} {ts = ts} p q {x = x} i e j w) = taken_parens a ts p q x i (expr_reads src a x (claim_e (omega arith) e)) j w
    taken (g.tuple {a = a} {b = b} {d = d} {ts = ts} p c q {x = x} {y = y} {xs = xs} i e j f l k w) = taken_tuple a b d ts p c q x y xs i (expr_reads src a x (claim_e (omega arith) e)) j (expr_reads src b y (claim_e (omega arith) f)) (listed l) k w
    taken (g.set {a = a} {b = b} {ts = ts} p q {x = x} {xs = xs} i e l k w) = taken_set a b ts p q x xs i (expr_reads src a x (claim_e (omega arith) e)) (listed l) k w
    taken (g.call {a = a} {b = b} {ts = ts} f p q {arity = arity} op {x = x} {xs = xs} c i e l n k w) = taken_call a b ts f p q arity op x xs c i (expr_reads src a x (claim_e (omega arith) e)) (listed l) n k w

    listed : {xs ys : List ExprTree} {ts : List Token} → Others src xs ts ys → Listed xs ts ys
    listed (g.no_other {xs = xs}) = none_listed xs
    listed (g.other {a = a} {b = b} {ts = ts} c {xs = xs} {ys = ys} {y = y} l i e w) = one_listed a b ts c xs ys y (listed l) i (expr_reads src b y (claim_e (omega arith) e)) w
