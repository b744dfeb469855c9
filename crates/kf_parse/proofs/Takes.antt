-- An expression is read whole, where the tokens after it don't go on with it.
use Rattle.std.proofs.Common.{◌≡◌, ℕ, zero, suc, ◌+◌, ◌-◌, ◌≤◌, ◌<◌, false, List, [], ◌∷◌, ◌++◌, refl, sym, ◌∙◌, ap, subst, arith, Option, Some, None}
use Rattle.std.proofs.lemmas.List.{append-nil}
use Rattle.kf_ops.specs.declared.row.Op.{Op}
use Rattle.kf_lex.specs.declared.token.Token.{Token}
use Rattle.kf_lex.specs.declared.token.Tok.{Tok}
use Rattle.kf_lex.specs.declared.token.Tok.TheVariants as t
use Rattle.kf_lex.specs.declared.token.Word.TheVariants as w
use Rattle.kf_lex.specs.declared.token.Sign.TheVariants as s
use Rattle.kf_ast.specs.Exprs.{ExprTree}
use Rattle.kf_parse.specs.Operators.{level_of}
use Rattle.kf_parse.specs.OperatorTokens.{infix_op, prefix_op, IsPrefix, IsCalled, prefixed, part_of}
use Rattle.kf_parse.specs.Tokens.{is}
use Rattle.kf_parse.specs.Grammar as g
use Rattle.kf_parse.specs.Grammar.{IsSign, IsWord, IsNumber, IsName, IsInfix, named, joined, Parts, E, Chain, Operand, Others}
use Rattle.kf_parse.specs.Outcomes.{got, Parser, and_then, pure, ◌>>=◌}
use Rattle.kf_parse.specs.Plain.{whole_trees}
use Rattle.kf_parse.specs.Reading as r
use Rattle.kf_parse.proofs.OperatorTokens.{infix_known, prefix_known}
use Rattle.kf_parse.proofs.TakesTurns.{apart, Leads, Ends, repeat_takes, leads_nowhere, leads_from, leads_on, Reads, Runs, runs_on}
use Rattle.kf_parse.proofs.TakesSteps as step

-- how tightly an operator binds what stands before it
abbrev binds : Option Op → ℕ
binds (Some op) = level_of op
binds None = 0

-- the tokens don't go on with an expression of this level
abbrev pub Stops : ℕ → List Token → Type 0
Stops l [] = Unit {0}
Stops l (o ∷ ts) = (binds (infix_op o.kind) < l) × (is (t.Sign s.Dot) o.kind ≡ false)

stops_above : (l : ℕ) (ts : List Token) → Stops l ts → Stops (suc l) ts
stops_above l [] st = tt
stops_above l (o ∷ ts) st = (omega (arith, st.0), st.1)

-- a token that is no operator stops every level
pub stops_at : (l : ℕ) (o : Token) (k : Tok) (us : List Token) → 1 ≤ l → o.kind ≡ k → infix_op k ≡ None → is (t.Sign s.Dot) k ≡ false → Stops l (o ∷ us)
stops_at l o k us low i none dot = (let e : binds (infix_op o.kind) ≡ 0 = ap (λ v. binds (infix_op v)) i ∙ ap binds none in omega arith, ap (is (t.Sign s.Dot)) i ∙ dot)

infix_no_dot : (k : Tok) (op : Op) → infix_op k ≡ Some op → is (t.Sign s.Dot) k ≡ false
infix_no_dot (t.Sign s.Dot) op e = absurd (let none : None ≡ Some op = e in cc)
infix_no_dot _ op e = refl

stops_infix : (l : ℕ) (o : Token) (op : Op) (us : List Token) → IsInfix l op o → Stops (suc l) (o ∷ us)
stops_infix l o op us i = (let e : binds (infix_op o.kind) ≡ level_of op = ap binds (infix_known o.kind op i.0) in omega (arith, i.1), infix_no_dot o.kind op (infix_known o.kind op i.0))

loose : (l : ℕ) (v : Option Op) → binds v < l → r.binds_at l v ≡ false
loose l (Some op) less = step.no_eqb (level_of op) l (λ e. omega arith)
loose l None less = refl

-- The first token is a prefix operator of no lower level, and begins no distribution but an expression.
pub record Heads (src : List ℕ) (l : ℕ) (ts : List Token) : Type 0 where
  pub head : Token
  pub tail : List Token
  pub whole : ts ≡ head ∷ tail
  pub says : (k : ℕ) → k < l → r.binds_at k (prefix_op head.kind) ≡ false
  pub sure : (d : ℕ) (o : Token) → r.dist_by whole_trees src d o head.kind ≡ None

module _ (src : List ℕ) where
  -- the reader of a level, in which brackets nest less deep than the second number
  pub at_level : ℕ → ℕ → Parser ExprTree
  at_level l d = r.level whole_trees src (r.expr whole_trees src d) (8 - l)

  -- tokens that are an expression
  pub record Claim (l : ℕ) (ts : List Token) (x : ExprTree) : Type 0 where
    high : l ≤ 8
    pub heads : Heads src l ts
    pub reads : Reads (at_level l) (Stops l) ts x

  -- an expression as brackets hold it
  abbrev pub Exprs : List Token → ExprTree → Type 0
  Exprs ts x = Reads (r.expr whole_trees src) (Stops 1) ts x

  pub expr_reads : (ts : List Token) (x : ExprTree) → Claim 1 ts x → Exprs ts x
  unfolding at_level
  expr_reads ts x c = record { depth = suc c.reads.depth; takes = takes }
    where
      takes : (d : ℕ) → suc c.reads.depth ≤ d → (rest : List Token) → Stops 1 rest → r.expr whole_trees src d (ts ++ rest) ≡ got x rest
      takes zero de rest st = absurd (omega arith)
      takes (suc d) de rest st = step.expr_level src d (ts ++ rest) ∙ c.reads.takes d (omega arith) rest st

  -- tokens that are an operand
  pub record Taken (ts : List Token) (x : ExprTree) : Type 0 where
    pub heads : Heads src 8 ts
    pub reads : Reads (λ d. r.operand whole_trees src (r.expr whole_trees src d)) (λ us. Unit {0}) ts x

  -- operators behind an expression
  abbrev pub Chains : ℕ → ExprTree → List Token → ExprTree → Type 0
  Chains l x ts z = Runs (λ d. r.operation whole_trees src (at_level (suc l) d) l) (Stops (suc l)) x ts z

  -- more of a list
  abbrev pub Lists : List ExprTree → List Token → List ExprTree → Type 0
  Lists xs ts ys = Runs (λ d. step.other_step src (r.expr whole_trees src d)) (Stops 1) xs ts ys

  heads_before : (l m : ℕ) (a b ts : List Token) → m ≤ l → ts ≡ a ++ b → Heads src l a → Heads src m ts
  heads_before l m a b ts low w h = record { head = h.head; tail = h.tail ++ b; whole = w ∙ ap (λ z. z ++ b) h.whole; says = λ k less. h.says k (omega arith); sure = h.sure }

  past_heads : (next : Parser ExprTree) (l : ℕ) (ts us : List Token) (x : ExprTree) → Heads src (suc l) ts → next (ts ++ us) ≡ got x us → r.prefixed whole_trees src next l (ts ++ us) ≡ r.operations whole_trees src next l x us
  past_heads next l ts us x h e =
      let P : List Token → Type 0 = λ z. next (z ++ us) ≡ got x us in
      ap (λ z. r.prefixed whole_trees src next l (z ++ us)) h.whole ∙ step.prefixed_infix src next l h.head x (h.tail ++ us) us (h.says l (omega arith)) (subst P h.whole e)

  at_above : (l d : ℕ) (ts : List Token) → 1 ≤ l → l ≤ 7 → at_level l d ts ≡ r.prefixed whole_trees src (at_level (suc l) d) l ts
  unfolding at_level
  at_above l d ts low high =
      let e : 8 - l ≡ suc (8 - suc l) = omega arith in
      ap (λ h. r.level whole_trees src (r.expr whole_trees src d) h ts) e ∙ step.level_above src (r.expr whole_trees src d) (8 - suc l) l ts (omega arith)

  operations_end : (next : Parser ExprTree) (l : ℕ) (x z : ExprTree) (ts rest : List Token) → (l ≡ 4 → ⊥) → Leads (r.operation whole_trees src next l) x ts z rest → Stops l rest → r.operations whole_trees src next l x ts ≡ got z rest
  operations_end next l x z ts rest ne a st = ap (λ f. f ts) (step.operations_climb src next l x ne) ∙ repeat_takes (r.operation whole_trees src next l) x z ts rest a (ends rest st)
    where
      ends : (us : List Token) → Stops l us → Ends (r.operation whole_trees src next l) z us
      ends [] e = tt
      ends (o ∷ us) e = step.operation_ends src next l o z (loose l (infix_op o.kind) e.0)

  pub claim_chain : (l : ℕ) (a b ts : List Token) (x z : ExprTree) → 1 ≤ l → (l ≡ 4 → ⊥) → Claim (suc l) a x → Chains l x b z → ts ≡ a ++ b → Claim l ts z
  claim_chain l a b ts x z low ne c f w = record {
    high = omega (arith, c.high);
    heads = heads_before (suc l) l a b ts (omega arith) w c.heads;
    reads = record {
      depth = c.reads.depth + f.depth;
      takes = λ d de rest st. at_above l d (ts ++ rest) low (omega (arith, c.high)) ∙ ap (λ v. r.prefixed whole_trees src (at_level (suc l) d) l v) (apart a b rest w)
          ∙ past_heads (at_level (suc l) d) l a (b ++ rest) x c.heads (c.reads.takes d (omega arith) (b ++ rest) (f.starts rest (stops_above l rest st)))
          ∙ operations_end (at_level (suc l) d) l x z (b ++ rest) rest ne (f.leads d (omega arith) rest (stops_above l rest st)) st;
    };
  }

  pub claim_alone : (ts : List Token) (x : ExprTree) → Claim 5 ts x → Claim 4 ts x
  claim_alone ts x c = record {
    high = omega arith;
    heads = heads_before 5 4 ts [] ts (omega arith) (sym (append-nil ts)) c.heads;
    reads = record {
      depth = c.reads.depth;
      takes = λ d de rest st. at_above 4 d (ts ++ rest) (omega arith) (omega arith) ∙ past_heads (at_level 5 d) 4 ts rest x c.heads (c.reads.takes d de rest (stops_above 4 rest st))
          ∙ ap (λ f. f rest) (step.operations_compare src (at_level 5 d) x) ∙ ends d rest st;
    };
  }
    where
      ends : (d : ℕ) (us : List Token) → Stops 4 us → r.compared whole_trees src (at_level 5 d) x us ≡ got x us
      ends d [] e = step.compared_at_end src (at_level 5 d) x
      ends d (o ∷ us) e = step.compared_ends src (at_level 5 d) o x us (loose 4 (infix_op o.kind) e.0)

  pub claim_compare : (a b ts : List Token) (o : Token) (op : Op) (x y : ExprTree) → Claim 5 a x → IsInfix 4 op o → Claim 5 b y → ts ≡ a ++ o ∷ b → Claim 4 ts (joined op x y)
  claim_compare a b ts o op x y c i e w = record {
    high = omega arith;
    heads = heads_before 5 4 a (o ∷ b) ts (omega arith) w c.heads;
    reads = record {
      depth = c.reads.depth + e.reads.depth;
      takes = λ d de rest st. at_above 4 d (ts ++ rest) (omega arith) (omega arith) ∙ ap (λ v. r.prefixed whole_trees src (at_level 5 d) 4 v) (apart a (o ∷ b) rest w)
          ∙ past_heads (at_level 5 d) 4 a (o ∷ (b ++ rest)) x c.heads (c.reads.takes d (omega arith) (o ∷ (b ++ rest)) (stops_infix 4 o op (b ++ rest) i))
          ∙ ap (λ f. f (o ∷ (b ++ rest))) (step.operations_compare src (at_level 5 d) x)
          ∙ step.compared_goes src (at_level 5 d) o op x y (b ++ rest) rest i (e.reads.takes d (omega arith) rest (stops_above 4 rest st));
    };
  }

  prefix_no_dist : (k : Tok) (op : Op) → prefix_op k ≡ Some op → (d : ℕ) (o : Token) → r.dist_by whole_trees src d o k ≡ None
  prefix_no_dist (t.Word w.UniformWord) op e d o = absurd (let none : None ≡ Some op = e in cc)
  prefix_no_dist (t.Word w.ChooseWord) op e d o = absurd (let none : None ≡ Some op = e in cc)
  prefix_no_dist (t.Word w.FlipWord) op e d o = absurd (let none : None ≡ Some op = e in cc)
  prefix_no_dist _ op e d o = refl

  pub claim_prefix : (l : ℕ) (ts : List Token) (o : Token) (op : Op) (x : ExprTree) → 1 ≤ l → IsPrefix l op o → Claim (suc l) ts x → Claim l (o ∷ ts) (prefixed o op x)
  claim_prefix l ts o op x low i c = record {
    high = omega (arith, c.high);
    heads = record {
      head = o;
      tail = ts;
      whole = refl;
      says = λ k less. ap (r.binds_at k) (prefix_known o.kind op i.0) ∙ step.no_eqb (level_of op) k (λ e. omega (arith, i.1));
      sure = prefix_no_dist o.kind op (prefix_known o.kind op i.0);
    };
    reads = record {
      depth = c.reads.depth;
      takes = λ d de rest st. at_above l d (o ∷ (ts ++ rest)) low (omega (arith, c.high)) ∙ step.prefixed_goes src (at_level (suc l) d) l o op x (ts ++ rest) rest i (c.reads.takes d de rest (stops_above l rest st));
    };
  }

  pub chain_on : (l : ℕ) (a b ts : List Token) (o : Token) (op : Op) (x y z : ExprTree) → Chains l x a y → IsInfix l op o → Claim (suc l) b z → ts ≡ a ++ o ∷ b → Chains l x ts (joined op y z)
  chain_on l a b ts o op x y z f i c w = runs_on (λ d. r.operation whole_trees src (at_level (suc l) d) l) (Stops (suc l)) x y (joined op y z) a b ts o (λ d. at_level (suc l) d >>= (λ z'. pure (joined op y z'))) f
      (λ us. stops_infix l o op us i) (λ d. step.operation_goes src (at_level (suc l) d) l o op y i)
      (record { depth = c.reads.depth; takes = λ d de rest st. ap (λ v. and_then v (λ z'. pure (joined op y z'))) (c.reads.takes d de rest st) }) w

  -- parts behind an operand
  part_leads : (a ts : List Token) (d n : Token) (k : ℕ) (x y : ExprTree) → ((rest : List Token) → Leads (step.part_step src) x (a ++ rest) y rest) → IsSign s.Dot d → IsNumber k n → ts ≡ a ++ d ∷ n ∷ []
      → (rest : List Token) → Leads (step.part_step src) x (ts ++ rest) (part_of y k) rest
  part_leads a ts d n k x y f i j w rest = leads_from (step.part_step src) x (part_of y k) (ts ++ rest) (a ++ d ∷ n ∷ rest) rest (apart a (d ∷ n ∷ []) rest w)
      (leads_on (step.part_step src) x y (part_of y k) (a ++ d ∷ n ∷ rest) d (n ∷ rest) rest (r.number >>= (λ k'. pure (part_of y k'))) (f (d ∷ n ∷ rest)) (rw i refl) (ap (λ v. and_then v (λ k'. pure (part_of y k'))) (step.number_goes src n k rest j)) (omega arith))

  pub parts_lead : {x z : ExprTree} {ts : List Token} → Parts x ts z → (rest : List Token) → Leads (step.part_step src) x (ts ++ rest) z rest
  parts_lead (g.no_part {x = x}) rest = leads_nowhere (step.part_step src) x rest
  parts_lead (g.part {a = a} {ts = ts} d n {k = k} {x = x} {y = y} p i j w) rest = part_leads a ts d n k x y (λ us. parts_lead p us) i j w rest

  at_eight : (d : ℕ) (ts : List Token) → at_level 8 d ts ≡ r.postfix whole_trees src (r.expr whole_trees src d) ts
  unfolding at_level
  at_eight d ts = step.level_lowest src (r.expr whole_trees src d) 0 ts refl

  pub claim_parts : (a b ts : List Token) (x z : ExprTree) → Taken a x → ((rest : List Token) → Leads (step.part_step src) x (b ++ rest) z rest) → ts ≡ a ++ b → Claim 8 ts z
  claim_parts a b ts x z p f w = record {
    high = omega arith;
    heads = heads_before 8 8 a b ts (omega arith) w p.heads;
    reads = record {
      depth = p.reads.depth;
      takes = λ d de rest st. ap (at_level 8 d) (apart a b rest w) ∙ at_eight d (a ++ (b ++ rest))
          ∙ step.postfix_goes src (r.expr whole_trees src d) x z (a ++ (b ++ rest)) (b ++ rest) rest (p.reads.takes d de (b ++ rest) tt) (repeat_takes (step.part_step src) x z (b ++ rest) rest (f rest) (ends rest st));
    };
  }
    where
      ends : (us : List Token) → Stops 8 us → Ends (step.part_step src) z us
      ends [] e = tt
      ends (o ∷ us) e = rw e.1 refl
