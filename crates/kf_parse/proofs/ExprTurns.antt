-- Turns of the parser's loops over expressions, and its other steps that take more than one part.
use Rattle.std.proofs.Common.{◌≡◌, ◌-◌, ◌<◌, ◌≤◌, ℕ, suc, true, false, List, [], ◌∷◌, drop, length, Err, refl, sym, ◌∙◌, ap, arith, Some}
use Rattle.kf_lex.specs.declared.token.Token.{Token}
use Rattle.kf_lex.specs.declared.token.Tok.{Tok}
use Rattle.kf_lex.specs.declared.token.Tok.TheVariants as t
use Rattle.kf_lex.specs.declared.token.Sign.TheVariants as s
use Rattle.kf_ops.specs.declared.row.Op.{Op}
use Rattle.kf_parse.specs.declared.stop.Stop.{Stop}
use Rattle.kf_parse.specs.declared.stop.Stop.TheVariants as stop
use Rattle.kf_parse.specs.Operators.{arity_of}
use Rattle.kf_parse.specs.OperatorTokens.{infix_op, prefix_op, row_of}
use Rattle.kf_parse.specs.Tokens.{is}
use Rattle.kf_parse.specs.Outcomes.{got, Parser, and_then, ◌>>=◌, pure, refuse, behind, where_true, first, expect, repeat}
use Rattle.kf_parse.specs.Reading as r
use Rattle.kf_parse.specs.Reads.{Reads, is_next}
use Rattle.kf_parse.specs.Trimmed.{Cut, Cuts, trimmed}
use Rattle.kf_parse.proofs.Failing.{fails, fails_as, expected}
use Rattle.kf_parse.proofs.Loops.{ShrinksWhere, got_shorter, repeat_turn, repeat_stuck, repeat_deep, repeat_stop, repeat_end}
use Rattle.kf_parse.proofs.Shrinks.{expr_shrinks, level_shrinks, parts_steps, operation_steps, others_steps}
use Rattle.kf_parse.proofs.Turns.{taking, made, stops, turn_stuck, turn_deep, turn_got, turn_shorter}

-- a loop in one state at some tokens goes on as in another state at fewer
pub record Turn {S : Type 0} (loop : S → Parser S) (x : S) (ts : List Token) (y : S) (rest : List Token) : Type 0 where
  pub same : loop x ts ≡ loop y rest
  pub shorter : length rest < length ts

-- a loop over what stands behind tokens of a kind
module _ {S A : Type 0} (kind : Tok) (q : Parser A) (f : S → A → S) (x : S) (ts us rest : List Token) (behind : us ≡ drop 1 ts) (there : is_next kind ts ≡ true) where
  abbrev next : S → Parser S
  next y = q >>= (λ a. pure (f y a))

  turn : ((o : Token) (y : S) → ShrinksWhere (taking kind next x o y)) → (a : A) → q us ≡ got a rest → Turn (repeat (taking kind next x)) x ts (f x a) rest
  turn steps a g = let read = made (q us) (f x) a rest g in record {
    same = turn_got kind next x us steps ts rest (f x a) behind there read;
    shorter = turn_shorter kind next x us steps ts rest (f x a) behind there read;
  }

  halts : {X Y : Type 0} (view : X → A) (view' : Y → S) (e : Stop) → Reads view (q us) (Err e) rest → Reads view' (repeat (taking kind next x) x ts) (Err e) rest
  halts view view' stop.Syntax g = turn_stuck kind next x us ts rest behind there (rw g refl)
  halts view view' stop.Deep g = turn_deep kind next x us ts behind there (rw g refl)
  halts view view' stop.Mem g = tt

-- numbers of parts
module _ (src : List ℕ) (x : Cut) (ts us rest : List Token) (behind : us ≡ drop 1 ts) (there : is_next (t.Sign s.Dot) ts ≡ true) where
  pub part_turn : (k : ℕ) → r.number us ≡ got k rest → Turn (r.parts trimmed src) x ts (trimmed.part x k) rest
  unfolding r.parts
  part_turn k g = turn (t.Sign s.Dot) r.number trimmed.part x ts us rest behind there (parts_steps trimmed src) k g

  pub part_halts : {X Y : Type 0} (view : X → ℕ) (view' : Y → Cut) (e : Stop) → Reads view (r.number us) (Err e) rest → Reads view' (r.parts trimmed src x ts) (Err e) rest
  unfolding r.parts
  part_halts view view' e g = halts (t.Sign s.Dot) r.number trimmed.part x ts us rest behind there view view' e g

pub part_stops : (src : List ℕ) (x : Cut) (ts : List Token) → is_next (t.Sign s.Dot) ts ≡ false → r.parts trimmed src x ts ≡ got x ts
unfolding r.parts
part_stops src x ts off = stops (t.Sign s.Dot) (λ y. r.number >>= (λ k. pure (trimmed.part y k))) x ts off

-- expressions behind commas
module _ (src : List ℕ) (d : ℕ) (xs : Cuts) (ts us rest : List Token) (behind : us ≡ drop 1 ts) (there : is_next (t.Sign s.Comma) ts ≡ true) where
  pub other_turn : (y : Cut) → r.expr trimmed src d us ≡ got y rest → Turn (r.others trimmed src (r.expr trimmed src d)) xs ts (trimmed.push xs y) rest
  unfolding r.others
  other_turn y g = turn (t.Sign s.Comma) (r.expr trimmed src d) trimmed.push xs ts us rest behind there (others_steps trimmed src (r.expr trimmed src d) (expr_shrinks trimmed src d)) y g

  pub other_halts : {X Y : Type 0} (view : X → Cut) (view' : Y → Cuts) (e : Stop) → Reads view (r.expr trimmed src d us) (Err e) rest → Reads view' (r.others trimmed src (r.expr trimmed src d) xs ts) (Err e) rest
  unfolding r.others
  other_halts view view' e g = halts (t.Sign s.Comma) (r.expr trimmed src d) trimmed.push xs ts us rest behind there view view' e g

pub other_stops : (src : List ℕ) (d : ℕ) (xs : Cuts) (ts : List Token) → is_next (t.Sign s.Comma) ts ≡ false → r.others trimmed src (r.expr trimmed src d) xs ts ≡ got xs ts
unfolding r.others
other_stops src d xs ts off = stops (t.Sign s.Comma) (λ ys. r.expr trimmed src d >>= (λ y. pure (trimmed.push ys y))) xs ts off

-- operators of a level
module _ (src : List ℕ) (d h l : ℕ) (x : Cut) (o : Token) (ts us : List Token) (whole : ts ≡ o ∷ us) where
  abbrev side : Parser Cut
  side = r.level trimmed src (r.expr trimmed src d) h

  abbrev joins : Token → Cut → Cut → Cut
  joins p y z = trimmed.join (r.row_in (infix_op p.kind)) y z

  operates : r.binds_at l (infix_op o.kind) ≡ true → r.operation trimmed src side l o x ≡ Some (side >>= (λ y. pure (joins o x y)))
  operates b = rw b refl

  pub climb_turn : (y : Cut) (rest : List Token) → r.binds_at l (infix_op o.kind) ≡ true → side us ≡ got y rest → Turn (r.climb trimmed src side l) x ts (joins o x y) rest
  unfolding r.climb
  climb_turn y rest b g =
      let less : length rest ≤ length us = got_shorter side (level_shrinks trimmed src d h) us g in
      let n : length ts ≡ suc (length us) = ap length whole in
      record {
        same = rw whole (repeat_turn (r.operation trimmed src side l) (operation_steps trimmed src side (level_shrinks trimmed src d h) l) o x us (operates b) (made (side us) (joins o x) y rest g));
        shorter = omega arith;
      }

  pub climb_halts : (rest : List Token) {X Y : Type 0} (view : X → Cut) (view' : Y → Cut) (e : Stop) → r.binds_at l (infix_op o.kind) ≡ true → Reads view (side us) (Err e) rest → Reads view' (r.climb trimmed src side l x ts) (Err e) rest
  unfolding r.climb
  climb_halts rest view view' stop.Syntax b g = rw whole (repeat_stuck (r.operation trimmed src side l) o x us (operates b) (rw g refl))
  climb_halts rest view view' stop.Deep b g = rw whole (repeat_deep (r.operation trimmed src side l) o x us (operates b) (rw g refl))
  climb_halts rest view view' stop.Mem b g = tt

  pub climb_stops : r.binds_at l (infix_op o.kind) ≡ false → r.climb trimmed src side l x ts ≡ got x ts
  unfolding r.climb
  climb_stops b = rw whole (repeat_stop (r.operation trimmed src side l) o x us (rw b refl))

pub climb_ends : (src : List ℕ) (d h l : ℕ) (x : Cut) (ts : List Token) → ts ≡ [] → r.climb trimmed src (r.level trimmed src (r.expr trimmed src d) h) l x ts ≡ got x ts
unfolding r.climb
climb_ends src d h l x ts e = rw e (repeat_end (r.operation trimmed src (r.level trimmed src (r.expr trimmed src d) h) l) x)

-- a comparison, and an operator before its operand, with one token ahead
module _ (src : List ℕ) (d h l : ℕ) (o : Token) (ts us : List Token) (whole : ts ≡ o ∷ us) where
  abbrev operand : Parser Cut
  operand = r.level trimmed src (r.expr trimmed src d) h

  pub compared_goes : (x : Cut) → r.binds_at 4 (infix_op o.kind) ≡ true → r.compared trimmed src operand x ts ≡ and_then (operand us)
      (λ y. pure (trimmed.join (r.row_in (infix_op o.kind)) x y))
  unfolding r.compared
  compared_goes x b = rw (whole, b) refl

  pub compared_stops : (x : Cut) → r.binds_at 4 (infix_op o.kind) ≡ false → r.compared trimmed src operand x ts ≡ got x ts
  unfolding r.compared
  compared_stops x b = rw (whole, b) refl

  pub prefix_goes : r.binds_at l (prefix_op o.kind) ≡ true → r.prefixed trimmed src operand l ts ≡ and_then (operand us)
      (λ x. pure (trimmed.apply o.start (r.row_in (prefix_op o.kind)) (trimmed.one x)))
  unfolding r.prefixed
  prefix_goes b = rw (whole, b) refl

  pub prefix_passes : r.binds_at l (prefix_op o.kind) ≡ false → r.prefixed trimmed src operand l ts ≡ r.infixed trimmed src operand l ts
  unfolding r.prefixed
  prefix_passes b = rw (whole, b) refl

-- arguments of an operator
module _ (src : List ℕ) (d n : ℕ) (xs : Cuts) (ts : List Token) where
  pub argument_goes : (m : ℕ) → n ≡ suc m → r.arguments trimmed src (r.expr trimmed src d) n xs ts ≡ and_then (expect (is (t.Sign s.Comma)) pure ts) (λ c. r.expr trimmed src d >>= (λ y. r.arguments trimmed src (r.expr trimmed src d) m (trimmed.push xs y)))
  unfolding r.arguments
  argument_goes m e = rw e (expected (is (t.Sign s.Comma)) (λ c. r.expr trimmed src d >>= (λ y. r.arguments trimmed src (r.expr trimmed src d) m (trimmed.push xs y))) ts)

  pub argument_turn : (m : ℕ) (c : Token) (us rest : List Token) (y : Cut) → n ≡ suc m → expect (is (t.Sign s.Comma)) pure ts ≡ got c us → r.expr trimmed src d us ≡ got y rest → r.arguments trimmed src (r.expr trimmed src d) n xs ts ≡ r.arguments trimmed src (r.expr trimmed src d) m (trimmed.push xs y) rest
  argument_turn m c us rest y e g h = argument_goes m e ∙ rw (g, h) refl

  pub no_comma : (m : ℕ) (left : List Token) {X Y : Type 0} (view : X → Token) (view' : Y → Cuts) (e : Stop) → n ≡ suc m → Reads view (expect (is (t.Sign s.Comma)) pure ts) (Err e) left → Reads view' (r.arguments trimmed src (r.expr trimmed src d) n xs ts) (Err e) left
  no_comma m left view view' e q g = fails_as view' _ _ e left (argument_goes m q) (fails view view' (expect (is (t.Sign s.Comma)) pure ts) _ e left g)

  pub no_argument : (m : ℕ) (c : Token) (us left : List Token) {X Y : Type 0} (view : X → Cut) (view' : Y → Cuts) (e : Stop) → n ≡ suc m → expect (is (t.Sign s.Comma)) pure ts ≡ got c us → Reads view (r.expr trimmed src d us) (Err e) left
      → Reads view' (r.arguments trimmed src (r.expr trimmed src d) n xs ts) (Err e) left
  no_argument m c us left view view' e q g h = fails_as view' _ _ e left (argument_goes m q ∙ rw g refl) (fails view view' (r.expr trimmed src d us) (λ y. r.arguments trimmed src (r.expr trimmed src d) m (trimmed.push xs y)) e left h)

pub no_more : (src : List ℕ) (d n : ℕ) (xs : Cuts) (ts : List Token) → n ≡ 0 → r.arguments trimmed src (r.expr trimmed src d) n xs ts ≡ got xs ts
unfolding r.arguments
no_more src d n xs ts e = rw e refl

-- an operator's word with its arguments
module _ (src : List ℕ) (d n : ℕ) (f p : Token) (op : Op) (ts us vs ws : List Token) (x : Cut) (xs : Cuts) (opened : expect (is (t.Sign s.ParenOpen)) pure ts ≡ got p us) (first : r.expr trimmed src d us ≡ got x vs)
    (takes : n ≡ arity_of op - 1) (others : r.arguments trimmed src (r.expr trimmed src d) n (trimmed.one x) vs ≡ got xs ws) where
  call_goes : r.call trimmed src (r.expr trimmed src d) f op ts ≡ and_then (expect (is (t.Sign s.ParenClose)) pure ws) (λ q. pure (trimmed.apply f.start (row_of op) xs))
  unfolding r.call
  call_goes =
      let other : r.arguments trimmed src (r.expr trimmed src d) (arity_of op - 1) (trimmed.one x) vs ≡ got xs ws = rw (← takes) others in
      expected (is (t.Sign s.ParenOpen)) _ ts ∙ rw (opened, first, other) (expected (is (t.Sign s.ParenClose)) (λ q. pure (trimmed.apply f.start (row_of op) xs)) ws)

  pub call_closes : (q : Token) (rest : List Token) → expect (is (t.Sign s.ParenClose)) pure ws ≡ got q rest → r.call trimmed src (r.expr trimmed src d) f op ts ≡ got (trimmed.apply f.start (row_of op) xs) rest
  call_closes q rest g = call_goes ∙ rw g refl

  pub no_close : (left : List Token) {X Y : Type 0} (view : X → Token) (view' : Y → Cut) (e : Stop) → Reads view (expect (is (t.Sign s.ParenClose)) pure ws) (Err e) left → Reads view' (r.call trimmed src (r.expr trimmed src d) f op ts) (Err e) left
  no_close left view view' e g = fails_as view' _ _ e left call_goes (fails view view' (expect (is (t.Sign s.ParenClose)) pure ws) _ e left g)

-- an expression, and one of a level
pub expr_goes : (src : List ℕ) (d : ℕ) (ts : List Token) → 1 ≤ d → r.expr trimmed src d ts ≡ r.level trimmed src (r.expr trimmed src (d - 1)) 7 ts
unfolding r.expr
expr_goes src d ts low =
    let e : d ≡ suc (d - 1) = omega arith in
    ap (λ n. r.expr trimmed src n ts) e

module _ (src : List ℕ) (d h : ℕ) (ts : List Token) where
  pub level_lowest : h ≡ 0 → r.level trimmed src (r.expr trimmed src d) h ts ≡ r.postfix trimmed src (r.expr trimmed src d) ts
  unfolding r.level
  level_lowest e = ap (λ n. r.level trimmed src (r.expr trimmed src d) n ts) e

  pub level_goes : 1 ≤ h → h ≤ 7 → r.level trimmed src (r.expr trimmed src d) h ts ≡ r.prefixed trimmed src (r.level trimmed src (r.expr trimmed src d) (h - 1)) (8 - h) ts
  unfolding r.level
  level_goes low high =
      let e : h ≡ suc (h - 1) = omega arith in
      let q : 7 - (h - 1) ≡ 8 - h = omega arith in
      ap (λ n. r.level trimmed src (r.expr trimmed src d) n ts) e ∙ ap (λ n. r.prefixed trimmed src (r.level trimmed src (r.expr trimmed src d) (h - 1)) n ts) q

-- a list of two, made in steps
pub two_of : (x y : Cut) (one list two : Cuts) → trimmed.one x ≡ one → one ≡ list → trimmed.push list y ≡ two → trimmed.push (trimmed.one x) y ≡ two
two_of x y one list two e f g = ap (λ (xs : Cuts). trimmed.push xs y) (e ∙ f) ∙ g

-- what stands in parentheses behind the first expression
module _ (src : List ℕ) (e : Parser Cut) (p : Token) (x : Cut) where
  abbrev closed : Parser Cut
  closed = pure (trimmed.moved p.start x)

  alone : (k : Tok) → is (t.Sign s.Comma) k ≡ false → r.in_parens_by trimmed src e p x k ≡ where_true (is (t.Sign s.ParenClose) k) closed
  alone (t.Sign s.ParenClose) off = refl
  alone (t.Sign s.Comma) off = absurd (cc)
  alone _ off = refl

  followed_on : (k : Tok) → is (t.Sign s.Comma) k ≡ true → r.in_parens_by trimmed src e p x k ≡ Some (r.tuple trimmed src e p x)
  followed_on (t.Sign s.Comma) there = refl
  followed_on _ there = absurd (cc)

  pub parens_close : (ts : List Token) → is_next (t.Sign s.Comma) ts ≡ false → first (λ o. r.in_parens_by trimmed src e p x o.kind) ts ≡ expect (is (t.Sign s.ParenClose)) (λ q. closed) ts
  parens_close [] off = refl
  parens_close (o ∷ ts) off = ap (λ u. behind u refuse o ts) (alone o.kind off)

  pub parens_go_on : (ts us : List Token) → us ≡ drop 1 ts → is_next (t.Sign s.Comma) ts ≡ true → first (λ o. r.in_parens_by trimmed src e p x o.kind) ts ≡ r.tuple trimmed src e p x us
  parens_go_on [] us rest there = absurd (cc)
  parens_go_on (o ∷ ts) us rest there = ap (λ u. behind u refuse o ts) (followed_on o.kind there) ∙ ap (r.tuple trimmed src e p x) (sym rest)
