-- Turns of the loop over statements.
use Rattle.std.proofs.Common.{◌≡◌, ℕ, ◌<◌, true, false, List, [], ◌∷◌, length, refl, sym, ◌∙◌, ap, subst, arith, Option, Some, None}
use Rattle.kf_lex.specs.declared.token.Token.{Token}
use Rattle.kf_lex.specs.declared.token.Tok.{Tok}
use Rattle.kf_lex.specs.declared.token.Tok.TheVariants as t
use Rattle.kf_lex.specs.declared.token.Word.TheVariants as w
use Rattle.kf_parse.specs.Begins.{begins_statement}
use Rattle.kf_parse.specs.Reads.{passes_next}
use Rattle.kf_parse.specs.Builders.{Builder}
use Rattle.kf_parse.specs.Outcomes.{Outcome, got, stuck, deep, Parser, ◌>>=◌, and_then, pure, behind, refuse, first, repeat}
use Rattle.kf_parse.specs.Reading as r
use Rattle.kf_parse.proofs.Loops.{Shrinks, ShrinksWhere, got_shorter, repeat_turn, repeat_stuck, repeat_deep, repeat_stop, repeat_end}
use Rattle.kf_parse.proofs.Shrinks.{statement_steps}

module _ (B : Builder) (src : List ℕ) (ss : Parser B.Ss) (d : ℕ) where
  begun : (o : Token) (k : Tok) → begins_statement k ≡ true → (p : Parser B.St) × (r.statement_by B src ss d o k ≡ Some p)
  begun o t.Name e = (_, refl)
  begun o (t.Word w.SkipWord) e = (_, refl)
  begun o (t.Word w.ObserveWord) e = (_, refl)
  begun o (t.Word w.IfWord) e = (_, refl)
  begun o (t.Word w.WhileWord) e = (_, refl)
  begun o _ e = absurd (cc)

  not_begun : (o : Token) (k : Tok) → begins_statement k ≡ false → r.statement_by B src ss d o k ≡ None
  not_begun o t.Name e = absurd (cc)
  not_begun o (t.Word w.SkipWord) e = absurd (cc)
  not_begun o (t.Word w.ObserveWord) e = absurd (cc)
  not_begun o (t.Word w.IfWord) e = absurd (cc)
  not_begun o (t.Word w.WhileWord) e = absurd (cc)
  not_begun o _ e = refl

  -- a statement, of which the first token says which
  abbrev pub one : Parser B.St
  one = first (λ o. r.statement_by B src ss d o o.kind)

  module _ (xs : B.Ss) where
    abbrev pub pushing : Token → B.Ss → Option (Parser B.Ss)
    pushing o ys = r.pushed B src ss d ys (r.statement_by B src ss d o o.kind)

    -- the statement with which a turn goes on
    pushes : (o : Token) (p : Parser B.St) → r.statement_by B src ss d o o.kind ≡ Some p → pushing o xs ≡ Some (p >>= (λ x. pure (B.push_statement xs x)))
    pushes o p e = ap (r.pushed B src ss d xs) e

    reads : (o : Token) (ts : List Token) (p : Parser B.St) (v : Outcome B.St) → r.statement_by B src ss d o o.kind ≡ Some p → one (o ∷ ts) ≡ v → and_then (p ts) (λ x. pure (B.push_statement xs x)) ≡ and_then v (λ x. pure (B.push_statement xs x))
    reads o ts p v e h = ap (λ u. and_then u (λ x. pure (B.push_statement xs x))) (sym (ap (λ u. behind u refuse o ts) e) ∙ h)

    pub run_stops : (ts : List Token) → passes_next begins_statement ts ≡ false → repeat pushing xs ts ≡ got xs ts
    run_stops [] off = repeat_end pushing xs
    run_stops (o ∷ ts) off = repeat_stop pushing o xs ts (ap (r.pushed B src ss d xs) (not_begun o o.kind off))

    pub run_stuck : (ts rest : List Token) → passes_next begins_statement ts ≡ true → one ts ≡ stuck rest → repeat pushing xs ts ≡ stuck rest
    run_stuck [] rest there e = absurd (cc)
    run_stuck (o ∷ ts) rest there e = let b = begun o o.kind there in repeat_stuck pushing o xs ts (pushes o b.0 b.1) (reads o ts b.0 (stuck rest) b.1 e)

    pub run_deep : (ts : List Token) → passes_next begins_statement ts ≡ true → one ts ≡ deep → repeat pushing xs ts ≡ deep
    run_deep [] there e = absurd (cc)
    run_deep (o ∷ ts) there e = let b = begun o o.kind there in repeat_deep pushing o xs ts (pushes o b.0 b.1) (reads o ts b.0 deep b.1 e)

    module _ (shrinks : Shrinks ss) (rest : List Token) (x : B.St) where
      pub run_got : (ts : List Token) → passes_next begins_statement ts ≡ true → one ts ≡ got x rest → repeat pushing xs ts ≡ repeat pushing (B.push_statement xs x) rest
      run_got [] there e = absurd (cc)
      run_got (o ∷ ts) there e = let b = begun o o.kind there in repeat_turn pushing (λ u ys. statement_steps B src ss shrinks d u ys) o xs ts (pushes o b.0 b.1) (reads o ts b.0 (got x rest) b.1 e)

      pub run_shorter : (ts : List Token) → passes_next begins_statement ts ≡ true → one ts ≡ got x rest → length rest < length ts
      run_shorter [] there e = absurd (cc)
      run_shorter (o ∷ ts) there e =
          let b = begun o o.kind there in
          let p : Parser B.Ss = b.0 >>= (λ y. pure (B.push_statement xs y)) in
          let P : Option (Parser B.Ss) → Type 0 = ShrinksWhere in
          let n = got_shorter p (subst P (pushes o b.0 b.1) (statement_steps B src ss shrinks d o xs)) ts (reads o ts b.0 (got x rest) b.1 e) in
          omega arith
