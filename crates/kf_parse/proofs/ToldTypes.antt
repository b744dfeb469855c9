-- Each reader of types reads its form.
use Rattle.std.proofs.Common.{◌≡◌, ℕ, zero, suc, ℤ, pos, neg_ℤ, List, [], ◌∷◌, ◌++◌, refl, IfSome}
use Rattle.kf_lex.specs.declared.token.Token.{Token}
use Rattle.kf_lex.specs.declared.token.Tok.{Tok}
use Rattle.kf_lex.specs.declared.token.Tok.TheVariants as t
use Rattle.kf_lex.specs.declared.token.Word.TheVariants as w
use Rattle.kf_lex.specs.declared.token.Sign.TheVariants as s
use Rattle.kf_ast.specs.TypeForms.{TypeForm, type_at, Boolean, Range, TupleOf, SetOf, types}
use Rattle.kf_parse.specs.Grammar as g
use Rattle.kf_parse.specs.Grammar.{IsSign, IsWord, IsNumber, Whole, TypeOf, OtherTypes}
use Rattle.kf_parse.specs.Tokens.{is}
use Rattle.kf_parse.specs.Outcomes.{Parser, pure}
use Rattle.kf_parse.specs.Reading as r
use Rattle.kf_parse.proofs.Told.{After, Reader, then_reads, deep_reads, pure_reads, done_reads, first_reads, where_true_some, if_first_reads, token_of, expect_reads, repeat_reads}
use Rattle.kf_parse.proofs.ToldTokens.{is_same}
use Rattle.kf_parse.proofs.ToldExprs.{number_then}

-- a whole number, wherever it stands
abbrev WholeOf : List Token → ℤ → Type 0
WholeOf ts z = (at : ℕ) × Whole ts at z

whole_reads : Reader WholeOf r.whole
unfolding r.whole
whole_reads = first_reads WholeOf (λ o. r.whole_by o o.kind) (token_of (t.Number 0)) _ refl (λ o. by_kind o o.kind refl)
  where
    by_kind : (o : Token) (k : Tok) → o.kind ≡ k → IfSome (r.whole_by o k) (λ p. Reader (After (o ∷ []) WholeOf) p)
    by_kind o (t.Number k) e = pure_reads _ (pos k) (o.start, g.plain o e)
    by_kind o (t.Sign s.Minus) e = number_then _ (λ k. pure (neg_ℤ (pos k))) (λ n k h. pure_reads _ (neg_ℤ (pos k)) (o.start, g.minus o n e h))
    by_kind o _ e = tt

range_reads : (o : Token) (a : List Token) (lo : ℤ) → Whole a o.start lo → Reader (After a TypeOf) (r.range o lo)
unfolding r.range
range_reads o a lo h = expect_reads (After a TypeOf) (is (t.Sign s.Range)) _ (t.Sign s.Range) refl (λ u e.
    then_reads WholeOf (After (u ∷ []) (After a TypeOf)) r.whole (λ hi. pure (type_at o.start (Range lo hi))) whole_reads (λ b hi k.
    done_reads (After (u ∷ []) (After a TypeOf)) b (type_at o.start (Range lo hi)) (g.range u h (is_same (t.Sign s.Range) u.kind e) k.1 refl)))

module _ (type : Parser TypeForm) (reads : Reader TypeOf type) where
  other_types_reads : (xs : List TypeForm) → Reader (OtherTypes xs) (r.other_types type xs)
  unfolding r.other_types
  other_types_reads xs = repeat_reads (OtherTypes xs) _
      (λ front ys h c. where_true_some (is (t.Sign s.Comma) c.kind) _ _
      (λ e. then_reads TypeOf (After (c ∷ []) (After front (OtherTypes xs))) type (λ y. pure (ys ++ y ∷ [])) reads
      (λ b y k. done_reads (After (c ∷ []) (After front (OtherTypes xs))) b (ys ++ y ∷ []) (g.other_type c h (is_same (t.Sign s.Comma) c.kind e) k refl))))
      xs g.no_other_type

  tuple_type_reads : (p : Token) → IsSign s.ParenOpen p → Reader (After (p ∷ []) TypeOf) (r.tuple_type type p)
  unfolding r.tuple_type
  tuple_type_reads p op =
      then_reads TypeOf _ type _ reads (λ a x e.
      expect_reads _ (is (t.Sign s.Comma)) _ (t.Sign s.Comma) refl (λ c comma.
      then_reads TypeOf _ type _ reads (λ b y f.
      then_reads (OtherTypes (x ∷ y ∷ [])) _ (r.other_types type (x ∷ y ∷ [])) _ (other_types_reads (x ∷ y ∷ [])) (λ d xs h.
      expect_reads _ (is (t.Sign s.ParenClose)) (λ q. pure (type_at p.start (TupleOf (types xs)))) (t.Sign s.ParenClose) refl (λ q cl.
      pure_reads _ (type_at p.start (TupleOf (types xs))) (g.tuple_type p c q op e (is_same (t.Sign s.Comma) c.kind comma) f h (is_same (t.Sign s.ParenClose) q.kind cl) refl))))))

  base_by_reads : (o : Token) (k : Tok) → o.kind ≡ k → IfSome (r.base_by type o k) (λ p. Reader (After (o ∷ []) TypeOf) p)
  base_by_reads o (t.Word w.BoolWord) e = pure_reads _ (type_at o.start Boolean) (g.boolean o e)
  base_by_reads o (t.Number k) e = range_reads o (o ∷ []) (pos k) (g.plain o e)
  base_by_reads o (t.Sign s.Minus) e = number_then _ (λ k. r.range o (neg_ℤ (pos k))) (λ n k h. range_reads o (o ∷ n ∷ []) (neg_ℤ (pos k)) (g.minus o n e h))
  base_by_reads o (t.Sign s.ParenOpen) e = tuple_type_reads o e
  base_by_reads o _ e = tt

  sets_reads : (n : ℕ) → Reader TypeOf (r.sets type n)
  unfolding r.sets
  sets_reads zero = deep_reads TypeOf reads.some
  sets_reads (suc n) = if_first_reads TypeOf (is (t.Word w.SetWord)) _ _
      (λ o e. expect_reads (After (o ∷ []) TypeOf) (is (t.Word w.OfWord)) _ (t.Word w.OfWord) refl (λ f h.
      then_reads TypeOf _ (r.sets type n) _ (sets_reads n) (λ a x k.
      done_reads (After (o ∷ f ∷ []) TypeOf) a (type_at o.start (SetOf x)) (g.set_type o f (is_same (t.Word w.SetWord) o.kind e) (is_same (t.Word w.OfWord) f.kind h) k))))
      (first_reads TypeOf (λ o. r.base_by type o o.kind) (token_of (t.Word w.BoolWord)) _ refl (λ o. base_by_reads o o.kind refl))

pub type_reads : (d : ℕ) → Reader TypeOf (r.type d)
unfolding r.type
type_reads zero = deep_reads TypeOf (record { tokens = token_of (t.Word w.BoolWord) ∷ []; value = type_at 0 Boolean; tells = g.boolean (token_of (t.Word w.BoolWord)) refl })
type_reads (suc d) = sets_reads (r.type d) (type_reads d) (suc d)
