-- Each reader of distributions reads its form.
use Rattle.std.proofs.Common.{◌≡◌, ℕ, zero, suc, List, [], ◌∷◌, ◌++◌, refl, subst, IfSome}
use Rattle.kf_lex.specs.declared.token.Token.{Token}
use Rattle.kf_lex.specs.declared.token.Tok.{Tok}
use Rattle.kf_lex.specs.declared.token.Tok.TheVariants as t
use Rattle.kf_lex.specs.declared.token.Word.TheVariants as w
use Rattle.kf_lex.specs.declared.token.Sign.TheVariants as s
use Rattle.kf_ast.specs.Exprs.{ExprTree, place}
use Rattle.kf_ast.specs.Dists.{CaseTree, case_of, dist_at, Sure, UniformSet, UniformRange, Choose, Flip}
use Rattle.kf_parse.specs.Grammar as g
use Rattle.kf_parse.specs.Grammar.{IsSign, IsWord, IsNumber, E, Case, Listed, Dist}
use Rattle.kf_parse.specs.Tokens.{is}
use Rattle.kf_parse.specs.Outcomes.{Parser, pure}
use Rattle.kf_parse.specs.Plain.{whole_trees}
use Rattle.kf_parse.specs.Reading as r
use Rattle.kf_parse.proofs.Told.{After, Reader, then_reads, deep_reads, pure_reads, done_reads, first_or_reads, where_true_some, if_first_reads, expect_reads, repeat_reads}
use Rattle.kf_parse.proofs.ToldTokens.{is_same}
use Rattle.kf_parse.proofs.ToldExprs.{number_then, some_expr, expr_reads}

module _ (src : List ℕ) where
  -- what is made of expressions
  module _ (e : Parser ExprTree) (reads : Reader (E src 1) e) where
    weighted_reads : (G : List Token → List CaseTree → Type 0) (cs : List CaseTree) → ((us : List Token) (c : CaseTree) → Case src us c → G us (cs ++ c ∷ [])) → Reader G (r.weighted whole_trees src e cs)
    unfolding r.weighted
    weighted_reads G cs made =
        then_reads (E src 1) G e _ reads (λ a x ea.
        expect_reads (After a G) (is (t.Sign s.Colon)) _ (t.Sign s.Colon) refl (λ c h.
        then_reads (E src 1) (After (c ∷ []) (After a G)) e (λ y. pure (cs ++ case_of x y ∷ [])) reads (λ b y eb.
        done_reads (After (c ∷ []) (After a G)) b (cs ++ case_of x y ∷ []) (made (a ++ c ∷ b) (case_of x y) (g.weighted c ea (is_same (t.Sign s.Colon) c.kind h) eb refl)))))

    cases_reads : (cs : List CaseTree) → Reader (Listed (Case src) cs) (r.cases whole_trees src e cs)
    unfolding r.cases
    cases_reads cs = repeat_reads (Listed (Case src) cs) _
        (λ front ds h c. where_true_some (is (t.Sign s.Comma) c.kind) _ _
        (λ k. weighted_reads (After (c ∷ []) (After front (Listed (Case src) cs))) ds (λ us x hx. g.one_more c h (is_same (t.Sign s.Comma) c.kind k) hx refl)))
        cs g.no_more

    -- a case alone in its list
    abbrev FirstCase : List Token → List CaseTree → Type 0
    FirstCase ts cs = (x : CaseTree) × Case src ts x × (cs ≡ x ∷ [])

    choose_reads : (c : Token) → IsWord w.ChooseWord c → Reader (After (c ∷ []) (Dist src)) (r.choose whole_trees src e c)
    unfolding r.choose
    choose_reads c word =
        expect_reads _ (is (t.Sign s.BraceOpen)) _ (t.Sign s.BraceOpen) refl (λ p op.
        then_reads FirstCase (After (p ∷ []) (After (c ∷ []) (Dist src))) (r.weighted whole_trees src e []) _ (weighted_reads FirstCase [] (λ us x h. (x, h, refl))) (λ a cs f.
        then_reads (Listed (Case src) cs) _ (r.cases whole_trees src e cs) _ (cases_reads cs) (λ b ds h.
        expect_reads _ (is (t.Sign s.BraceClose)) (λ q. pure (dist_at c.start (Choose ds))) (t.Sign s.BraceClose) refl (λ q cl.
        pure_reads _ (dist_at c.start (Choose ds))
        (g.choose c p q word (is_same (t.Sign s.BraceOpen) p.kind op) f.1 (subst (λ z. Listed (Case src) z b ds) f.2 h) (is_same (t.Sign s.BraceClose) q.kind cl) refl)))))

    uniform_reads : (u : Token) → IsWord w.UniformWord u → Reader (After (u ∷ []) (Dist src)) (r.uniform whole_trees src e u)
    unfolding r.uniform
    uniform_reads u word = then_reads (E src 1) (After (u ∷ []) (Dist src)) e _ reads (λ a x ea.
        if_first_reads (After a (After (u ∷ []) (Dist src))) (is (t.Sign s.Range)) _ (pure (dist_at u.start (UniformSet x)))
        (λ d h. then_reads (E src 1) (After (d ∷ []) (After (u ∷ a) (Dist src))) e (λ y. pure (dist_at u.start (UniformRange x y))) reads (λ b y eb.
        done_reads (After (d ∷ []) (After (u ∷ a) (Dist src))) b (dist_at u.start (UniformRange x y)) (g.uniform_range u d word ea (is_same (t.Sign s.Range) d.kind h) eb refl)))
        (done_reads (Dist src) (u ∷ a) (dist_at u.start (UniformSet x)) (g.uniform_set u word ea)))

  flip_reads : (f : Token) → IsWord w.FlipWord f → Reader (After (f ∷ []) (Dist src)) (r.flip whole_trees src f)
  unfolding r.flip
  flip_reads f word =
      number_then _ _ (λ n j hn.
      expect_reads (After (f ∷ n ∷ []) (Dist src)) (is (t.Sign s.Slash)) _ (t.Sign s.Slash) refl (λ d h.
      number_then _ (λ k. pure (dist_at f.start (Flip j k))) (λ m k hm.
      pure_reads _ (dist_at f.start (Flip j k)) (g.flip f n d m word hn (is_same (t.Sign s.Slash) d.kind h) hm))))

  dist_by_reads : (d : ℕ) (o : Token) (k : Tok) → o.kind ≡ k → IfSome (r.dist_by whole_trees src d o k) (λ p. Reader (After (o ∷ []) (Dist src)) p)
  dist_by_reads d o (t.Word w.UniformWord) e = uniform_reads (r.expr whole_trees src (suc d)) (expr_reads src (suc d)) o e
  dist_by_reads d o (t.Word w.ChooseWord) e = choose_reads (r.expr whole_trees src d) (expr_reads src d) o e
  dist_by_reads d o (t.Word w.FlipWord) e = flip_reads o e
  dist_by_reads d o _ e = tt

  pub dist_reads : (d : ℕ) → Reader (Dist src) (r.dist whole_trees src d)
  unfolding r.dist
  dist_reads zero = let x = some_expr src in deep_reads (Dist src) (record { tokens = x.tokens; value = dist_at (place x.value) (Sure x.value); tells = g.sure x.tells })
  dist_reads (suc d) = first_or_reads (Dist src) (λ o. r.dist_by whole_trees src d o o.kind) _ (λ o. dist_by_reads d o o.kind refl)
      (then_reads (E src 1) (Dist src) (r.expr whole_trees src (suc d)) (λ x. pure (dist_at (place x) (Sure x))) (expr_reads src (suc d))
      (λ a x ea. done_reads (Dist src) a (dist_at (place x) (Sure x)) (g.sure ea)))
