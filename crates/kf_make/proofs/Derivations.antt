-- The tokens of the made text are those of its source, by the grammar.
use Rattle.std.proofs.Common.{◌≡◌, ◌+◌, ◌-◌, ℕ, zero, suc, false, List, [], ◌∷◌, ◌++◌, codes, length, length-append, append-nil, append_assoc, pos, take, drop, slice_range, refl, sym, ap, ◌∙◌, subst, arith}
use Rattle.std.proofs.Math.Seq.{drop-append_seam, take-append_seam}
use Rattle.kf_lex.specs.declared.token.Sign.TheVariants as s
use Rattle.kf_lex.specs.declared.token.Tok.TheVariants as t
use Rattle.kf_lex.specs.declared.token.Token.{Token}
use Rattle.kf_lex.specs.declared.token.Word.TheVariants as w
use Rattle.kf_lex.specs.Words.{reserved}
use Rattle.kf_ops.specs.declared.row.Op.TheVariants as op
use Rattle.kf_ops.specs.Places.{number_of}
use Rattle.kf_ast.specs.Names.{name}
use Rattle.kf_ast.specs.Exprs.{ExprTree, expr_at, Name, Apply, exprs}
use Rattle.kf_ast.specs.TypeForms.{Range, type_at}
use Rattle.kf_ast.specs.Dists.{Choose, UniformRange, dist_at}
use Rattle.kf_ast.specs.Sources.{DeclTree, declared}
use Rattle.kf_ast.specs.Stmts.{StmtTree, Observe, stmt_at}
use Rattle.kf_parse.specs.Operators.{IsBetween}
use Rattle.kf_parse.specs.Grammar.{IsName, IsNumber, IsWord, E, Operand}
use Rattle.kf_parse.specs.Grammar as g
use Rattle.kf_parse.specs.Programs.{Declaration, IsProgram, Statement, Statements}
use Rattle.kf_parse.specs.Programs as p
use Rattle.kf_make.specs.Making.{make_source}
use Rattle.kf_make.specs.Made.{made_cases, made_declaration, made_statement, made_statements, made_tree, number_at, parity_at, make_lines, make_head, make_line}
use Rattle.kf_make.proofs.Fragments.{token_at, tokens_of}
use Rattle.kf_make.proofs.Tokens.{head_fragments, line_tokens, lines_tokens, made_tokens}

-- the slice of a source at which a piece of it stands
cut_there : (src front before piece rest : List ℕ) (at far : ℕ) → src ≡ front ++ (before ++ (piece ++ rest)) → at ≡ length front → far ≡ length before
    → slice_range src (at + far) (at + (far + length piece)) ≡ piece
cut_there src front before piece rest at far e f h =
    let width : at + (far + length piece) - (at + far) ≡ length piece = omega arith in
    let start : at + far ≡ length (front ++ before) = omega (arith, length-append front before, f, h) in
    let whole : src ≡ (front ++ before) ++ (piece ++ rest) = e ∙ sym (append_assoc front before (piece ++ rest)) in
    rw (width, start, whole, drop-append_seam (front ++ before) (piece ++ rest)) (take-append_seam piece rest)

mod_between : IsBetween (t.Word w.ModWord) op.Mod
unfolding reserved
mod_between = record { spelled = refl; two = refl; low = omega arith }

minus_between : IsBetween (t.Sign s.Minus) op.Subtract
minus_between = record { spelled = refl; two = refl; low = omega arith }

module _ (src : List ℕ) where
  -- an expression of a level is one of the level below
  below : {ts : List Token} {x : ExprTree} (l : ℕ) → (l ≡ 4 → ⊥) → E src (suc l) ts x → E src l ts x
  below {ts} l other e = g.chain other e g.unchained (sym (append-nil ts))

  from_five : {ts : List Token} {x : ExprTree} → E src 5 ts x → E src 1 ts x
  from_five e =
      below 1 (λ h. absurd (omega (arith, h))) (below 2 (λ h. absurd (omega (arith, h))) (below 3 (λ h. absurd (omega (arith, h))) (g.alone e)))

  from_six : {ts : List Token} {x : ExprTree} → E src 6 ts x → E src 5 ts x
  from_six e = below 5 (λ h. absurd (omega (arith, h))) e

  from_seven : {ts : List Token} {x : ExprTree} → E src 7 ts x → E src 6 ts x
  from_seven e = below 6 (λ h. absurd (omega (arith, h))) e

  operand : {ts : List Token} {x : ExprTree} → Operand src ts x → E src 7 ts x
  operand {ts} o = below 7 (λ h. absurd (omega (arith, h))) (g.parts o g.no_part (sym (append-nil ts)))

  number : (n : Token) {k : ℕ} → IsNumber k n → E src 1 (n ∷ []) (number_at n.start k)
  number n h = from_five (from_six (from_seven (operand (g.number n h))))

  -- `x mod 2`
  parity : (n o m : Token) → IsName n → IsWord w.ModWord o → IsNumber 2 m → slice_range src n.start n.end ≡ codes "x" → m.start ≡ n.start + 6
      → E src 6 (n ∷ o ∷ m ∷ []) (parity_at n.start)
  parity n o m is_name is_mod is_two spelt behind =
      let there : (text : List ℕ) (at : ℕ) → ExprTree =
      λ text at. expr_at n.start (Apply (number_of op.Mod) (exprs (expr_at n.start (Name (name text n.start)) ∷ number_at at 2 ∷ []))) in
      let read : E src 6 (n ∷ o ∷ m ∷ []) (there (slice_range src n.start n.end) m.start) =
      g.chain (λ h. absurd (omega (arith, h))) (operand (g.variable n is_name))
      (g.chained o op.Mod g.unchained (subst (λ k. IsBetween k op.Mod) (sym is_mod) mod_between, refl) (operand (g.number m is_two)) refl) refl in
      subst (λ at. E src 6 (n ∷ o ∷ m ∷ []) (there (codes "x") at)) behind
      (subst (λ text. E src 6 (n ∷ o ∷ m ∷ []) (there text m.start)) spelt read)

  -- a line's statement
  line_statement : (at : ℕ) → slice_range src (at + 17) (at + 18) ≡ codes "x" → slice_range src (at + 34) (at + 35) ≡ codes "x"
      → Statement src (line_tokens at []) (made_statement at)
  line_statement at first second =
      let here : at + 0 ≡ at = omega arith in
      let one = parity (token_at t.Name (at + 17) (at + 18)) (token_at (t.Word w.ModWord) (at + 19) (at + 22)) (token_at (t.Number 2) (at + 23) (at + 24))
      refl refl refl first (omega arith) in
      let two = parity (token_at t.Name (at + 34) (at + 35)) (token_at (t.Word w.ModWord) (at + 36) (at + 39)) (token_at (t.Number 2) (at + 40) (at + 41))
      refl refl refl second (omega arith) in
      let other = g.chain (λ h. absurd (omega (arith, h))) (from_seven (operand (g.number (token_at (t.Number 1) (at + 30) (at + 31)) refl)))
      (g.chained (token_at (t.Sign s.Minus) (at + 32) (at + 33)) op.Subtract g.unchained (minus_between, refl) two refl) refl in
      let heavy = g.weighted (token_at (t.Sign s.Colon) (at + 25) (at + 26)) (from_five (from_six one)) refl
      (number (token_at (t.Number 3) (at + 27) (at + 28)) refl) refl in
      let light = g.weighted (token_at (t.Sign s.Colon) (at + 42) (at + 43)) (from_five other) refl
      (number (token_at (t.Number 1) (at + 44) (at + 45)) refl) refl in
      let others = g.one_more (token_at (t.Sign s.Comma) (at + 28) (at + 29)) g.no_more refl light refl in
      let choice = g.choose (token_at (t.Word w.ChooseWord) (at + 8) (at + 14)) (token_at (t.Sign s.BraceOpen) (at + 15) (at + 16))
      (token_at (t.Sign s.BraceClose) (at + 46) (at + 47)) refl refl heavy others refl refl in
      subst (λ q. Statement src (line_tokens at []) (stmt_at q (Observe (dist_at (at + 8) (Choose (made_cases at)))))) here
      (p.observe (token_at (t.Word w.ObserveWord) (at + 0) (at + 7)) (token_at (t.Sign s.Semi) (at + 47) (at + 48)) refl choice refl refl)

  -- a statement may stand before others
  prepend : {a b : List Token} {x : StmtTree} {xs : List StmtTree} → Statement src a x → Statements src b xs → Statements src (a ++ b) (x ∷ xs)
  prepend {a} first p.no_statement = p.statement p.no_statement first (append-nil a)
  prepend {a} first (p.statement {a = c} {b = d} others last e) =
      p.statement (prepend first others) last (ap (λ ts. a ++ ts) e ∙ sym (append_assoc a c d))

  lines_parsed : (front : List ℕ) (at k : ℕ) → src ≡ front ++ make_lines k → at ≡ length front → Statements src (lines_tokens at k) (made_statements at k)
  lines_parsed front at zero e f = p.no_statement
  lines_parsed front at (suc k) e f =
      let rest = make_lines k in
      let first = cut_there src front (take 17 make_line) (codes "x") (drop 18 make_line ++ rest) at 17 e f refl in
      let second = cut_there src front (take 34 make_line) (codes "x") (drop 35 make_line ++ rest) at 34 e f refl in
      prepend (line_statement at first second)
      (lines_parsed (front ++ make_line) (at + 49) k (e ∙ sym (append_assoc front make_line rest)) (omega (arith, length-append front make_line, f)))

  head_declared : slice_range src 4 5 ≡ codes "x" → Declaration src (tokens_of 0 0 head_fragments []) made_declaration
  head_declared spelt =
      let values = g.range (token_at (t.Sign s.Range) 9 11) (g.plain (token_at (t.Number 0) 8 9) refl) refl
      (g.plain (token_at (t.Number 63) 11 13) refl) refl in
      let alike = g.uniform_range (token_at (t.Word w.UniformWord) 17 24) (token_at (t.Sign s.Range) 26 28) refl
      (number (token_at (t.Number 0) 25 26) refl) refl (number (token_at (t.Number 63) 28 30) refl) refl in
      let there : (text : List ℕ) → DeclTree =
      λ text. declared false (name text 4) (type_at 8 (Range (pos 0) (pos 63))) (dist_at 17 (UniformRange (number_at 25 0) (number_at 28 63))) in
      subst (λ text. Declaration src (tokens_of 0 0 head_fragments []) (there text)) spelt
      (p.variable (token_at (t.Word w.VarWord) 0 3) (token_at t.Name 4 5) (token_at (t.Sign s.Colon) 6 7) (token_at (t.Sign s.Assign) 14 16)
      (token_at (t.Sign s.Semi) 30 31) (p.var refl) refl refl values refl alike refl refl)

pub made_derived : (count : ℕ) → IsProgram (make_source count) (made_tokens count) (made_tree count)
made_derived count =
    let src = make_source count in
    p.program (p.declaration p.no_declaration (head_declared src refl) refl) p.no_target (lines_parsed src make_head 32 count refl refl) refl
