-- A program's operators have as many arguments as they take, and none of its lists is too short.
use Rattle.std.proofs.Common.{◌≡◌, ℕ, ◌≤◌, List, [], ◌∷◌, ◌++◌, length, length-append, refl, sym, ◌∙◌, subst, arith}
use Rattle.kf_ops.specs.declared.row.Op.{Op}
use Rattle.kf_ops.specs.declared.row.Op.TheVariants as op
use Rattle.kf_ops.specs.Fitting.{Takes}
use Rattle.kf_lex.specs.declared.token.Token.{Token}
use Rattle.kf_lex.specs.declared.token.Tok.{Tok}
use Rattle.kf_ast.specs.TypeForms.{TypeForm, types}
use Rattle.kf_ast.specs.Exprs.{ExprTree, expr_at, exprs, placed}
use Rattle.kf_ast.specs.Dists.{CaseTree, case_of, DistTree}
use Rattle.kf_ast.specs.Stmts.{StmtTree, stmts}
use Rattle.kf_ast.specs.Sources.{DeclTree, declared}
use Rattle.kf_ast.specs.Built.{type_count, IsTypeBuilt, AreTypesBuilt, expr_count, IsBuilt, AreBuilt, AreCasesBuilt, IsDistBuilt, IsStmtBuilt, AreStmtsBuilt, AreDeclsBuilt, AreListedBuilt}
use Rattle.kf_parse.specs.Operators.{IsBetween, IsBefore, arity_of}
use Rattle.kf_parse.specs.Grammar as g
use Rattle.kf_parse.specs.Grammar.{Parts, E, Chain, Operand, Others, TypeOf, OtherTypes, Case, Listed, Dist}
use Rattle.kf_parse.specs.Programs as p
use Rattle.kf_parse.specs.Programs.{Statement, Block, Statements, Declaration, Declarations}
use Rattle.kf_parse.specs.Laws.{OnlyBuilt}
use Rattle.kf_parse.specs.OperatorTokens.{row_of}

-- ---- operators

takes : (o : Op) → Takes (row_of o) (arity_of o)
takes op.Or = (_, refl, refl)
takes _ = (_, refl, refl)

takes_two : (k : Tok) (o : Op) → IsBetween k o → Takes (row_of o) 2
takes_two k o b = subst (Takes (row_of o)) b.two (takes o)

takes_one : (k : Tok) (o : Op) → IsBefore k o → Takes (row_of o) 1
takes_one k o b = subst (Takes (row_of o)) b.one (takes o)

-- ---- lists

expr_count-exprs : (xs : List ExprTree) → expr_count (exprs xs) ≡ length xs
expr_count-exprs [] = refl
expr_count-exprs (x ∷ xs) = let rest = expr_count-exprs xs in omega arith

type_count-types : (xs : List TypeForm) → type_count (types xs) ≡ length xs
type_count-types [] = refl
type_count-types (x ∷ xs) = let rest = type_count-types xs in omega arith

push_built : (xs : List ExprTree) (y : ExprTree) → AreBuilt Takes (exprs xs) → IsBuilt Takes y → AreBuilt Takes (exprs (xs ++ y ∷ []))
push_built [] y b c = (c, tt)
push_built (x ∷ xs) y b c = (b.0, push_built xs y b.1 c)

push_types : (xs : List TypeForm) (y : TypeForm) → AreTypesBuilt (types xs) → IsTypeBuilt y → AreTypesBuilt (types (xs ++ y ∷ []))
push_types [] y b c = (c, tt)
push_types (x ∷ xs) y b c = (b.0, push_types xs y b.1 c)

abbrev IsCaseBuilt : CaseTree → Type 0
IsCaseBuilt (case_of x y) = IsBuilt Takes x × IsBuilt Takes y

push_cases : (xs : List CaseTree) (y : CaseTree) → AreCasesBuilt Takes xs → IsCaseBuilt y → AreCasesBuilt Takes (xs ++ y ∷ [])
push_cases [] (case_of x y) b c = (c.0, c.1, tt)
push_cases (case_of z u ∷ xs) y b c = (b.0, b.1, push_cases xs y b.2 c)

push_listed : (xs : List StmtTree) (y : StmtTree) → AreListedBuilt Takes xs → IsStmtBuilt Takes y → AreListedBuilt Takes (xs ++ y ∷ [])
push_listed [] y b c = (c, tt)
push_listed (x ∷ xs) y b c = (b.0, push_listed xs y b.1 c)

listed_built : (xs : List StmtTree) → AreListedBuilt Takes xs → AreStmtsBuilt Takes (stmts xs)
listed_built [] b = tt
listed_built (x ∷ xs) b = (b.0, listed_built xs b.1)

push_decls : (xs : List DeclTree) (y : DeclTree) → AreDeclsBuilt Takes xs → AreDeclsBuilt Takes (y ∷ []) → AreDeclsBuilt Takes (xs ++ y ∷ [])
push_decls [] y b c = c
push_decls (declared visible n t d ∷ xs) y b c = (b.0, b.1, push_decls xs y b.2 c)

-- ---- expressions

placed_built : (at : ℕ) (x : ExprTree) → IsBuilt Takes x → IsBuilt Takes (placed at x)
placed_built at (expr_at from shape) b = b

parts_built : {x z : ExprTree} {ts : List Token} → Parts x ts z → IsBuilt Takes x → IsBuilt Takes z
parts_built g.no_part b = b
parts_built (g.part d n p i j w) b = parts_built p b

others_long : {src : List ℕ} {xs ys : List ExprTree} {ts : List Token} → Others src xs ts ys → length xs ≤ length ys
others_long g.no_other = omega arith
others_long (g.other c {ys = ys} {y = y} l i e w) = let rest = others_long l in let more = length-append ys (y ∷ []) in omega arith

module _ (src : List ℕ) where
  mutual
    e_built : {l : ℕ} {ts : List Token} {x : ExprTree} → E src l ts x → IsBuilt Takes x
    e_built (g.chain ne e f w) = chain_built f (e_built e)
    e_built (g.alone e) = e_built e
    e_built (g.compare o op e i f w) = (takes_two o.kind op i.0, (e_built e, (e_built f, tt)))
    e_built (g.prefix o op i e) = (takes_one o.kind op i.0, (e_built e, tt))
    e_built (g.parts o f w) = parts_built f (operand_built o)

    chain_built : {l : ℕ} {x z : ExprTree} {ts : List Token} → Chain src l x ts z → IsBuilt Takes x → IsBuilt Takes z
    chain_built g.unchained b = b
    chain_built (g.chained o op f i e w) b = (takes_two o.kind op i.0, (chain_built f b, (e_built e, tt)))

    operand_built : {ts : List Token} {x : ExprTree} → Operand src ts x → IsBuilt Takes x
    operand_built (g.number n i) = tt
    operand_built (g.truth o i) = tt
    operand_built (g.untruth o i) = tt
    operand_built (g.variable n i) = tt
    operand_built (g.parens p q {x = x} i e j w) = placed_built p.start x (e_built e)
    operand_built (g.tuple p c q {xs = xs} i e j f l k w) = ((let long = others_long l in let many = expr_count-exprs xs in omega arith), others_built l (e_built e, (e_built f, tt)))
    operand_built (g.set p q {xs = xs} i e l k w) = ((let long = others_long l in let many = expr_count-exprs xs in omega arith), others_built l (e_built e, tt))
    operand_built (g.call f p q op {xs = xs} c i e l n k w) = (subst (λ m. Takes (row_of op) m) (c.1 ∙ sym n ∙ sym (expr_count-exprs xs)) (takes op), others_built l (e_built e, tt))

    others_built : {xs ys : List ExprTree} {ts : List Token} → Others src xs ts ys → AreBuilt Takes (exprs xs) → AreBuilt Takes (exprs ys)
    others_built g.no_other b = b
    others_built (g.other c {ys = ys} {y = y} l i e w) b = push_built ys y (others_built l b) (e_built e)

-- ---- types

other_types_long : {xs ys : List TypeForm} {ts : List Token} → OtherTypes xs ts ys → length xs ≤ length ys
other_types_long g.no_other_type = omega arith
other_types_long (g.other_type c {ys = ys} {y = y} l i e w) = let rest = other_types_long l in let more = length-append ys (y ∷ []) in omega arith

mutual
  type_built : {ts : List Token} {x : TypeForm} → TypeOf ts x → IsTypeBuilt x
  type_built (g.boolean b i) = tt
  type_built (g.range r x i y w) = tt
  type_built (g.tuple_type p c q {xs = xs} i e j f l k w) = ((let long = other_types_long l in let many = type_count-types xs in omega arith), other_types_built l (type_built e, (type_built f, tt)))
  type_built (g.set_type o f i j e) = type_built e

  other_types_built : {xs ys : List TypeForm} {ts : List Token} → OtherTypes xs ts ys → AreTypesBuilt (types xs) → AreTypesBuilt (types ys)
  other_types_built g.no_other_type b = b
  other_types_built (g.other_type c {ys = ys} {y = y} l i e w) b = push_types ys y (other_types_built l b) (type_built e)

-- ---- distributions, statements and programs

module _ (src : List ℕ) where
  case_built : {ts : List Token} {x : CaseTree} → Case src ts x → IsCaseBuilt x
  case_built (g.weighted c e i f w) = (e_built src e, e_built src f)

  other_cases_built : {xs ys : List CaseTree} {ts : List Token} → Listed (Case src) xs ts ys → AreCasesBuilt Takes xs → AreCasesBuilt Takes ys
  other_cases_built g.no_more b = b
  other_cases_built (g.one_more c {ys = ys} {y = y} l i e w) b = push_cases ys y (other_cases_built l b) (case_built e)

  other_cases_long : {xs ys : List CaseTree} {ts : List Token} → Listed (Case src) xs ts ys → length xs ≤ length ys
  other_cases_long g.no_more = omega arith
  other_cases_long (g.one_more c {ys = ys} {y = y} l i e w) = let rest = other_cases_long l in let more = length-append ys (y ∷ []) in omega arith

  dist_built : {ts : List Token} {d : DistTree} → Dist src ts d → IsDistBuilt Takes d
  dist_built (g.sure e) = e_built src e
  dist_built (g.uniform_set u i e) = e_built src e
  dist_built (g.uniform_range u r i e j f w) = (e_built src e, e_built src f)
  dist_built (g.choose c p q {x = x} i j e l k w) = ((let long = other_cases_long l in omega arith), other_cases_built l (push_cases [] x tt (case_built e)))
  dist_built (g.flip f n d m i j k l) = tt

  mutual
    statement_built : {ts : List Token} {x : StmtTree} → Statement src ts x → IsStmtBuilt Takes x
    statement_built (p.skip k e i j) = tt
    statement_built (p.assign n a e i j d k w) = dist_built d
    statement_built (p.observe o e i d j w) = dist_built d
    statement_built (p.if_else i e {xs = xs} {ys = ys} j d b k c w) = (dist_built d, listed_built xs (block_built b), listed_built ys (block_built c))
    statement_built (p.while o {xs = xs} i d b w) = (dist_built d, listed_built xs (block_built b))

    block_built : {ts : List Token} {xs : List StmtTree} → Block src ts xs → AreListedBuilt Takes xs
    block_built (p.braces o q i b j w) = statements_built b

    statements_built : {ts : List Token} {xs : List StmtTree} → Statements src ts xs → AreListedBuilt Takes xs
    statements_built p.no_statement = tt
    statements_built (p.statement {xs = xs} {x = x} l e w) = push_listed xs x (statements_built l) (statement_built e)

  declaration_built : {ts : List Token} {x : DeclTree} → Declaration src ts x → AreDeclsBuilt Takes (x ∷ [])
  declaration_built (p.variable v n c a e i j k y l d m w) = (type_built y, dist_built d, tt)

  declarations_built : {ts : List Token} {xs : List DeclTree} → Declarations src ts xs → AreDeclsBuilt Takes xs
  declarations_built p.no_declaration = tt
  declarations_built (p.declaration {xs = xs} {x = x} l e w) = push_decls xs x (declarations_built l) (declaration_built e)

pub only_built : OnlyBuilt
only_built src ts x (p.program ds is xs w) = (declarations_built src ds, statements_built src xs)
