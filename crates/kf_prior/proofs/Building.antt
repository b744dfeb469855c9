-- A full source is well built.
use Rattle.std.proofs.Common.{◌≡◌, ℕ, suc, ℤ, pos, negsuc, true, None, List, [], ◌∷◌, All, length, map, refl, ap, ◌∙◌, arith}
use Rattle.std.specs.List.{AllByRecursion as Each, list_all}
use Rattle.std.proofs.lemmas.Bool.{and_parts}
use Rattle.std.proofs.lemmas.List.{length-map}
use Rattle.std.proofs.lemmas.List.Elements.{All-head, All-tail}
use Rattle.kf_value.specs.Values.{ValueTree, elements}
use Rattle.kf_value.specs.Types.{TypeTree, TypeTrees, Boolean, Range, TupleOf, no_type, more_types, values}
use Rattle.kf_value.specs.Types as type
use Rattle.kf_value.specs.Sizes.{HasSize, fault_of, well_formed}
use Rattle.kf_value.proofs.Ascending.{length-values}
use Rattle.kf_value.proofs.ListLemmas.{each_map, each_weaker}
use Rattle.kf_value.proofs.Trees.{parts_list-parts}
use Rattle.kf_ops.specs.Fitting.{Takes}
use Rattle.kf_ops.proofs.EachRow.{row_at, there}
use Rattle.kf_ops.specs.declared.row.Op.TheVariants as op
use Rattle.kf_ast.specs.Exprs.{ExprTree, expr_at, SetOf, exprs}
use Rattle.kf_ast.specs.Sources.{DeclTree, declared, SourceTree, source}
use Rattle.kf_ast.specs.Built.{IsBuilt, AreBuilt, IsDistBuilt, AreDeclsBuilt, IsSourceBuilt, expr_count}
use Rattle.kf_prior.specs.FullSources.{literal, only, part_literals, parts_of, set_literal, whole_literal, uniform_over, full_decl, full_source}
use Rattle.kf_prior.specs.Literals.{HasLiteral, HaveLiterals, full_decls, least_of}
use Rattle.kf_prior.proofs.Literal.{some_values, values_literals}
use Rattle.kf_check.specs.Kinds.{dist_place}

whole_built : (at : ℕ) (z : ℤ) → IsBuilt Takes (whole_literal at z)
whole_built at (pos n) = tt
whole_built at (negsuc n) = ((row_at op.Negate, there op.Negate, refl), (tt, tt))

count-exprs : (xs : List ExprTree) → expr_count (exprs xs) ≡ length xs
count-exprs [] = refl
count-exprs (x ∷ xs) = ap suc (count-exprs xs)

all_built : (xs : List ExprTree) → Each (IsBuilt Takes) xs → AreBuilt Takes (exprs xs)
all_built [] h = tt
all_built (x ∷ xs) h = (h.0, all_built xs h.1)

only_built : (at : ℕ) (x : ExprTree) → IsBuilt Takes x → IsBuilt Takes (only at x)
only_built at x h = (omega arith, (h, tt))

set_built : (at : ℕ) (least : ExprTree) (xs : List ExprTree) → IsBuilt Takes least → Each (IsBuilt Takes) xs → IsBuilt Takes (set_literal at least xs)
set_built at least [] l h = ((row_at op.Without, there op.Without, refl), (only_built at least l, (only_built at least l, tt)))
set_built at least (x ∷ xs) l h = (omega arith, (h.0, all_built xs h.1))

length-parts : (at : ℕ) (ts : TypeTrees) (vs : List ValueTree) → HaveLiterals ts vs → length (part_literals at ts vs) ≡ length vs
length-parts at no_type [] h = refl
length-parts at no_type (v ∷ vs) h = absurd h
length-parts at (more_types t ts) [] h = absurd h
length-parts at (more_types t ts) (v ∷ vs) h = ap suc (length-parts at ts vs h.1)

mutual
  pub literal_built : (at : ℕ) (t : TypeTree) (v : ValueTree) → HasLiteral t v → IsBuilt Takes (literal at t v)
  literal_built at Boolean v h = tt
  literal_built at (Range lo hi) v h = whole_built at _
  literal_built at (TupleOf ts) v h =
      let same : parts_of v ≡ h.0 = ap parts_of h.1 ∙ parts_list-parts h.0 in
      let two = h.2 in
      let long = count-exprs (part_literals at ts h.0) ∙ length-parts at ts h.0 h.3 in
      rw same (omega arith, all_built (part_literals at ts h.0) (parts_built at ts h.0 h.3))
  literal_built at (type.SetOf base) v h =
      let same : elements v ≡ h.0 = ap elements h.1 ∙ parts_list-parts h.0 in
      rw same (set_built at (literal at base (least_of base)) (map (literal at base) h.0) (literal_built at base (least_of base) h.4)
      (each_map (IsBuilt Takes) (literal at base) h.0
      (each_weaker (HasLiteral base) (λ u. IsBuilt Takes (literal at base u)) (literal_built at base) h.0 h.5)))

  parts_built : (at : ℕ) (ts : TypeTrees) (vs : List ValueTree) → HaveLiterals ts vs → Each (IsBuilt Takes) (part_literals at ts vs)
  parts_built at no_type [] h = tt
  parts_built at no_type (v ∷ vs) h = absurd h
  parts_built at (more_types t ts) [] h = absurd h
  parts_built at (more_types t ts) (v ∷ vs) h = (literal_built at t v h.0, parts_built at ts vs h.1)

elements_built : (at : ℕ) (t : TypeTree) (vs : List ValueTree) → Each (HasLiteral t) vs → Each (IsBuilt Takes) (map (literal at t) vs)
elements_built at t vs h = each_map (IsBuilt Takes) (literal at t) vs (each_weaker (HasLiteral t) (λ v. IsBuilt Takes (literal at t v)) (literal_built at t) vs h)

listed_built : (at : ℕ) (t : TypeTree) → HasSize t → well_formed t ≡ true → IsBuilt Takes (expr_at at (SetOf (exprs (map (literal at t) (values t)))))
listed_built at t sized formed =
    let some = some_values t sized in
    let long = count-exprs (map (literal at t) (values t)) ∙ (length-map (values t) (literal at t) ∙ length-values t) in
    (omega arith, all_built (map (literal at t) (values t)) (elements_built at t (values t) (values_literals t sized formed)))

uniform_built : (at : ℕ) (t : TypeTree) → HasSize t → well_formed t ≡ true → IsDistBuilt Takes (uniform_over at t)
uniform_built at Boolean sized formed = listed_built at Boolean sized formed
uniform_built at (Range lo hi) sized formed = (whole_built at lo, whole_built at hi)
uniform_built at (TupleOf ts) sized formed = listed_built at (TupleOf ts) sized formed
uniform_built at (type.SetOf base) sized formed = listed_built at (type.SetOf base) sized formed

full_decls_built : (ts : List TypeTree) (ds : List DeclTree) → All (λ t. fault_of t ≡ None) ts → list_all well_formed ts ≡ true → AreDeclsBuilt Takes ds
    → AreDeclsBuilt Takes (full_decls ts ds)
full_decls_built [] ds sized formed h = tt
full_decls_built (t ∷ ts) [] sized formed h = tt
full_decls_built (t ∷ ts) (declared visible n y d ∷ ds) sized formed h =
    let forms = and_parts (well_formed t) (list_all well_formed ts) formed in (
      h.0,
      uniform_built (dist_place d) t (All-head (λ u. fault_of u ≡ None) t ts sized) forms.0,
      full_decls_built ts ds (All-tail (λ u. fault_of u ≡ None) t ts sized) forms.1 h.2,
    )

pub full_built : (ts : List TypeTree) (s : SourceTree) → All (λ t. fault_of t ≡ None) ts → list_all well_formed ts ≡ true → IsSourceBuilt Takes s
    → IsSourceBuilt Takes (full_source ts s)
full_built ts (source ds is xs) sized formed h = (full_decls_built ts ds sized formed h.0, h.1)
