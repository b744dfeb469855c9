-- What holds of declared variables: there are few, their stores are counted, and their types have sizes and are well formed.
use Rattle.std.proofs.Common.{ℕ, ◌≡◌, ◌^◌, ◌+◌, ◌<◌, ◌≤◌, true, List, [], ◌∷◌, ◌++◌, map, length, Ok, refl, sym, ◌∙◌, subst, arith, length-append}
use Rattle.std.specs.List.{All, list_all}
use Rattle.std.proofs.lemmas.List.{map-append}
use Rattle.std.proofs.lemmas.List.Elements.{All-nil, All-push}
use Rattle.std.proofs.lemmas.List.Folds.{list_all-append}
use Rattle.kf_value.specs.Types.{TypeTree, count, product}
use Rattle.kf_value.specs.Sizes.{HasSize, well_formed}
use Rattle.kf_ops.specs.Fitting.{Takes}
use Rattle.kf_ast.specs.Names.{name}
use Rattle.kf_ast.specs.TypeForms.{TypeForm}
use Rattle.kf_ast.specs.Dists.{DistTree}
use Rattle.kf_ast.specs.Sources.{DeclTree, declared}
use Rattle.kf_ast.specs.Built.{IsTypeBuilt, AreDeclsBuilt}
use Rattle.kf_check.specs.Sources.{Variable, types_of, JudgesDecls}
use Rattle.kf_check.specs.Variables.{AreDeclared}
use Rattle.kf_check.proofs.Kinding.{same_ok}
use Rattle.kf_check.proofs.Declared.{GoodDecl, good_decl}
use Rattle.kf_check.proofs.Sized.{sized, formed, some_values}
use Rattle.kf_check.proofs.DeclTurns.{product_grows}

pub record Facts (vs : List Variable) : Type 0 where
  pub few : length (types_of vs) ≤ 32
  pub fits : product (map count (types_of vs)) ≤ 2 ^ 63
  pub sized : All HasSize (types_of vs)
  pub formed : list_all well_formed (types_of vs) ≡ true
  pub valued : All (λ t. 0 < count t) (types_of vs)

no_facts : Facts []
no_facts = record { few = omega arith; fits = omega arith; sized = All-nil HasSize; formed = refl; valued = All-nil (λ t. 0 < count t) }

last_formed : (ts : List TypeTree) (t : TypeTree) → list_all well_formed ts ≡ true → well_formed t ≡ true → list_all well_formed (ts ++ t ∷ []) ≡ true
last_formed ts t h g = list_all-append well_formed ts (t ∷ []) ∙ rw (h, g) refl

more_facts : (vs : List Variable) (n : List ℕ) (y : TypeForm) (d : DistTree) (v : Variable) → IsTypeBuilt y → Facts vs → GoodDecl vs n y d v → Facts (vs ++ v ∷ [])
more_facts vs n y d v built facts good =
    let types : types_of vs ++ v.type ∷ [] ≡ types_of (vs ++ v ∷ []) = sym (map-append (λ w. w.type) vs (v ∷ [])) in
    let longer : length (types_of vs ++ v.type ∷ []) ≡ length (types_of vs) + 1 = length-append (types_of vs) (v.type ∷ []) in
    let few : length (types_of vs ++ v.type ∷ []) ≤ 32 = omega arith in
    record {
      few = subst (λ us. length us ≤ 32) types few;
      fits = subst (λ us. product (map count us) ≤ 2 ^ 63) types (subst (λ m. m ≤ 2 ^ 63) (sym (product_grows (types_of vs) v.type)) good.narrow);
      sized = subst (All HasSize) types (All-push HasSize (types_of vs) v.type facts.sized (sized y v.type good.typed));
      formed = subst (λ us. list_all well_formed us ≡ true) types (last_formed (types_of vs) v.type facts.formed (formed y v.type good.typed built));
      valued = subst (All (λ u. 0 < count u)) types (All-push (λ u. 0 < count u) (types_of vs) v.type facts.valued (some_values y v.type good.typed));
    }

all_facts : (vs ws : List Variable) (ds : List DeclTree) → AreDeclsBuilt Takes ds → Facts vs → JudgesDecls vs ds (Ok ws) → Facts ws
all_facts vs ws [] built facts j = subst Facts (sym (same_ok ws vs j)) facts
all_facts vs ws (declared visible (name n at) y d ∷ ds) built facts j = all_facts (vs ++ j.0 ∷ []) ws ds built.2 (more_facts vs n y d j.0 built.0 facts (good_decl vs visible n at y d j.0 j.1)) j.2

pub facts_of : (vs : List Variable) → AreDeclared vs → Facts vs
facts_of vs h = all_facts [] vs h.0 h.1 no_facts h.2
