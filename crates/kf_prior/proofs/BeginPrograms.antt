-- A full program begins in each initial store alike.
use Rattle.std.proofs.Common.{◌≡◌, ℕ, ◌+◌, ◌*◌, ◌<◌, true, List, [], ◌∷◌, ◌++◌, All, None, map, Ok, refl, sym, ap, subst, ◌∙◌, arith, append-nil}
use Rattle.std.specs.List.{list_all, range_with_len}
use Rattle.std.proofs.lemmas.Bool.{and_parts}
use Rattle.std.proofs.lemmas.List.Elements.{All-head, All-tail}
use Rattle.kf_value.specs.Numbers.{IsStore}
use Rattle.kf_value.specs.Sizes.{fault_of, well_formed}
use Rattle.kf_value.specs.Stores.{stores}
use Rattle.kf_value.specs.Types.{TypeTree, values}
use Rattle.kf_ast.specs.Sources.{DeclTree, declared, SourceTree, source}
use Rattle.kf_core.specs.Choices.{once}
use Rattle.kf_core.specs.Dxs.{DxTree, dx_at}
use Rattle.kf_core.specs.Programs.{ProgramTree}
use Rattle.kf_core.specs.Runs.{tried, store_at}
use Rattle.kf_core.specs.Runs as runs
use Rattle.kf_core.specs.Each.{placed_at}
use Rattle.kf_check.specs.Laws.{IsWellBuilt, CheckedIfTyped, SizesAgree}
use Rattle.kf_check.specs.Sources.{types_of}
use Rattle.kf_check.specs.Translation.{Typed, names_of, decl_of}
use Rattle.kf_check.specs.Kinds.{dist_place}
use Rattle.kf_prior.specs.FullSources.{full_source}
use Rattle.kf_prior.specs.Laws.{FullBeginsUniformly, initial_run}
use Rattle.kf_prior.proofs.BeginRuns.{AreUniform, begins_from, ranges, plain, sizes_positive}
use Rattle.kf_prior.proofs.Evaluating.{ChoosesAll, uniform_chosen}
use Rattle.kf_prior.proofs.FullTypes.{plain_of, KnowsTypes, knows_types, plain_types_of, full_front, full_is_built}
use Rattle.kf_prior.proofs.Literal.{some_values}
use Rattle.kf_prior.proofs.PriorFull.{full_paired}
use Rattle.kf_prior.proofs.PriorStores.{size}
use Rattle.kf_prior.proofs.PriorTargets.{IsPaired, count_is, back_types}
use Rattle.kf_prior.specs.Literals.{full_decls}

-- a declaration of a full source has the type that was written
full_plain : (ds : List DeclTree) → map plain_of (full_decls (map plain_of ds) ds) ≡ map plain_of ds
full_plain [] = refl
full_plain (declared visible n y d ∷ ds) = ap (λ ts. plain_of (declared visible n y d) ∷ ts) (full_plain ds)

tried_all : (all : List TypeTree) (t : TypeTree) (d : DxTree) → ChoosesAll t d → (n : ℕ) → tried all d n ≡ Ok (map once (values t))
tried_all all t (dx_at at d) h n = ap (placed_at at) (h (store_at all n))

-- each declaration of a full source is uniform
all_uniform : (names : List (List ℕ)) (all : List TypeTree) (ds : List DeclTree) → All (λ t. fault_of t ≡ None) (map plain_of ds) → list_all well_formed (map plain_of ds) ≡ true
    → AreUniform all (map plain_of ds) (map (decl_of names) (full_decls (map plain_of ds) ds))
all_uniform names all [] sized formed = tt
all_uniform names all (declared visible n y d ∷ ds) sized formed =
    let t = plain_of (declared visible n y d) in
    let forms = and_parts (well_formed t) (list_all well_formed (map plain_of ds)) formed in
    let here = All-head (λ u. fault_of u ≡ None) t (map plain_of ds) sized in (
      (tried_all all t _ (uniform_chosen names (dist_place d) t here forms.0), some_values t here),
      all_uniform names all ds (All-tail (λ u. fault_of u ≡ None) t (map plain_of ds) sized) forms.1,
    )

no_store : IsStore [] 0 []
unfolding stores
no_store = refl

module _ (sizes : SizesAgree) where
  declarations : (types : List TypeTree) (tree : SourceTree) (program p : ProgramTree) → IsWellBuilt tree → Typed tree program → types ≡ program.types → (t : Typed (full_source types tree) p)
      → AreUniform p.types (types_of t.variables) p.decls
  declarations types (source ds is body) program p built typed are t =
      let known : KnowsTypes program ds = knows_types sizes ds is body program built typed in
      let plain_decls : List DeclTree = full_decls (map plain_of ds) ds in
      let first : t.decls ≡ full_decls types ds = cc t.is_source in
      let decls : t.decls ≡ plain_decls = first ∙ ap (λ ts. full_decls ts ds) (are ∙ known.types) ∙ full_front ds known.more in
      let types_are : types_of t.variables ≡ map plain_of ds = plain_types_of sizes [] t.variables t.decls t.are_variables ∙ ap (map plain_of) decls ∙ full_plain ds in
      let dists : p.decls ≡ map (decl_of (names_of t.variables)) plain_decls = t.are_decls ∙ ap (map (decl_of (names_of t.variables))) decls in
      subst (λ ts. AreUniform p.types ts p.decls) (sym types_are)
      (subst (AreUniform p.types (map plain_of ds)) (sym dists) (all_uniform (names_of t.variables) p.types ds known.sized known.formed))

  pub full_begins : CheckedIfTyped → FullBeginsUniformly
  full_begins checked p f =
      let ts = types_of f.full.variables in
      let is : IsPaired p ts = full_paired (full_is_built sizes) checked p f in
      let uniform = declarations f.types f.tree f.program p f.built f.typed f.are_types f.full in
      let some : 0 < size ts = subst (λ l. 0 < size l) (append-nil ts) (sizes_positive p.types ts p.decls [] uniform (omega arith)) in
      let start : 0 ≡ 0 * size (ts ++ ts) = omega arith in
      let scale = sym (count_is p ts is) in
      let behind = sym (back_types p ts is) in
      ap (runs.declared p.types 0 p.decls) start
      ∙ begins_from p.types ts ts p.decls [] 0 [] uniform some is.types no_store
      ∙ ranges (λ j. plain (size ts) ((0 * size ts + j) * size ts)) (initial_run p) 0 0 (size ts)
      (λ j. (let number : (0 * size ts + (0 + j)) * size ts ≡ (0 + j) * size ts = omega arith in ap (plain (size ts)) number)
      ∙ (λ i. plain (scale i) ((0 + j) * size (behind i))))
      ∙ ap (λ n. map (initial_run p) (range_with_len 0 n)) scale
