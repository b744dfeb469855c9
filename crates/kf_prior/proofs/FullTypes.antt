-- The types of declared variables are those that are written, have a size, and tuples of at least two parts.
use Rattle.std.proofs.Common.{◌≡◌, ℕ, true, false, List, [], ◌∷◌, ◌++◌, All, map, Option, None, Some, Result, Ok, Err, refl, sym, ap, ◌∙◌, subst, append_assoc, append-nil}
use Rattle.std.specs.List.{list_all}
use Rattle.std.proofs.lemmas.List.{map-append}
use Rattle.std.proofs.lemmas.List.Elements.{All-nil, All-cons}
use Rattle.kf_value.specs.declared.ty.TyFault.{TyFault}
use Rattle.kf_value.specs.Types.{TypeTree, count}
use Rattle.kf_value.specs.Sizes.{HasSize, fault_of, well_formed}
use Rattle.kf_ast.specs.Names.{name}
use Rattle.kf_ast.specs.TypeForms.{TypeForm}
use Rattle.kf_ast.specs.Built.{AreDeclsBuilt}
use Rattle.kf_ast.specs.Sources.{DeclTree, declared, ItemTree, item, source}
use Rattle.kf_ast.specs.Stmts.{StmtTree}
use Rattle.kf_ops.specs.Fitting.{Takes}
use Rattle.kf_core.specs.Programs.{ProgramTree}
use Rattle.kf_check.specs.Laws.{IsWellBuilt, SizesAgree, plain_type}
use Rattle.kf_check.specs.Types.{greatest_size, JudgesType}
use Rattle.kf_check.specs.Sources.{Variable, types_of, JudgesDecls, JudgesItems}
use Rattle.kf_check.specs.Translation.{Typed}
use Rattle.kf_check.proofs.Declared.{good_decl}
use Rattle.kf_check.proofs.Kinding.{same_ok}
use Rattle.kf_check.proofs.Sized.{both, plain_formed}
use Rattle.kf_prior.specs.FullSources.{full_decl}
use Rattle.kf_prior.specs.Laws.{FullIsBuilt}
use Rattle.kf_prior.proofs.Building.{full_built}
use Rattle.kf_prior.specs.Literals.{full_decls}

-- the type that a declaration writes
abbrev pub plain_of : DeclTree → TypeTree
plain_of (declared visible n y d) = plain_type y

pub all_formed : (ds : List DeclTree) → AreDeclsBuilt Takes ds → list_all well_formed (map plain_of ds) ≡ true
all_formed [] b = refl
all_formed (declared visible n y d ∷ ds) b = both (well_formed (plain_type y)) (list_all well_formed (map plain_of ds)) (plain_formed y b.0) (all_formed ds b.2)

-- ---- sizes

abbrev held : ℕ → Option TyFault → Result ℕ TyFault
held n None = Ok n
held n (Some fault) = Err fault

no_fault : (n : ℕ) (o : Option TyFault) → held n o ≡ Ok n → o ≡ None
no_fault n None h = refl
no_fault n (Some f) h = absurd (cc)

module _ (sizes : SizesAgree) where
  sized : (y : TypeForm) (t : TypeTree) → JudgesType greatest_size y (Ok t) → HasSize (plain_type y)
  sized y t judged = let agrees = sizes y (Ok t) judged in no_fault (count (plain_type y)) (fault_of (plain_type y)) agrees.1

  pub plain_sized : (vs ws : List Variable) (ds : List DeclTree) → JudgesDecls vs ds (Ok ws) → All (λ t. fault_of t ≡ None) (map plain_of ds)
  plain_sized vs ws [] h = All-nil (λ t. fault_of t ≡ None)
  plain_sized vs ws (declared visible (name n at) y d ∷ ds) h =
      All-cons (λ t. fault_of t ≡ None) (plain_type y) (map plain_of ds) (sized y h.0.type (good_decl vs visible n at y d h.0 h.1).typed)
      (plain_sized (vs ++ h.0 ∷ []) ws ds h.2)

  pub plain_types_of : (vs ws : List Variable) (ds : List DeclTree) → JudgesDecls vs ds (Ok ws) → types_of ws ≡ types_of vs ++ map plain_of ds
  plain_types_of vs ws [] h = ap types_of (same_ok ws vs h) ∙ sym (append-nil (types_of vs))
  plain_types_of vs ws (declared visible (name n at) y d ∷ ds) h =
      let is : h.0.type ≡ plain_type y = (sizes y (Ok h.0.type) (good_decl vs visible n at y d h.0 h.1).typed).0 in
      plain_types_of (vs ++ h.0 ∷ []) ws ds h.2
      ∙ (ap (λ ts. ts ++ map plain_of ds) (map-append (λ v. v.type) vs (h.0 ∷ []))
      ∙ (append_assoc (types_of vs) (h.0.type ∷ []) (map plain_of ds) ∙ ap (λ t. types_of vs ++ t ∷ map plain_of ds) is))

-- items add carried copies behind the variables
items_grow : (vs : List Variable) (stood : List ItemTree) (ts us : List TypeTree) (is : List ItemTree) → JudgesItems vs stood ts is (Ok us)
    → (more : List TypeTree) × (us ≡ ts ++ more)
items_grow vs stood ts us [] h = ([], same_ok us ts h ∙ sym (append-nil ts))
items_grow vs stood ts us (item false (name n at) ∷ is) h =
    let rest = items_grow vs (item false (name n at) ∷ stood) h.0 us is h.2 in
    (rest.0, rest.1 ∙ ap (λ l. l ++ rest.0) (same_ok h.0 ts h.1.2.2))
items_grow vs stood ts us (item true (name n at) ∷ is) h =
    let rest = items_grow vs (item true (name n at) ∷ stood) h.0 us is h.2 in
    let t = h.1.0 in
    (t ∷ rest.0, rest.1 ∙ (ap (λ l. l ++ rest.0) (same_ok h.0 (ts ++ t ∷ []) h.1.2.2.2) ∙ append_assoc ts (t ∷ []) rest.0))

-- ---- only the first types count

pub full_front : (ds : List DeclTree) (more : List TypeTree) → full_decls (map plain_of ds ++ more) ds ≡ full_decls (map plain_of ds) ds
full_front [] [] = refl
full_front [] (t ∷ ts) = refl
full_front (d ∷ ds) more = ap (λ es. full_decl (plain_of d) d ∷ es) (full_front ds more)

-- what is known of the types of a program
pub record KnowsTypes (p : ProgramTree) (ds : List DeclTree) : Type 0 where
  pub more : List TypeTree
  pub types : p.types ≡ map plain_of ds ++ more
  pub sized : All (λ t. fault_of t ≡ None) (map plain_of ds)
  pub formed : list_all well_formed (map plain_of ds) ≡ true

pub knows_types : SizesAgree → (ds : List DeclTree) (is : List ItemTree) (body : List StmtTree) (p : ProgramTree) → IsWellBuilt (source ds is body) → Typed (source ds is body) p
    → KnowsTypes p ds
knows_types sizes ds is body p built typed =
    let same : typed.decls ≡ ds = cc typed.is_source in
    let judged = subst (λ es. JudgesDecls [] es (Ok typed.variables)) same typed.are_variables in
    let grown = items_grow typed.variables [] (types_of typed.variables) p.types typed.items typed.are_types in
    record {
      more = grown.0;
      types = grown.1 ∙ ap (λ ts. ts ++ grown.0) (plain_types_of sizes [] typed.variables ds judged);
      sized = plain_sized sizes [] typed.variables ds judged;
      formed = all_formed ds built.0;
    }

pub full_is_built : SizesAgree → FullIsBuilt
full_is_built sizes (source ds is body) p built typed =
    let known = knows_types sizes ds is body p built typed in
    let whole = full_built (map plain_of ds) (source ds is body) known.sized known.formed built in
    let same : full_decls p.types ds ≡ full_decls (map plain_of ds) ds = ap (λ ts. full_decls ts ds) known.types ∙ full_front ds known.more in
    (subst (AreDeclsBuilt Takes) (sym same) whole.0, whole.1)
