-- The items of a typed program's target have types that have a size, and so the target has some value.
use Rattle.std.proofs.Common.{◌≡◌, ℕ, ◌<◌, false, List, [], ◌∷◌, ◌++◌, Option, None, Some, Result, Ok, Err, refl, sym, ap, subst, arith}
use Rattle.std.specs.List.{AllByRecursion as Every}
use Rattle.kf_value.specs.declared.ty.TyFault.{TyFault}
use Rattle.kf_value.specs.Numbers.{target_size}
use Rattle.kf_value.specs.Sizes.{HasSize, fault_of, size_of}
use Rattle.kf_value.specs.Targets.{Item}
use Rattle.kf_value.specs.Types.{TypeTree, count}
use Rattle.kf_value.proofs.ListLemmas.{each_append, each_at, each_map}
use Rattle.kf_ast.specs.Names.{name}
use Rattle.kf_ast.specs.Sources.{DeclTree, declared, ItemTree, SourceTree}
use Rattle.kf_ast.specs.TypeForms.{TypeForm}
use Rattle.kf_core.specs.Programs.{ProgramTree}
use Rattle.kf_check.specs.Laws.{SizesAgree, plain_type}
use Rattle.kf_check.specs.Sources.{Variable, JudgesDecl, JudgesDecls}
use Rattle.kf_check.specs.Translation.{AreItems, IsTarget, Typed}
use Rattle.kf_check.specs.Translation as becomes
use Rattle.kf_check.specs.Types.{greatest_size, JudgesType}
use Rattle.kf_check.proofs.Sized.{product_some, valued}

-- its type has a size
abbrev pub IsSized : Item → Type 0
IsSized i = fault_of i.ty ≡ None

pub some_target : (items : List Item) → Every IsSized items → 0 < target_size items
some_target [] h = omega arith
some_target (i ∷ items) h = product_some (count i.ty) (target_size items) (valued i.ty 65536 h.0) (some_target items h.1)

-- ---- declared types have a size

no_fault : (t : TypeTree) (n : ℕ) → size_of t ≡ Ok n → HasSize t
no_fault t n is = by (fault_of t) is
  where
    by : (o : Option TyFault) → ◌≡◌ {A = Result ℕ TyFault} (elim o [ None ↦ Ok (count t) | Some f ↦ Err f ]) (Ok n) → o ≡ None
    by None h = refl
    by (Some f) h = absurd (cc)

module _ (sizes : SizesAgree) where
  type_sized : (y : TypeForm) (t : TypeTree) → JudgesType greatest_size y (Ok t) → HasSize t
  type_sized y t judged = let agrees = sizes y (Ok t) judged in subst HasSize (sym agrees.0) (no_fault (plain_type y) (count (plain_type y)) agrees.1)

  variable_sized : (vs : List Variable) (d : DeclTree) (v : Variable) → JudgesDecl vs d (Ok v) → HasSize v.type
  variable_sized vs (declared visible (name n at) y d) v j =
      let given : Ok v ≡ Ok (record { name = n; type = j.2.0 }) = j.2.2.2.2 in
      let same : v ≡ record { name = n; type = j.2.0 } = cc in
      subst HasSize (sym (ap (λ (w : Variable). w.type) same)) (type_sized y j.2.0 j.2.1)

  variables_sized : (vs : List Variable) (ds : List DeclTree) (ws : List Variable) → JudgesDecls vs ds (Ok ws) → Every (λ v. HasSize v.type) vs → Every (λ v. HasSize v.type) ws
  variables_sized vs [] ws j h =
      let given : Ok ws ≡ Ok vs = j in
      let same : ws ≡ vs = cc in
      subst (Every (λ (v : Variable). HasSize v.type)) (sym same) h
  variables_sized vs (d ∷ ds) ws j h =
      variables_sized (vs ++ j.0 ∷ []) ds ws j.2 (each_append (λ v. HasSize v.type) vs (j.0 ∷ []) h (variable_sized vs d j.0 j.1, tt))

  -- ---- so have the target's

  items_sized : {vs : List Variable} {k : ℕ} {items : List ItemTree} {cs : List ℕ} {is : List Item} {slots : List ℕ} → Every (λ v. HasSize v.type) vs → AreItems vs k items cs is slots → Every IsSized is
  items_sized h becomes.none = tt
  items_sized {vs} h (becomes.final at i {n} {t} found are) = (each_at (λ v. HasSize v.type) vs i (record { name = n; type = t }) h found, items_sized h are)
  items_sized {vs} h (becomes.initial at i {n} {t} found are) = (each_at (λ v. HasSize v.type) vs i (record { name = n; type = t }) h found, items_sized h are)

  target_of_items : {vs : List Variable} {items : List ItemTree} {cs : List ℕ} {is : List Item} {slots : List ℕ} → Every (λ v. HasSize v.type) vs → IsTarget vs items cs is slots → Every IsSized is
  target_of_items {vs} h becomes.all = each_map IsSized (λ (v : Variable). record { initial = false; name = v.name; ty = v.type }) vs h
  target_of_items h (becomes.about are) = items_sized h are

  pub target_sized : (s : SourceTree) (p : ProgramTree) → Typed s p → Every IsSized p.target
  target_sized s p is = target_of_items (variables_sized [] is.decls is.variables is.are_variables tt) is.is_target
