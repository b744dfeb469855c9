-- What the pass over a program comes to, declaration by declaration.
use Rattle.std.proofs.Common.{◌≡◌, ℕ, suc, ◌+◌, ◌<◌, ◌≤◌, List, [], ◌∷◌, ◌++◌, length, map, drop, get_or, Ok, refl, sym, ap, ◌∙◌, subst, arith}
use Rattle.kf_value.specs.Shapes.{shape_types}
use Rattle.kf_value.proofs.ListLemmas.{left_step, left_end}
use Rattle.kf_core.specs.declared.dx.Dx.{Dx}
use Rattle.kf_core.specs.declared.program.Program.{Program}
use Rattle.kf_core.specs.declared.st.St.{St}
use Rattle.kf_core.specs.Dxs.{DxTree}
use Rattle.kf_core.specs.Views.{dx_tree, dx_items, st_tree, st_items, program_tree}
use Rattle.kf_core.specs.Sts.{sts}
use Rattle.kf_core.specs.Results.{then_ok}
use Rattle.kf_core.specs.Support.{Passed}
use Rattle.kf_support.specs.declared.faults.Halt.{Halt}
use Rattle.kf_support.specs.Answers.{IsHaltOf}
use Rattle.kf_support.specs.Carried.{Reached, carry_step, assign_lead, copy_lead, carry_all, carry_decls, carry_program}
use Rattle.kf_support.proofs.Passing.{halts, halts_as, goes_on, AreIts}
use Rattle.kf_support.proofs.FirstStore.{first_store}

module _ (program : Program) (turns : ℕ) where
  abbrev whole : Passed Reached
  whole = carry_program turns (program_tree program)

  abbrev body_leads : Reached → Passed Reached
  body_leads es = carry_all (shape_types program.shape) turns (sts (map st_tree (st_items program.body))) es

  abbrev copies : Reached → Passed Reached
  copies es = carry_step (copy_lead (program_tree program)) [] es

  abbrev behind : Reached → Passed Reached
  behind es = then_ok (copies es) body_leads

  abbrev assigns : ℕ → Dx → Reached → Passed Reached
  assigns i x es = carry_step (assign_lead (shape_types program.shape) i (dx_tree x)) [] es

  abbrev decls_from : ℕ → List DxTree → Reached → Passed Reached
  decls_from i ds es = carry_decls (shape_types program.shape) i ds es

  -- the declarations from this one on are left
  pub record DeclsSoFar (i : ℕ) (es : Reached) : Type 0 where
    pub same : whole ≡ then_ok (decls_from i (map dx_tree (drop i (dx_items program.decls))) es) behind
    pub ways : AreIts program.shape turns es

  pub decls_start : (none es : Reached) → none ≡ [] → es ≡ none ++ (0, 1) ∷ [] → DeclsSoFar 0 es
  decls_start none es empty is =
      let first : es ≡ (0, 1) ∷ [] = is ∙ ap (λ fs. fs ++ (0, 1) ∷ []) empty in
      rw first (record { same = refl; ways = first_store program.shape })

  module _ (i : ℕ) (es : Reached) (before : DeclsSoFar i es) where
    module _ (xs : List Dx) (x : Dx) (all : xs ≡ dx_items program.decls) (within : i < length xs) (read : x ≡ get_or xs i x) where
      abbrev later : Reached → Passed Reached
      later fs = decls_from (suc i) (map dx_tree (drop (i + 1) (dx_items program.decls))) fs

      one_more : whole ≡ then_ok (then_ok (assigns i x es) later) behind
      one_more =
          let left = subst (λ ys. map dx_tree (drop i ys) ≡ dx_tree x ∷ map dx_tree (drop (i + 1) ys)) all (left_step dx_tree xs i x within read) in
          before.same ∙ ap (λ ds. then_ok (decls_from i ds es) behind) left

      pub decl_fails : (e : Halt) → IsHaltOf (assigns i x es) e → IsHaltOf whole e
      decl_fails e h = halts_as whole (then_ok (then_ok (assigns i x es) later) behind) e one_more (halts (then_ok (assigns i x es) later) behind e (halts (assigns i x es) later e h))

      pub decl_done : (fs : Reached) → assigns i x es ≡ Ok fs → AreIts program.shape turns fs → DeclsSoFar (i + 1) fs
      decl_done fs is ways =
          let next : suc i ≡ i + 1 = omega arith in
          record {
            same = one_more ∙ (ap (λ r. then_ok r behind) (goes_on (assigns i x es) later fs is) ∙ ap (λ j. then_ok (decls_from j (map dx_tree (drop (i + 1) (dx_items program.decls))) fs) behind) next);
            ways = ways;
          }

    module _ (xs : List Dx) (all : xs ≡ dx_items program.decls) (past : length xs ≤ i) where
      all_declared : whole ≡ behind es
      all_declared =
          let left = subst (λ ys. map dx_tree (drop i ys) ≡ []) all (left_end dx_tree xs i past) in
          before.same ∙ ap (λ ds. then_ok (decls_from i ds es) behind) left

      pub copy_fails : (e : Halt) → IsHaltOf (copies es) e → IsHaltOf whole e
      copy_fails e h = halts_as whole (behind es) e all_declared (halts (copies es) body_leads e h)

      pub body_is : (us : List St) (fs : Reached) → us ≡ st_items program.body → copies es ≡ Ok fs → whole ≡ carry_all (shape_types program.shape) turns (sts (map st_tree us)) fs
      body_is us fs same is = all_declared ∙ (goes_on (copies es) body_leads fs is ∙ ap (λ vs. carry_all (shape_types program.shape) turns (sts (map st_tree vs)) fs) (sym same))
