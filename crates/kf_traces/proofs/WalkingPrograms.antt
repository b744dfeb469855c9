-- What a whole program comes to, declaration by declaration.
use Rattle.std.proofs.Common.{◌≡◌, ℕ, suc, ◌+◌, ◌^◌, ◌<◌, ◌≤◌, List, [], ◌∷◌, length, map, drop, get_or, refl, sym, ap, subst, ◌∙◌, arith}
use Rattle.std.specs.Prelude.{flat_map}
use Rattle.std.proofs.lemmas.List.{append-nil, length-map}
use Rattle.std.proofs.lemmas.List.Elements.{All-cons, All-nil}
use Rattle.std.proofs.lemmas.List.Sums.{sum_by-cons}
use Rattle.kf_value.specs.Shapes.{shape_size, shape_types}
use Rattle.kf_value.proofs.ListLemmas.{left_step, left_end}
use Rattle.kf_core.specs.declared.dx.Dx.{Dx}
use Rattle.kf_core.specs.declared.program.Program.{Program}
use Rattle.kf_core.specs.declared.st.St.{St}
use Rattle.kf_core.specs.Checked.{IsChecked}
use Rattle.kf_core.specs.Dxs.{DxTree}
use Rattle.kf_core.specs.Views.{dx_tree, dx_items, st_tree, st_items, program_tree}
use Rattle.kf_core.specs.Sts.{sts}
use Rattle.kf_core.proofs.FirstStore.{first_store_there}
use Rattle.kf_traces.specs.Traced.{Traced, alone, all_traced, assign_traced, copied_traced, declared_traced, program_traced}
use Rattle.kf_traces.specs.Visits.{first_of}
use Rattle.kf_traces.proofs.Walking.{InSize}

module _ (program : Program) (turns : ℕ) where
  -- how many stores the program has
  abbrev size : ℕ
  size = shape_size program.shape

  -- what a state comes to behind all declarations
  abbrev behind_decls : Traced → List Traced
  behind_decls s = all_traced (shape_types program.shape) turns (sts (map st_tree (st_items program.body))) (copied_traced (program_tree program) s)

  -- what a state comes to in declarations
  abbrev declared_from : ℕ → List DxTree → Traced → List Traced
  declared_from i ds s = declared_traced (shape_types program.shape) i ds s

  -- the declarations from this one on lead to all ends
  pub record DeclsOn (whole : List Traced) (i : ℕ) (s : Traced) : Type 0 where
    pub same : flat_map behind_decls (declared_from i (map dx_tree (drop i (dx_items program.decls))) s) ≡ whole
    pub fits : InSize size s

  -- at the start all weight lies on the first store
  pub decls_start : (scale : ℕ) (s : Traced) → s ≡ first_of scale → scale < 2 ^ 127 → DeclsOn (program_traced turns scale (program_tree program)) 0 s
  decls_start scale s is narrow =
      let sum = sum_by-cons (λ (e : ℕ × ℕ). e.1) (0, scale) [] in
      subst (DeclsOn (program_traced turns scale (program_tree program)) 0) (sym is) (record {
        same = refl;
        fits = record { below = All-cons (λ (e : ℕ × ℕ). e.0 < size) (0, scale) [] (first_store_there program.shape) (All-nil (λ (e : ℕ × ℕ). e.0 < size)); narrow = omega (arith, sum, narrow) };
      })

  module _ (whole : List Traced) (i : ℕ) (s : Traced) (before : DeclsOn whole i s) where
    module _ (xs : List Dx) (x : Dx) (all : xs ≡ dx_items program.decls) (within : i < length xs) (read : x ≡ get_or xs i x) where
      -- the declarations behind this one
      abbrev others : List DxTree
      others = map dx_tree (drop (i + 1) (dx_items program.decls))

      -- the state is assigned the next variable
      pub decl_done : (u : Traced) → alone u ≡ assign_traced (shape_types program.shape) i (dx_tree x) s → InSize size u → DeclsOn whole (i + 1) u
      decl_done u one fits =
          let left = subst (λ ys. map dx_tree (drop i ys) ≡ dx_tree x ∷ map dx_tree (drop (i + 1) ys)) all (left_step dx_tree xs i x within read) in
          let next : i + 1 ≡ suc i = omega arith in
          record {
            same =
                ap (λ j. flat_map behind_decls (declared_from j others u)) next
                ∙ (ap (flat_map behind_decls) (sym (append-nil (declared_from (suc i) others u)) ∙ ap (flat_map (declared_from (suc i) others)) one)
                ∙ (ap (λ ds. flat_map behind_decls (declared_from i ds s)) (sym left) ∙ before.same));
            fits = fits;
          }

    -- behind the last one the copies are set, and then the statements lead to all ends
    pub body_is : (xs : List Dx) → xs ≡ dx_items program.decls → length xs ≤ i → (us : List St) → us ≡ st_items program.body → (u : Traced) → u ≡ copied_traced (program_tree program) s
        → all_traced (shape_types program.shape) turns (sts (map st_tree us)) u ≡ whole
    body_is xs all past us same u is =
        let left = subst (λ ys. map dx_tree (drop i ys) ≡ []) all (left_end dx_tree xs i past) in
        (λ j. all_traced (shape_types program.shape) turns (sts (map st_tree (same j))) (is j))
        ∙ (sym (append-nil (behind_decls s)) ∙ (ap (λ ds. flat_map behind_decls (declared_from i ds s)) (sym left) ∙ before.same))

-- a declaration has its variable
pub decl_within : (program : Program) → IsChecked (program_tree program) → (xs : List Dx) (i : ℕ) → xs ≡ dx_items program.decls → i < length xs → i < length (shape_types program.shape)
decl_within program checked xs i all within =
    let counted = checked.counted in
    let same : length xs ≡ length (dx_items program.decls) = ap length all in
    let long = length-map (dx_items program.decls) dx_tree in
    omega (arith, within, counted, same, long)
