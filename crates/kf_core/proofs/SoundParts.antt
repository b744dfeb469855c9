-- The parts of a sound statement, and those of a checked program, in the words of the code.
use Rattle.std.proofs.Common.{◌≡◌, ℕ, Bool, ◌<◌, List, [], ◌∷◌, length, map, get_or, slice_get, Some, refl, sym, ap, ◌∙◌, subst, rules, arith}
use Rattle.std.specs.Option.{option_map}
use Rattle.std.proofs.lemmas.List.{length-map}
use Rattle.std.proofs.lemmas.Option.{slice_get_within, slice_get-map, slice_get-get_or}
use Rattle.kf_value.specs.Kinds.{KindTree, TruthKind, kind_of}
use Rattle.kf_value.specs.Types.{Boolean}
use Rattle.kf_value.specs.Shapes.{shape_types}
use Rattle.kf_value.specs.declared.shape.Shape.{Shape}
use Rattle.kf_core.specs.declared.dx.Dx.{Dx}
use Rattle.kf_core.specs.declared.program.Program.{Program}
use Rattle.kf_core.specs.declared.st.St.{St, the_lemmas}
use Rattle.kf_core.specs.declared.st.St.TheVariants as code
use Rattle.kf_core.specs.declared.st.StList.{StList}
use Rattle.kf_core.specs.Sts.{StTree, Skip, Assign, Observe, If, While, sts}
use Rattle.kf_core.specs.Views.{dx_tree, dx_items, sts_list, st_tree, st_items, program_tree}
use Rattle.kf_core.specs.Checked.{DistKinded, IsSound, AreSound, IsChecked, skip, assign, observe, if_else, while, more}
use Rattle.kf_core.proofs.Wider.{checked_decl, checked_body}

-- the tree of each form of statement
pub tree-Skip : st_tree code.Skip ≡ Skip
tree-Skip = search (rules, the_lemmas)

pub tree-Assign : (i : ℕ) (d : Dx) (visible : Bool) → st_tree (code.Assign i d visible) ≡ Assign i (dx_tree d) visible
tree-Assign i d visible = search (rules, the_lemmas)

pub tree-Observe : (d : Dx) → st_tree (code.Observe d) ≡ Observe (dx_tree d)
tree-Observe d = search (rules, the_lemmas)

pub tree-If : (d : Dx) (xs ys : StList) → st_tree (code.If d xs ys) ≡ If (dx_tree d) (sts (map st_tree (st_items xs))) (sts (map st_tree (st_items ys)))
tree-If d xs ys = search (rules, the_lemmas)

pub tree-While : (d : Dx) (xs : StList) → st_tree (code.While d xs) ≡ While (dx_tree d) (sts (map st_tree (st_items xs)))
tree-While d xs = search (rules, the_lemmas)

sts_list-sts : (ss : List StTree) → sts_list (sts ss) ≡ ss
sts_list-sts [] = refl
sts_list-sts (s ∷ ss) = ap (λ us. s ∷ us) (sts_list-sts ss)

module _ (ks : List KindTree) where
  abbrev Parts : StTree → Type 0
  Parts Skip = Unit {0}
  Parts (Assign i d visible) = (k : KindTree) × ((slice_get ks i ≡ Some k) × DistKinded ks d k)
  Parts (Observe d) = (k : KindTree) × DistKinded ks d k
  Parts (If d xs ys) = DistKinded ks d TruthKind × (AreSound ks (sts_list xs) × AreSound ks (sts_list ys))
  Parts (While d xs) = DistKinded ks d TruthKind × AreSound ks (sts_list xs)

  parts : {s : StTree} → IsSound ks s → Parts s
  parts skip = tt
  parts (assign i {d} {k} at dist) = (k, (at, dist))
  parts (observe {d} {k} dist) = (k, dist)
  parts (if_else {d} {xs} {ys} guard one other) = (guard, (subst (AreSound ks) (sym (sts_list-sts xs)) one, subst (AreSound ks) (sym (sts_list-sts ys)) other))
  parts (while {d} {xs} guard body) = (guard, subst (AreSound ks) (sym (sts_list-sts xs)) body)

  pub sound_first : {x : StTree} {xs : List StTree} → AreSound ks (x ∷ xs) → IsSound ks x × AreSound ks xs
  sound_first (more h hs) = (h, hs)

  listed : (us : List St) (xs : StList) → us ≡ st_items xs → AreSound ks (sts_list (sts (map st_tree (st_items xs)))) → AreSound ks (map st_tree us)
  listed us xs same h = subst (λ vs. AreSound ks (map st_tree vs)) (sym same) (subst (AreSound ks) (sts_list-sts (map st_tree (st_items xs))) h)

  module _ (s : St) (sound : IsSound ks (st_tree s)) where
    pub assign_parts : (i : ℕ) (d : Dx) (visible : Bool) → s ≡ code.Assign i d visible
        → (k : KindTree) × ((slice_get ks i ≡ Some k) × DistKinded ks (dx_tree d) k)
    assign_parts i d visible is = parts (subst (IsSound ks) (ap st_tree is ∙ tree-Assign i d visible) sound)

    pub observe_parts : (d : Dx) → s ≡ code.Observe d → (k : KindTree) × DistKinded ks (dx_tree d) k
    observe_parts d is = parts (subst (IsSound ks) (ap st_tree is ∙ tree-Observe d) sound)

    module _ (d : Dx) (xs ys : StList) (is : s ≡ code.If d xs ys) where
      if_parts : Parts (If (dx_tree d) (sts (map st_tree (st_items xs))) (sts (map st_tree (st_items ys))))
      if_parts = parts (subst (IsSound ks) (ap st_tree is ∙ tree-If d xs ys) sound)

      pub if_guard : DistKinded ks (dx_tree d) TruthKind
      if_guard = if_parts.0

      pub yes_sound : (us : List St) → us ≡ st_items xs → AreSound ks (map st_tree us)
      yes_sound us same = listed us xs same if_parts.1.0

      pub no_sound : (us : List St) → us ≡ st_items ys → AreSound ks (map st_tree us)
      no_sound us same = listed us ys same if_parts.1.1

    module _ (d : Dx) (xs : StList) (is : s ≡ code.While d xs) where
      while_parts : Parts (While (dx_tree d) (sts (map st_tree (st_items xs))))
      while_parts = parts (subst (IsSound ks) (ap st_tree is ∙ tree-While d xs) sound)

      pub while_guard : DistKinded ks (dx_tree d) TruthKind
      while_guard = while_parts.0

      pub body_sound : (us : List St) → us ≡ st_items xs → AreSound ks (map st_tree us)
      body_sound us same = listed us xs same while_parts.1

pub variable_within : (shape : Shape) (i n : ℕ) (k : KindTree) → n ≡ i → slice_get (map kind_of (shape_types shape)) i ≡ Some k → n < length (shape_types shape)
variable_within shape i n k same at =
    let inside = slice_get_within (map kind_of (shape_types shape)) i k at in
    let long = length-map (shape_types shape) kind_of in
    omega arith

-- ---- a checked program

module _ (program : Program) (checked : IsChecked (program_tree program)) where
  pub decl_kinded : (xs : List Dx) (i : ℕ) (x : Dx) → xs ≡ dx_items program.decls → i < length xs → x ≡ get_or xs i x → (k : KindTree) × DistKinded (map kind_of (shape_types program.shape)) (dx_tree x) k
  decl_kinded xs i x all within read =
      let ts = shape_types program.shape in
      let here : slice_get xs i ≡ Some x = slice_get-get_or xs i x within ∙ ap (λ y. Some y) (sym read) in
      let decl : slice_get (map dx_tree (dx_items program.decls)) i ≡ Some (dx_tree x) =
      ap (λ ys. slice_get (map dx_tree ys) i) (sym all) ∙ (slice_get-map dx_tree xs i ∙ ap (option_map dx_tree) here) in
      let long = length-map (dx_items program.decls) dx_tree in
      let counted = checked.counted in
      let same : length xs ≡ length (dx_items program.decls) = ap length all in
      let t = get_or ts i Boolean in
      (kind_of t, checked_decl (program_tree program) checked i (dx_tree x) t decl (slice_get-get_or ts i Boolean (omega arith)))

  pub whole_sound : (us : List St) → us ≡ st_items program.body → AreSound (map kind_of (shape_types program.shape)) (map st_tree us)
  whole_sound us same = subst (λ vs. AreSound (map kind_of (shape_types program.shape)) (map st_tree vs)) (sym same) (checked_body (program_tree program) checked)
