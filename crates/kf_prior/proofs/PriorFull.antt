-- A full source's program reads each variable before its statements and behind them.
use Rattle.std.proofs.Common.{◌≡◌, ◌≤◌, true, false, List, [], ◌∷◌, ◌++◌, length, map, slice_get, Contains, Some, Ok, refl, sym, ap, subst, ◌∙◌, arith, append_assoc, append-nil}
use Rattle.std.specs.List.{range_with_len}
use Rattle.std.proofs.lemmas.List.{length-map}
use Rattle.std.proofs.lemmas.Option.{slice_get-get_or}
use Rattle.kf_value.specs.Types.{TypeTree}
use Rattle.kf_ast.specs.Names.{name}
use Rattle.kf_ast.specs.Sources.{DeclTree, declared, ItemTree, item, SourceTree, source}
use Rattle.kf_core.specs.Checked.{IsChecked}
use Rattle.kf_core.specs.Programs.{ProgramTree}
use Rattle.kf_check.specs.Laws.{IsWellBuilt, CheckedIfTyped}
use Rattle.kf_check.specs.Sources.{Variable, types_of, JudgesItems}
use Rattle.kf_check.specs.Translation.{Typed, names_of, decl_of}
use Rattle.kf_check.proofs.Declared.{counted, variables_differ}
use Rattle.kf_check.proofs.Kinding.{Differ, same_ok}
use Rattle.kf_prior.specs.FullSources.{full_source, item_for}
use Rattle.kf_prior.specs.Laws.{IsFull, FullIsBuilt}
use Rattle.kf_prior.proofs.PriorItems.{decl_names, full_names, declared_names, found_here, later, IsAim, target_aim}
use Rattle.kf_prior.proofs.PriorTargets.{IsPaired}
use Rattle.kf_prior.specs.Literals.{full_decls}

module _ (vs : List Variable) (apart : Differ (names_of vs)) where
  -- items `old` add the types of their variables
  initial_types : (ds : List DeclTree) (rest : List ItemTree) (front back : List Variable) (stood : List ItemTree) (ts us : List TypeTree) → vs ≡ front ++ back → names_of back ≡ decl_names ds
      → JudgesItems vs stood ts (map (item_for true) ds ++ rest) (Ok us) → (behind : List ItemTree) × JudgesItems vs behind (ts ++ types_of back) rest (Ok us)
  initial_types [] rest front [] stood ts us whole named j = (stood, subst (λ l. JudgesItems vs stood l rest (Ok us)) (sym (append-nil ts)) j)
  initial_types [] rest front (v ∷ back) stood ts us whole named j = absurd (cc)
  initial_types (declared visible (name n at) y d ∷ ds) rest front [] stood ts us whole named j = absurd (cc)
  initial_types (declared visible (name n at) y d ∷ ds) rest front (v ∷ back) stood ts us whole named j =
      let mine : v.name ≡ n = cc in
      let tails : names_of back ≡ decl_names ds = cc in
      let t : TypeTree = j.1.0 in
      let has : Contains vs (record { name = n; type = t }) = j.1.1 in
      let found : slice_get vs has.0 ≡ Some (record { name = n; type = t }) = slice_get-get_or vs has.0 (record { name = n; type = t }) has.1 ∙ ap (λ w. Some w) has.2 in
      let type : t ≡ v.type = (found_here vs apart front back v whole has.0 n t found mine).1 in
      let grown : j.0 ≡ ts ++ v.type ∷ [] = same_ok j.0 (ts ++ t ∷ []) j.1.2.2.2 ∙ ap (λ u. ts ++ u ∷ []) type in
      let next = subst (λ l. JudgesItems vs (item true (name n at) ∷ stood) l (map (item_for true) ds ++ rest) (Ok us)) grown j.2 in
      let r = initial_types ds rest (front ++ v ∷ []) back (item true (name n at) ∷ stood) (ts ++ v.type ∷ []) us (later vs apart front back v whole) tails next in
      (r.0, subst (λ l. JudgesItems vs r.0 l rest (Ok us)) (append_assoc ts (v.type ∷ []) (types_of back)) r.1)

-- the others add none
final_types : (vs : List Variable) (ds : List DeclTree) (stood : List ItemTree) (ts us : List TypeTree) → JudgesItems vs stood ts (map (item_for false) ds) (Ok us) → us ≡ ts
final_types vs [] stood ts us j = same_ok us ts j
final_types vs (declared visible (name n at) y d ∷ ds) stood ts us j =
    final_types vs ds (item false (name n at) ∷ stood) j.0 us j.2 ∙ same_ok j.0 ts j.1.2.2

abbrev decls_in : SourceTree → List DeclTree
decls_in (source ds is body) = ds

-- a program has a type for each declaration
enough : (tree : SourceTree) (q : ProgramTree) → Typed tree q → IsChecked q → length (decls_in tree) ≤ length q.types
enough (source ds is body) q t checked =
    let whole : source ds is body ≡ source t.decls t.items t.body = t.is_source in
    let same : t.decls ≡ ds = cc in
    let long : length q.decls ≡ length t.decls = ap length t.are_decls ∙ length-map t.decls (decl_of (names_of t.variables)) in
    omega (arith, ap length same, long, checked.counted)

paired : (types : List TypeTree) (tree : SourceTree) (p : ProgramTree) → length (decls_in tree) ≤ length types → (t : Typed (full_source types tree) p) → IsChecked p → IsPaired p (types_of t.variables)
paired types (source ds is body) p many t checked =
    let targets : List ItemTree = map (item_for true) ds ++ map (item_for false) ds in
    let whole : source (full_decls types ds) targets body ≡ source t.decls t.items t.body = t.is_source in
    let decls : t.decls ≡ full_decls types ds = cc in
    let items : t.items ≡ targets = cc in
    let vs = t.variables in
    let apart : Differ (names_of vs) = variables_differ vs t.decls t.are_variables in
    let named : names_of vs ≡ decl_names ds = declared_names [] vs t.decls t.are_variables ∙ ap decl_names decls ∙ full_names types ds many in
    let aim : IsAim vs p.copies p.target p.target_slots = target_aim vs apart t.is_target ds items named in
    let behind = initial_types vs apart ds (map (item_for false) ds) [] vs [] (types_of vs) p.types refl named (subst (λ l. JudgesItems vs [] (types_of vs) l (Ok p.types)) items t.are_types) in
    let long : length vs ≡ length p.decls = omega (arith, counted [] vs t.decls t.are_variables, ap length t.are_decls, length-map t.decls (decl_of (names_of vs))) in
    record {
      long = length-map vs (λ v. v.type) ∙ long;
      types = final_types vs ds behind.0 (types_of vs ++ types_of vs) p.types behind.1;
      copies = aim.places_are ∙ ap (range_with_len 0) long;
      slots = aim.reads_are ∙ ap (λ n. range_with_len n n ++ range_with_len 0 n) long;
      about = aim.types_are;
      checked = checked;
    }

pub full_paired : FullIsBuilt → CheckedIfTyped → (p : ProgramTree) (f : IsFull p) → IsPaired p (types_of f.full.variables)
full_paired built checked p f =
    let same : f.program.types ≡ f.types = sym f.are_types in
    let whole : IsWellBuilt (full_source f.types f.tree) = subst (λ ts. IsWellBuilt (full_source ts f.tree)) same (built f.tree f.program f.built f.typed) in
    let many = enough f.tree f.program f.typed (checked f.tree f.program f.built f.typed) in
    paired f.types f.tree p (omega (arith, many, ap length f.are_types)) f.full (checked (full_source f.types f.tree) p whole f.full)
