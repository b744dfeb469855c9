-- A well-built source has a program, which is checked, or a first broken rule; and one program at most.
use Rattle.std.proofs.Common.{◌≡◌, ℕ, ◌+◌, ◌≤◌, true, false, List, [], ◌∷◌, length, map, slice_get, Some, None, Ok, Err, Result, refl, sym, ap, ◌∙◌, subst, ◌⊎◌, inl, inr, arith}
use Rattle.std.specs.List.{range_with_len}
use Rattle.kf_value.specs.Types.{TypeTree}
use Rattle.kf_value.specs.Targets.{Item}
use Rattle.kf_ast.specs.Names.{name}
use Rattle.kf_ast.specs.Stmts.{StmtTree, stmts}
use Rattle.kf_ast.specs.Sources.{DeclTree, is_visible, ItemTree, item, SourceTree, source}
use Rattle.kf_core.specs.Programs.{ProgramTree}
use Rattle.kf_check.specs.declared.errors.TypeError.{TypeError}
use Rattle.kf_check.specs.declared.errors.TypeError.TheVariants as broken
use Rattle.kf_check.specs.Statements.{JudgesStmts}
use Rattle.kf_check.specs.Sources.{Variable, types_of, known_of, JudgesDecls, JudgesItems, JudgesSource}
use Rattle.kf_check.specs.Translation.{AreItems, IsTarget, Typed, names_of, decl_of, st_of}
use Rattle.kf_check.specs.Translation as aims
use Rattle.kf_check.specs.Laws.{IsWellBuilt, TypedOrBroken, OneTyped, CheckedIfTyped}
use Rattle.kf_check.proofs.Kinding.{Differ, slice_get-some}
use Rattle.kf_check.proofs.Declared.{none_differ, variables_differ}
use Rattle.kf_check.proofs.Checking.{checked, listed_built}
use Rattle.kf_check.proofs.LawsItems.{in_at, one_type}
use Rattle.kf_check.proofs.One.{one_decls, one_items}
use Rattle.kf_check.proofs.Some.{some_decls, some_items, some_stmts}
use Rattle.kf_check.proofs.Programs.{no_variable, broken_decls, broken_target, broken_body, target_types, typed}
use Rattle.kf_check.specs.Variables.{IsBroken}

-- ---- a source has a program, or a first broken rule

-- the items of a target, with its carried copies
record Carried (vs : List Variable) (copies : ℕ) (items : List ItemTree) : Type 0 where
  places : List ℕ
  found : List Item
  slots : List ℕ
  are : AreItems vs copies items places found slots

carried : (vs : List Variable) (copies : ℕ) (stood : List ItemTree) (ts : List TypeTree) (items : List ItemTree) (us : List TypeTree) → JudgesItems vs stood ts items (Ok us) → Carried vs copies items
carried vs copies stood ts [] us j = record { places = []; found = []; slots = []; are = aims.none }
carried vs copies stood ts (item false (name n at) ∷ others) us j =
    let here = in_at vs (record { name = n; type = j.1.0 }) j.1.1 in
    let rest = carried vs copies (item false (name n at) ∷ stood) j.0 others us j.2 in
    record { places = rest.places; found = record { initial = false; name = n; ty = j.1.0 } ∷ rest.found; slots = here.0 ∷ rest.slots; are = aims.final at here.0 here.1 rest.are }
carried vs copies stood ts (item true (name n at) ∷ others) us j =
    let here = in_at vs (record { name = n; type = j.1.0 }) j.1.1 in
    let rest = carried vs (copies + 1) (item true (name n at) ∷ stood) j.0 others us j.2 in
    record { places = here.0 ∷ rest.places; found = record { initial = true; name = n; ty = j.1.0 } ∷ rest.found; slots = (length vs + copies) ∷ rest.slots; are = aims.initial at here.0 here.1 rest.are }

-- the target, with its carried copies
record Aimed (vs : List Variable) (items : List ItemTree) : Type 0 where
  places : List ℕ
  found : List Item
  slots : List ℕ
  is : IsTarget vs items places found slots

aimed : (vs : List Variable) (items : List ItemTree) → Carried vs 0 items → Aimed vs items
aimed vs [] c = record { places = []; found = map (λ v. record { initial = false; name = v.name; ty = v.type }) vs; slots = range_with_len 0 (length vs); is = aims.all }
aimed vs (i ∷ items) c = record { places = c.places; found = c.found; slots = c.slots; is = aims.about c.are }

abbrev Ends : SourceTree → Type 0
Ends s = ((p : ProgramTree) × Typed s p) ⊎ ((e : TypeError) × IsBroken s e)

module _ (ds : List DeclTree) (items : List ItemTree) (xs : List StmtTree) (built : IsWellBuilt (source ds items xs)) (some : 1 ≤ length ds) where
  program : (vs : List Variable) (us : List TypeTree) → JudgesDecls [] ds (Ok vs) → JudgesItems vs [] (types_of vs) items (Ok us) → JudgesStmts (known_of vs) (stmts xs) (Ok tt) → Ends (source ds items xs)
  program vs us js ls ss =
      let aim = aimed vs items (carried vs 0 [] (types_of vs) items us ls) in
      let p : ProgramTree = record { types = us; decls = map (decl_of (names_of vs)) ds; copies = aim.places; body = map (st_of (names_of vs) (map is_visible ds)) xs; target = aim.found; target_slots = aim.slots } in
      inl (p, typed items xs ds some vs js p ls ss refl aim.is refl)

  body_ends : (vs : List Variable) (us : List TypeTree) → JudgesDecls [] ds (Ok vs) → JudgesItems vs [] (types_of vs) items (Ok us) → (r : Result (Unit {0}) TypeError) → JudgesStmts (known_of vs) (stmts xs) r → Ends (source ds items xs)
  body_ends vs us js ls (Ok u) ss = program vs us js ls ss
  body_ends vs us js ls (Err e) ss = inr (e, broken_body items xs ds some vs js us e ls ss)

  target_ends : (vs : List Variable) → JudgesDecls [] ds (Ok vs) → (r : Result (List TypeTree) TypeError) → JudgesItems vs [] (types_of vs) items r → Ends (source ds items xs)
  target_ends vs js (Ok us) ls = let last = some_stmts (known_of vs) (stmts xs) (listed_built xs built.1) in body_ends vs us js ls last.0 last.1
  target_ends vs js (Err e) ls = inr (e, broken_target items xs ds some vs js e ls)

  decls_end : (r : Result (List Variable) TypeError) → JudgesDecls [] ds r → Ends (source ds items xs)
  decls_end (Ok vs) js = let next = some_items vs [] (types_of vs) items in target_ends vs js next.0 next.1
  decls_end (Err e) js = inr (e, broken_decls items xs ds some e js)

pub typed_or_broken : TypedOrBroken
typed_or_broken (source [] items xs) built = inr (broken.NoVariable 0, no_variable items xs)
typed_or_broken (source (d ∷ ds) items xs) built = let first = some_decls [] (d ∷ ds) built.0 in decls_end (d ∷ ds) items xs built (omega arith) first.0 first.1

-- ---- a source has one program at most

same_program : (p q : ProgramTree) → p.types ≡ q.types → p.decls ≡ q.decls → p.copies ≡ q.copies → p.body ≡ q.body → p.target ≡ q.target → p.target_slots ≡ q.target_slots → p ≡ q
same_program p q types decls copies body target slots = λ i. record { types = types i; decls = decls i; copies = copies i; body = body i; target = target i; target_slots = slots i }

module _ (vs : List Variable) (apart : Differ (names_of vs)) where
  one_place : (n : List ℕ) (i j : ℕ) (t u : TypeTree) → slice_get vs i ≡ Some (record { name = n; type = t }) → slice_get vs j ≡ Some (record { name = n; type = u }) → i ≡ j
  one_place n i j t u h g = apart n i j (slice_get-some (λ v. v.name) vs i (record { name = n; type = t }) h) (slice_get-some (λ v. v.name) vs j (record { name = n; type = u }) g)

  one_aim : {copies : ℕ} {items : List ItemTree} {cs cs' : List ℕ} {is is' : List Item} {slots slots' : List ℕ} → AreItems vs copies items cs is slots → AreItems vs copies items cs' is' slots' → (cs ≡ cs') × (is ≡ is') × (slots ≡ slots')
  one_aim aims.none aims.none = (refl, refl, refl)
  one_aim (aims.final at i {n} {t} {is = is} {slots = slots} h rest) (aims.final at' j {t = u} {is = is'} {slots = slots'} g rest') =
      let same = one_aim rest rest' in (
        same.0,
        ap (λ t. record { initial = false; name = n; ty = t } ∷ is) (one_type vs apart n i j t u h g) ∙ ap (λ is. record { initial = false; name = n; ty = u } ∷ is) same.1,
        ap (λ i. i ∷ slots) (one_place n i j t u h g) ∙ ap (λ slots. j ∷ slots) same.2,
      )
  one_aim {copies} (aims.initial at i {n} {t} {cs = cs} {is = is} h rest) (aims.initial at' j {t = u} {is = is'} g rest') =
      let same = one_aim rest rest' in (
        ap (λ i. i ∷ cs) (one_place n i j t u h g) ∙ ap (λ cs. j ∷ cs) same.0,
        ap (λ t. record { initial = true; name = n; ty = t } ∷ is) (one_type vs apart n i j t u h g) ∙ ap (λ is. record { initial = true; name = n; ty = u } ∷ is) same.1,
        ap (λ slots. (length vs + copies) ∷ slots) same.2,
      )

  one_target : {items : List ItemTree} {cs cs' : List ℕ} {is is' : List Item} {slots slots' : List ℕ} → IsTarget vs items cs is slots → IsTarget vs items cs' is' slots' → (cs ≡ cs') × (is ≡ is') × (slots ≡ slots')
  one_target aims.all aims.all = (refl, refl, refl)
  one_target (aims.about is) (aims.about js) = one_aim is js

-- programs of the same declarations, target and statements
same_typed : (ds : List DeclTree) (items : List ItemTree) (xs : List StmtTree) (vs : List Variable) (p q : ProgramTree) → JudgesDecls [] ds (Ok vs)
    → JudgesItems vs [] (types_of vs) items (Ok p.types) → JudgesItems vs [] (types_of vs) items (Ok q.types) → p.decls ≡ map (decl_of (names_of vs)) ds → q.decls ≡ map (decl_of (names_of vs)) ds
    → IsTarget vs items p.copies p.target p.target_slots → IsTarget vs items q.copies q.target q.target_slots → p.body ≡ map (st_of (names_of vs) (map is_visible ds)) xs → q.body ≡ map (st_of (names_of vs) (map is_visible ds)) xs → p ≡ q
same_typed ds items xs vs p q js types types' decls decls' target target' body body' =
    let apart = variables_differ vs ds js in
    let aim = one_target vs apart target target' in
    let all : Ok p.types ≡ Ok q.types = one_items vs apart [] (types_of vs) items (Ok p.types) (Ok q.types) types types' in
    let same : p.types ≡ q.types = cc in
    same_program p q same (decls ∙ sym decls') aim.0 (body ∙ sym body') aim.1 aim.2

pub one_typed : OneTyped
one_typed s p q t u =
    let whole : source t.decls t.items t.body ≡ source u.decls u.items u.body = sym t.is_source ∙ u.is_source in
    let ds : u.decls ≡ t.decls = cc in
    let items : u.items ≡ t.items = cc in
    let xs : u.body ≡ t.body = cc in
    let js : JudgesDecls [] t.decls (Ok u.variables) = subst (λ ds. JudgesDecls [] ds (Ok u.variables)) ds u.are_variables in
    let vs : u.variables ≡ t.variables = (let both : Ok u.variables ≡ Ok t.variables = one_decls [] none_differ t.decls (Ok u.variables) (Ok t.variables) js t.are_variables in cc) in
    same_typed t.decls t.items t.body t.variables p q t.are_variables t.are_types
    (subst (λ vs. JudgesItems vs [] (types_of vs) t.items (Ok q.types)) vs (subst (λ is. JudgesItems u.variables [] (types_of u.variables) is (Ok q.types)) items u.are_types))
    t.are_decls
    (subst (λ vs. q.decls ≡ map (decl_of (names_of vs)) t.decls) vs (subst (λ ds. q.decls ≡ map (decl_of (names_of u.variables)) ds) ds u.are_decls))
    t.is_target
    (subst (λ vs. IsTarget vs t.items q.copies q.target q.target_slots) vs (subst (λ is. IsTarget u.variables is q.copies q.target q.target_slots) items u.is_target))
    t.are_statements
    (subst (λ vs. q.body ≡ map (st_of (names_of vs) (map is_visible t.decls)) t.body) vs
    (subst (λ ds. q.body ≡ map (st_of (names_of u.variables) (map is_visible ds)) t.body) ds (subst (λ xs. q.body ≡ map (st_of (names_of u.variables) (map is_visible u.decls)) xs) xs u.are_statements)))

-- ---- the program of a well-built source is checked

unbroken_body : (ds : List DeclTree) (items : List ItemTree) (xs : List StmtTree) (vs : List Variable) → JudgesDecls [] ds (Ok vs) → JudgesSource (source ds items xs) None → JudgesStmts (known_of vs) (stmts xs) (Ok tt)
unfolding JudgesSource
unbroken_body ds items xs vs js h =
    let both : Ok h.2.0 ≡ Ok vs = one_decls [] none_differ ds (Ok h.2.0) (Ok vs) h.2.1 js in
    let same : h.2.0 ≡ vs = cc in
    subst (λ us. JudgesStmts (known_of us) (stmts xs) (Ok tt)) same h.2.2.2

pub checked_if_typed : CheckedIfTyped
checked_if_typed s p built t =
    let judged = subst (λ s. JudgesSource s None) t.is_source t.judged in
    let behind = target_types t.variables (variables_differ t.variables t.decls t.are_variables) t.is_target p.types t.are_types in
    checked t.decls t.items t.body (map is_visible t.decls) t.variables behind.0 p (subst IsWellBuilt t.is_source built) t.are_variables t.are_types (unbroken_body t.decls t.items t.body t.variables t.are_variables judged) behind.1 behind.2
    t.are_decls t.is_target t.are_statements
