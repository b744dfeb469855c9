-- The program of a source, from its declarations, its target and its statements.
use Rattle.std.proofs.Common.{◌≡◌, ℕ, ◌^◌, ◌+◌, ◌<◌, ◌≤◌, List, [], ◌∷◌, ◌++◌, map, length, slice_get, Some, None, Ok, Err, refl, sym, ap, ◌∙◌, arith, length-append, append-nil, inl, inr}
use Rattle.std.specs.List.{All}
use Rattle.std.proofs.lemmas.List.{length-map}
use Rattle.std.proofs.lemmas.List.Elements.{All-nil, All-cons}
use Rattle.std.proofs.lemmas.Option.{slice_get_within}
use Rattle.kf_value.specs.Types.{TypeTree, count, product}
use Rattle.kf_value.specs.Targets.{Item}
use Rattle.kf_ast.specs.Stmts.{StmtTree, stmts}
use Rattle.kf_ast.specs.Sources.{DeclTree, is_visible, ItemTree, source}
use Rattle.kf_core.specs.Programs.{ProgramTree}
use Rattle.kf_check.specs.declared.errors.TypeError.{TypeError}
use Rattle.kf_check.specs.Statements.{JudgesStmts}
use Rattle.kf_check.specs.declared.errors.TypeError.TheVariants as broken
use Rattle.kf_check.specs.Sources.{Variable, types_of, known_of, JudgesDecls, JudgesItems, JudgesSource}
use Rattle.kf_check.specs.Translation.{AreItems, IsTarget, Typed, names_of, decl_of, st_of}
use Rattle.kf_check.specs.Translation as becomes
use Rattle.kf_check.specs.Variables.{AreDeclared, AreCopied, IsBroken}
use Rattle.kf_check.proofs.Kinding.{Differ, slice_get-some, same_ok}
use Rattle.kf_check.proofs.Declared.{variables_differ, counted}
use Rattle.kf_check.proofs.DeclFacts.{facts_of}
use Rattle.kf_check.proofs.TargetSizes.{IsBounded, no_types, copies_bounded, types_behind}

-- ---- carried copies

each_within : {vs : List Variable} {k : ℕ} {items : List ItemTree} {cs : List ℕ} {is : List Item} {slots : List ℕ} → AreItems vs k items cs is slots → All (λ c. c < length vs) cs
each_within {vs} becomes.none = All-nil (λ c. c < length vs)
each_within (becomes.final at i found are) = each_within are
each_within {vs} (becomes.initial at i {n} {t} {cs = cs} found are) = All-cons (λ c. c < length vs) i cs (slice_get_within vs i (record { name = n; type = t }) found) (each_within are)

copied_types : {vs : List Variable} {k : ℕ} {items : List ItemTree} {cs : List ℕ} {is : List Item} {slots : List ℕ} → AreItems vs k items cs is slots → (types : List TypeTree) × AreCopied vs cs types
copied_types becomes.none = ([], refl)
copied_types (becomes.final at i found are) = copied_types are
copied_types {vs} (becomes.initial at i {n} {t} {cs = cs} found are) =
    let rest = copied_types are in
    let here : Some t ≡ slice_get (types_of vs) i = sym (slice_get-some (λ v. v.type) vs i (record { name = n; type = t }) found) in
    (t ∷ rest.0, ap (λ o. o ∷ map Some rest.0) here ∙ ap (λ os. slice_get (types_of vs) i ∷ os) rest.1)

-- what a shape of these variables and copies asks for
pub record FitsShape (vs : List Variable) (cs : List ℕ) : Type 0 where
  pub within : All (λ c. c < length vs) cs
  pub few : length vs + length cs ≤ 32
  pub narrow : (types : List TypeTree) → AreCopied vs cs types → product (map count (types_of vs ++ types)) ≤ 2 ^ 63

fits_by : (vs : List Variable) (cs : List ℕ) → All (λ c. c < length vs) cs → (types : List TypeTree) × AreCopied vs cs types → ((types : List TypeTree) → AreCopied vs cs types → IsBounded (types_of vs ++ types)) → FitsShape vs cs
fits_by vs cs within some bounded =
    let ours = bounded some.0 some.1 in
    let joined = length-append (types_of vs) some.0 in
    let types = length-map vs (λ v. v.type) in
    let many : length cs ≡ length some.0 = sym (length-map cs (slice_get (types_of vs))) ∙ ap length (sym some.1) ∙ length-map some.0 Some in
    let low = ours.0 in
    record { within = within; few = omega arith; narrow = λ types copied. (bounded types copied).1 }

pub fits_shape : {vs : List Variable} {items : List ItemTree} {cs : List ℕ} {is : List Item} {slots : List ℕ} → AreDeclared vs → IsTarget vs items cs is slots → (us : List TypeTree) → JudgesItems vs [] (types_of vs) items (Ok us) → FitsShape vs cs
fits_shape {vs} declared becomes.all us j =
    let facts = facts_of vs declared in
    fits_by vs [] (All-nil (λ c. c < length vs)) ([], refl) (λ types copied. rw (no_types types copied, append-nil (types_of vs)) (facts.few, facts.fits))
fits_shape {vs} {cs = cs} declared (becomes.about are) us j =
    let facts = facts_of vs declared in
    fits_by vs cs (each_within are) (copied_types are) (λ types copied. copies_bounded vs (variables_differ vs declared.0 declared.2) are [] (types_of vs) us j types copied (facts.few, facts.fits))

-- the types behind a target
pub target_types : (vs : List Variable) → Differ (names_of vs) → {items : List ItemTree} {cs : List ℕ} {is : List Item} {slots : List ℕ} → IsTarget vs items cs is slots → (us : List TypeTree) → JudgesItems vs [] (types_of vs) items (Ok us)
    → (types : List TypeTree) × (us ≡ types_of vs ++ types) × AreCopied vs cs types
target_types vs apart becomes.all us j = ([], same_ok us (types_of vs) j ∙ sym (append-nil (types_of vs)), refl)
target_types vs apart (becomes.about are) us j = types_behind vs apart are [] (types_of vs) us j

-- the copies have these types and no others
pub one_copied : (ts us : List TypeTree) → map Some ts ≡ map Some us → ts ≡ us
one_copied [] [] h = refl
one_copied [] (u ∷ us) h = absurd (cc)
one_copied (t ∷ ts) [] h = absurd (cc)
one_copied (t ∷ ts) (u ∷ us) h = let first : t ≡ u = cc in let rest : ts ≡ us = one_copied ts us (cc) in (cc)

-- ---- whole sources

pub some_variables : (vs : List Variable) (ds : List DeclTree) → JudgesDecls [] ds (Ok vs) → 1 ≤ length ds → 1 ≤ length vs
some_variables vs ds j some = let many = counted [] vs ds j in omega arith

module _ (items : List ItemTree) (xs : List StmtTree) where
  pub no_variable : IsBroken (source [] items xs) (broken.NoVariable 0)
  unfolding JudgesSource
  no_variable = inl (λ u q. (let some = q.0 in omega arith), refl)

  module _ (ds : List DeclTree) (some : 1 ≤ length ds) where
    pub broken_decls : (e : TypeError) → JudgesDecls [] ds (Err e) → IsBroken (source ds items xs) e
    unfolding JudgesSource
    broken_decls e j = inr (ds, (some, refl), inl j)

    module _ (vs : List Variable) (j : JudgesDecls [] ds (Ok vs)) where
      pub broken_target : (e : TypeError) → JudgesItems vs [] (types_of vs) items (Err e) → IsBroken (source ds items xs) e
      unfolding JudgesSource
      broken_target e is = inr (ds, (some, refl), inr (vs, j, inl is))

      pub broken_body : (ts : List TypeTree) (e : TypeError) → JudgesItems vs [] (types_of vs) items (Ok ts) → JudgesStmts (known_of vs) (stmts xs) (Err e) → IsBroken (source ds items xs) e
      unfolding JudgesSource
      broken_body ts e is ss = inr (ds, (some, refl), inr (vs, j, inr (ts, is, ss)))

      pub unbroken : (ts : List TypeTree) → JudgesItems vs [] (types_of vs) items (Ok ts) → JudgesStmts (known_of vs) (stmts xs) (Ok tt) → JudgesSource (source ds items xs) None
      unfolding JudgesSource
      unbroken ts is ss = (ds, (some, refl), (vs, j, (ts, is, ss)))

      -- this is the source's program
      pub typed : (p : ProgramTree) → JudgesItems vs [] (types_of vs) items (Ok p.types) → JudgesStmts (known_of vs) (stmts xs) (Ok tt) → p.decls ≡ map (decl_of (names_of vs)) ds
          → IsTarget vs items p.copies p.target p.target_slots → p.body ≡ map (st_of (names_of vs) (map is_visible ds)) xs → Typed (source ds items xs) p
      typed p is ss decls target body = record {
        decls = ds;
        items = items;
        body = xs;
        is_source = refl;
        judged = unbroken p.types is ss;
        variables = vs;
        are_variables = j;
        are_types = is;
        are_decls = decls;
        is_target = target;
        are_statements = body;
      }
