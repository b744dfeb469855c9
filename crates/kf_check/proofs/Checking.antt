-- The program of a source that breaks no rule is checked.
use Rattle.std.proofs.Common.{◌≡◌, ℕ, suc, zero, ◌≤◌, ◌<◌, ◌+◌, Bool, true, false, List, [], ◌∷◌, ◌++◌, length, map, take, slice_get, Option, Some, None, Ok, length-append, append_assoc, get_or, refl, sym, ap, ◌∙◌, subst, arith}
use Rattle.std.proofs.lemmas.List.{length-map, map-append, take-append-le}
use Rattle.std.proofs.lemmas.List.FromFn.{length-range_with_len}
use Rattle.std.specs.Option.{option_map}
use Rattle.std.proofs.lemmas.Option.{slice_get-map, slice_get_within, slice_get-get_or}
use Rattle.kf_value.specs.Types.{TypeTree, Boolean}
use Rattle.kf_value.specs.Targets.{Item}
use Rattle.kf_ops.specs.Fitting.{Takes}
use Rattle.kf_ast.specs.Names.{name}
use Rattle.kf_ast.specs.Stmts.{StmtTree, stmts}
use Rattle.kf_ast.specs.Sources.{DeclTree, declared, ItemTree, source}
use Rattle.kf_ast.specs.Built.{AreDeclsBuilt, AreStmtsBuilt, AreListedBuilt}
use Rattle.kf_core.specs.Dxs.{DxTree}
use Rattle.kf_core.specs.Views.{sts_list}
use Rattle.kf_core.specs.Programs.{ProgramTree}
use Rattle.kf_core.specs.Checked.{DistKinded, AreSound, declared_kinds, IsReadFrom, IsChecked}
use Rattle.kf_value.specs.Kinds.{kind_of}
use Rattle.kf_check.specs.Statements.{JudgesStmts}
use Rattle.kf_check.specs.Sources.{Variable, types_of, known_of, JudgesDecls, JudgesItems}
use Rattle.kf_check.specs.Translation.{place_of, dx_of, st_of, sts_of, decl_of, AreItems, IsTarget, names_of}
use Rattle.kf_check.specs.Translation as aims
use Rattle.kf_check.specs.Laws.{IsWellBuilt}
use Rattle.kf_check.specs.Variables.{AreCopied}
use Rattle.kf_check.specs.Picks.{names_in}
use Rattle.kf_check.proofs.Kinding.{kinds_in, Differ, Agree, agree, place_found, dist_kinded, all_sound, slice_get-some, sts_list-sts, sts_of_all}
use Rattle.kf_check.proofs.Declared.{grown, counted, good_decl, slice_get-left, slice_get-right, variables_differ, known_differ, names_of_known, kinds_of_known, named_first, types_first}
use Rattle.kf_check.proofs.SlotsApart.{target_apart, place_is}

pub listed_built : (xs : List StmtTree) → AreListedBuilt Takes xs → AreStmtsBuilt Takes (stmts xs)
listed_built [] b = tt
listed_built (x ∷ xs) b = (b.0, listed_built xs b.1)

-- ---- declarations

-- where variables are the first of others, a name of them stands for the same in both
agree_first : (vs more : List Variable) → Differ (names_of (vs ++ more)) → Agree (known_of vs) (names_of (vs ++ more)) (map kind_of (types_of vs))
agree_first vs more apart n i k h =
    let same = place_found (names_of (vs ++ more)) apart n i (named_first vs more n i k h) in
    subst (λ ks. slice_get ks (place_of (names_of (vs ++ more)) n) ≡ Some k) (kinds_of_known vs)
    (subst (λ m. slice_get (kinds_in (known_of vs)) m ≡ Some k) (sym same) (slice_get-some (λ v. v.kind) (known_of vs) i (record { name = n; kind = k }) h))

module _ (names : List (List ℕ)) (apart : Differ names) where
  first_kinded : (vs ws more : List Variable) (v : Variable) (e e' : DxTree) (t : TypeTree) → names ≡ names_of ws → ws ≡ vs ++ v ∷ more → Some e' ≡ Some e → slice_get (types_of ws) (length vs + 0) ≡ Some t
      → (Agree (known_of vs) names (map kind_of (types_of vs)) → DistKinded (map kind_of (types_of vs)) e' (kind_of v.type)) → DistKinded (map kind_of (take (length vs + 0) (types_of ws))) e (kind_of t)
  first_kinded vs ws more v e e' t same whole h g kinded =
      let names_whole : names ≡ names_of (vs ++ v ∷ more) = same ∙ ap names_of whole in
      let alike : Agree (known_of vs) names (map kind_of (types_of vs)) =
      subst (λ ns. Agree (known_of vs) ns (map kind_of (types_of vs))) (sym names_whole) (agree_first vs (v ∷ more) (subst Differ names_whole apart)) in
      let ours : slice_get (types_of ws) (length vs + 0) ≡ Some v.type = ap (λ us. slice_get (types_of us) (length vs + 0)) whole ∙ slice_get-some (λ v. v.type) (vs ++ v ∷ more) (length vs + 0) v (slice_get-right vs (v ∷ more) 0) in
      let type : v.type ≡ t = (let both : Some v.type ≡ Some t = sym ours ∙ g in cc) in
      let dist : e' ≡ e = cc in
      let none : length vs + 0 ≡ length vs = omega arith in
      let first : take (length vs + 0) (types_of ws) ≡ types_of vs = ap (λ n. take n (types_of ws)) none ∙ ap (λ us. take (length vs) (types_of us)) whole ∙ ap (λ ts. take (length vs) ts) (map-append (λ v. v.type) vs (v ∷ more)) ∙ types_first vs (types_of (v ∷ more)) in
      subst (λ ts. DistKinded (map kind_of ts) e (kind_of t)) (sym first) (subst (λ u. DistKinded (map kind_of (types_of vs)) e (kind_of u)) type (subst (λ f. DistKinded (map kind_of (types_of vs)) f (kind_of v.type)) dist (kinded alike)))

  decls_kinded : (vs ws : List Variable) (ds : List DeclTree) → JudgesDecls vs ds (Ok ws) → names ≡ names_of ws → AreDeclsBuilt Takes ds
      → (i : ℕ) (e : DxTree) (t : TypeTree) → slice_get (map (decl_of names) ds) i ≡ Some e → slice_get (types_of ws) (length vs + i) ≡ Some t → DistKinded (map kind_of (take (length vs + i) (types_of ws))) e (kind_of t)
  decls_kinded vs ws [] js same b i e t h g = absurd (cc)
  decls_kinded vs ws (declared visible (name n at) y d ∷ ds) js same b zero e t h g =
      let rest = grown (vs ++ js.0 ∷ []) ws ds js.2 in
      first_kinded vs ws rest.0 js.0 e (dx_of names d) t same (rest.1 ∙ append_assoc vs (js.0 ∷ []) rest.0) h g
      (λ alike. dist_kinded (known_of vs) names (map kind_of (types_of vs)) alike d (kind_of (js.0).type) (good_decl vs visible n at y d js.0 js.1).drawn b.1)
  decls_kinded vs ws (declared visible (name n at) y d ∷ ds) js same b (suc i) e t h g =
      let longer : length (vs ++ js.0 ∷ []) ≡ length vs + 1 = length-append vs (js.0 ∷ []) in
      let shift : length (vs ++ js.0 ∷ []) + i ≡ length vs + suc i = omega arith in
      subst (λ m. DistKinded (map kind_of (take m (types_of ws))) e (kind_of t)) shift (decls_kinded (vs ++ js.0 ∷ []) ws ds js.2 same b.2 i e t h (ap (slice_get (types_of ws)) shift ∙ g))

-- ---- targets

map_at : {A B : Type 0} (f : A → B) (xs : List A) (i : ℕ) (y : B) → slice_get (map f xs) i ≡ Some y → (x : A) × (slice_get xs i ≡ Some x) × (f x ≡ y)
map_at f [] i y h = absurd (cc)
map_at f (x ∷ xs) zero y h = (x, refl, (cc))
map_at f (x ∷ xs) (suc i) y h = map_at f xs i y h

items_length : {vs : List Variable} {copies : ℕ} {items : List ItemTree} {cs : List ℕ} {is : List Item} {slots : List ℕ} → AreItems vs copies items cs is slots → length is ≡ length slots
items_length aims.none = refl
items_length (aims.final at i h rest) = let ih = items_length rest in omega arith
items_length (aims.initial at i h rest) = let ih = items_length rest in omega arith

module _ (vs : List Variable) (p : ProgramTree) (some : length p.decls ≡ length vs) (first : (i : ℕ) (v : Variable) → slice_get vs i ≡ Some v → slice_get p.types i ≡ Some v.type) where
  final_read : (i : ℕ) (v : Variable) → slice_get vs i ≡ Some v → IsReadFrom p (record { initial = false; name = v.name; ty = v.type }) i
  final_read i v found = record {
    type_is = first i v found;
    carried = (λ (e : false ≡ true). absurd (cc), λ (h : length p.decls ≤ i). let within = slice_get_within vs i v found in absurd (omega arith));
  }

  initial_read : (copies i : ℕ) (v : Variable) → slice_get vs i ≡ Some v → slice_get p.types (length vs + (copies + 0)) ≡ slice_get p.types i → IsReadFrom p (record { initial = true; name = v.name; ty = v.type }) (length vs + copies)
  initial_read copies i v found copied = record {
    type_is = (let shift : length vs + copies ≡ length vs + (copies + 0) = omega arith in ap (slice_get p.types) shift) ∙ copied ∙ first i v found;
    carried = (λ (e : true ≡ true). omega arith, λ (h : length p.decls ≤ length vs + copies). refl);
  }

  found_read : (ours item : Item) (place slot : ℕ) → IsReadFrom p ours place → Some ours ≡ Some item → Some place ≡ Some slot → IsReadFrom p item slot
  found_read ours item place slot r h g = let same : ours ≡ item = cc in let here : place ≡ slot = cc in subst (λ i. IsReadFrom p i slot) same (subst (λ n. IsReadFrom p ours n) here r)

  items_read : {copies : ℕ} {items : List ItemTree} {cs : List ℕ} {is : List Item} {slots : List ℕ} → AreItems vs copies items cs is slots
      → ((m c : ℕ) → slice_get cs m ≡ Some c → slice_get p.types (length vs + (copies + m)) ≡ slice_get p.types c)
      → (j slot : ℕ) (item : Item) → slice_get is j ≡ Some item → slice_get slots j ≡ Some slot → IsReadFrom p item slot
  items_read aims.none later j slot item h g = absurd (cc)
  items_read (aims.final at i {n} {t} found rest) later zero slot item h g = found_read _ item i slot (final_read i (record { name = n; type = t }) found) h g
  items_read (aims.final at i found rest) later (suc j) slot item h g = items_read rest later j slot item h g
  items_read {copies} (aims.initial at i {n} {t} found rest) later zero slot item h g = found_read _ item (length vs + copies) slot (initial_read copies i (record { name = n; type = t }) found (later 0 i refl)) h g
  items_read {copies} (aims.initial at i found rest) later (suc j) slot item h g =
      items_read rest (λ m c e. (let shift : length vs + ((copies + 1) + m) ≡ length vs + (copies + suc m) = omega arith in ap (slice_get p.types) shift) ∙ later (suc m) c e) j slot item h g

  target_read : {items : List ItemTree} {cs : List ℕ} {is : List Item} {slots : List ℕ} → IsTarget vs items cs is slots
      → ((m c : ℕ) → slice_get cs m ≡ Some c → slice_get p.types (length vs + m) ≡ slice_get p.types c)
      → (j slot : ℕ) (item : Item) → slice_get is j ≡ Some item → slice_get slots j ≡ Some slot → IsReadFrom p item slot
  target_read aims.all later j slot item h g =
      let ours = map_at (λ v. record { initial = false; name = v.name; ty = v.type }) vs j item h in
      found_read _ item j slot (final_read j ours.0 ours.1) (ap Some ours.2) (ap Some (place_is (length vs) j slot g))
  target_read (aims.about are) later j slot item h g = items_read are (λ m c e. (let shift : length vs + (0 + m) ≡ length vs + m = omega arith in ap (slice_get p.types) shift) ∙ later m c e) j slot item h g

target_length : {vs : List Variable} {items : List ItemTree} {cs : List ℕ} {is : List Item} {slots : List ℕ} → IsTarget vs items cs is slots → length is ≡ length slots
target_length {vs} aims.all = length-map vs (λ v. record { initial = false; name = v.name; ty = v.type }) ∙ sym (length-range_with_len 0 (length vs))
target_length (aims.about are) = items_length are

-- ---- carried copies

flat : {A : Type 0} (o x : Option A) → option_map Some o ≡ Some x → o ≡ x
flat None x h = absurd (cc)
flat (Some a) x h = (cc)

module _ (vs : List Variable) (copies : List ℕ) (types : List TypeTree) (are : AreCopied vs copies types) where
  copies_length : length copies ≡ length types
  copies_length = sym (length-map copies (slice_get (types_of vs))) ∙ ap length (sym are) ∙ length-map types Some

  copy_type : (j c : ℕ) → slice_get copies j ≡ Some c → slice_get types j ≡ slice_get (types_of vs) c
  copy_type j c h = flat (slice_get types j) (slice_get (types_of vs) c)
      (sym (slice_get-map Some types j) ∙ ap (λ os. slice_get os j) are ∙ slice_get-map (slice_get (types_of vs)) copies j ∙ ap (option_map (slice_get (types_of vs))) h)

  copy_within : (j c : ℕ) → slice_get copies j ≡ Some c → c < length vs
  copy_within j c h =
      let within = slice_get_within copies j c h in
      let lengths = copies_length in
      let there = length-map vs (λ v. v.type) in
      let last : slice_get types j ≡ Some (get_or types j Boolean) = slice_get-get_or types j Boolean (omega arith) in
      let before = slice_get_within (types_of vs) c (get_or types j Boolean) (sym (copy_type j c h) ∙ last) in
      omega arith

-- ---- programs

slice_get-inside : {A : Type 0} (xs ys : List A) (i : ℕ) → i < length xs → slice_get (xs ++ ys) i ≡ slice_get xs i
slice_get-inside [] ys i h = absurd (omega arith)
slice_get-inside (x ∷ xs) ys zero h = refl
slice_get-inside (x ∷ xs) ys (suc i) h = slice_get-inside xs ys i (omega arith)

module _ (vs : List Variable) (types : List TypeTree) (p : ProgramTree) (as_many : length p.decls ≡ length vs) (whole : p.types ≡ types_of vs ++ types) (copied : AreCopied vs p.copies types) where
  types_length : length (types_of vs) ≡ length vs
  types_length = length-map vs (λ v. v.type)

  first_type : (i : ℕ) (v : Variable) → slice_get vs i ≡ Some v → slice_get p.types i ≡ Some v.type
  first_type i v h = ap (λ ts. slice_get ts i) whole ∙ slice_get-left (types_of vs) types i v.type (slice_get-some (λ v. v.type) vs i v h)

  all_types : take (length p.decls) p.types ≡ types_of vs
  all_types = ap (λ n. take n p.types) as_many ∙ ap (λ ts. take (length vs) ts) whole ∙ types_first vs types

  inside : (i : ℕ) → i < length vs → slice_get p.types i ≡ slice_get (types_of vs) i
  inside i h = ap (λ ts. slice_get ts i) whole ∙ slice_get-inside (types_of vs) types i (subst (λ n. i < n) (sym types_length) h)

  taken : (i : ℕ) → i < length vs → take i p.types ≡ take i (types_of vs)
  taken i h = let there = types_length in ap (λ ts. take i ts) whole ∙ take-append-le i (types_of vs) types (omega arith)

  copy_read : (j c : ℕ) → slice_get p.copies j ≡ Some c → slice_get p.types (length vs + j) ≡ slice_get p.types c
  copy_read j c h =
      ap (λ ts. slice_get ts (length vs + j)) whole ∙ ap (λ n. slice_get (types_of vs ++ types) (n + j)) (sym types_length) ∙ slice_get-right (types_of vs) types j ∙ copy_type vs p.copies types copied j c h
      ∙ sym (inside c (copy_within vs p.copies types copied j c h))

  copied_from : (j c : ℕ) → slice_get p.copies j ≡ Some c → (c < length p.decls) × (slice_get p.types (length p.decls + j) ≡ slice_get p.types c)
  copied_from j c h = (subst (λ n. c < n) (sym as_many) (copy_within vs p.copies types copied j c h), ap (λ n. slice_get p.types (n + j)) as_many ∙ copy_read j c h)

  all_counted : length p.decls + length p.copies ≡ length p.types
  all_counted =
      let joined : length p.types ≡ length (types_of vs) + length types = ap length whole ∙ length-append (types_of vs) types in
      let there = types_length in
      let copies = copies_length vs p.copies types copied in
      omega arith

  module _ (ds : List DeclTree) (js : JudgesDecls [] ds (Ok vs)) where
    dists_kinded : AreDeclsBuilt Takes ds → p.decls ≡ map (decl_of (names_of vs)) ds → (i : ℕ) (d : DxTree) (t : TypeTree) → slice_get p.decls i ≡ Some d → slice_get p.types i ≡ Some t → DistKinded (map kind_of (take i p.types)) d (kind_of t)
    dists_kinded built decls i d t h g =
        let within : i < length vs = subst (λ n. i < n) as_many (slice_get_within p.decls i d h) in
        let zeroth : 0 + i ≡ i = omega arith in
        let ours : DistKinded (map kind_of (take (0 + i) (types_of vs))) d (kind_of t) =
        decls_kinded (names_of vs) (variables_differ vs ds js) [] vs ds js refl built i d t (ap (λ es. slice_get es i) (sym decls) ∙ h) (ap (slice_get (types_of vs)) zeroth ∙ sym (inside i within) ∙ g) in
        subst (λ ts. DistKinded (map kind_of ts) d (kind_of t)) (ap (λ n. take n (types_of vs)) zeroth ∙ sym (taken i within)) ours

    body_sound : (flags : List Bool) (xs : List StmtTree) → AreListedBuilt Takes xs → JudgesStmts (known_of vs) (stmts xs) (Ok tt) → p.body ≡ map (st_of (names_of vs) flags) xs → AreSound (declared_kinds p) p.body
    body_sound flags xs built ss body =
        let alike : Agree (known_of vs) (names_in (known_of vs)) (kinds_in (known_of vs)) = agree (known_of vs) (known_differ vs (variables_differ vs ds js)) in
        let ours : Agree (known_of vs) (names_of vs) (declared_kinds p) =
        subst (λ ts. Agree (known_of vs) (names_of vs) (map kind_of ts)) (sym all_types)
        (subst (λ ks. Agree (known_of vs) (names_of vs) ks) (kinds_of_known vs) (subst (λ ns. Agree (known_of vs) ns (kinds_in (known_of vs))) (names_of_known vs) alike)) in
        let whole : sts_list (sts_of (names_of vs) flags (stmts xs)) ≡ p.body = sym (ap sts_list (sts_of_all (names_of vs) flags xs)) ∙ sts_list-sts (map (st_of (names_of vs) flags) xs) ∙ sym body in
        subst (λ ys. AreSound (declared_kinds p) ys) whole (all_sound (known_of vs) (names_of vs) (declared_kinds p) ours flags (stmts xs) tt ss (listed_built xs built))

-- the program of a source whose declarations, target and statements break no rule is checked
pub checked : (ds : List DeclTree) (items : List ItemTree) (xs : List StmtTree) (flags : List Bool) (vs : List Variable) (types : List TypeTree) (p : ProgramTree) → IsWellBuilt (source ds items xs)
    → JudgesDecls [] ds (Ok vs) → JudgesItems vs [] (types_of vs) items (Ok p.types) → JudgesStmts (known_of vs) (stmts xs) (Ok tt) → p.types ≡ types_of vs ++ types → AreCopied vs p.copies types
    → p.decls ≡ map (decl_of (names_of vs)) ds → IsTarget vs items p.copies p.target p.target_slots → p.body ≡ map (st_of (names_of vs) flags) xs → IsChecked p
checked ds items xs flags vs types p built js ls ss whole copied decls target body =
    let all = counted [] vs ds js in
    let listed : length p.decls ≡ length ds = ap length decls ∙ length-map ds (decl_of (names_of vs)) in
    let many : length p.decls ≡ length vs = omega arith in
    record {
      counted = all_counted vs types p many whole copied;
      declared = dists_kinded vs types p many whole copied ds js built.0 decls;
      copied = copied_from vs types p many whole copied;
      sound = body_sound vs types p many whole copied ds js flags xs built.1 ss body;
      targeted = target_length target;
      read = target_read vs p many (first_type vs types p many whole copied) target (copy_read vs types p many whole copied);
      apart = target_apart vs (types_of vs) target p.types ls;
    }
