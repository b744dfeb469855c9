-- What a full source's target reads: the carried copy of each variable in turn, and then each variable.
use Rattle.std.proofs.Common.{◌≡◌, ℕ, ◌+◌, ◌≤◌, true, false, List, [], ◌∷◌, ◌++◌, length, map, slice_get, Some, Ok, refl, sym, ap, subst, ◌∙◌, arith, append_assoc, append-nil}
use Rattle.std.specs.List.{range_with_len}
use Rattle.std.proofs.lemmas.List.{length-append, map-append}
use Rattle.kf_value.specs.Types.{TypeTree}
use Rattle.kf_value.specs.Targets.{Item}
use Rattle.kf_ast.specs.Names.{name}
use Rattle.kf_ast.specs.Sources.{DeclTree, declared, ItemTree}
use Rattle.kf_check.specs.Sources.{Variable, types_of, JudgesDecls}
use Rattle.kf_check.specs.Translation.{AreItems, IsTarget, names_of}
use Rattle.kf_check.specs.Translation as aims
use Rattle.kf_check.proofs.Declared.{good_decl, slice_get-right}
use Rattle.kf_check.proofs.Kinding.{Differ, slice_get-some, same_ok}
use Rattle.kf_prior.specs.FullSources.{item_for}
use Rattle.kf_prior.specs.Literals.{full_decls}

-- ---- names

abbrev pub decl_names : List DeclTree → List (List ℕ)
decl_names [] = []
decl_names (declared visible (name n at) y d ∷ ds) = n ∷ decl_names ds

pub full_names : (ts : List TypeTree) (ds : List DeclTree) → length ds ≤ length ts → decl_names (full_decls ts ds) ≡ decl_names ds
full_names [] [] many = refl
full_names [] (d ∷ ds) many = absurd (omega (arith, many))
full_names (t ∷ ts) [] many = refl
full_names (t ∷ ts) (declared visible (name n at) y d ∷ ds) many = ap (λ ns. n ∷ ns) (full_names ts ds (omega (arith, many)))

-- variables have the names of their declarations
pub declared_names : (vs ws : List Variable) (ds : List DeclTree) → JudgesDecls vs ds (Ok ws) → names_of ws ≡ names_of vs ++ decl_names ds
declared_names vs ws [] h = ap names_of (same_ok ws vs h) ∙ sym (append-nil (names_of vs))
declared_names vs ws (declared visible (name n at) y d ∷ ds) h =
    let rest = declared_names (vs ++ h.0 ∷ []) ws ds h.2 in
    let named = (good_decl vs visible n at y d h.0 h.1).named in
    rest ∙ ap (λ ns. ns ++ decl_names ds) (map-append (λ v. v.name) vs (h.0 ∷ [])) ∙ append_assoc (names_of vs) (h.0.name ∷ []) (decl_names ds)
    ∙ ap (λ m. names_of vs ++ m ∷ decl_names ds) named

-- ---- items

some_type : {v w : Variable} → Some v ≡ Some w → v.type ≡ w.type
some_type {v} {w} e = let same : v ≡ w = cc in ap (λ u. u.type) same

abbrev types_in : List Item → List TypeTree
types_in is = map (λ i. i.ty) is

-- one number more before those of a range, and what stands behind them
one_more : (x y k m n : ℕ) (numbers rest : List ℕ) → x ≡ y → k ≡ m → numbers ≡ range_with_len k n ++ rest → x ∷ numbers ≡ y ∷ (range_with_len m n ++ rest)
one_more x y k m n numbers rest same next is = λ i. same i ∷ (is ∙ ap (λ j. range_with_len j n ++ rest) next) i

last_more : (x y k m n : ℕ) (numbers : List ℕ) → x ≡ y → k ≡ m → numbers ≡ range_with_len k n → x ∷ numbers ≡ y ∷ range_with_len m n
last_more x y k m n numbers same next is = λ i. same i ∷ (is ∙ ap (λ j. range_with_len j n) next) i

module _ (vs : List Variable) (apart : Differ (names_of vs)) where
  module _ (front back : List Variable) (v : Variable) (whole : vs ≡ front ++ (v ∷ back)) where
    here : slice_get vs (length front) ≡ Some v
    here = (let first : length front ≡ length front + 0 = omega arith in λ i. slice_get (whole i) (first i)) ∙ slice_get-right front (v ∷ back) 0

    -- a name is that of one variable
    pub found_here : (i : ℕ) (n : List ℕ) (t : TypeTree) → slice_get vs i ≡ Some (record { name = n; type = t }) → v.name ≡ n → (i ≡ length front) × (t ≡ v.type)
    found_here i n t found named =
        let same : i ≡ length front =
        apart n i (length front) (slice_get-some (λ (w : Variable). w.name) vs i (record { name = n; type = t }) found)
        (slice_get-some (λ (w : Variable). w.name) vs (length front) v here ∙ ap (λ m. Some m) named) in
        (same, some_type (sym found ∙ ap (slice_get vs) same ∙ here))

    longer : length (front ++ v ∷ []) ≡ length front + 1
    longer = length-append front (v ∷ [])

    pub later : vs ≡ (front ++ v ∷ []) ++ back
    later = whole ∙ sym (append_assoc front (v ∷ []) back)

  -- what is left behind the items `old` of some variables
  record Left (first : ℕ) (back : List Variable) (rest : List ItemTree) (cs : List ℕ) (is : List Item) (slots : List ℕ) : Type 0 where
    copies : ℕ
    places : List ℕ
    items : List Item
    reads : List ℕ
    are : AreItems vs copies rest places items reads
    places_are : cs ≡ range_with_len first (length back) ++ places
    reads_are : slots ≡ range_with_len (length vs + first) (length back) ++ reads
    types_are : types_in is ≡ types_of back ++ types_in items

  initial_items : {items : List ItemTree} {copies : ℕ} {cs : List ℕ} {is : List Item} {slots : List ℕ} → AreItems vs copies items cs is slots → (ds : List DeclTree) (rest : List ItemTree) (front back : List Variable)
      → items ≡ map (item_for true) ds ++ rest → copies ≡ length front → vs ≡ front ++ back → names_of back ≡ decl_names ds → Left (length front) back rest cs is slots
  initial_items {copies = copies} {cs = cs} {is = is} {slots = slots} are [] rest front [] same count whole named = record {
    copies = copies;
    places = cs;
    items = is;
    reads = slots;
    are = subst (λ l. AreItems vs copies l cs is slots) same are;
    places_are = refl;
    reads_are = refl;
    types_are = refl;
  }
  initial_items are [] rest front (v ∷ back) same count whole named = absurd (cc)
  initial_items are (declared visible (name n at) y d ∷ ds) rest front [] same count whole named = absurd (cc)
  initial_items aims.none (declared visible (name n at) y d ∷ ds) rest front (v ∷ back) same count whole named = absurd (cc)
  initial_items (aims.final at' i found are) (declared visible (name n at) y d ∷ ds) rest front (v ∷ back) same count whole named = absurd (cc)
  initial_items {copies = copies} (aims.initial at' i {n = m} {t} {others} {cs} {is} {slots} found are) (declared visible (name n at) y d ∷ ds) rest front (v ∷ back) same count whole named =
      let names : m ≡ n = cc in
      let mine : v.name ≡ n = cc in
      let tails : names_of back ≡ decl_names ds = cc in
      let left : others ≡ map (item_for true) ds ++ rest = cc in
      let at_front = found_here front back v whole i m t found (mine ∙ sym names) in
      let long = longer front back v whole in
      let r = initial_items {items = others} {copies = copies + 1} {cs = cs} {is = is} {slots = slots} are ds rest (front ++ v ∷ []) back left (omega (arith, count, long)) (later front back v whole) tails in
      let next : length vs + length (front ++ v ∷ []) ≡ length vs + length front + 1 = omega (arith, long) in
      let slot : length vs + copies ≡ length vs + length front = ap (λ k. length vs + k) count in
      record {
        copies = r.copies;
        places = r.places;
        items = r.items;
        reads = r.reads;
        are = r.are;
        places_are = one_more i (length front) (length (front ++ v ∷ [])) (length front + 1) (length back) cs r.places at_front.0 long r.places_are;
        reads_are = one_more (length vs + copies) (length vs + length front) (length vs + length (front ++ v ∷ [])) (length vs + length front + 1) (length back) slots r.reads slot next r.reads_are;
        types_are = λ j. at_front.1 j ∷ r.types_are j;
      }

  -- items without `old` are read from the variables themselves
  record Finals (first : ℕ) (back : List Variable) (cs : List ℕ) (is : List Item) (slots : List ℕ) : Type 0 where
    places_none : cs ≡ []
    reads_are : slots ≡ range_with_len first (length back)
    types_are : types_in is ≡ types_of back

  final_items : {items : List ItemTree} {copies : ℕ} {cs : List ℕ} {is : List Item} {slots : List ℕ} → AreItems vs copies items cs is slots → (ds : List DeclTree) (front back : List Variable)
      → items ≡ map (item_for false) ds → vs ≡ front ++ back → names_of back ≡ decl_names ds → Finals (length front) back cs is slots
  final_items aims.none [] front [] same whole named = record { places_none = refl; reads_are = refl; types_are = refl }
  final_items (aims.final at' i found are) [] front [] same whole named = absurd (cc)
  final_items (aims.initial at' i found are) [] front [] same whole named = absurd (cc)
  final_items are [] front (v ∷ back) same whole named = absurd (cc)
  final_items are (declared visible (name n at) y d ∷ ds) front [] same whole named = absurd (cc)
  final_items aims.none (declared visible (name n at) y d ∷ ds) front (v ∷ back) same whole named = absurd (cc)
  final_items (aims.initial at' i found are) (declared visible (name n at) y d ∷ ds) front (v ∷ back) same whole named = absurd (cc)
  final_items (aims.final at' i {n = m} {t} {others} {cs} {is} {slots} found are) (declared visible (name n at) y d ∷ ds) front (v ∷ back) same whole named =
      let names : m ≡ n = cc in
      let mine : v.name ≡ n = cc in
      let tails : names_of back ≡ decl_names ds = cc in
      let left : others ≡ map (item_for false) ds = cc in
      let at_front = found_here front back v whole i m t found (mine ∙ sym names) in
      let long = longer front back v whole in
      let r = final_items {items = others} {cs = cs} {is = is} {slots = slots} are ds (front ++ v ∷ []) back left (later front back v whole) tails in
      record {
        places_none = r.places_none;
        reads_are = last_more i (length front) (length (front ++ v ∷ [])) (length front + 1) (length back) slots at_front.0 long r.reads_are;
        types_are = λ j. at_front.1 j ∷ r.types_are j;
      }

-- the whole target of a full source
pub record IsAim (vs : List Variable) (cs : List ℕ) (is : List Item) (slots : List ℕ) : Type 0 where
  pub places_are : cs ≡ range_with_len 0 (length vs)
  pub reads_are : slots ≡ range_with_len (length vs) (length vs) ++ range_with_len 0 (length vs)
  pub types_are : types_in is ≡ types_of vs ++ types_of vs

no_items : (ds : List DeclTree) → [] ≡ map (item_for true) ds ++ map (item_for false) ds → ds ≡ []
no_items [] same = refl
no_items (declared visible n y d ∷ ds) same = absurd (cc)

all_aim : (vs : List Variable) → names_of vs ≡ [] → IsAim vs [] (map (λ v. record { initial = false; name = v.name; ty = v.type }) vs) (range_with_len 0 (length vs))
all_aim [] named = record { places_are = refl; reads_are = refl; types_are = refl }
all_aim (v ∷ vs) named = absurd (cc)

items_aim : (vs : List Variable) → Differ (names_of vs) → {items : List ItemTree} {cs : List ℕ} {is : List Item} {slots : List ℕ} → AreItems vs 0 items cs is slots → (ds : List DeclTree)
    → items ≡ map (item_for true) ds ++ map (item_for false) ds → names_of vs ≡ decl_names ds → IsAim vs cs is slots
items_aim vs apart are ds same named =
    let r = initial_items vs apart are ds (map (item_for false) ds) [] vs same refl refl named in
    let s = final_items vs apart r.are ds [] vs refl refl named in
    let start : length vs + 0 ≡ length vs = omega arith in
    record {
      places_are = r.places_are ∙ ap (λ l. range_with_len 0 (length vs) ++ l) s.places_none ∙ append-nil (range_with_len 0 (length vs));
      reads_are = r.reads_are ∙ (λ i. range_with_len (start i) (length vs) ++ s.reads_are i);
      types_are = r.types_are ∙ ap (λ l. types_of vs ++ l) s.types_are;
    }

pub target_aim : (vs : List Variable) → Differ (names_of vs) → {items : List ItemTree} {cs : List ℕ} {is : List Item} {slots : List ℕ} → IsTarget vs items cs is slots → (ds : List DeclTree)
    → items ≡ map (item_for true) ds ++ map (item_for false) ds → names_of vs ≡ decl_names ds → IsAim vs cs is slots
target_aim vs apart aims.all ds same named = all_aim vs (named ∙ ap decl_names (no_items ds same))
target_aim vs apart (aims.about are) ds same named = items_aim vs apart are ds same named
