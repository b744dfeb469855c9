-- What checking an item of a target gives, and a turn of the loop over items.
use Rattle.std.proofs.Common.{◌≡◌, ℕ, ◌*◌, ◌+◌, ◌<◌, ◌≤◌, Bool, true, false, List, [], ◌∷◌, ◌++◌, map, length, get_or, slice_get, Some, Ok, Err, Result, refl, sym, ap, ◌∙◌, subst, arith, append_assoc, append-nil, length-append, inl, inr, ⊎_elim, Contains}
use Rattle.std.proofs.lemmas.List.{map-append, length-map}
use Rattle.std.proofs.Math.Nat.{mul_assoc}
use Rattle.std.proofs.lemmas.List.Elements.{Contains-append_left, Contains-append_right, Contains-append_cases}
use Rattle.std.proofs.lemmas.Option.{slice_get-get_or, slice_get-map, slice_get_within}
use Rattle.std.specs.Option.{option_map}
use Rattle.kf_value.specs.Kinds.{KindTree, kind_of}
use Rattle.kf_value.specs.Types.{TypeTree, count, product}
use Rattle.kf_value.specs.Targets.{Item}
use Rattle.kf_ast.specs.Names.{name}
use Rattle.kf_ast.specs.Sources.{ItemTree, item}
use Rattle.kf_check.specs.declared.errors.TypeError.{TypeError}
use Rattle.kf_check.specs.declared.errors.TypeError.TheVariants as broken
use Rattle.kf_check.specs.declared.variables.Variable as code
use Rattle.kf_check.specs.Kinds.{Known}
use Rattle.kf_check.specs.Sources.{Variable, types_of, known_of, JudgesItem, JudgesItems}
use Rattle.kf_check.specs.Translation.{AreItems}
use Rattle.kf_check.specs.Translation as becomes
use Rattle.kf_check.specs.Variables.{variable_of, AreCopied, IsKnown, IsUnknown, Carries}
use Rattle.kf_check.specs.SourceAnswers.{AnswersGrowth, Stands, HasSame}
use Rattle.kf_check.proofs.Judging.{past}
use Rattle.kf_check.proofs.DeclTurns.{no_room, has_room}
use Rattle.kf_check.proofs.LawsKinds.{not_unknown}
use Rattle.kf_check.proofs.LawsItems.{declared_at, known_at, in_at, at_in}
use Rattle.kf_check.proofs.Kinding.{slice_get-some}

-- ---- the same items

pub same_more : (xs ys : List ItemTree) (i : ItemTree) → HasSame xs ys → HasSame (i ∷ xs) (ys ++ i ∷ [])
same_more xs ys i same j = (
  λ (h : Contains (i ∷ xs) j). ⊎_elim (λ (f : Contains (i ∷ []) j). Contains-append_right ys (i ∷ []) j f) (λ (g : Contains xs j). Contains-append_left ys (i ∷ []) j ((same j).0 g)) (Contains-append_cases (i ∷ []) xs j h),
  λ (h : Contains (ys ++ i ∷ []) j). ⊎_elim (λ (g : Contains ys j). Contains-append_right (i ∷ []) xs j ((same j).1 g)) (λ (f : Contains (i ∷ []) j). Contains-append_left (i ∷ []) xs j f) (Contains-append_cases ys (i ∷ []) j h),
)

-- ---- the variable of an item

module _ (ws : List code.Variable) (n : List ℕ) (i : ℕ) (k : KindTree) (known : IsKnown (known_of (map variable_of ws)) n i k) where
  pub place_within : i < length ws
  place_within =
      let found = declared_at (map variable_of ws) n i k known in
      subst (λ m. i < m) (length-map ws variable_of) (slice_get_within (map variable_of ws) i (record { name = n; type = found.0 }) found.1)

  -- the variable that is read is the one of this name
  pub found_here : (v : code.Variable) → v ≡ get_or ws i v → (slice_get (map variable_of ws) i ≡ Some (variable_of v)) × ((variable_of v).name ≡ n)
  found_here v read =
      let found = declared_at (map variable_of ws) n i k known in
      let here : slice_get (map variable_of ws) i ≡ Some (variable_of v) = slice_get-map variable_of ws i ∙ (ap (option_map variable_of) (slice_get-get_or ws i v place_within) ∙ ap (λ w. Some (variable_of w)) (sym read)) in
      let same : variable_of v ≡ record { name = n; type = found.0 } = (let both : Some (variable_of v) ≡ Some (record { name = n; type = found.0 }) = sym here ∙ found.1 in cc) in
      (here, ap (λ w. w.name) same)

-- the same name as it is known among the declared variables
pub known_here : (known ks : List Known) (text n : List ℕ) (i : ℕ) (k : KindTree) → known ≡ ks → text ≡ n → IsKnown known text i k → IsKnown ks n i k
known_here known ks text n i k agree reads h = subst (λ js. IsKnown js n i k) agree (subst (λ m. IsKnown known m i k) reads h)

-- an item of no declared variable
unseen : (vs : List Variable) (n : List ℕ) → IsUnknown (known_of vs) n → (t : TypeTree) → Contains vs (record { name = n; type = t }) → ⊥
unseen vs n u t h =
    let found = in_at vs (record { name = n; type = t }) h in
    not_unknown (known_of vs) n found.0 (kind_of t) (known_at vs n found.0 t found.1) u

pub item_unknown : (vs : List Variable) (stood : List ItemTree) (ts : List TypeTree) (old : Bool) (at : ℕ) (known : List Known) (text n : List ℕ) → known ≡ known_of vs → text ≡ n → IsUnknown known text
    → JudgesItem vs stood ts (item old (name n at)) (Err (broken.Unknown at))
item_unknown vs stood ts old at known text n agree reads u = inl (unseen vs n (subst (λ ks. IsUnknown ks n) agree (subst (IsUnknown known) reads u)), refl)

-- ---- one item

module _ (vs : List Variable) (stood before : List ItemTree) (same : HasSame stood before) (ts : List TypeTree) (at : ℕ) (n : List ℕ) where
  apart : (old : Bool) → ¬ Stands before old n → (at' : ℕ) → ¬ Contains stood (item old (name n at'))
  apart old new at' h = new (at', (same (item old (name n at'))).0 h)

  module _ (i : ℕ) (k : KindTree) (known : IsKnown (known_of vs) n i k) where
    pub item_twice : (old : Bool) → Stands before old n → JudgesItem vs stood ts (item old (name n at)) (Err (broken.Twice at))
    item_twice old h =
        let found = declared_at vs n i k known in
        inr (found.0, at_in vs (record { name = n; type = found.0 }) i found.1, inl (λ s q. q.0 h.0 ((same (item old (name n h.0))).1 h.1), refl))

    module _ (v : Variable) (found : slice_get vs i ≡ Some v) (called : v.name ≡ n) where
      here : slice_get vs i ≡ Some (record { name = n; type = v.type })
      here = found ∙ ap (λ m. Some (record { name = m; type = v.type })) called

      there : Contains vs (record { name = n; type = v.type })
      there = at_in vs (record { name = n; type = v.type }) i here

      pub final_answer : (old : Bool) → old ≡ false → (x : Item) → x ≡ record { initial = old; name = v.name; ty = v.type } → (copies : ℕ) → ¬ Stands before old n
          → JudgesItem vs stood ts (item old (name n at)) (Ok (ts ++ [])) × AreItems vs copies (item old (name n at) ∷ []) [] (x ∷ []) (i ∷ [])
      final_answer false is x e copies new = rw e (
        (v.type, there, (v.type, (apart false new, refl), ap Ok (append-nil ts))),
        subst (λ m. AreItems vs copies (item false (name n at) ∷ []) [] (record { initial = false; name = m; ty = v.type } ∷ []) (i ∷ [])) (sym called) (becomes.final at i here becomes.none),
      )
      final_answer true is x e copies new = absurd (cc)

      module _ (old : Bool) (is : old ≡ true) (new : ¬ Stands before old n) (place stores : ℕ) (many : place ≡ length ts) (counted : stores ≡ product (map count ts)) where
        pub initial_fails : (e : TypeError) → AnswersGrowth place stores (count v.type) at (Err e) → JudgesItem vs stood ts (item old (name n at)) (Err e)
        initial_fails e growth = inr (v.type, there, inr (v.type, (apart old new, refl), carries old is))
          where
            carries : (old : Bool) → old ≡ true → Carries old ts v.type at (Err e)
            carries true is = inl (no_room ts v.type at place stores many counted e growth)
            carries false is = absurd (cc)

        pub initial_answer : (grown : ℕ) → AnswersGrowth place stores (count v.type) at (Ok grown) → (copies : ℕ) → place ≡ length vs + copies → (x : Item) → x ≡ record { initial = old; name = v.name; ty = v.type }
            → JudgesItem vs stood ts (item old (name n at)) (Ok (ts ++ x.ty ∷ [])) × AreItems vs copies (item old (name n at) ∷ []) (i ∷ []) (x ∷ []) (place ∷ [])
        initial_answer grown growth copies behind x e = rw e ((v.type, there, (v.type, (apart old new, refl), carries old is)), read old is)
          where
            carries : (old : Bool) → old ≡ true → Carries old ts v.type at (Ok (ts ++ v.type ∷ []))
            carries true is = (v.type, has_room ts v.type at place stores many counted grown growth, refl)
            carries false is = absurd (cc)

            read : (old : Bool) → old ≡ true → AreItems vs copies (item old (name n at) ∷ []) (i ∷ []) (record { initial = old; name = v.name; ty = v.type } ∷ []) (place ∷ [])
            read true is =
                subst (λ p. AreItems vs copies (item true (name n at) ∷ []) (i ∷ []) (record { initial = true; name = v.name; ty = v.type } ∷ []) (p ∷ [])) (sym behind)
                (subst (λ m. AreItems vs copies (item true (name n at) ∷ []) (i ∷ []) (record { initial = true; name = m; ty = v.type } ∷ []) ((length vs + copies) ∷ [])) (sym called) (becomes.initial at i here becomes.none))
            read false is = absurd (cc)

-- ---- the loop

pub product-append : (ms ns : List ℕ) → product (ms ++ ns) ≡ product ms * product ns
product-append [] ns = omega arith
product-append (m ∷ ms) ns = ap (λ p. m * p) (product-append ms ns) ∙ sym (mul_assoc m (product ms) (product ns))

map_twice : {A B C : Type 0} (f : B → C) (g : A → B) (xs : List A) → map f (map g xs) ≡ map (λ a. f (g a)) xs
map_twice f g [] = refl
map_twice f g (a ∷ xs) = ap (λ ys. f (g a) ∷ ys) (map_twice f g xs)

-- an item and those behind it
join_items : {vs : List Variable} {k s : ℕ} {i : ItemTree} {left : List ItemTree} {opt cs ss : List ℕ} {x : Item} {js : List Item} (m : ℕ) → AreItems vs k (i ∷ []) opt (x ∷ []) (s ∷ []) → m ≡ k + length opt → AreItems vs m left cs js ss
    → AreItems vs k (i ∷ left) (opt ++ cs) (x ∷ js) (s ∷ ss)
join_items {vs} {k} {left = left} {cs = cs} {ss = ss} {js = js} m (becomes.final at i h becomes.none) e rest = becomes.final at i h (let same : m ≡ k = omega arith in subst (λ c. AreItems vs c left cs js ss) same rest)
join_items {vs} {k} {left = left} {cs = cs} {ss = ss} {js = js} m (becomes.initial at i h becomes.none) e rest = becomes.initial at i h (let same : m ≡ k + 1 = omega arith in subst (λ c. AreItems vs c left cs js ss) same rest)

-- the type of an item's carried copy
one_copied : {vs : List Variable} {k : ℕ} {i : ItemTree} {opt ss : List ℕ} (x : Item) → AreItems vs k (i ∷ []) opt (x ∷ []) ss → AreCopied vs opt (map (λ c. x.ty) opt)
one_copied x (becomes.final at i h becomes.none) = refl
one_copied {vs} x (becomes.initial at i {n} {t} h becomes.none) = ap (λ o. o ∷ []) (sym (slice_get-some (λ v. v.type) vs i (record { name = n; type = t }) h))

-- The items that are done break no rule, and are these in the program.
pub record ItemsBefore (vs : List Variable) (whole done left : List ItemTree) (copies : List ℕ) (is : List Item) (slots : List ℕ) (stores : ℕ) : Type 0 where
  pub stood : List ItemTree
  pub same : HasSame stood done
  pub carried : List TypeTree
  pub copied : AreCopied vs copies carried
  pub judged : (r : Result (List TypeTree) TypeError) → JudgesItems vs stood (types_of vs ++ carried) left r → JudgesItems vs [] (types_of vs) whole r
  pub translated : (cs : List ℕ) (js : List Item) (ss : List ℕ) → AreItems vs (length copies) left cs js ss → AreItems vs 0 whole (copies ++ cs) (is ++ js) (slots ++ ss)
  pub counted : stores ≡ product (map count (types_of vs ++ carried))
  pub few : length vs + length copies ≤ 32

pub items_none : (vs : List Variable) (whole : List ItemTree) (stores : ℕ) → length (types_of vs) ≤ 32 → stores ≡ product (map count (types_of vs)) → ItemsBefore vs whole [] whole [] [] [] stores
items_none vs whole stores few counted =
    let many = length-map vs (λ v. v.type) in
    let plain : types_of vs ++ [] ≡ types_of vs = append-nil (types_of vs) in
    record {
      stood = [];
      same = λ i. (λ h. h, λ h. h);
      carried = [];
      copied = refl;
      judged = λ r j. subst (λ ts. JudgesItems vs [] ts whole r) plain j;
      translated = λ cs js ss h. h;
      counted = counted ∙ ap (λ ts. product (map count ts)) (sym plain);
      few = omega arith;
    }

module _ (vs : List Variable) (whole done left : List ItemTree) (copies : List ℕ) (is : List Item) (slots : List ℕ) (stores : ℕ) (i : ItemTree) (before : ItemsBefore vs whole done (i ∷ left) copies is slots stores) where
  pub items_many : length (types_of vs ++ before.carried) ≡ length vs + length copies
  items_many =
      let types = length-map vs (λ v. v.type) in
      let all = length-append (types_of vs) before.carried in
      let ours : length copies ≡ length before.carried = sym (length-map copies (slice_get (types_of vs))) ∙ ap length (sym before.copied) ∙ length-map before.carried Some in
      omega arith

  pub items_fail : (e : TypeError) → JudgesItem vs before.stood (types_of vs ++ before.carried) i (Err e) → JudgesItems vs [] (types_of vs) whole (Err e)
  items_fail e h = before.judged (Err e) (inl h)

  pub items_more : (opt : List ℕ) (x : Item) (s after : ℕ)
      → JudgesItem vs before.stood (types_of vs ++ before.carried) i (Ok ((types_of vs ++ before.carried) ++ map (λ c. x.ty) opt))
      × AreItems vs (length copies) (i ∷ []) opt (x ∷ []) (s ∷ [])
      → after ≡ stores * product (map (λ c. count x.ty) opt) → length vs + (length copies + length opt) ≤ 32
      → ItemsBefore vs whole (done ++ i ∷ []) left (copies ++ opt) (is ++ x ∷ []) (slots ++ s ∷ []) after
  items_more opt x s after h is_after fits =
      let more = map (λ c. x.ty) opt in
      let longer : length (copies ++ opt) ≡ length copies + length opt = length-append copies opt in
      let joined : types_of vs ++ (before.carried ++ more) ≡ (types_of vs ++ before.carried) ++ more = sym (append_assoc (types_of vs) before.carried more) in
      let sizes : map count more ≡ map (λ c. count x.ty) opt = map_twice count (λ c. x.ty) opt in
      record {
        stood = i ∷ before.stood;
        same = same_more before.stood done i before.same;
        carried = before.carried ++ more;
        copied = map-append Some before.carried more ∙ (ap (λ os. os ++ map Some more) before.copied ∙ (ap (λ os. map (slice_get (types_of vs)) copies ++ os) (one_copied x h.1) ∙ sym (map-append (slice_get (types_of vs)) copies opt)));
        judged = λ r j. before.judged r (past (JudgesItem vs before.stood (types_of vs ++ before.carried) i) (λ us. JudgesItems vs (i ∷ before.stood) us left) ((types_of vs ++ before.carried) ++ more) r h.0 (subst (λ ts. JudgesItems vs (i ∷ before.stood) ts left r) joined j));
        translated = λ cs js ss are.
            let ours = before.translated (opt ++ cs) (x ∷ js) (s ∷ ss) (join_items (length (copies ++ opt)) h.1 longer are) in
            subst (λ a. AreItems vs 0 whole a ((is ++ x ∷ []) ++ js) ((slots ++ s ∷ []) ++ ss)) (sym (append_assoc copies opt cs))
            (subst (λ a. AreItems vs 0 whole (copies ++ (opt ++ cs)) a ((slots ++ s ∷ []) ++ ss)) (sym (append_assoc is (x ∷ []) js))
            (subst (λ a. AreItems vs 0 whole (copies ++ (opt ++ cs)) (is ++ (x ∷ js)) a) (sym (append_assoc slots (s ∷ []) ss)) ours));
        counted = is_after ∙ (ap (λ p. p * product (map (λ c. count x.ty) opt)) before.counted ∙ (ap (λ ns. product (map count (types_of vs ++ before.carried)) * product ns) (sym sizes)
            ∙ (sym (product-append (map count (types_of vs ++ before.carried)) (map count more)) ∙ (ap product (sym (map-append count (types_of vs ++ before.carried) more)) ∙ ap (λ ts. product (map count ts)) (sym joined)))));
        few = omega arith;
      }

pub items_all : (vs : List Variable) (whole done : List ItemTree) (copies : List ℕ) (is : List Item) (slots : List ℕ) (stores : ℕ) → (h : ItemsBefore vs whole done [] copies is slots stores)
    → JudgesItems vs [] (types_of vs) whole (Ok (types_of vs ++ h.carried)) × AreItems vs 0 whole copies is slots
items_all vs whole done copies is slots stores h = (
  h.judged (Ok (types_of vs ++ h.carried)) refl,
  subst (λ a. AreItems vs 0 whole a is slots) (append-nil copies)
      (subst (λ a. AreItems vs 0 whole (copies ++ []) a slots) (append-nil is) (subst (λ a. AreItems vs 0 whole (copies ++ []) (is ++ []) a) (append-nil slots) (h.translated [] [] [] becomes.none))),
)
