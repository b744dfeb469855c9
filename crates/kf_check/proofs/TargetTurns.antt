-- The turns of the loops that build a target.
use Rattle.std.specs.Prelude.{option_to_list}
use Rattle.std.proofs.Common.{◌≡◌, ◌≢◌, ℕ, suc, ◌+◌, ◌*◌, ◌-◌, ◌<◌, ◌≤◌, false, List, [], ◌∷◌, ◌++◌, length, map, take, drop, get_or, Result, Ok, Err, refl, sym, ap, ◌∙◌, subst, arith, append_assoc, append-nil, slice_get}
use Rattle.std.specs.List.{range_with_len}
use Rattle.std.proofs.lemmas.List.{length-map, map-append, take_more}
use Rattle.kf_value.specs.declared.target_item.TargetItem.{TargetItem}
use Rattle.kf_value.specs.Types.{TypeTree, count, product}
use Rattle.kf_value.specs.Targets.{Item}
use Rattle.kf_value.specs.TypeViews.{item_of}
use Rattle.kf_ast.specs.Sources.{ItemTree}
use Rattle.kf_ast.specs.Views.{item_tree}
use Rattle.kf_ast.specs.declared.decl.Item as code
use Rattle.kf_check.specs.declared.errors.TypeError.{TypeError}
use Rattle.kf_check.specs.declared.errors.TypeError.TheVariants as broken
use Rattle.kf_check.specs.declared.items.ReadItem.{ReadItem}
use Rattle.kf_check.specs.Sources.{Variable, types_of, JudgesItems}
use Rattle.kf_check.specs.Translation.{AreItems, IsTarget}
use Rattle.kf_check.specs.Translation as becomes
use Rattle.kf_check.specs.Variables.{AreDeclared, AreCopied}
use Rattle.kf_check.specs.SourceAnswers.{AnswersItem, HasSame, as_items}
use Rattle.kf_check.proofs.Left.{left_step, left_end}
use Rattle.kf_check.proofs.ItemTurns.{ItemsBefore, items_many, items_fail, items_more, items_all}
use Rattle.kf_check.proofs.TargetFacts.{Suits, items_suit}

pub place_more : (places whole : List ℕ) (i count : ℕ) → i < count → places ++ range_with_len i (count - i) ≡ whole → (places ++ i ∷ []) ++ range_with_len (i + 1) (count - (i + 1)) ≡ whole
place_more places whole i count within h =
    let left : count - i ≡ suc (count - (i + 1)) = omega arith in
    append_assoc places (i ∷ []) (range_with_len (i + 1) (count - (i + 1))) ∙ (ap (λ n. places ++ range_with_len i n) (sym left) ∙ h)

-- ---- the target that is all variables

pub all_many : (vs : List Variable) (xs : List Item) → xs ≡ as_items vs → length xs ≡ length vs
all_many vs xs same = ap length same ∙ length-map vs (λ v. record { initial = false; name = v.name; ty = v.type })

pub all_answer : (vs : List Variable) (xs : List Item) (copies slots : List ℕ) (n : ℕ) → xs ≡ as_items vs → copies ≡ [] → slots ≡ range_with_len 0 n → n ≡ length vs
    → (types : List TypeTree) × JudgesItems vs [] (types_of vs) [] (Ok (types_of vs ++ types)) × AreCopied vs copies types × IsTarget vs [] copies xs slots
all_answer vs xs copies slots n same none reads many = (
  [],
  ap Ok (append-nil (types_of vs)),
  ap (map (slice_get (types_of vs))) (sym none),
  subst (λ cs. IsTarget vs [] cs xs slots) (sym none)
      (subst (λ is. IsTarget vs [] [] is slots) (sym same) (subst (λ ss. IsTarget vs [] [] (as_items vs) ss) (sym (reads ∙ ap (range_with_len 0) many)) becomes.all)),
)

-- ---- the target that is these items

-- what checking an item gives, whatever stood before it
abbrev pub Given : List Variable → List ItemTree → ℕ → ℕ → ItemTree → Result ReadItem TypeError → Type 0
Given vs done n stores i r = (stood : List ItemTree) (ts : List TypeTree) → HasSame stood done → length ts ≡ length vs + n → stores ≡ product (map count ts) → AnswersItem vs stood n ts i r

taken : (xs : List code.Item) (i : ℕ) (x : code.Item) → i < length xs → x ≡ get_or xs i x → map item_tree (take (i + 1) xs) ≡ map item_tree (take i xs) ++ item_tree x ∷ []
taken xs i x within read = ap (map item_tree) (take_more xs i x within ∙ ap (λ y. take i xs ++ y ∷ []) (sym read)) ∙ map-append item_tree (take i xs) (x ∷ [])

as_many : {vs : List Variable} {k : ℕ} {items : List ItemTree} {cs : List ℕ} {is : List Item} {slots : List ℕ} → AreItems vs k items cs is slots → length is ≡ length items
as_many becomes.none = refl
as_many (becomes.final at i found are) = ap suc (as_many are)
as_many (becomes.initial at i found are) = ap suc (as_many are)

about : {vs : List Variable} {cs : List ℕ} {is : List Item} {slots : List ℕ} (items : List ItemTree) → 1 ≤ length items → AreItems vs 0 items cs is slots → IsTarget vs items cs is slots
about [] some are = absurd (omega arith)
about (i ∷ items) some are = becomes.about are

module _ (vs : List Variable) (xs : List code.Item) (i : ℕ) (copies slots : List ℕ) (js : List TargetItem) (stores : ℕ)
    (before : ItemsBefore vs (map item_tree xs) (map item_tree (take i xs)) (map item_tree (drop i xs)) copies (map item_of js) slots stores) where
  module _ (x : code.Item) (within : i < length xs) (read : x ≡ get_or xs i x) (n : ℕ) (many : n ≡ length copies) where
    here : ItemsBefore vs (map item_tree xs) (map item_tree (take i xs)) (item_tree x ∷ map item_tree (drop (i + 1) xs)) copies (map item_of js) slots stores
    here = subst (λ left. ItemsBefore vs (map item_tree xs) (map item_tree (take i xs)) left copies (map item_of js) slots stores) (left_step item_tree xs i x within read) before

    answer : (r : Result ReadItem TypeError) → Given vs (map item_tree (take i xs)) n stores (item_tree x) r → AnswersItem vs here.stood (length copies) (types_of vs ++ here.carried) (item_tree x) r
    answer r given =
        let at : Given vs (map item_tree (take i xs)) (length copies) stores (item_tree x) r = subst (λ m. Given vs (map item_tree (take i xs)) m stores (item_tree x) r) many given in
        at here.stood (types_of vs ++ here.carried) here.same
        (items_many vs (map item_tree xs) (map item_tree (take i xs)) (map item_tree (drop (i + 1) xs)) copies (map item_of js) slots stores (item_tree x) here) here.counted

    pub item_breaks : (e : TypeError) → Given vs (map item_tree (take i xs)) n stores (item_tree x) (Err e) → e ≢ broken.Mem → JudgesItems vs [] (types_of vs) (map item_tree xs) (Err e)
    item_breaks e given other =
        items_fail vs (map item_tree xs) (map item_tree (take i xs)) (map item_tree (drop (i + 1) xs)) copies (map item_of js) slots stores (item_tree x) here e (answer (Err e) given other)

    pub item_turn : (r : ReadItem) → Given vs (map item_tree (take i xs)) n stores (item_tree x) (Ok r) → r.stores ≡ stores * product (map (λ c. count (item_of r.item).ty) (option_to_list r.copied)) → length vs + (n + length (option_to_list r.copied)) ≤ 32
        → ItemsBefore vs (map item_tree xs) (map item_tree (take (i + 1) xs)) (map item_tree (drop (i + 1) xs)) (copies ++ option_to_list r.copied) (map item_of (js ++ r.item ∷ [])) (slots ++ r.slot ∷ []) r.stores
    item_turn r given counted few =
        let after = items_more vs (map item_tree xs) (map item_tree (take i xs)) (map item_tree (drop (i + 1) xs)) copies (map item_of js) slots stores (item_tree x) here (option_to_list r.copied) (item_of r.item) r.slot r.stores
        (answer (Ok r) given) counted (subst (λ m. length vs + (m + length (option_to_list r.copied)) ≤ 32) many few) in
        subst (λ done. ItemsBefore vs (map item_tree xs) done (map item_tree (drop (i + 1) xs)) (copies ++ option_to_list r.copied) (map item_of (js ++ r.item ∷ [])) (slots ++ r.slot ∷ []) r.stores) (sym (taken xs i x within read))
        (subst (λ is. ItemsBefore vs (map item_tree xs) (map item_tree (take i xs) ++ item_tree x ∷ []) (map item_tree (drop (i + 1) xs)) (copies ++ option_to_list r.copied) is (slots ++ r.slot ∷ []) r.stores) (sym (map-append item_of js (r.item ∷ []))) after)

  module _ (past : length xs ≤ i) where
    last : ItemsBefore vs (map item_tree xs) (map item_tree (take i xs)) [] copies (map item_of js) slots stores
    last = subst (λ left. ItemsBefore vs (map item_tree xs) (map item_tree (take i xs)) left copies (map item_of js) slots stores) (left_end item_tree xs i past) before

    done : JudgesItems vs [] (types_of vs) (map item_tree xs) (Ok (types_of vs ++ last.carried)) × AreItems vs 0 (map item_tree xs) copies (map item_of js) slots
    done = items_all vs (map item_tree xs) (map item_tree (take i xs)) copies (map item_of js) slots stores last

    pub items_end_suit : AreDeclared vs → Suits js
    items_end_suit declared = items_suit vs declared (map item_tree xs) copies slots last.carried js (types_of vs ++ last.carried) done.0 done.1 last.copied

    pub items_end_many : length js ≡ length xs
    items_end_many = sym (length-map js item_of) ∙ (as_many done.1 ∙ length-map xs item_tree)

    pub items_end : 1 ≤ length xs → (types : List TypeTree) × JudgesItems vs [] (types_of vs) (map item_tree xs) (Ok (types_of vs ++ types)) × AreCopied vs copies types × IsTarget vs (map item_tree xs) copies (map item_of js) slots
    items_end some = (last.carried, done.0, last.copied, about (map item_tree xs) (let all = length-map xs item_tree in omega arith) done.1)
