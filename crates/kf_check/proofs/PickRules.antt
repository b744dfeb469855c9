-- The kinds that are found in kinds.
use Rattle.std.proofs.Common.{◌≡◌, ℕ, zero, suc, ◌+◌, ◌<◌, ◌≤◌, List, [], ◌∷◌, length, map, get_or, take, slice_get, Some, None, sym, ap, ◌∙◌, subst, arith}
use Rattle.std.specs.List.{All}
use Rattle.std.specs.Option.{option_map}
use Rattle.std.proofs.lemmas.Option.{slice_get-map, slice_get_within, get_or_from_slice_get}
use Rattle.std.proofs.lemmas.List.{take_all}
use Rattle.std.proofs.lemmas.List.Elements.{All-map, All-tail, All-get_or, All-more}
use Rattle.kf_value.specs.declared.kind.Kind.{Kind}
use Rattle.kf_value.specs.Kinds.{KindTree, TupleKind, kind_parts}
use Rattle.kf_value.specs.Views.{kind_tree}
use Rattle.kf_check.specs.Kinds.{IsCommon, IsPart}
use Rattle.kf_check.specs.Picks.{HasNoCommon, HasNoPart}
use Rattle.kf_check.proofs.KindLists.{same_parts}
use Rattle.kf_check.proofs.Each.{mapped_read}

pub common : (ks : List Kind) (first copied : Kind) → 1 ≤ length ks → first ≡ get_or ks 0 first → All (λ k. kind_tree k ≡ kind_tree first) ks → kind_tree copied ≡ kind_tree first
    → IsCommon (map kind_tree ks) (kind_tree copied)
common [] first copied some read all same = absurd (omega arith)
common (k ∷ ks) first copied some read all same =
    let head : kind_tree first ≡ kind_tree k = ap kind_tree read in
    let P : KindTree → Type 0 = λ j. All (λ i. i ≡ j) (map kind_tree ks) in
    (sym head ∙ sym same, subst P head (All-map (λ i. i ≡ kind_tree first) kind_tree ks (All-tail (λ i. kind_tree i ≡ kind_tree first) k ks all)))

-- one more member has the first's kind
pub common_turn : (ks : List Kind) (first : Kind) (i : ℕ) (x : Kind) → i < length ks → x ≡ get_or ks i x → All (λ k. kind_tree k ≡ kind_tree first) (take i ks) → kind_tree x ≡ kind_tree first
    → All (λ k. kind_tree k ≡ kind_tree first) (take (i + 1) ks)
common_turn ks first i x within read before same =
    All-more (λ k. kind_tree k ≡ kind_tree first) ks i x within before (ap kind_tree (sym read) ∙ same)

pub common_end : (ks : List Kind) (first : Kind) (i : ℕ) → length ks ≤ i → All (λ k. kind_tree k ≡ kind_tree first) (take i ks) → All (λ k. kind_tree k ≡ kind_tree first) ks
common_end ks first i past h = subst (All (λ k. kind_tree k ≡ kind_tree first)) (take_all i ks past) h

each_same : (ks : List KindTree) (i : ℕ) (x j : KindTree) → All (λ k. k ≡ j) ks → slice_get ks i ≡ Some x → x ≡ j
each_same ks i x j all at = sym (get_or_from_slice_get ks i x x at) ∙ All-get_or (λ k. k ≡ j) ks i x (slice_get_within ks i x at) all

none_some : {x : KindTree} → None ≡ Some x → ⊥
none_some e = cc

pub no_common : (ks : List Kind) (first : Kind) (i : ℕ) (x : Kind) → first ≡ get_or ks 0 first → i < length ks → x ≡ get_or ks i x → (kind_tree x ≡ kind_tree first → ⊥)
    → HasNoCommon (map kind_tree ks)
no_common [] first i x read within at differ k h = h
no_common (j ∷ ks) first zero x read within at differ k h = differ (ap kind_tree (at ∙ sym read))
no_common (j ∷ ks) first (suc i) x read within at differ k h =
    let here : slice_get (map kind_tree ks) i ≡ Some (kind_tree x) = mapped_read kind_tree ks i x (omega arith) at in
    differ (each_same (map kind_tree ks) i (kind_tree x) (kind_tree j) h.1 here ∙ sym (ap kind_tree read))

pub part_found : (k : KindTree) (items : List Kind) (n : ℕ) (part copied : Kind) → k ≡ TupleKind (kind_parts (map kind_tree items)) → slice_get items n ≡ Some part
    → kind_tree copied ≡ kind_tree part → IsPart k n (kind_tree copied)
part_found k items n part copied is there same =
    (map kind_tree items, is, slice_get-map kind_tree items n ∙ (ap (option_map kind_tree) there ∙ ap (λ j. Some j) (sym same)))

pub part_past : (k : KindTree) (items : List Kind) (n : ℕ) → k ≡ TupleKind (kind_parts (map kind_tree items)) → slice_get items n ≡ None → HasNoPart k n
part_past k items n is past j part =
    let same = same_parts (map kind_tree items) part.0 (sym is ∙ part.1) in
    let there : slice_get (map kind_tree items) n ≡ Some j = ap (λ js. slice_get js n) same ∙ part.2 in
    let none : slice_get (map kind_tree items) n ≡ None = slice_get-map kind_tree items n ∙ ap (option_map kind_tree) past in
    absurd (none_some (sym none ∙ there))
