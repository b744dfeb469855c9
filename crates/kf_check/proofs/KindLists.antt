-- Kinds of lists, and when they are the same.
use Rattle.std.specs.Prelude.{IsTrue, ◌↔◌}
use Rattle.std.proofs.Common.{◌≡◌, ℤ, Box, Global, Bool, true, false, List, [], ◌∷◌, map, refl, sym, ap, ◌∙◌, rules, true≢false}
use Rattle.kf_value.specs.Kinds.{KindTree, KindTrees, TruthKind, WholeKind, TupleKind, SetKind, no_kind, more_kinds, kind_parts, kind_of, kinds_of}
use Rattle.kf_value.specs.Types.{TypeTree, type_parts}
use Rattle.kf_value.specs.declared.ty.Ty.{Ty}
use Rattle.kf_value.specs.declared.ty.Ty.TheVariants as ty
use Rattle.kf_value.specs.declared.ty.TyList.{TyList}
use Rattle.kf_value.specs.declared.kind.Kind.{Kind, the_lemmas as kind_lemmas}
use Rattle.kf_value.specs.declared.kind.Kind.TheVariants as kind
use Rattle.kf_value.specs.declared.kind.KindList.{KindList}
use Rattle.kf_value.specs.TypeViews.{type_tree}
use Rattle.kf_value.specs.Views.{kind_tree, kind_trees, type_items, type_trees}
use Rattle.kf_value.proofs.Trees.{type_tree-Bool, type_tree-Int, type_tree-Tuple, type_tree-Set}
use Rattle.kf_check.proofs.Nodes.{kind_tree-Bool, kind_tree-Int, kind_tree-Tuple, kind_tree-Set}

pub kinds_of-type_parts : (ts : List TypeTree) → kinds_of (type_parts ts) ≡ kind_parts (map kind_of ts)
kinds_of-type_parts [] = refl
kinds_of-type_parts (t ∷ ts) = ap (λ ks. more_kinds (kind_of t) ks) (kinds_of-type_parts ts)

-- the parts of a tuple's kind
abbrev pub kind_list : KindTrees → List KindTree
kind_list no_kind = []
kind_list (more_kinds k ks) = k ∷ kind_list ks

pub kind_list-kind_parts : (ks : List KindTree) → kind_list (kind_parts ks) ≡ ks
kind_list-kind_parts [] = refl
kind_list-kind_parts (k ∷ ks) = ap (λ js. k ∷ js) (kind_list-kind_parts ks)

pub same_parts : (ks js : List KindTree) → TupleKind (kind_parts ks) ≡ TupleKind (kind_parts js) → ks ≡ js
same_parts ks js h =
    let inner : kind_parts ks ≡ kind_parts js = cc in
    sym (kind_list-kind_parts ks) ∙ (ap kind_list inner ∙ kind_list-kind_parts js)

pub tuples_same : (r : Bool) (a b : KindTree) (ks js : List KindTree) → a ≡ TupleKind (kind_parts ks) → b ≡ TupleKind (kind_parts js) → (IsTrue r ↔ (ks ≡ js)) → (IsTrue r ↔ (a ≡ b))
tuples_same r a b ks js left right h =
    (λ yes. left ∙ (ap (λ is. TupleKind (kind_parts is)) (h.0 yes) ∙ sym right), λ same. h.1 (same_parts ks js (sym left ∙ (same ∙ right))))

pub kind_tree-is_set : (k : Kind) (of : Box Kind Global) (element : Kind) → k ≡ kind.Set of → element ≡ of.value → kind_tree k ≡ SetKind (kind_tree element)
kind_tree-is_set k of element is same = ap kind_tree is ∙ (kind_tree-Set of ∙ ap (λ j. SetKind (kind_tree j)) (sym same))

pub sets_same : (r : Bool) (a b k j : KindTree) → a ≡ SetKind k → b ≡ SetKind j → (IsTrue r ↔ (k ≡ j)) → (IsTrue r ↔ (a ≡ b))
sets_same r a b k j left right h =
    (λ yes. left ∙ (ap SetKind (h.0 yes) ∙ sym right), λ same. let sets : SetKind k ≡ SetKind j = sym left ∙ (same ∙ right) in h.1 (cc))

-- what a test answers that is over
pub are_same : (a b : KindTree) → a ≡ b → IsTrue true ↔ (a ≡ b)
are_same a b same = (λ yes. same, λ is. refl)

pub are_apart : (a b : KindTree) → (a ≡ b → ⊥) → IsTrue false ↔ (a ≡ b)
are_apart a b differ = (λ yes. absurd (true≢false (sym yes)), λ is. absurd (differ is))

-- only a kind of that form reads as a tree of the form
pub no_truth : (k : Kind) → (k ≡ kind.Bool → ⊥) → kind_tree k ≡ TruthKind → ⊥
no_truth k other is = search (rules, kind_lemmas)

pub no_whole : (k : Kind) → (k ≡ kind.Int → ⊥) → kind_tree k ≡ WholeKind → ⊥
no_whole k other is = search (rules, kind_lemmas)

pub no_tuple : (k : Kind) (parts : KindTrees) → ((ks : KindList) → k ≡ kind.Tuple ks → ⊥) → kind_tree k ≡ TupleKind parts → ⊥
no_tuple k parts other is = search (rules, kind_lemmas)

pub no_set : (k : Kind) (element : KindTree) → ((of : Box Kind Global) → k ≡ kind.Set of → ⊥) → kind_tree k ≡ SetKind element → ⊥
no_set k element other is = search (rules, kind_lemmas)

pub kind_of-Bool : (t : Ty) → t ≡ ty.Bool → kind_tree kind.Bool ≡ kind_of (type_tree t)
kind_of-Bool t is = kind_tree-Bool ∙ sym (ap (λ s. kind_of (type_tree s)) is ∙ ap kind_of type_tree-Bool)

pub kind_of-Int : (t : Ty) (lo hi : ℤ) → t ≡ ty.Int lo hi → kind_tree kind.Int ≡ kind_of (type_tree t)
kind_of-Int t lo hi is = kind_tree-Int ∙ sym (ap (λ s. kind_of (type_tree s)) is ∙ ap kind_of (type_tree-Int lo hi))

pub kind_of-Tuple : (t : Ty) (ps : TyList) (items : List Ty) (ks : KindList) → t ≡ ty.Tuple ps → items ≡ type_items ps → kind_trees ks ≡ map kind_of (map type_tree items)
    → kind_tree (kind.Tuple ks) ≡ kind_of (type_tree t)
kind_of-Tuple t ps items ks is same h =
    kind_tree-Tuple ks
    ∙ (ap (λ js. TupleKind (kind_parts js)) (h ∙ ap (λ ts. map kind_of (map type_tree ts)) same)
    ∙ sym (ap (λ s. kind_of (type_tree s)) is ∙ (ap kind_of (type_tree-Tuple ps) ∙ ap TupleKind (kinds_of-type_parts (type_trees ps)))))

pub kind_of-Set : (t : Ty) (base : Box Ty Global) (read : Ty) (inner : Kind) (boxed : Box Kind Global) → t ≡ ty.Set base → read ≡ base.value → kind_tree inner ≡ kind_of (type_tree read)
    → boxed.value ≡ inner → kind_tree (kind.Set boxed) ≡ kind_of (type_tree t)
kind_of-Set t base read inner boxed is same h held =
    kind_tree-Set boxed
    ∙ (ap (λ k. SetKind (kind_tree k)) held
    ∙ (ap SetKind (h ∙ ap (λ s. kind_of (type_tree s)) same) ∙ sym (ap (λ s. kind_of (type_tree s)) is ∙ ap kind_of (type_tree-Set base))))
