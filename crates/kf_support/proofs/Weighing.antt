-- What choices are where a pass is defined.
use Rattle.std.proofs.Common.{Bool, true, false, not, ◌||◌, ◌≡◌, ℕ, ◌+◌, ◌<◌, List, [], ◌∷◌, length, map, drop, get_or, All, Ok, Some, slice_get, refl, sym, ap, subst, ◌∙◌}
use Rattle.std.proofs.lemmas.List.Elements.{recursion_from_All}
use Rattle.kf_value.specs.Values.{truth}
use Rattle.kf_value.proofs.ListLemmas.{each_at, mapped_read, left_step}
use Rattle.kf_value.specs.declared.shape.Shape.{Shape}
use Rattle.kf_core.specs.Dxs.{DxTree}
use Rattle.kf_core.specs.Choices.{Weighted, Chosen}
use Rattle.std.specs.Bool.{beq}
use Rattle.std.specs.List.{list_any}
use Rattle.kf_value.specs.Views.{value_tree}
use Rattle.kf_core.specs.Support.{can_be}
use Rattle.kf_core.specs.Each.{placed_at}
use Rattle.kf_eval.specs.Choices.{IsChoiceFaultOf, weighted_tree}
use Rattle.kf_eval.specs.Memos.{IsChosen, IsKeptAt, kept}
use Rattle.kf_eval.specs.declared.memo.Memo.{Memo}
use Rattle.kf_eval.specs.declared.choice.Choice.{Choice}
use Rattle.kf_eval.specs.declared.choice.Weighted as coded
use Rattle.kf_eval.specs.declared.choice.ChoiceError.{ChoiceError}
use Rattle.kf_eval.specs.declared.choice.ChoiceError.TheVariants as error
use Rattle.kf_support.specs.Answers.{IsHaltOf, halt_of}

pub fault_placed : (defined : Chosen) (e : ChoiceError) (at : ℕ) → IsChoiceFaultOf defined e → IsHaltOf (placed_at at defined) (halt_of e at)
fault_placed defined error.DivZero at is = ap (placed_at at) is
fault_placed defined error.ArithWide at is = ap (placed_at at) is
fault_placed defined error.NoWeight at is = ap (placed_at at) is
fault_placed defined error.NegativeWeight at is = ap (placed_at at) is
fault_placed defined error.RangeLong at is = ap (placed_at at) is
fault_placed defined error.Mem at is = tt

-- what holds of all choices holds of the one that is read
pub choice_holds : (P : Weighted → Type 0) (cs : List coded.Weighted) (i : ℕ) (c : coded.Weighted) → i < length cs → c ≡ get_or cs i c → All P (map weighted_tree cs) → P (weighted_tree c)
choice_holds P cs i c within read all =
    each_at P (map weighted_tree cs) i (weighted_tree c) (recursion_from_All P (map weighted_tree cs) all) (mapped_read weighted_tree cs i c within read)

-- what the choice that is read gives is first of what those give that are left
pub choice_next : {X : Type 0} (f : Weighted → X) (cs : List coded.Weighted) (i : ℕ) (c : coded.Weighted) (x : X) → i < length cs → c ≡ get_or cs i c → x ≡ f (weighted_tree c)
    → map f (map weighted_tree (drop i cs)) ≡ x ∷ map f (map weighted_tree (drop (i + 1) cs))
choice_next f cs i c x within read is = ap (map f) (left_step weighted_tree cs i c within read) ∙ ap (λ y. y ∷ map f (map weighted_tree (drop (i + 1) cs))) (sym is)

-- ---- what a guard can be

abbrev pub is_alike : Bool → coded.Weighted → Bool
is_alike b c = beq (truth (value_tree c.value)) b

pub can_be_any : (b : Bool) (cs : List coded.Weighted) → list_any (is_alike b) cs ≡ can_be b (Ok (map weighted_tree cs))
can_be_any true [] = refl
can_be_any false [] = refl
can_be_any true (c ∷ cs) = alike_true (truth (value_tree c.value)) (can_be_any true cs)
  where
    alike_true : (t : Bool) {s u : Bool} → s ≡ u → (beq t true || s) ≡ (t || u)
    alike_true true h = refl
    alike_true false h = h
can_be_any false (c ∷ cs) = alike_false (truth (value_tree c.value)) (can_be_any false cs)
  where
    alike_false : (t : Bool) {s u : Bool} → s ≡ u → (beq t false || s) ≡ (not t || u)
    alike_false true h = h
    alike_false false h = refl

-- ---- what is kept

pub kept_choice : (shape : Shape) (d : DxTree) (store place : ℕ) (m : Memo) (c : Choice) → IsKeptAt shape d store m place → slice_get (kept m) place ≡ Some c → IsChosen shape d (store, c)
kept_choice shape d store place m c at read =
    let there = at.there in
    let same : at.choice ≡ c = cc (there, read) in
    subst (λ x. IsChosen shape d (store, x)) same at.chosen
