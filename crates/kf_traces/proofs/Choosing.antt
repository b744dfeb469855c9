-- What a memo keeps for a store, and what it says of one in which there is a fault.
use Rattle.std.proofs.Common.{◌≡◌, ℕ, Err, Some, slice_get, refl, ap, subst}
use Rattle.kf_value.specs.declared.shape.Shape.{Shape}
use Rattle.kf_core.specs.Choices.{Chosen}
use Rattle.kf_core.specs.Dxs.{DxTree}
use Rattle.kf_core.specs.Each.{placed_at}
use Rattle.kf_core.specs.Runs.{Halted}
use Rattle.kf_eval.specs.Choices.{IsChoiceFaultOf}
use Rattle.kf_eval.specs.Memos.{IsChosen, IsKeptAt, kept}
use Rattle.kf_eval.specs.declared.choice.Choice.{Choice}
use Rattle.kf_eval.specs.declared.choice.ChoiceError.{ChoiceError}
use Rattle.kf_eval.specs.declared.choice.ChoiceError.TheVariants as error
use Rattle.kf_eval.specs.declared.memo.Memo.{Memo}

-- what is read at the place is what the distribution chooses
pub chosen_at : {shape : Shape} {d : DxTree} {store : ℕ} {m : Memo} {place : ℕ} {choice : Choice} → IsKeptAt shape d store m place → slice_get (kept m) place ≡ Some choice → IsChosen shape d (store, choice)
chosen_at {shape} {d} {store} {m} {place} {choice} is there =
    let same : is.choice ≡ choice = let known = is.there in cc in
    subst (λ (c : Choice). IsChosen shape d (store, c)) same is.chosen

-- an error that is no want of memory is a fault
pub faulted : (at : ℕ) (defined : Chosen) (e : ChoiceError) → IsChoiceFaultOf defined e → (e ≡ error.Mem → ⊥) → (f : Halted) × (placed_at at defined ≡ Err f)
faulted at defined error.DivZero is other = (_, ap (placed_at at) is)
faulted at defined error.ArithWide is other = (_, ap (placed_at at) is)
faulted at defined error.NoWeight is other = (_, ap (placed_at at) is)
faulted at defined error.NegativeWeight is other = (_, ap (placed_at at) is)
faulted at defined error.RangeLong is other = (_, ap (placed_at at) is)
faulted at defined error.Mem is other = absurd (other refl)
