-- What `make` comes to: its text is typed and cleared, and so it is never refused.
use Rattle.std.proofs.Common.{◌≡◌, ℕ, ◌≤◌, List, [], IsOk, refl, ap}
use Rattle.kf_frac.specs.Fractions.{limit}
use Rattle.kf_core.specs.Joint.{joint_of}
use Rattle.kf_core.specs.Rows.{IsHyperOf}
use Rattle.kf_core.specs.Scale.{scale_of}
use Rattle.kf_core.specs.Support.{program_pass}
use Rattle.kf_column.specs.Hypers.{Inner}
use Rattle.kf_load.specs.Texts.{Text, TypedOf}
use Rattle.kf_load.proofs.Faults.{fits}
use Rattle.kf_make.specs.Laws.{MadeIsParsed, MadeIsTyped}
use Rattle.kf_make.specs.Made.{made_program, made_tree}
use Rattle.kf_make.specs.Making.{make_source}
use Rattle.kf_text.specs.Texts.{make_text}
use Rattle.kf_top.specs.Answer.{prints}
use Rattle.kf_top.specs.Steps.{MadeOutcome}

pub made_outcome : MadeIsParsed → MadeIsTyped → (turns count : ℕ) → IsOk (program_pass turns (made_program count)) → scale_of turns (made_program count) ≤ limit
    → (inners : List Inner) (bytes : List ℕ) → IsHyperOf (joint_of turns (made_program count)) inners
    → bytes ≡ make_text count (scale_of turns (made_program count)) inners → MadeOutcome count turns (prints bytes)
unfolding TypedOf
made_outcome parsed typed turns count clear few inners bytes is text =
    let p = made_program count in
    let read = parsed count in
    let t : Text = record { name = []; bytes = make_source count; source = made_tree count; program = p } in
    (t, (read.0, read.1, (made_tree count, read.2, (p, typed count, refl))), (p, fits turns t clear few, (inners, is, ap prints text)))
