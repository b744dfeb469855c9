use Rattle.std.proofs.Common.{All, take}
use Rattle.kf_call.specs.Calls.{IsText}
use Rattle.kf_call.proofs.spans.are_texts.Given as goal

abbrev pub invariant-loop-span : goal.invariant-loop-span
invariant-loop-span l = record { texts : All (IsText l.bytes) (take l.span-index l.spans) }
