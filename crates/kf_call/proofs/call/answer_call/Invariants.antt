-- What a missing file might hold is what the caller names.
use Rattle.kf_call.proofs.call.answer_call.Given as goal

abbrev pub ghost-called : goal.ghost-called
ghost-called g a = g.missing
