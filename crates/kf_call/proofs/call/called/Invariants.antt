-- What a missing file might hold is what the caller names.
use Rattle.kf_call.proofs.call.called.Given as goal

abbrev pub ghost-answer_over : goal.ghost-answer_over
ghost-answer_over g a = g.missing
