-- What a missing file might hold is what the caller names.
use Rattle.kuifje_c.proofs.run.kuifje_run.Given as goal

abbrev pub ghost-answer_call : goal.ghost-answer_call
ghost-answer_call g a = g.missing
