-- What a missing file might hold is what the caller names.
use Rattle.kf_call.proofs.files.CallFiles.new.Given as goal

abbrev pub ghost-new : goal.ghost-new
ghost-new g a = g.missing
