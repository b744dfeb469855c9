use Rattle.std.proofs.Common.{refl}
use Rattle.std.proofs.lemmas.Result.{err_from_is_err_and}
use Rattle.kf_core.specs.Views.{program_tree}
use Rattle.kf_load.proofs.text.text_with.Goals as goal

pub program-requires : goal.program-requires
program-requires c = record { short = rw c.deref.ensures.len c.requires.short; built = c.requires.built }

pub returns-in_err-program-clause-read : goal.returns-in_err-program-clause-read
returns-in_err-program-clause-read c =
    let p = err_from_is_err_and c.from_residual.result c.from_residual.ensures.1 in
    rw (p.1, p.2) c.in_err-program.ensures.read

pub returns : goal.returns
returns c = record {
  answer = (program_tree c.in_ok-program.program, c.in_ok-program.ensures.typed, refl);
  source = refl;
  proper = record { short = c.requires.short; built = c.requires.built; typed = c.in_ok-program.ensures.typed; checked = c.in_ok-program.ensures.checked };
  read = tt;
}
