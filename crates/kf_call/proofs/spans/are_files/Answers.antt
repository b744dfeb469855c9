use Rattle.std.proofs.Common.{All, rules, subst}
use Rattle.std.proofs.lemmas.List.{take_all}
use Rattle.std.proofs.lemmas.List.Elements.{All-more}
use Rattle.kf_call.specs.Calls.{IsFile}
use Rattle.kf_call.proofs.spans.are_files.Goals as goal

pub loop-file-preserved : goal.loop-file-preserved
loop-file-preserved c = record {
  files = All-more (IsFile c.args.bytes.now) c.args.files.now c.loop-file.file-index _ (search rules) c.loop-file.invariant.files
      (c.is_file.ensures.0 (search rules));
}

pub returns : goal.returns
returns c = (
  λ yes. subst (All (IsFile c.args.bytes.now)) (take_all c.loop-file.file-index c.args.files.now (search rules)) c.loop-file.invariant.files,
  λ are. search rules,
)
