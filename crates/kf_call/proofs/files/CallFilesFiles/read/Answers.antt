use Rattle.std.proofs.Common.{IfOk, subst}
use Rattle.kf_io.specs.Reads.{Gives}
use Rattle.kf_call.specs.Contents.{FilesState, contents_of}
use Rattle.kf_call.proofs.Found.{given_same}
use Rattle.kf_call.proofs.files.CallFilesFiles.read.Goals as goal

pub returns-clause-given : goal.returns-clause-given
returns-clause-given c =
    subst (λ (s : FilesState). IfOk c.read.result (λ k. Gives (contents_of s.files.files s.missing c.args.name.now) c.args.at k c.read.new.buf)) c.self.view_is
    (given_same c.self.inside.files c.self.inside.missing.bytes c.args.name.now c.args.at c.read.new.buf c.read.result c.read.ensures.fails.1 c.read.ensures.given)
