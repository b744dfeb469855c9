use Rattle.std.proofs.Common.{◌≡◌, List, ℕ, position, get_or, subst, ◌∙◌, ap}
use Rattle.kf_io.specs.Entries.{has_name, SureState}
use Rattle.kf_io.specs.Reads.{Gives}
use Rattle.kf_io.specs.declared.lists.FileEntry.{FileEntry}
use Rattle.kf_io.proofs.Found.{gives_found, gives_none}
use Rattle.kf_io.proofs.sure_files.SureFilesFiles.read.Goals as goal
use Rattle.kf_io.proofs.sure_files.SureFilesFiles.read.Goals.{in-Some, in-None}

pub returns-clause-given : goal.returns-clause-given
returns-clause-given c =
    let files = c.args.self.now.files in
    let name = c.args.name.now in
    let held : c.self.inside.files ≡ files = ap (λ (s : SureState). s.files) c.self.view_is in
    let place = ap (position (has_name name)) (c.as_slice.ensures ∙ held) in
    elim c.match-index_of.branch [
      | in-Some w ↦
          let file = w.index-as_slice-place.result in
          rw (w.result-is, w.buf-is) (gives_found files name w.in-Some.place file _ _ _
          (w.in-Some.ensures ∙ place)
          (w.index-as_slice-place.is ∙ ap (λ (l : List FileEntry). get_or l w.in-Some.place file) (w.as_slice-in-Some.ensures ∙ held))
          (subst (λ (bytes : List ℕ). Gives bytes c.args.at w.give.result w.give.new.buf) w.as_slice-in-Some-2.ensures w.give.ensures.given))
      | in-None w ↦ rw (w.result-is, w.buf-is) (gives_none files name _ _ (w.in-None.ensures ∙ place))
    ]
