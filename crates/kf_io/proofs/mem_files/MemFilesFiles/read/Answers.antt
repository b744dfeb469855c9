use Rattle.std.proofs.Common.{◌≡◌, List, ℕ, position, get_or, subst, ◌∙◌, ap}
use Rattle.kf_io.specs.Entries.{has_name, FilesState}
use Rattle.kf_io.specs.Reads.{Gives}
use Rattle.kf_io.specs.declared.lists.FileEntry.{FileEntry}
use Rattle.kf_io.proofs.Found.{gives_found}
use Rattle.kf_io.proofs.mem_files.MemFilesFiles.read.Goals as goal

pub returns-in-Some-clause-given : goal.returns-in-Some-clause-given
returns-in-Some-clause-given c =
    let file = c.index-as_slice-place.result in
    let held : c.self.inside.files ≡ c.args.self.now.files = ap (λ (s : FilesState). s.files) c.self.view_is in
    gives_found c.args.self.now.files c.args.name.now c.in-Some.place file _ _ _
    (c.in-Some.ensures ∙ ap (position (has_name c.args.name.now)) (c.as_slice.ensures ∙ held))
    (c.index-as_slice-place.is ∙ ap (λ (l : List FileEntry). get_or l c.in-Some.place file) (c.as_slice-in-Some.ensures ∙ held))
    (subst (λ (bytes : List ℕ). Gives bytes c.args.at c.give.result c.give.new.buf) c.as_slice-in-Some-2.ensures c.give.ensures.given)
