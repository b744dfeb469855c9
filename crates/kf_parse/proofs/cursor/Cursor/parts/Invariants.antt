use Rattle.std.proofs.Common.{◌≡◌, length}
use Rattle.kf_parse.specs.Views.{cut_of}
use Rattle.kf_parse.specs.Reading as r
use Rattle.kf_parse.specs.Trimmed.{trimmed}
use Rattle.kf_parse.proofs.cursor.Cursor.parts.Given as goal

abbrev pub invariant-parts : goal.invariant-parts
invariant-parts l = record {
  source : l.self.src.now ≡ l.fn.self.src.now;
  same : r.parts trimmed l.fn.self.src.now (cut_of l.fn.x) l.fn.self.rest.now ≡ r.parts trimmed l.fn.self.src.now (cut_of l.x) l.self.rest.now;
}

abbrev pub decreases-parts : goal.decreases-parts
decreases-parts l = length l.self.rest.now
