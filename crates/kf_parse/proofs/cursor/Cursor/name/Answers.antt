use Rattle.std.proofs.Common.{rules, arith, drop}
use Rattle.std.proofs.lemmas.Grind.{common_steps}
use Rattle.kf_parse.proofs.Spelled.{text_of}
use Rattle.kf_parse.proofs.cursor.Cursor.name.Goals as goal

pub returns-clause-reads : goal.returns-clause-reads
returns-clause-reads c =
    let same = c.in_ok-text.ensures.ok (text_of c.args.self.now.src.now c.args.self.now.rest.now (drop 1 c.args.self.now.rest.now) c.in-Some.o c.args.self.now.names c.in-Some.ensures (search rules)) in
    first_of (search rules, grind (arith, common_steps))
