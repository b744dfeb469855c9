use Rattle.std.proofs.Common.{rules, ◌∙◌, sym, ap}
use Rattle.std.proofs.lemmas.Result.{err_from_is_err_and}
use Rattle.kf_parse.specs.Views.{cut_of}
use Rattle.kf_parse.specs.Reading as r
use Rattle.kf_parse.specs.Trimmed.{trimmed}
use Rattle.kf_parse.proofs.Failing.{got_value}
use Rattle.kf_parse.proofs.ExprTurns.{part_turn, part_halts, part_stops}
use Rattle.kf_parse.proofs.cursor.Cursor.parts.Goals as goal

pub returns-in_err-k-clause-reads : goal.returns-in_err-k-clause-reads
returns-in_err-k-clause-reads c =
    let h = part_halts c.args.self.now.src.now (cut_of c.parts.x) c.parts.self.rest.now c.skip.new.self.rest.now c.number.new.self.rest.now c.skip.ensures.rest (sym c.at.ensures ∙ c.parts-test.true) (λ k. k) cut_of c.in_err-k.field-0.0 c.in_err-k.ensures.reads in
    let p = err_from_is_err_and c.from_residual.result c.from_residual.ensures.1 in
    rw (c.parts.invariant.same, p.1, p.2) h

pub parts-smaller : goal.parts-smaller
parts-smaller c =
    (part_turn c.args.self.now.src.now (cut_of c.parts.x) c.parts.self.rest.now c.skip.new.self.rest.now c.number.new.self.rest.now c.skip.ensures.rest (sym c.at.ensures ∙ c.parts-test.true) c.in_ok-k.k c.in_ok-k.ensures.reads).shorter

pub parts-preserved : goal.parts-preserved
parts-preserved c =
    let turn = part_turn c.args.self.now.src.now (cut_of c.parts.x) c.parts.self.rest.now c.skip.new.self.rest.now c.number.new.self.rest.now c.skip.ensures.rest (sym c.at.ensures ∙ c.parts-test.true) c.in_ok-k.k c.in_ok-k.ensures.reads in
    record {
      source = search rules;
      same = c.parts.invariant.same ∙ turn.same ∙ ap (λ z. r.parts trimmed c.args.self.now.src.now z c.number.new.self.rest.now) (got_value c.in_ok-x.ensures);
    }

pub returns-clause-reads : goal.returns-clause-reads
returns-clause-reads c = c.parts.invariant.same ∙ part_stops c.args.self.now.src.now (cut_of c.parts.x) c.parts.self.rest.now (sym c.at.ensures ∙ c.parts-test.false)
