use Rattle.std.proofs.Common.{rules, arith, ℕ, List, sym, ◌∙◌}
use Rattle.std.proofs.lemmas.Grind.{common_steps}
use Rattle.kf_ast.specs.Dists.{CaseTree}
use Rattle.kf_ast.specs.Views.{case_tree}
use Rattle.kf_lex.specs.declared.token.Tok.TheVariants as tok
use Rattle.kf_lex.specs.declared.token.Sign.TheVariants as sign
use Rattle.kf_parse.specs.Views.{trimmed_of, all_of}
use Rattle.kf_parse.specs.Outcomes.{Parser}
use Rattle.kf_parse.specs.Reading as r
use Rattle.kf_parse.specs.Trimmed.{Trimmed, trimmed}
use Rattle.kf_parse.proofs.Shrinks.{expr_shrinks, cases_steps}
use Rattle.kf_parse.proofs.Turns.{stops, turn_stuck, turn_deep, turn_got, turn_shorter}
use Rattle.kf_parse.proofs.cursor.Cursor.cases.Goals as goal

-- what a turn takes behind its comma
abbrev turn : List ℕ → ℕ → Trimmed (List CaseTree) → Parser (Trimmed (List CaseTree))
turn src d = r.weighted trimmed src (r.expr trimmed src d)

pub cases-preserved : goal.cases-preserved
unfolding r.cases
cases-preserved c =
    let e = rw (c.skip.ensures.source, c.cases.invariant.source) at c.in_ok-list.ensures.reads in
    let same = turn_got (tok.Sign sign.Comma) (turn c.args.self.now.src.now c.args.depth) (trimmed_of (all_of case_tree) c.cases.list) c.skip.new.self.rest.now
    (cases_steps trimmed c.args.self.now.src.now (r.expr trimmed c.args.self.now.src.now c.args.depth) (expr_shrinks trimmed c.args.self.now.src.now c.args.depth))
    c.cases.self.rest.now c.weighted.new.self.rest.now (trimmed_of (all_of case_tree) c.in_ok-list.list) c.skip.ensures.rest (sym c.at.ensures ∙ c.cases-test.true) e in
    record { source = search rules; rest = c.cases.invariant.rest ∙ same }

pub cases-smaller : goal.cases-smaller
cases-smaller c =
    let e = rw (c.skip.ensures.source, c.cases.invariant.source) at c.in_ok-list.ensures.reads in
    turn_shorter (tok.Sign sign.Comma) (turn c.args.self.now.src.now c.args.depth) (trimmed_of (all_of case_tree) c.cases.list) c.skip.new.self.rest.now
    (cases_steps trimmed c.args.self.now.src.now (r.expr trimmed c.args.self.now.src.now c.args.depth) (expr_shrinks trimmed c.args.self.now.src.now c.args.depth))
    c.cases.self.rest.now c.weighted.new.self.rest.now (trimmed_of (all_of case_tree) c.in_ok-list.list) c.skip.ensures.rest (sym c.at.ensures ∙ c.cases-test.true) e

pub returns-in_err-list-clause-reads : goal.returns-in_err-list-clause-reads
unfolding r.cases
returns-in_err-list-clause-reads c =
    let same = c.skip.ensures.source ∙ c.cases.invariant.source in
    let a = turn_stuck (tok.Sign sign.Comma) (turn c.args.self.now.src.now c.args.depth) (trimmed_of (all_of case_tree) c.cases.list) c.skip.new.self.rest.now c.cases.self.rest.now c.weighted.new.self.rest.now c.skip.ensures.rest (sym c.at.ensures ∙ c.cases-test.true) in
    let b = turn_deep (tok.Sign sign.Comma) (turn c.args.self.now.src.now c.args.depth) (trimmed_of (all_of case_tree) c.cases.list) c.skip.new.self.rest.now c.cases.self.rest.now c.skip.ensures.rest (sym c.at.ensures ∙ c.cases-test.true) in
    let i = c.cases.invariant.rest in
    first_of (search (rules, a, b), grind (arith, common_steps, a, b))

pub returns-clause-reads : goal.returns-clause-reads
unfolding r.cases
returns-clause-reads c =
    c.cases.invariant.rest ∙ stops (tok.Sign sign.Comma) (turn c.args.self.now.src.now c.args.depth) (trimmed_of (all_of case_tree) c.cases.list) c.cases.self.rest.now (sym c.at.ensures ∙ c.cases-test.false)
