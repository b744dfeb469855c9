use Rattle.std.proofs.Common.{arith, sym, ap, ◌∙◌}
use Rattle.std.proofs.lemmas.List.{drop_all}
use Rattle.kf_lex.specs.declared.words.TheConstants.{OPERATOR_WORDS}
use Rattle.kf_lex.specs.Operators.{word_in}
use Rattle.kf_lex.proofs.Paired.{other_operator, this_operator}
use Rattle.kf_lex.proofs.words.word_of.Goals as goal

pub loop-pair-preserved : goal.loop-pair-preserved
loop-pair-preserved c =
    other_operator OPERATOR_WORDS c.loop-pair.pair-index _ c.args.op _ (omega arith) c.if-eq.ensures c.loop-pair.invariant

pub returns-then-eq : goal.returns-then-eq
returns-then-eq c = this_operator OPERATOR_WORDS c.loop-pair.pair-index _ c.args.op _ (omega arith) c.if-eq.ensures c.loop-pair.invariant

pub returns : goal.returns
returns c = sym (ap (λ pairs. word_in pairs c.args.op) (drop_all c.loop-pair.pair-index OPERATOR_WORDS (omega arith))) ∙ c.loop-pair.invariant
