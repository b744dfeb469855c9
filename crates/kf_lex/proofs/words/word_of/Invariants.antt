use Rattle.std.proofs.Common.{◌≡◌, drop}
use Rattle.kf_lex.specs.declared.words.TheConstants.{OPERATOR_WORDS}
use Rattle.kf_lex.proofs.words.word_of.Given as goal
use Rattle.kf_lex.specs.Operators.{word_in}

-- the operator is sought among those that are left
abbrev pub invariant-loop-pair : goal.invariant-loop-pair
invariant-loop-pair l = word_in (drop l.pair-index OPERATOR_WORDS) l.op ≡ word_in OPERATOR_WORDS l.op
