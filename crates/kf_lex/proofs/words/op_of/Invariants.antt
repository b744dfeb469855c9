use Rattle.std.proofs.Common.{◌≡◌, drop}
use Rattle.kf_lex.specs.declared.words.TheConstants.{OPERATOR_WORDS}
use Rattle.kf_lex.specs.Operators.{op_in}
use Rattle.kf_lex.proofs.words.op_of.Given as goal

-- the word is sought among those that are left
abbrev pub invariant-loop-pair : goal.invariant-loop-pair
invariant-loop-pair l = op_in (drop l.pair-index OPERATOR_WORDS) l.word ≡ op_in OPERATOR_WORDS l.word
