use Rattle.std.proofs.Common.{sym}
use Rattle.kf_words.proofs.Numerals.{unread}
use Rattle.kf_words.proofs.numbers.parse_number.Goals as goal

pub returns-in-Err-clause-value : goal.returns-in-Err-clause-value
returns-in-Err-clause-value c = sym (unread c.args.word.now (sym c.if-not-is_numeral.ensures) c.in-Err.ensures.value.0)
