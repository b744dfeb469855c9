use Rattle.std.proofs.Common.{◌∙◌, sym}
use Rattle.kf_words.proofs.Numerals.{read_long}
use Rattle.kf_words.proofs.numbers.parse_digits.Goals as goal

pub returns : goal.returns
returns c = c.ok.ensures.value ∙ read_long c.args.most c.args.word.now c.parse.result c.requires (sym c.if-not-is_numeral.ensures) c.parse.ensures.value.0
