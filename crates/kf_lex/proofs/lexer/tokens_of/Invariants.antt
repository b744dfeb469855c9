use denote.Shadow.{shadow}
use denote.Text.{Utf8}
use Rattle.std.proofs.Common.{◌≡◌, ◌+◌, length}
use Rattle.kf_lex.proofs.Going.{Goes}
use Rattle.kf_lex.proofs.lexer.tokens_of.Given as goal

-- the text is read up to the place, and the rest of it is left
abbrev pub invariant-loop-cut : goal.invariant-loop-cut
invariant-loop-cut l = record {
  utf8 : shadow (Utf8 l.left);
  place : l.at + length l.left ≡ length l.fn.text;
  goes : Goes l.fn.text l.at l.left l.tokens.items;
}

abbrev pub decreases-loop-cut : goal.decreases-loop-cut
decreases-loop-cut l = length l.left
