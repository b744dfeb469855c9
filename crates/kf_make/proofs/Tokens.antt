-- The made text has these tokens.
use Rattle.std.proofs.Common.{◌≡◌, ◌+◌, ℕ, zero, suc, List, [], ◌∷◌, ◌++◌, Some, None, codes, refl, subst, arith}
use Rattle.std.specs.Str.{IsUtf8}
use Rattle.std.proofs.lemmas.Str.{IsUtf8-nil}
use Rattle.kf_lex.specs.declared.token.Sign.{Sign}
use Rattle.kf_lex.specs.declared.token.Sign.TheVariants as s
use Rattle.kf_lex.specs.declared.token.Token.{Token}
use Rattle.kf_lex.specs.declared.token.Word.TheVariants as w
use Rattle.kf_lex.specs.Lexemes.{IsLongest}
use Rattle.kf_lex.specs.Readings.{IsTokens, Reads}
use Rattle.kf_lex.specs.Readings as r
use Rattle.kf_lex.specs.Words.{reserved, sign_text}
use Rattle.kf_lex.proofs.LongestCuts.{cut_sign}
use Rattle.kf_make.specs.Making.{make_source}
use Rattle.kf_make.proofs.Fragments.{Fragment, gap, mark, name, number, word, read_all, tokens_of, utf8_of_all}
use Rattle.kf_make.specs.Made.{make_lines}

-- the reserved words of the made text, and that x is none
pub var_reserved : reserved (codes "var") ≡ Some w.VarWord
unfolding reserved
var_reserved = refl

pub uniform_reserved : reserved (codes "uniform") ≡ Some w.UniformWord
unfolding reserved
uniform_reserved = refl

pub observe_reserved : reserved (codes "observe") ≡ Some w.ObserveWord
unfolding reserved
observe_reserved = refl

pub choose_reserved : reserved (codes "choose") ≡ Some w.ChooseWord
unfolding reserved
choose_reserved = refl

pub mod_reserved : reserved (codes "mod") ≡ Some w.ModWord
unfolding reserved
mod_reserved = refl

pub x_free : reserved (codes "x") ≡ None
unfolding reserved
x_free = refl

-- a sign ends before a space, and those below before what stands behind them
pub before_space : (sign : Sign) (rest : List ℕ) → IsLongest (sign_text sign) (32 ∷ rest)
before_space s.Assign rest = (cut_sign (sign_text s.Assign ++ 32 ∷ rest) (sign_text s.Assign) (32 ∷ rest) s.Assign refl refl refl).0
before_space sign rest = (cut_sign (sign_text sign ++ 32 ∷ rest) (sign_text sign) (32 ∷ rest) sign refl refl refl).0

pub range_before_six : (rest : List ℕ) → IsLongest (sign_text s.Range) (54 ∷ rest)
range_before_six rest = (cut_sign (sign_text s.Range ++ 54 ∷ rest) (sign_text s.Range) (54 ∷ rest) s.Range refl refl refl).0

pub semi_before_line : (rest : List ℕ) → IsLongest (sign_text s.Semi) (10 ∷ rest)
semi_before_line rest = (cut_sign (sign_text s.Semi ++ 10 ∷ rest) (sign_text s.Semi) (10 ∷ rest) s.Semi refl refl refl).0

pub brace_before_semi : (rest : List ℕ) → IsLongest (sign_text s.BraceClose) (59 ∷ rest)
brace_before_semi rest = (cut_sign (sign_text s.BraceClose ++ 59 ∷ rest) (sign_text s.BraceClose) (59 ∷ rest) s.BraceClose refl refl refl).0

abbrev pub space : Fragment
space = gap 32

-- a sign before a space
abbrev pub spaced : Sign → Fragment
spaced sign = mark sign 32 (before_space sign)

abbrev pub range_sign : Fragment
range_sign = mark s.Range 54 range_before_six

abbrev pub end_sign : Fragment
end_sign = mark s.Semi 10 semi_before_line

abbrev pub x_name : Fragment
x_name = name (codes "x") x_free

abbrev pub mod_word : Fragment
mod_word = word w.ModWord (codes "mod") mod_reserved

-- what the first line and each other line is made of
abbrev pub head_fragments : List Fragment
head_fragments =
    word w.VarWord (codes "var") var_reserved ∷ space ∷ x_name ∷ space ∷ spaced s.Colon ∷ space
    ∷ number (codes "0") ∷ range_sign ∷ number (codes "63") ∷ space ∷ spaced s.Assign ∷ space
    ∷ word w.UniformWord (codes "uniform") uniform_reserved ∷ space ∷ number (codes "0") ∷ range_sign ∷ number (codes "63") ∷ end_sign ∷ gap 10 ∷ []

abbrev pub line_fragments : List Fragment
line_fragments =
    word w.ObserveWord (codes "observe") observe_reserved ∷ space ∷ word w.ChooseWord (codes "choose") choose_reserved ∷ space
    ∷ spaced s.BraceOpen ∷ space ∷ x_name ∷ space ∷ mod_word ∷ space ∷ number (codes "2") ∷ space
    ∷ spaced s.Colon ∷ space ∷ number (codes "3") ∷ spaced s.Comma ∷ space ∷ number (codes "1") ∷ space ∷ spaced s.Minus ∷ space
    ∷ x_name ∷ space ∷ mod_word ∷ space ∷ number (codes "2") ∷ space ∷ spaced s.Colon ∷ space ∷ number (codes "1") ∷ space
    ∷ mark s.BraceClose 59 brace_before_semi ∷ end_sign ∷ gap 10 ∷ []

abbrev pub line_tokens : ℕ → List Token → List Token
line_tokens at others = tokens_of at 0 line_fragments others

abbrev pub lines_tokens : ℕ → ℕ → List Token
lines_tokens at zero = []
lines_tokens at (suc k) = line_tokens at (lines_tokens (at + 49) k)

abbrev pub made_tokens : ℕ → List Token
made_tokens count = tokens_of 0 0 head_fragments (lines_tokens 32 count)

lines_utf8 : (k : ℕ) → IsUtf8 (make_lines k)
lines_utf8 zero = IsUtf8-nil
lines_utf8 (suc k) = utf8_of_all line_fragments (make_lines k) refl (lines_utf8 k)

lines_read : (at k : ℕ) → Reads at (make_lines k) (lines_tokens at k)
lines_read at zero = r.done
lines_read at (suc k) =
    let here : at + 0 ≡ at = omega arith in
    subst (λ p. Reads p (make_lines (suc k)) (lines_tokens at (suc k))) here
    (read_all line_fragments at 0 (make_lines k) (lines_tokens (at + 49) k) refl (lines_utf8 k) (lines_read (at + 49) k))

pub made_read : (count : ℕ) → IsTokens (make_source count) (made_tokens count)
made_read count = record {
  utf8 = utf8_of_all head_fragments (make_lines count) refl (lines_utf8 count);
  reads = read_all head_fragments 0 0 (make_lines count) (lines_tokens 32 count) refl (lines_utf8 count) (lines_read 32 count);
}
