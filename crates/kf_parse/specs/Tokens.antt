-- For bodies: whether two kinds of token are the same, as a test.
use denote.Enum.Bare.{sameb}
use Rattle.std.specs.Prelude.{Bool, true, false, ◌==◌, List}
use Rattle.std.specs.List.{fold}
use Rattle.kf_lex.specs.contracts.token.Sign.{the_type as sign_type}
use Rattle.kf_lex.specs.contracts.token.Word.{the_type as word_type}
use Rattle.kf_lex.specs.declared.token.Tok.{Tok}
use Rattle.kf_lex.specs.declared.token.Tok.TheVariants as t
use Rattle.kf_lex.specs.declared.token.Token.{Token}
use Rattle.kf_parse.specs.Depth.{Open, opened}

abbrev pub is : Tok → Tok → Bool
is t.Name t.Name = true
is (t.Number j) (t.Number k) = j == k
is (t.Word v) (t.Word w) = sameb word_type v w
is (t.Sign r) (t.Sign s) = sameb sign_type r s
is _ _ = false

abbrev pub open_after : Open → List Token → Open
open_after c ts = fold (λ (c : Open) (o : Token). opened c o.kind) c ts
