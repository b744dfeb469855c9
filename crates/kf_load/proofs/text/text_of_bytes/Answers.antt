use Rattle.std.proofs.Common.{ℕ, List, subst}
use Rattle.std.proofs.lemmas.Result.{err_from_is_err_and}
use Rattle.kf_lex.specs.Readings.{IsTokens}
use Rattle.kf_parse.specs.Answers.{IsParsed}
use Rattle.kf_ast.specs.Views.{source_tree}
use Rattle.kf_load.specs.Steps.{After}
use Rattle.kf_load.specs.Texts.{TextWith, TypedOf}
use Rattle.kf_load.specs.Refusals.{TokensOf, SourceOf}
use Rattle.kf_load.specs.Views.{text_of}
use Rattle.kf_load.proofs.Stepwise.{next_answers}
use Rattle.kf_load.proofs.text.text_of_bytes.Goals as goal

pub returns-clause-answer : goal.returns-clause-answer
unfolding TypedOf
returns-clause-answer c =
    let name = c.args.name.now in
    let bytes = c.args.bytes.items in
    let tokens = subst (λ (bs : List ℕ). IsTokens bs c.in_ok-tokens.tokens) c.deref.ensures.value c.in_ok-tokens.ensures.tokens in
    let parsed = subst (λ (bs : List ℕ). IsParsed bs c.in_ok-tokens.tokens (source_tree c.in_ok-source.source)) c.deref-2.ensures.value c.in_ok-source.ensures.parsed in
    next_answers (text_of name) (TokensOf name bytes) (λ tokens. After (SourceOf name bytes tokens) (TextWith name bytes)) c.text_with.result c.in_ok-tokens.tokens tokens
    (next_answers (text_of name) (SourceOf name bytes c.in_ok-tokens.tokens) (TextWith name bytes) c.text_with.result (source_tree c.in_ok-source.source) parsed c.text_with.ensures.answer)

pub tokens-requires : goal.tokens-requires
tokens-requires c = rw c.deref.ensures.len c.requires.short

pub tree-requires : goal.tree-requires
tree-requires c = record {
  short = rw c.deref-2.ensures.len c.requires.short;
  tokens = rw c.deref-2.ensures.value (rw c.deref.ensures.value at c.in_ok-tokens.ensures.tokens);
}

pub text_with-requires-clause-short : goal.text_with-requires-clause-short
text_with-requires-clause-short c = c.requires.short

pub returns-in_err-tokens-clause-read : goal.returns-in_err-tokens-clause-read
returns-in_err-tokens-clause-read c =
    let p = err_from_is_err_and c.from_residual.result c.from_residual.ensures.1 in
    rw (p.1, p.2) c.in_err-tokens.ensures.read

pub returns-in_err-source-clause-read : goal.returns-in_err-source-clause-read
returns-in_err-source-clause-read c =
    let p = err_from_is_err_and c.from_residual-in_err-source.result c.from_residual-in_err-source.ensures.1 in
    rw (p.1, p.2) c.in_err-source.ensures.read

pub returns-clause-proper : goal.returns-clause-proper
returns-clause-proper c = c.text_with.ensures.proper

pub returns-clause-read : goal.returns-clause-read
returns-clause-read c = c.text_with.ensures.read
