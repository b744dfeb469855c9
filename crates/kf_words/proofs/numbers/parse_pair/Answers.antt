use Rattle.std.proofs.Common.{◌<◌, ℕ, Some, sym, ◌∙◌, ap, subst}
use Rattle.std.proofs.lemmas.Str.Pattern.{split_text_parts}
use Rattle.kf_words.specs.Numbers.{numeral_of}
use Rattle.kf_words.proofs.Numerals.{both_numbers, no_parts, with_parts}
use Rattle.kf_words.proofs.numbers.parse_pair.Goals as goal

pub returns-in_err-first : goal.returns-in_err-first
returns-in_err-first c = c.from_residual.ensures ∙ sym (no_parts c.args.most c.args.mark.now c.args.word.now c.requires.some c.in_err-first.ensures.cases)

pub returns-in_err-first-2 : goal.returns-in_err-first-2
returns-in_err-first-2 c =
    let first = c.in_ok-first.first.now in
    let second = c.in_ok-first.second.now in
    let cut = c.in_ok-first.ensures.cases in
    let whole = split_text_parts c.args.mark.now c.args.word.now (Some (c.in_ok-first.first, c.in_ok-first.second)) cut in
    let is = with_parts c.args.most c.args.mark.now c.args.word.now first second c.requires.some whole (λ i within. cut.2.0 i (subst (λ (n : ℕ). i < n) cut.6 within)) in
    c.from_residual-in_err-first-2.ensures ∙ sym (is ∙ ap (λ a. both_numbers a (numeral_of c.args.most second)) (sym c.in_err-first-2.ensures))

pub returns-in_err-second : goal.returns-in_err-second
returns-in_err-second c =
    let first = c.in_ok-first.first.now in
    let second = c.in_ok-first.second.now in
    let cut = c.in_ok-first.ensures.cases in
    let whole = split_text_parts c.args.mark.now c.args.word.now (Some (c.in_ok-first.first, c.in_ok-first.second)) cut in
    let is = with_parts c.args.most c.args.mark.now c.args.word.now first second c.requires.some whole (λ i within. cut.2.0 i (subst (λ (n : ℕ). i < n) cut.6 within)) in
    let a = sym c.in_ok-first-2.ensures in
    let b = sym c.in_err-second.ensures in
    c.from_residual-in_err-second.ensures ∙ sym (is ∙ (λ i. both_numbers (a i) (b i)))

pub returns : goal.returns
returns c =
    let first = c.in_ok-first.first.now in
    let second = c.in_ok-first.second.now in
    let cut = c.in_ok-first.ensures.cases in
    let whole = split_text_parts c.args.mark.now c.args.word.now (Some (c.in_ok-first.first, c.in_ok-first.second)) cut in
    let is = with_parts c.args.most c.args.mark.now c.args.word.now first second c.requires.some whole (λ i within. cut.2.0 i (subst (λ (n : ℕ). i < n) cut.6 within)) in
    let a = sym c.in_ok-first-2.ensures in
    let b = sym c.in_ok-second.ensures in
    sym (is ∙ (λ i. both_numbers (a i) (b i)))
