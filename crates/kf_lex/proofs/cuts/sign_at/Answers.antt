use Rattle.std.proofs.Common.{◌≡◌, ◌<◌, ℕ, true, List, Option, Some, nat_eq, length, get_or, drop, drop-cons, arith, refl, sym, ap, subst, ◌∙◌}
use Rattle.std.specs.List.{starts_with}
use Rattle.std.specs.Str.{IsCharBoundary}
use Rattle.std.proofs.lemmas.List.{drop_all}
use Rattle.kf_lex.specs.declared.cuts.TheConstants.{SIGNS}
use Rattle.kf_lex.specs.declared.token.Sign.{Sign}
use Rattle.kf_lex.specs.Cuts.{first_sign}
use Rattle.kf_lex.specs.Words.{sign_text}
use Rattle.kf_lex.proofs.SignSearch.{passed_by}
use Rattle.kf_lex.proofs.cuts.sign_at.Goals as goal

pub loop-sign-preserved : goal.loop-sign-preserved
loop-sign-preserved c =
    passed_by SIGNS c.loop-sign.sign-index _ _ _ _ c.text.ensures c.if-begins_with.ensures.value (omega arith) c.loop-sign.invariant

-- a sign with which the text begins is the first of those that are left
taken : (signs : List Sign) (i : ℕ) (d : Sign) (text front : List ℕ) (whole : Option Sign) → front ≡ sign_text (get_or signs i d)
    → true ≡ starts_with nat_eq text front → i < length signs → first_sign (drop i signs) text ≡ whole → Some (get_or signs i d) ≡ whole
taken signs i d text front whole spelt begins within before =
    let here : starts_with nat_eq text (sign_text (get_or signs i d)) ≡ true = rw (← spelt) (sym begins) in
    let same : first_sign (drop i signs) text ≡ Some (get_or signs i d) = rw (drop-cons signs i d, here) refl in
    sym same ∙ before

pub returns-then-begins_with-clause-first : goal.returns-then-begins_with-clause-first
returns-then-begins_with-clause-first c =
    taken SIGNS c.loop-sign.sign-index _ _ _ _ c.text.ensures c.if-begins_with.ensures.value (omega arith) c.loop-sign.invariant

pub returns-then-begins_with-clause-cut : goal.returns-then-begins_with-clause-cut
returns-then-begins_with-clause-cut c = subst (λ t. IsCharBoundary c.args.text.now (length t)) c.text.ensures (c.if-begins_with.ensures.cut refl)

pub returns-clause-first : goal.returns-clause-first
returns-clause-first c = sym (ap (λ signs. first_sign signs c.args.text.now) (drop_all c.loop-sign.sign-index SIGNS (omega arith))) ∙ c.loop-sign.invariant
