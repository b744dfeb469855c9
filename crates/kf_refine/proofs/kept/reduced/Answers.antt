use Rattle.std.proofs.Common.{◌≡◌, ◌∙◌, ◌+◌, List, [], ◌∷◌, ◌++◌, ap, sym, map, take, get_or}
use Rattle.std.proofs.lemmas.List.{map-append, take_all, take_more}
use Rattle.kf_column.specs.declared.entry.Entry.{Entry}
use Rattle.kf_column.proofs.Factors.{quotient, some_factor, reduced_is}
use Rattle.kf_refine.proofs.kept.reduced.Goals as goal

pub nonzero_div-entry : goal.nonzero_div-entry
nonzero_div-entry c = some_factor c.common_factor-factor.result c.args.entries.now c.common_factor-factor.ensures c.requires

pub loop-entry-preserved : goal.loop-entry-preserved
loop-entry-preserved c =
    let divided = quotient c.common_factor-factor.result in
    let i = c.loop-entry.entry-index in
    let one : Entry = get_or c.args.entries.now i (record { value = 0; weight = 0 }) in
    let more : map divided (take (i + 1) c.args.entries.now) ≡ map divided (take i c.args.entries.now) ++ divided one ∷ [] =
    ap (map divided) (take_more c.args.entries.now i (record { value = 0; weight = 0 }) c.loop-entry-test.true)
    ∙ map-append divided (take i c.args.entries.now) (one ∷ []) in
    let grown : c.loop-entry.inner.items ++ divided one ∷ [] ≡ map divided (take (i + 1) c.args.entries.now) =
    ap (λ (es : List Entry). es ++ divided one ∷ []) c.loop-entry.invariant ∙ sym more in
    rw c.in_ok-push.ensures.items grown

pub returns : goal.returns
returns c =
    rw (c.loop-entry.invariant ∙ ap (map (quotient c.common_factor-factor.result)) (take_all c.loop-entry.entry-index c.args.entries.now c.loop-entry-test.false))
    (reduced_is c.common_factor-factor.result c.args.entries.now c.common_factor-factor.ensures c.requires)
