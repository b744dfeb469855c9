use Rattle.std.proofs.Common.{All, rules, subst}
use Rattle.std.proofs.lemmas.List.{take_all}
use Rattle.std.proofs.lemmas.List.Elements.{All-more}
use Rattle.kf_call.specs.Calls.{IsText}
use Rattle.kf_call.proofs.spans.are_texts.Goals as goal

pub loop-span-preserved : goal.loop-span-preserved
loop-span-preserved c = record {
  texts = All-more (IsText c.args.bytes.now) c.args.spans.now c.loop-span.span-index _ (search rules) c.loop-span.invariant.texts
      (c.is_text.ensures.0 (search rules));
}

pub returns : goal.returns
returns c = (
  λ yes. subst (All (IsText c.args.bytes.now)) (take_all c.loop-span.span-index c.args.spans.now (search rules)) c.loop-span.invariant.texts,
  λ are. search rules,
)
