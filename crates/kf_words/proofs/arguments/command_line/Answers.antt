use Rattle.std.proofs.Common.{◌≡◌, ◌∙◌, ap, ap₂, codes}
use Rattle.clap.specs.Words.{rule_of, with_rule}
use Rattle.kf_words.specs.Arguments.{words_rule, option_rule}
use Rattle.kf_words.proofs.Matches.{words_are, option_is, flag_is, is_global}
use Rattle.kf_words.proofs.arguments.command_line.Goals as goal
use Rattle.kf_words.specs.CommandViews.{flag_rule}

pub returns : goal.returns
returns c =
    let words : rule_of c.num_args.result ≡ words_rule = words_are c.new-2.result c.num_args.result c.new-2.ensures.rule c.num_args.ensures.0 c.num_args.ensures.1 in
    let gain : rule_of c.long.result ≡ option_rule (codes "gain") = option_is c.new-3.result c.long.result _ c.new-3.ensures.rule c.long.ensures in
    let turns : rule_of c.long-2.result ≡ option_rule (codes "turns") = option_is c.new-4.result c.long-2.result _ c.new-4.ensures.rule c.long-2.ensures in
    let named : rule_of c.long-3.result ≡ option_rule (codes "json") = option_is c.new-5.result c.long-3.result _ c.new-5.ensures.rule c.long-3.ensures in
    let json : rule_of c.action.result ≡ flag_rule (codes "json") = flag_is c.long-3.result c.action.result (codes "json") named c.action.ensures in
    let one = c.in_ok-arg.ensures.shape (ap is_global c.num_args.ensures.0 ∙ c.new-2.ensures.optional.1) ∙ ap₂ with_rule c.new.ensures.app words in
    let two = c.in_ok-arg-2.ensures.shape (ap is_global c.long.ensures ∙ c.new-3.ensures.optional.1) ∙ ap₂ with_rule one gain in
    let three = c.in_ok-arg-3.ensures.shape (ap is_global c.long-2.ensures ∙ c.new-4.ensures.optional.1) ∙ ap₂ with_rule two turns in
    c.in_ok-command.ensures.shape (ap is_global c.action.ensures ∙ (ap is_global c.long-3.ensures ∙ c.new-5.ensures.optional.1)) ∙ ap₂ with_rule three json
