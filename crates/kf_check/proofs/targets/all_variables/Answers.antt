use Rattle.std.proofs.Common.{◌≡◌, map, length, sym, ap, ◌∙◌, arith}
use Rattle.std.proofs.lemmas.List.{length-map}
use Rattle.kf_value.specs.TypeViews.{item_of}
use Rattle.kf_check.specs.Variables.{variable_of}
use Rattle.kf_check.specs.SourceAnswers.{as_items}
use Rattle.kf_check.proofs.DeclFacts.{facts_of}
use Rattle.kf_check.proofs.TargetFacts.{all_suit}
use Rattle.kf_check.proofs.TargetTurns.{all_many, all_answer}
use Rattle.kf_check.proofs.targets.all_variables.Goals as goal

pub first_slots-requires : goal.first_slots-requires
first_slots-requires c =
    let few = (facts_of (map variable_of c.args.variables.now) c.requires.declared).few in
    let types = length-map (map variable_of c.args.variables.now) (λ v. v.type) in
    let all = length-map c.args.variables.now variable_of in
    omega arith

pub invariant_of-result : goal.invariant_of-result
invariant_of-result c =
    let same : map item_of c.new.result ≡ as_items (map variable_of c.args.variables.now) = ap (map item_of) c.new.ensures ∙ c.in_ok-items.ensures.items in
    let suits = all_suit (map variable_of c.args.variables.now) c.requires.declared c.new.result same in
    let many = all_many (map variable_of c.args.variables.now) (map item_of c.new.result) same in
    let items = length-map c.new.result item_of in
    let all = length-map c.args.variables.now variable_of in
    record { some = omega (arith, c.requires.some); formed = suits.formed; sized = suits.sized; fits = suits.fits }

pub returns : goal.returns
returns c =
    all_answer (map variable_of c.args.variables.now) (map item_of c.new.result) c.new-3.result c.new-4.result (length c.args.variables.now) (ap (map item_of) c.new.ensures ∙ c.in_ok-items.ensures.items)
    (c.new-3.ensures ∙ c.new-2.ensures.items) (c.new-4.ensures ∙ c.in_ok-slots.ensures.slots) (sym (length-map c.args.variables.now variable_of))
