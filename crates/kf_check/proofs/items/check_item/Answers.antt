use Rattle.std.proofs.Common.{◌≡◌, ◌+◌, map, length, sym, ◌∙◌, arith}
use Rattle.std.proofs.lemmas.List.{length-map}
use Rattle.kf_value.specs.Sizes.{HasSize}
use Rattle.kf_value.specs.TypeViews.{type_tree, item_of}
use Rattle.kf_ast.specs.Views.{item_tree}
use Rattle.kf_check.specs.Sources.{known_of, types_of}
use Rattle.kf_check.specs.Views.{known_in}
use Rattle.kf_check.specs.Variables.{variable_of, variables_in}
use Rattle.kf_check.proofs.Left.{passed}
use Rattle.kf_check.proofs.Kinding.{slice_get-some}
use Rattle.kf_check.proofs.DeclFacts.{facts_of}
use Rattle.kf_check.proofs.TargetFacts.{all_at}
use Rattle.kf_check.proofs.ItemTurns as turn
use Rattle.kf_check.proofs.items.check_item.Goals as goal

pub returns-in_default-clause-answer : goal.returns-in_default-clause-answer
returns-in_default-clause-answer c stood ts same many counted other =
    turn.item_unknown (variables_in c.args.declared.now) stood ts c.args.item.now.initial c.args.item.now.name.at (known_in c.args.declared.now.names) c.as_str.result.now c.args.item.now.name.text c.requires.known c.as_str.ensures c.in_default.ensures

pub returns-then-stands-clause-answer : goal.returns-then-stands-clause-answer
returns-then-stands-clause-answer c stood ts same many counted other =
    turn.item_twice (variables_in c.args.declared.now) stood (map item_tree c.args.before.now) same ts c.args.item.now.name.at c.args.item.now.name.text c.in-Some.slot _ (turn.known_here (known_in c.args.declared.now.names) (known_of (variables_in c.args.declared.now)) c.as_str.result.now c.args.item.now.name.text c.in-Some.slot _ c.requires.known c.as_str.ensures c.in-Some.ensures.0) c.args.item.now.initial c.if-stands.ensures

pub index-variable-requires : goal.index-variable-requires
index-variable-requires c = let within = turn.place_within c.args.declared.now.variables.items c.args.item.now.name.text c.in-Some.slot _ (turn.known_here (known_in c.args.declared.now.names) (known_of (variables_in c.args.declared.now)) c.as_str.result.now c.args.item.now.name.text c.in-Some.slot _ c.requires.known c.as_str.ensures c.in-Some.ensures.0) in omega arith

pub returns-then-not-item-clause-answer : goal.returns-then-not-item-clause-answer
returns-then-not-item-clause-answer c stood ts same many counted =
    let known = turn.known_here (known_in c.args.declared.now.names) (known_of (variables_in c.args.declared.now)) c.as_str.result.now c.args.item.now.name.text c.in-Some.slot _ c.requires.known c.as_str.ensures c.in-Some.ensures.0 in
    let found = turn.found_here c.args.declared.now.variables.items c.args.item.now.name.text c.in-Some.slot _ known c.index-variable.result.now c.index-variable.ensures in
    turn.final_answer (variables_in c.args.declared.now) stood (map item_tree c.args.before.now) same ts c.args.item.now.name.at c.args.item.now.name.text c.in-Some.slot _ known (variable_of c.index-variable.result.now) found.0 found.1
    c.args.item.now.initial c.if-not-item.true (item_of c.in_ok-read.read) c.in_ok-read.ensures c.args.copies c.if-stands.ensures

pub grow-requires : goal.grow-requires
grow-requires c =
    let known = turn.known_here (known_in c.args.declared.now.names) (known_of (variables_in c.args.declared.now)) c.as_str.result.now c.args.item.now.name.text c.in-Some.slot _ c.requires.known c.as_str.ensures c.in-Some.ensures.0 in
    let found = turn.found_here c.args.declared.now.variables.items c.args.item.now.name.text c.in-Some.slot _ known c.index-variable.result.now c.index-variable.ensures in
    all_at HasSize (types_of (variables_in c.args.declared.now)) c.in-Some.slot (type_tree c.index-variable.result.now.ty) (facts_of (variables_in c.args.declared.now) c.requires.declared).sized
    (slice_get-some (λ v. v.type) (variables_in c.args.declared.now) c.in-Some.slot (variable_of c.index-variable.result.now) found.0)

pub returns-in_err-stores-clause-answer : goal.returns-in_err-stores-clause-answer
returns-in_err-stores-clause-answer c stood ts same many counted =
    let known = turn.known_here (known_in c.args.declared.now.names) (known_of (variables_in c.args.declared.now)) c.as_str.result.now c.args.item.now.name.text c.in-Some.slot _ c.requires.known c.as_str.ensures c.in-Some.ensures.0 in
    let found = turn.found_here c.args.declared.now.variables.items c.args.item.now.name.text c.in-Some.slot _ known c.index-variable.result.now c.index-variable.ensures in
    let all = length-map c.args.declared.now.variables.items variable_of in
    let place : c.len.result + c.args.copies ≡ length (variables_in c.args.declared.now) + c.args.copies = omega arith in
    rw (passed c.from_residual-in_err-stores.result c.in_err-stores.field-0.0 c.from_residual-in_err-stores.ensures.1)
    (λ other.
    turn.initial_fails (variables_in c.args.declared.now) stood (map item_tree c.args.before.now) same ts c.args.item.now.name.at c.args.item.now.name.text c.in-Some.slot _ known (variable_of c.index-variable.result.now) found.0 found.1
    c.args.item.now.initial c.if-not-item.false c.if-stands.ensures (c.len.result + c.args.copies) c.args.stores (place ∙ sym many) counted c.in_err-stores.field-0.0 (rw c.in_err-stores.ensures.err at c.grow.ensures))

pub returns-clause-answer : goal.returns-clause-answer
returns-clause-answer c stood ts same many counted =
    let known = turn.known_here (known_in c.args.declared.now.names) (known_of (variables_in c.args.declared.now)) c.as_str.result.now c.args.item.now.name.text c.in-Some.slot _ c.requires.known c.as_str.ensures c.in-Some.ensures.0 in
    let found = turn.found_here c.args.declared.now.variables.items c.args.item.now.name.text c.in-Some.slot _ known c.index-variable.result.now c.index-variable.ensures in
    let all = length-map c.args.declared.now.variables.items variable_of in
    let place : c.len.result + c.args.copies ≡ length (variables_in c.args.declared.now) + c.args.copies = omega arith in
    rw c.in_ok-stores.ensures.ok.1
    (turn.initial_answer (variables_in c.args.declared.now) stood (map item_tree c.args.before.now) same ts c.args.item.now.name.at c.args.item.now.name.text c.in-Some.slot _ known (variable_of c.index-variable.result.now) found.0 found.1
    c.args.item.now.initial c.if-not-item.false c.if-stands.ensures (c.len.result + c.args.copies) c.args.stores (place ∙ sym many) counted c.in_ok-stores.stores (rw c.in_ok-stores.ensures.ok.0 at c.grow.ensures) c.args.copies place (item_of c.in_ok-read.read) c.in_ok-read.ensures)
