use Rattle.std.proofs.Common.{rules, arith, ℕ, List, [], ◌∷◌, ◌++◌, map, sym, ◌∙◌}
use Rattle.std.proofs.lemmas.Grind.{common_steps}
use Rattle.std.proofs.lemmas.List.{map-append}
use Rattle.kf_ast.specs.Sources.{ItemTree}
use Rattle.kf_ast.specs.Views.{item_tree}
use Rattle.kf_lex.specs.declared.token.Tok.TheVariants as tok
use Rattle.kf_lex.specs.declared.token.Sign.TheVariants as sign
use Rattle.kf_parse.specs.Outcomes.{Parser, ◌>>=◌, pure}
use Rattle.kf_parse.specs.Reading as r
use Rattle.kf_parse.specs.Trimmed.{trimmed}
use Rattle.kf_parse.proofs.Shrinks.{other_items_steps}
use Rattle.kf_parse.proofs.Turns.{stops, turn_stuck, turn_deep, turn_got, turn_shorter, made}
use Rattle.kf_parse.proofs.cursor.Cursor.other_items.Goals as goal

-- what a turn takes behind its comma
abbrev turn : List ℕ → List ItemTree → Parser (List ItemTree)
turn src xs = r.one_item trimmed src >>= (λ y. pure (xs ++ y ∷ []))

pub items-smaller : goal.items-smaller
items-smaller c =
    let e = made (r.one_item trimmed c.args.self.now.src.now c.skip.new.self.rest.now) (λ y. map item_tree c.items.list.items ++ y ∷ []) (item_tree c.in_ok-item.field-0) c.item.new.self.rest.now (rw (c.skip.ensures.source, c.items.invariant.source) at c.in_ok-item.ensures.reads) in
    turn_shorter (tok.Sign sign.Comma) (turn c.args.self.now.src.now) (map item_tree c.items.list.items) c.skip.new.self.rest.now (other_items_steps trimmed c.args.self.now.src.now) c.items.self.rest.now c.item.new.self.rest.now (map item_tree c.items.list.items ++ item_tree c.in_ok-item.field-0 ∷ [])
    c.skip.ensures.rest (sym c.at.ensures ∙ c.items-test.true) e

pub items-preserved : goal.items-preserved
unfolding r.other_items
items-preserved c =
    let e = made (r.one_item trimmed c.args.self.now.src.now c.skip.new.self.rest.now) (λ y. map item_tree c.items.list.items ++ y ∷ []) (item_tree c.in_ok-item.field-0) c.item.new.self.rest.now (rw (c.skip.ensures.source, c.items.invariant.source) at c.in_ok-item.ensures.reads) in
    let same = turn_got (tok.Sign sign.Comma) (turn c.args.self.now.src.now) (map item_tree c.items.list.items) c.skip.new.self.rest.now (other_items_steps trimmed c.args.self.now.src.now) c.items.self.rest.now c.item.new.self.rest.now (map item_tree c.items.list.items ++ item_tree c.in_ok-item.field-0 ∷ [])
    c.skip.ensures.rest (sym c.at.ensures ∙ c.items-test.true) e in
    let i = c.items.invariant.rest in
    let m = map-append item_tree c.items.list.items (c.in_ok-item.field-0 ∷ []) in
    record { source = search rules; rest = first_of (search rules, grind (arith, common_steps)) }

pub returns-in_err-item-clause-reads : goal.returns-in_err-item-clause-reads
unfolding r.other_items
returns-in_err-item-clause-reads c =
    let source = c.skip.ensures.source ∙ c.items.invariant.source in
    let a = turn_stuck (tok.Sign sign.Comma) (turn c.args.self.now.src.now) (map item_tree c.items.list.items) c.skip.new.self.rest.now c.items.self.rest.now c.item.new.self.rest.now c.skip.ensures.rest (sym c.at.ensures ∙ c.items-test.true) in
    let b = turn_deep (tok.Sign sign.Comma) (turn c.args.self.now.src.now) (map item_tree c.items.list.items) c.skip.new.self.rest.now c.items.self.rest.now c.skip.ensures.rest (sym c.at.ensures ∙ c.items-test.true) in
    let i = c.items.invariant.rest in
    first_of (search (rules, a, b), grind (arith, common_steps, a, b))

pub returns-clause-reads : goal.returns-clause-reads
unfolding r.other_items
returns-clause-reads c =
    let a = stops (tok.Sign sign.Comma) (turn c.args.self.now.src.now) (map item_tree c.items.list.items) c.items.self.rest.now (sym c.at.ensures ∙ c.items-test.false) in
    let i = c.items.invariant.rest in
    first_of (search rules, grind (arith, common_steps))
