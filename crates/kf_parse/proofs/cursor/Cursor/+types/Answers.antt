use Rattle.std.proofs.Common.{rules, arith, ℕ, map, List, [], ◌∷◌, ◌++◌, Err, sym, ◌∙◌}
use Rattle.std.proofs.lemmas.Grind.{common_steps}
use Rattle.std.proofs.lemmas.List.{map-append}
use Rattle.std.proofs.lemmas.Result.{err_from_is_err_and}
use Rattle.kf_lex.specs.declared.token.Tok.TheVariants as tok
use Rattle.kf_lex.specs.declared.token.Sign.TheVariants as s
use Rattle.kf_lex.specs.declared.token.Word.TheVariants as w
use Rattle.kf_ast.specs.TypeForms.{TypeForm}
use Rattle.kf_ast.specs.Views.{type_form, ty_items}
use Rattle.kf_parse.specs.Outcomes.{Parser, ◌>>=◌, pure}
use Rattle.kf_parse.specs.Tokens.{is}
use Rattle.kf_parse.proofs.Shrinks.{type_shrinks, other_types_steps}
use Rattle.kf_parse.specs.Reading as r
use Rattle.kf_parse.proofs.Depths.{sets_step, sets_word, type_step}
use Rattle.kf_parse.proofs.Failing.{fails}
use Rattle.kf_parse.proofs.Followed.{read_on, read_behind, not_there}
use Rattle.kf_parse.proofs.Turns.{stops, turn_stuck, turn_deep, turn_got, turn_shorter, made}
use Rattle.kf_parse.proofs.cursor.Cursor.+types.Goals as goal

pub sets-returns-in_default-clause-reads : goal.sets-returns-in_default-clause-reads
sets-returns-in_default-clause-reads t c = rw (sets_step (r.type c.args.depth) c.args.count c.args.self.now.rest.now c.if-count-eq0.false) (search rules)

pub sets-returns-then-not-same-clause-reads : goal.sets-returns-then-not-same-clause-reads
sets-returns-then-not-same-clause-reads t c = rw (sets_step (r.type c.args.depth) c.args.count c.args.self.now.rest.now c.if-count-eq0.false) (search rules)

pub sets-returns-clause-reads : goal.sets-returns-clause-reads
sets-returns-clause-reads t c = rw (sets_word (r.type c.args.depth) c.args.count c.args.self.now.rest.now c.if-count-eq0.false c.in-Some.o c.skip.new.self.rest.now c.in-Some.ensures (sym c.same.ensures ∙ c.if-not-same.false) c.skip.ensures.rest) c.set_of.ensures.reads

pub type_tree-returns-then-depth-eq0-clause-reads : goal.type_tree-returns-then-depth-eq0-clause-reads
unfolding r.type
type_tree-returns-then-depth-eq0-clause-reads t c = search rules

pub type_tree-returns-clause-reads : goal.type_tree-returns-clause-reads
type_tree-returns-clause-reads t c = rw (type_step c.args.depth c.args.self.now.rest.now c.if-depth-eq0.false) c.sets.ensures.reads

abbrev types_loop : ℕ → List TypeForm → Parser (List TypeForm)
types_loop d xs = r.type d >>= (λ y. pure (xs ++ y ∷ []))

pub other_types-members-smaller : goal.other_types-members-smaller
other_types-members-smaller t c =
    let e = made (r.type c.args.depth c.skip.new.self.rest.now) (λ y. map type_form c.members.members.items ++ y ∷ []) (type_form c.in_ok-type_tree.field-0) c.type_tree.new.self.rest.now c.in_ok-type_tree.ensures.reads in
    turn_shorter (tok.Sign s.Comma) (types_loop c.args.depth) (map type_form c.members.members.items) c.skip.new.self.rest.now (other_types_steps (r.type c.args.depth) (type_shrinks c.args.depth))
    c.members.self.rest.now c.type_tree.new.self.rest.now (map type_form c.members.members.items ++ type_form c.in_ok-type_tree.field-0 ∷ []) c.skip.ensures.rest (sym c.at.ensures ∙ c.members-test.true) e

pub other_types-members-preserved : goal.other_types-members-preserved
unfolding r.other_types
other_types-members-preserved t c =
    let e = made (r.type c.args.depth c.skip.new.self.rest.now) (λ y. map type_form c.members.members.items ++ y ∷ []) (type_form c.in_ok-type_tree.field-0) c.type_tree.new.self.rest.now c.in_ok-type_tree.ensures.reads in
    let a = turn_got (tok.Sign s.Comma) (types_loop c.args.depth) (map type_form c.members.members.items) c.skip.new.self.rest.now (other_types_steps (r.type c.args.depth) (type_shrinks c.args.depth))
    c.members.self.rest.now c.type_tree.new.self.rest.now (map type_form c.members.members.items ++ type_form c.in_ok-type_tree.field-0 ∷ []) c.skip.ensures.rest (sym c.at.ensures ∙ c.members-test.true) e in
    let i = c.members.invariant.rest in
    let m = map-append type_form c.members.members.items (c.in_ok-type_tree.field-0 ∷ []) in
    record { source = search rules; rest = first_of (search rules, grind (arith, common_steps)) }

pub other_types-returns-in_err-type_tree-clause-reads : goal.other_types-returns-in_err-type_tree-clause-reads
unfolding r.other_types
other_types-returns-in_err-type_tree-clause-reads t c =
    let a = turn_stuck (tok.Sign s.Comma) (types_loop c.args.depth) (map type_form c.members.members.items) c.skip.new.self.rest.now c.members.self.rest.now c.type_tree.new.self.rest.now c.skip.ensures.rest (sym c.at.ensures ∙ c.members-test.true) in
    let b = turn_deep (tok.Sign s.Comma) (types_loop c.args.depth) (map type_form c.members.members.items) c.skip.new.self.rest.now c.members.self.rest.now c.skip.ensures.rest (sym c.at.ensures ∙ c.members-test.true) in
    let i = c.members.invariant.rest in
    first_of (search (rules, a, b), grind (arith, common_steps, a, b))

pub other_types-returns-clause-reads : goal.other_types-returns-clause-reads
unfolding r.other_types
other_types-returns-clause-reads t c =
    let a = stops (tok.Sign s.Comma) (types_loop c.args.depth) (map type_form c.members.members.items) c.members.self.rest.now (sym c.at.ensures ∙ c.members-test.false) in
    let i = c.members.invariant.rest in
    first_of (search rules, grind (arith, common_steps))

pub set_of-returns-in_err-expect-clause-reads : goal.set_of-returns-in_err-expect-clause-reads
set_of-returns-in_err-expect-clause-reads t c =
    let p = err_from_is_err_and c.from_residual.result c.from_residual.ensures.1 in
    rw (p.1, p.2) (not_there type_form (is (tok.Word w.OfWord)) _ c.args.self.now.rest.now c.in_err-expect.field-0.0 c.expect.new.self.rest.now
    c.in_err-expect.ensures.reads)

pub set_of-returns-in_err-base-clause-reads : goal.set_of-returns-in_err-base-clause-reads
set_of-returns-in_err-base-clause-reads t c =
    let p = err_from_is_err_and c.from_residual-in_err-base.result c.from_residual-in_err-base.ensures.1 in
    rw (p.1, p.2) (read_behind type_form (is (tok.Word w.OfWord)) _ c.args.self.now.rest.now c.expect.new.self.rest.now c.in_ok-expect.field-0
    (Err c.in_err-base.field-0.0) c.sets.new.self.rest.now c.in_ok-expect.ensures.reads
    (fails type_form type_form _ _ c.in_err-base.field-0.0 c.sets.new.self.rest.now c.in_err-base.ensures.reads))

pub tuple_type-returns-in_err-type_tree-clause-reads : goal.tuple_type-returns-in_err-type_tree-clause-reads
unfolding r.tuple_type
tuple_type-returns-in_err-type_tree-clause-reads t c =
    let p = err_from_is_err_and c.from_residual.result c.from_residual.ensures.1 in
    rw (p.1, p.2) (fails type_form type_form _ _ c.in_err-type_tree.field-0.0 c.type_tree.new.self.rest.now c.in_err-type_tree.ensures.reads)

pub tuple_type-returns-in_err-expect-clause-reads : goal.tuple_type-returns-in_err-expect-clause-reads
unfolding r.tuple_type
tuple_type-returns-in_err-expect-clause-reads t c =
    let p = err_from_is_err_and c.from_residual-in_err-expect.result c.from_residual-in_err-expect.ensures.1 in
    rw (p.1, p.2) (read_on type_form _ _ (type_form c.in_ok-type_tree.field-0) c.type_tree.new.self.rest.now (Err c.in_err-expect.field-0.0)
    c.expect.new.self.rest.now c.in_ok-type_tree.ensures.reads
    (not_there type_form (is (tok.Sign s.Comma)) _ c.type_tree.new.self.rest.now c.in_err-expect.field-0.0 c.expect.new.self.rest.now
    c.in_err-expect.ensures.reads))

pub tuple_type-returns-in_err-type_tree-2-clause-reads : goal.tuple_type-returns-in_err-type_tree-2-clause-reads
unfolding r.tuple_type
tuple_type-returns-in_err-type_tree-2-clause-reads t c =
    let p = err_from_is_err_and c.from_residual-in_err-type_tree-2.result c.from_residual-in_err-type_tree-2.ensures.1 in
    rw (p.1, p.2) (read_on type_form _ _ (type_form c.in_ok-type_tree.field-0) c.type_tree.new.self.rest.now (Err c.in_err-type_tree-2.field-0.0)
    c.type_tree-2.new.self.rest.now c.in_ok-type_tree.ensures.reads
    (read_behind type_form (is (tok.Sign s.Comma)) _ c.type_tree.new.self.rest.now c.expect.new.self.rest.now c.in_ok-expect.field-0
    (Err c.in_err-type_tree-2.field-0.0) c.type_tree-2.new.self.rest.now c.in_ok-expect.ensures.reads
    (fails type_form type_form _ _ c.in_err-type_tree-2.field-0.0 c.type_tree-2.new.self.rest.now c.in_err-type_tree-2.ensures.reads)))

pub tuple_type-returns-clause-reads : goal.tuple_type-returns-clause-reads
unfolding r.tuple_type
tuple_type-returns-clause-reads t c =
    read_on type_form _ _ (type_form c.in_ok-type_tree.field-0) c.type_tree.new.self.rest.now c.tuple_of.result c.tuple_of.new.self.rest.now
    c.in_ok-type_tree.ensures.reads
    (read_behind type_form (is (tok.Sign s.Comma)) _ c.type_tree.new.self.rest.now c.expect.new.self.rest.now c.in_ok-expect.field-0
    c.tuple_of.result c.tuple_of.new.self.rest.now c.in_ok-expect.ensures.reads
    (read_on type_form _ _ (type_form c.in_ok-type_tree-2.field-0) c.type_tree-2.new.self.rest.now c.tuple_of.result c.tuple_of.new.self.rest.now
    c.in_ok-type_tree-2.ensures.reads
    (rw (c.in_ok-push-2.ensures.items, c.in_ok-push.ensures.items, c.new-members.ensures.items) at c.tuple_of.ensures.reads)))

pub tuple_of-returns-in_err-members-clause-reads : goal.tuple_of-returns-in_err-members-clause-reads
tuple_of-returns-in_err-members-clause-reads t c =
    let p = err_from_is_err_and c.from_residual.result c.from_residual.ensures.1 in
    rw (p.1, p.2) (fails (λ l. map type_form (ty_items l)) type_form _ _ c.in_err-members.field-0.0 c.other_types.new.self.rest.now
    c.in_err-members.ensures.reads)

pub tuple_of-returns-in_err-expect-clause-reads : goal.tuple_of-returns-in_err-expect-clause-reads
tuple_of-returns-in_err-expect-clause-reads t c =
    let p = err_from_is_err_and c.from_residual-in_err-expect.result c.from_residual-in_err-expect.ensures.1 in
    rw (p.1, p.2) (read_on type_form _ _ (map type_form (ty_items c.in_ok-members.members)) c.other_types.new.self.rest.now
    (Err c.in_err-expect.field-0.0) c.expect.new.self.rest.now c.in_ok-members.ensures.reads
    (not_there type_form (is (tok.Sign s.ParenClose)) _ c.other_types.new.self.rest.now c.in_err-expect.field-0.0 c.expect.new.self.rest.now
    c.in_err-expect.ensures.reads))
