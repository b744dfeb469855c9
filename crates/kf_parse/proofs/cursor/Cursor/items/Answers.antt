use Rattle.std.proofs.Common.{map, Ok, Err, refl}
use Rattle.std.proofs.lemmas.Result.{err_from_is_err_and}
use Rattle.kf_ast.specs.Views.{item_tree, target_items}
use Rattle.kf_lex.specs.declared.token.Tok.TheVariants as tok
use Rattle.kf_lex.specs.declared.token.Sign.TheVariants as sign
use Rattle.kf_parse.specs.Reading as r
use Rattle.kf_parse.specs.Tokens.{is}
use Rattle.kf_parse.proofs.Failing.{fails}
use Rattle.kf_parse.proofs.Followed.{stopped_as, read_on, read_behind, not_there}
use Rattle.kf_parse.proofs.cursor.Cursor.items.Goals as goal

pub returns-in_err-item-clause-reads : goal.returns-in_err-item-clause-reads
unfolding r.items
returns-in_err-item-clause-reads c =
    let p = err_from_is_err_and c.from_residual.result c.from_residual.ensures.1 in
    rw (p.1, p.2) (fails item_tree (λ l. map item_tree (target_items l)) _ _ c.in_err-item.field-0.0 c.item.new.self.rest.now
    c.in_err-item.ensures.reads)

pub returns-in_err-items-clause-reads : goal.returns-in_err-items-clause-reads
unfolding r.items
returns-in_err-items-clause-reads c =
    let h = stopped_as _ _ _ _ (rw (c.item.ensures.source, c.in_ok-push.ensures.items, c.new-list.ensures.items) at c.other_items.ensures.reads) _
    c.in_err-items.was in
    let p = err_from_is_err_and c.from_residual-in_err-items.result c.from_residual-in_err-items.ensures.1 in
    rw (p.1, p.2) (read_on (λ l. map item_tree (target_items l)) _ _ (item_tree c.in_ok-item.field-0) c.item.new.self.rest.now
    (Err c.in_err-items.field-0.0) c.other_items.new.self.rest.now c.in_ok-item.ensures.reads
    (fails (λ l. map item_tree (target_items l)) (λ l. map item_tree (target_items l)) _ _ c.in_err-items.field-0.0
    c.other_items.new.self.rest.now h))

pub returns-in_err-expect-clause-reads : goal.returns-in_err-expect-clause-reads
unfolding r.items
returns-in_err-expect-clause-reads c =
    let others = rw (c.item.ensures.source, c.in_ok-push.ensures.items, c.new-list.ensures.items) at c.in_ok-items.ensures.reads in
    let p = err_from_is_err_and c.from_residual-in_err-expect.result c.from_residual-in_err-expect.ensures.1 in
    rw (p.1, p.2) (read_on (λ l. map item_tree (target_items l)) _ _ (item_tree c.in_ok-item.field-0) c.item.new.self.rest.now
    (Err c.in_err-expect.field-0.0) c.expect.new.self.rest.now c.in_ok-item.ensures.reads
    (read_on (λ l. map item_tree (target_items l)) _ _ (map item_tree (target_items c.in_ok-items.items)) c.other_items.new.self.rest.now
    (Err c.in_err-expect.field-0.0) c.expect.new.self.rest.now others
    (not_there (λ l. map item_tree (target_items l)) (is (tok.Sign sign.Semi)) _ c.other_items.new.self.rest.now c.in_err-expect.field-0.0
    c.expect.new.self.rest.now c.in_err-expect.ensures.reads)))

pub returns-clause-reads : goal.returns-clause-reads
unfolding r.items
returns-clause-reads c =
    let others = rw (c.item.ensures.source, c.in_ok-push.ensures.items, c.new-list.ensures.items) at c.in_ok-items.ensures.reads in
    read_on (λ l. map item_tree (target_items l)) _ _ (item_tree c.in_ok-item.field-0) c.item.new.self.rest.now (Ok c.in_ok-items.items)
    c.expect.new.self.rest.now c.in_ok-item.ensures.reads
    (read_on (λ l. map item_tree (target_items l)) _ _ (map item_tree (target_items c.in_ok-items.items)) c.other_items.new.self.rest.now
    (Ok c.in_ok-items.items) c.expect.new.self.rest.now others
    (read_behind (λ l. map item_tree (target_items l)) (is (tok.Sign sign.Semi)) _ c.other_items.new.self.rest.now c.expect.new.self.rest.now
    c.in_ok-expect.field-0 (Ok c.in_ok-items.items) c.expect.new.self.rest.now c.in_ok-expect.ensures.reads refl))
