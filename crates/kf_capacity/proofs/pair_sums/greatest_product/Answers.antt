use Rattle.std.proofs.Common.{max, ap, sym, ◌∙◌, arith}
use Rattle.std.proofs.lemmas.Slice.Zip.{zip_end}
use Rattle.kf_capacity.specs.Vulnerabilities.{greatest}
use Rattle.kf_capacity.proofs.Fitting.{products_done}
use Rattle.kf_capacity.proofs.pair_sums.greatest_product.Goals as goal

pub returns : goal.returns
returns c =
    let all = zip_end c.args.column.now c.args.other.now c.loop-m.yielded
    c.into_iter-m-iterator.result c.loop-m.m-iterator c.next.new.self c.next.result (cc) (cc) c.loop-m.yielded_by c.in-None.is c.next.ensures.steps in
    let done = products_done _ c.args.column.now c.args.other.now all in
    let none = ap (λ ns. max c.loop-m.most (greatest ns)) (sym done) ∙ c.loop-m.invariant in
    omega (arith, none)
