use Rattle.std.proofs.lemmas.Result.{err_from_is_err_and}
use Rattle.std.proofs.Common.{List, ℕ, subst, length, ◌≤◌, ◌≡◌, false, true}
use Rattle.kf_io.specs.Writes.{AppendsSome}
use Rattle.kf_io.proofs.Pieces.{front_at, fits_at}
use Rattle.kf_io.proofs.writing.write_pieces.Goals as goal

pub returns-in_err-write_all-clause-front : goal.returns-in_err-write_all-clause-front
returns-in_err-write_all-clause-front g c =
    let p = err_from_is_err_and c.from_residual.result c.from_residual.ensures.1 in
    rw p.1 (front_at (λ p. p.now) c.args.pieces.now c.pieces.piece-index _ c.pieces-test.true _ _ _ c.pieces.invariant.took
    (subst (λ (bytes : List ℕ). AppendsSome (g.O.Sink.taken c.pieces.sink) (g.O.Sink.taken c.write_all.new.sink) bytes) c.as_bytes.ensures.value c.in_err-write_all.ensures.front))

pub returns-in_err-write_all-clause-certain : goal.returns-in_err-write_all-clause-certain
returns-in_err-write_all-clause-certain g c fits =
    let never = subst (λ (bytes : List ℕ). length bytes ≤ g.O.Sink.room c.pieces.sink → false ≡ true) c.as_bytes.ensures.value c.in_err-write_all.ensures.certain in
    let wrong : false ≡ true = never (fits_at (λ p. p.now) c.args.pieces.now c.pieces.piece-index _ c.pieces-test.true _ _ fits c.pieces.invariant.left) in
    absurd (cc wrong)
