use Rattle.std.proofs.{Common.{arith, length}, lemmas.Result.err_from_is_err_and, lemmas.Grind.common_steps}
use Rattle.iso_io.proofs.Told.{lost_after}

-- the exit of the `?`
pub returns-in_err-take_piece-clause-err : Rattle.iso_io.proofs.source.take_all.Goals.returns-in_err-take_piece-clause-err
returns-in_err-take_piece-clause-err g c =
    let p = err_from_is_err_and c.from_residual-in_err-take_piece.result c.from_residual-in_err-take_piece.ensures.1 in
    rw p.1 (lost_after _ _ _ c.loop-bytes.bytes.items (length c.take_piece.new.piece) c.args.limit c.loop-bytes.invariant.took (grind (arith, common_steps)) c.in_err-take_piece.ensures.err)
