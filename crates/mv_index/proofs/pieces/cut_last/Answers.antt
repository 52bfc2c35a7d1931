-- The last piece is cut.
use Rattle.mv_index.proofs.{Words.{◌∙◌, ap, arith, ◌-◌, length, set, front_of, no_version}, Laid.ended_set}

pub returns-in-Some : Rattle.mv_index.proofs.pieces.cut_last.Goals.returns-in-Some
returns-in-Some c =
    ap (set c.args.pieces.now (length c.args.pieces.now - 1)) (c.front.ensures ∙ ap (front_of c.args.byte) (c.in-Some.ensures.item.3.1 no_version))
    ∙ ended_set c.args.byte (length c.args.pieces.now - 1) c.args.pieces.now (omega (arith, c.in-Some.ensures.item.3.0))
