-- The lanes whose bit is set take the values, and nothing else changes.
use Rattle.merge_write.proofs.{Words.{◌∙◌, ap, ◌+◌, Bool, List, get_or, eqb, bit_and, w8, arith, zip2, sel_l, chunk, put_chunk, tops_compared, get_or-put_chunk_below, get_or-put_chunk_above}, Chosen.{lane_bits, chosen, selected_at, length-selected}}

pub returns : Rattle.merge_write.proofs.lanes.lay_lanes.Goals.returns
returns c =
    let values = c.args.values.now in
    let into = c.args.into.now in
    let at = c.args.at in
    let tops = tops_compared w8 eqb (zip2 bit_and c.args.masks lane_bits) lane_bits in
    record {
      lanes = λ k below.
          ap (λ (ms : List Bool). get_or (put_chunk at into (sel_l ms (chunk at 64 values) (chunk at 64 into))) (at + k) 0) tops
          ∙ selected_at at k c.args.masks values into c.requires.masks c.requires.values c.requires.into below;
      before = λ k below. get_or-put_chunk_below at into _ k 0 below;
      behind = λ k past.
          ap (λ (ms : List Bool). get_or (put_chunk at into (sel_l ms (chunk at 64 values) (chunk at 64 into))) k 0) tops
          ∙ get_or-put_chunk_above at into (sel_l (chosen c.args.masks) (chunk at 64 values) (chunk at 64 into)) k 0
          (omega (arith, length-selected at c.args.masks values into c.requires.masks c.requires.values c.requires.into));
    }
