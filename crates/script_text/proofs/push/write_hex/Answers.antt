use Rattle.script_text.proofs.{Words.{Result, Ok, Err, ◌∙◌, arith, IsOk, OnOk, false≢true}, HexLemmas.encode_lower-hex_text}

on_ok : {T E P : Type 0} (r : Result T E) → IsOk r → OnOk r P → P
on_ok (Ok x) ok p = p
on_ok (Err e) ok p = absurd (false≢true ok)

pub returns : Rattle.script_text.proofs.push.write_hex.Goals.returns
returns c =
    on_ok c.encode_to_slice.result (c.encode_to_slice.ensures.fits.1 c.requires) c.encode_to_slice.ensures.written
    ∙ encode_lower-hex_text c.args.bytes.now (λ i. omega (arith, c.type_inv.bytes i))
