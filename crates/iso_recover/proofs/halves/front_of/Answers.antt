use Rattle.iso_recover.proofs.{Words.{◌≡◌, None, arith, ap, sym, ◌∙◌, subst, header_place, HalfPlace, in_form, header_refusal, IsSaid, front_said}, Headers.said_is}

pub returns-clause-said : Rattle.iso_recover.proofs.halves.front_of.Goals.returns-clause-said
returns-clause-said c =
    let geometry = c.args.geometry.now in
    let header = c.args.header.now in
    let half = c.args.half in
    let passes : header_refusal (header_place c.args.geometry.now c.args.half) c.args.header.now ≡ None =
    ap (λ (p : HalfPlace). header_refusal p.header header) (sym c.half_place-place.ensures) ∙ sym c.header_refusal.ensures ∙ c.in_default.is in
    let said = c.read_half-said.ensures.fields in
    let place = c.half_place-place.ensures in
    let same : front_said c.args.geometry.now c.args.half c.args.header.now ≡ record {
      geometry = in_form c.read_half-said.result.form c.args.geometry.now;
      half = c.args.half;
      generation = c.read_half-said.result.generation;
      base = c.read_half-said.result.base;
      log = c.half_place-place.result.log;
    } =
    λ i. record { geometry = in_form (sym said i).form geometry; half = half; generation = (sym said i).generation; base = (sym said i).base; log = (sym place i).log } in
    subst (IsSaid c.args.geometry.now c.args.half c.args.header.now) same
    (said_is c.args.geometry.now c.args.half c.args.header.now c.requires.valid (λ i. omega (arith, c.type_inv.header i)) c.requires.size c.requires.opened passes)
