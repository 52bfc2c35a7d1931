use Rattle.iso_shared.proofs.{Words.{arith, ap, ◌∙◌, View, Entry}, Handed.{no_more, no_place}}
use Rattle.turn_lock.proofs.Prefixes.{longer_whole}

pub returns : Rattle.iso_shared.proofs.shared.Shared.spend_note.Goals.returns
returns g c =
    let units = ap (λ (v : View Entry). v.units) c.join.ensures.view_is ∙ no_more _ _ c.requires.tx.bare.2 in
    record {
      port = (c.join.ensures.lock.0 ∙ c.requires.port.0, c.join.ensures.stays c.requires.port.1, omega (arith, units, c.requires.port.2));
      units = units;
      seen = ap (λ (v : View Entry). v.seen) c.join.ensures.view_is ∙ longer_whole _ _ c.requires.tx.seen_is;
      places = λ p. c.join.ensures.places p ∙ no_place p _ _ c.requires.tx.bare.0;
    }
