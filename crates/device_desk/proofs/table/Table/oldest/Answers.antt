use Rattle.iso_machine.proofs.Words.{◌∙◌, ◌==◌, List, Live, ap, find, floor_of, last, map, option_map}
use Rattle.device_desk.specs.Seats.{live_of}

pub returns : Rattle.device_desk.proofs.table.Table.oldest.Goals.returns
returns g c W of =
    c.first_begun.ensures (last W.history)
    ∙ ap (λ (l : List Live). option_map (λ t. t.number) (find (λ t. t.begin == floor_of (last W.history) l) l)) (ap (map live_of) c.deref.ensures.value ∙ of.live_are)
