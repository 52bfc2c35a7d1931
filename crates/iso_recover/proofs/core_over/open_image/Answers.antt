-- What was opened is what the image shows.
use Rattle.iso_recover.proofs.{Words.◌∙◌, Reopens.{fails_nothing, reopened}}

pub returns-in-Ok-clause-shown : Rattle.iso_recover.proofs.core_over.open_image.Goals.returns-in-Ok-clause-shown
returns-in-Ok-clause-shown g c image h H p told shows =
    let (history, is) = c.in-Ok.ensures.opened in
    reopened g.D.Disk.state c.over.result image h c.in-Ok.opened.geometry c.in-Ok.opened.generation H history p
    (c.over.ensures.stands history is.to is.size is.holds) (is.told.image image (c.read_image.ensures.unwritten.same_contents ∙ told)) shows

pub returns-in-Err-clause-opens : Rattle.iso_recover.proofs.core_over.open_image.Goals.returns-in-Err-clause-opens
returns-in-Err-clause-opens g c image h H p told shows test = fails_nothing image h H p c.in-Err.error shows (c.in-Err.ensures.refused test image told)
