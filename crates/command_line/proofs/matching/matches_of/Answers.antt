use Rattle.command_line.proofs.{Words.{◌≡◌, ◌∙◌, sym, true, false, app_of, kind_of, OutOfMemory, texts}, Grammars.{taken, refused}}

pub returns-in-Ok-try_get_matches_from : Rattle.command_line.proofs.matching.matches_of.Goals.returns-in-Ok-try_get_matches_from
returns-in-Ok-try_get_matches_from c =
    let e = c.in-Ok-try_get_matches_from.ensures in
    taken (app_of c.in-Ok.command) (texts c.args.words.now) c.in-Ok-try_get_matches_from.matches c.in-Ok.ensures.app e.kinds e.matches

pub returns : Rattle.command_line.proofs.matching.matches_of.Goals.returns
returns c =
    refused (app_of c.in-Ok.command) (texts c.args.words.now) c.in-Err.error c.in-Ok.ensures.app c.in-Err.ensures.kinds
    (λ (e : kind_of c.in-Err.error ≡ OutOfMemory).
    let bad : true ≡ false = rw (c.kind.ensures, e) at (sym c.eq.ensures ∙ c.if-eq.false) in
    cc)
