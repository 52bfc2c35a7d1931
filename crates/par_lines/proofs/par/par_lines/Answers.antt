use Rattle.par_lines.proofs.Words.{◌≡◌, ap, subst, sym, ◌∙◌, All, clients_in, lines_of}

pub run_dealt-requires-clause-clients : Rattle.par_lines.proofs.par.par_lines.Goals.run_dealt-requires-clause-clients
run_dealt-requires-clause-clients g c κs within = c.in-Ok.ensures.clients ∙ ap (λ v. clients_in v.items) (sym c.of-all.ensures)

pub run_dealt-requires-clause-dealt : Rattle.par_lines.proofs.par.par_lines.Goals.run_dealt-requires-clause-dealt
run_dealt-requires-clause-dealt g c κs within = subst (λ v. All (λ a. a.1.items ≡ lines_of a.0 v.items) c.in-Ok.dealt.items) (sym c.of-all.ensures) c.in-Ok.ensures.lines
