use Rattle.command_line.proofs.Words.{◌≡◌, ◌∙◌, ap, codes, app_of, app_of_fields, bare_app, with_required}

pub returns : Rattle.command_line.proofs.command.isotope_command.Goals.returns
returns c =
    let top : app_of c.subcommand_required.result ≡ with_required (bare_app (codes "isotope")) =
    ap app_of_fields c.subcommand_required.ensures ∙ ap with_required c.bare.ensures.app_is in
    let a1 = c.with_command-made.ensures _ _ top c.new_command.ensures in
    let a2 = c.with_command-made-2.ensures _ _ a1 c.with_image.ensures in
    let a3 = c.with_command-made-3.ensures _ _ a2 c.with_image-2.ensures in
    let a4 = c.with_command-made-4.ensures _ _ a3 c.with_image-3.ensures in
    record { app = c.with_command.ensures _ _ a4 c.bench_command.ensures }
