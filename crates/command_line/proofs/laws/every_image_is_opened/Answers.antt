use Rattle.command_line.proofs.{Opened.{par_opens, recover_opens, run_opens}, Words.{refl, clap_on_literals, request_of, rows_found, task_of}}

pub returns : Rattle.command_line.proofs.laws.every_image_is_opened.Goals.returns
unfolding clap_on_literals request_of rows_found task_of
returns c = record {
  run = run_opens;
  run_behind_the_end = λ program image. refl;
  par = par_opens;
  par_behind_the_end = λ program image. refl;
  recover = recover_opens;
  recover_behind_the_end = λ program image. refl;
}
