use Rattle.script_model.proofs.{ScriptBytes.script_lines, Words.{empty_world_is, world_is_serial}, Steps.{step_leads, after_leads}}

pub returns : Rattle.script_model.proofs.laws.worlds_stay_sound.Goals.returns
returns _ = record {
  made = empty_world_is;
  step = step_leads;
  lines = after_leads;
  script = script_lines;
  serial = λ W k is form mode from to. world_is_serial W is form mode k from to;
}
