use Rattle.script_text.proofs.Readings.{operation_of-printed, line_text-injective, parse-printed, words_of-printed}

pub returns : Rattle.script_text.proofs.laws.printed_lines_are_read.Goals.returns
returns c = record {
  words = words_of-printed;
  operations = operation_of-printed;
  lines = parse-printed;
  one = line_text-injective;
}
