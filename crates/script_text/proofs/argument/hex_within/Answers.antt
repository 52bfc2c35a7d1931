use Rattle.script_text.proofs.{Words.{sym, ◌∙◌, ap, ok_or, eqb-true, eqb-false, with_items_is}, HexLemmas.{hex_argument-empty, hex_argument-odd}, HexPairs.argument_is, argument.hex_within.Goals.{then-is_empty-via-then-is_empty, then-is_empty-via-else-is_empty+then-word-eq1}}
use Rattle.std.specs.Prelude.{Ok}

pub returns-then-is_empty : Rattle.script_text.proofs.argument.hex_within.Goals.returns-then-is_empty
returns-then-is_empty c = elim c.then-is_empty.branch [
  | then-is_empty-via-then-is_empty w ↦ hex_argument-empty c.args.word.now (eqb-true _ _ (sym c.is_empty.ensures ∙ w.if-is_empty.true))
  | then-is_empty-via-else-is_empty+then-word-eq1 w ↦ hex_argument-odd c.args.word.now w.if-word-eq1.true
]

pub returns-then-not-decode : Rattle.script_text.proofs.argument.hex_within.Goals.returns-then-not-decode
returns-then-not-decode c =
    argument_is c.args.word.now (eqb-false _ _ (sym c.if-is_empty.ensures))
    ∙ ap (λ o. ok_or o 5) (rw c.if-not-decode.true at c.decode.ensures)

pub returns : Rattle.script_text.proofs.argument.hex_within.Goals.returns
returns c =
    let whole = with_items_is c.fit.new.memory c.decode.new.room (c.decode.auto.room ∙ c.as_mut_slice.ensures.len) in
    argument_is c.args.word.now (eqb-false _ _ (sym c.if-is_empty.ensures))
    ∙ ap (λ o. ok_or o 5) (rw c.if-not-decode.false at c.decode.ensures)
    ∙ ap Ok (sym (c.of.ensures ∙ whole))
