-- The first bit from a place on is where the word, shifted by the number of that place, ends in zeros.
use Rattle.merge_write.proofs.{Words.{◌∙◌, sym, ap, ◌-◌, arith, bit_at-zero, bit_at}, Bits.{bit_from, zeros_are}}

pub returns-then-rest-eq0-clause-zeros : Rattle.merge_write.proofs.masks.zeros_from.Goals.returns-then-rest-eq0-clause-zeros
returns-then-rest-eq0-clause-zeros c k from below =
    sym (bit_from c.args.word c.args.from k from) ∙ ap (λ n. bit_at n (k - c.args.from)) c.if-rest-eq0.true ∙ bit_at-zero (k - c.args.from)

pub returns-else-rest-eq0-clause-within : Rattle.merge_write.proofs.masks.zeros_from.Goals.returns-else-rest-eq0-clause-within
returns-else-rest-eq0-clause-within c = (zeros_are c.args.word c.args.from (omega arith) (omega arith)).0

pub returns-else-rest-eq0-clause-zeros : Rattle.merge_write.proofs.masks.zeros_from.Goals.returns-else-rest-eq0-clause-zeros
returns-else-rest-eq0-clause-zeros c = (zeros_are c.args.word c.args.from (omega arith) (omega arith)).2

pub returns-else-rest-eq0-clause-stops : Rattle.merge_write.proofs.masks.zeros_from.Goals.returns-else-rest-eq0-clause-stops
returns-else-rest-eq0-clause-stops c _ = (zeros_are c.args.word c.args.from (omega arith) (omega arith)).1
