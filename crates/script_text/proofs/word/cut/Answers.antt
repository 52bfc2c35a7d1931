-- The word, and the space after it or the end of the text.
use Rattle.script_text.proofs.WordCuts.{cut_at, cut_end}

pub returns-then-text-at-eq32-clause-words : Rattle.script_text.proofs.word.cut.Goals.returns-then-text-at-eq32-clause-words
returns-then-text-at-eq32-clause-words c =
    cut_at c.args.text.now c.split_at.result.0.now c.split_at.result.1.now c.split_at-then-text-at-eq32.result.1.now c.bytes.at c.bytes-test.true c.if-text-at-eq32.true
    c.split_at.ensures.front c.split_at.ensures.back c.split_at-then-text-at-eq32.ensures.back c.bytes.invariant.1

pub returns-clause-words : Rattle.script_text.proofs.word.cut.Goals.returns-clause-words
returns-clause-words c = cut_end c.args.text.now c.split_at-2.result.0.now c.split_at-2.result.1.now c.bytes.at c.bytes-test.false c.split_at-2.ensures.front c.split_at-2.ensures.back c.bytes.invariant.1
