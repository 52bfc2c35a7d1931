pub returns-in-Some-clause-succeeds : Rattle.script_text.proofs.reply_line.ReplyLine.set_other.Goals.returns-in-Some-clause-succeeds
returns-in-Some-clause-succeeds c = λ short.
    absurd (c.in-Some.ensures.long short)
