use Rattle.iso_fs.proofs.{Words.{◌∙◌, sym, arith, ◌-◌}, WriteSteps.{news_below, number_new, number_old, old_below}}
use Rattle.iso_fs.proofs.storing.number_at.Goals as goal

pub returns-then-place-old-clause-number : goal.returns-then-place-old-clause-number
returns-then-place-old-clause-number c = c.entry_at.ensures ∙ sym (number_old c.args.file.now.area c.args.file.now.bytes.now c.args.news.now c.args.file.now.count c.args.file.now.counted c.args.place c.if-place-old.true)

pub returns-then-place-old-clause-below : goal.returns-then-place-old-clause-below
returns-then-place-old-clause-below c = grind (arith, old_below) steps 100000

pub returns-clause-number : goal.returns-clause-number
returns-clause-number c = sym (number_new c.args.file.now.area c.args.file.now.bytes.now c.args.news.now c.args.file.now.count c.args.file.now.counted c.args.place (let past = c.if-place-old.false in omega arith))

pub returns-clause-below : goal.returns-clause-below
returns-clause-below c = news_below c.args.file.now.area c.args.news.now (c.args.place - c.args.file.now.count) c.requires.news (let past = c.if-place-old.false in let inside = c.requires.place in omega arith)
