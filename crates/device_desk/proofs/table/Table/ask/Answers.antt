use Rattle.iso_machine.proofs.{Words.{◌∙◌, sym, refl, ap, subst, Ok, Op, Reply, step, disk_of, Always, GoesOn}, Asked.{access_is, same_compact, same_trim, same_upgrade, stat_is, store_so}, Quiet.answers_as, Told.{never_plain, told_as, told_so}}
use Rattle.device_desk.proofs.Tables.{stays_with}
use Rattle.device_desk.proofs.table.Table.ask.Goals as goal

pub returns-in-Put : goal.returns-in-Put
returns-in-Put g c W of isop =
    told_so c.access.result (λ why may. tt) (answers_as (access_is W c.args.number c.args.op.now c.in-Put.is) (c.access.ensures W of isop))

pub returns-in-Trim : goal.returns-in-Trim
returns-in-Trim g c W of isop =
    told_so c.trim.result (λ why may. tt) (answers_as (same_trim W 0 c.args.number ∙ sym (ap (λ (o : Op). step W c.args.number o) c.in-Trim.is)) (c.trim.ensures W of))

pub returns-in-Stat : goal.returns-in-Stat
returns-in-Stat g c W of isop =
    told_so {known = Always} (Ok c.stat.result) (λ why may. tt)
    (stays_with of (g.met.D.Disk.lawful (disk_of c.args.self.now.core)) refl
    (ap (λ (o : Op). step W c.args.number o) c.in-Stat.is ∙ stat_is W c.args.number ∙ ap (λ (r : Reply). (r, W)) (sym (c.stat.ensures W of))) of)

pub returns-in-Compact : goal.returns-in-Compact
returns-in-Compact g c W of isop =
    told_so c.compact.result (λ why may. subst (λ (o : Op). GoesOn o why) c.in-Compact.is may) (answers_as (same_compact W 0 c.args.number ∙ sym (ap (λ (o : Op). step W c.args.number o) c.in-Compact.is)) (c.compact.ensures W of))

pub returns-in-Upgrade : goal.returns-in-Upgrade
returns-in-Upgrade g c W of isop =
    told_so c.upgrade.result (λ why may. subst (λ (o : Op). GoesOn o why) c.in-Upgrade.is may) (answers_as (same_upgrade W 0 c.args.number ∙ sym (ap (λ (o : Op). step W c.args.number o) c.in-Upgrade.is)) (c.upgrade.ensures W of))

pub returns-in-Abort : goal.returns-in-Abort
returns-in-Abort g c W of isop =
    told_so c.abort.result (λ why may. tt) (answers_as (sym (ap (λ (o : Op). step W c.args.number o) c.in-Abort.is)) (c.abort.ensures W of))

pub returns-in-End : goal.returns-in-End
returns-in-End g c W of isop =
    told_so c.end.result (λ why may. subst (λ (o : Op). GoesOn o why) c.in-End.is may) (answers_as (sym (ap (λ (o : Op). step W c.args.number o) c.in-End.is)) (c.end.ensures W of))

pub returns-in-HashPut : goal.returns-in-HashPut
returns-in-HashPut g c W of isop =
    let so = store_so W c.args.number c.args.op.now c.in-HashPut.is in
    never_plain c.stored.result so.1 (λ why may. tt) (told_as so.0 (c.stored.ensures.answer W of))
