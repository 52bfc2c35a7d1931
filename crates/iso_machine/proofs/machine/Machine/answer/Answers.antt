use Rattle.iso_machine.proofs.{Words.{◌≡◌, ◌∙◌, ◌⊎◌, inl, inr, sym, refl, ap, subst, ℕ, List, Ok, Op, Reply, step, World, IsOp, disk_of, Always, GoesOn}, Asked.{access_is, same_compact, same_trim, same_upgrade, stat_is, store_so}, Quiet.{answers_as, stays_with}, Told.{never_plain, told_as, told_so}}
use Rattle.script_model.specs.declared.script.Op.TheVariants as op
use Rattle.iso_machine.proofs.machine.Machine.answer.Goals as goal

pub returns-in-Put : goal.returns-in-Put
returns-in-Put g c W of =
    told_so c.access.result (λ why may. tt) (answers_as (access_is W c.args.client c.args.op.now c.in-Put.is) (c.access.ensures c.requires.op W of))

pub returns-in-Trim : goal.returns-in-Trim
returns-in-Trim g c W of =
    told_so c.trim.result (λ why may. tt) (answers_as (same_trim W 1 c.args.client ∙ sym (ap (λ (o : Op). step W c.args.client o) c.in-Trim.is)) (c.trim.ensures W of))

pub returns-in-Stat : goal.returns-in-Stat
returns-in-Stat g c W of =
    told_so {known = Always} (Ok c.stat.result) (λ why may. tt)
    (stays_with (g.met.D.Disk.lawful (disk_of c.args.self.now.core)) of refl
    (ap (λ (o : Op). step W c.args.client o) c.in-Stat.is ∙ stat_is W c.args.client ∙ ap (λ (r : Reply). (r, W)) (sym (c.stat.ensures W of))) of)

pub returns-in-Compact : goal.returns-in-Compact
returns-in-Compact g c W of =
    told_so c.compact.result (λ why may. subst (λ (o : Op). GoesOn o why) c.in-Compact.is may) (answers_as (same_compact W 1 c.args.client ∙ sym (ap (λ (o : Op). step W c.args.client o) c.in-Compact.is)) (c.compact.ensures W of))

pub returns-in-Upgrade : goal.returns-in-Upgrade
returns-in-Upgrade g c W of =
    told_so c.upgrade.result (λ why may. subst (λ (o : Op). GoesOn o why) c.in-Upgrade.is may) (answers_as (same_upgrade W 1 c.args.client ∙ sym (ap (λ (o : Op). step W c.args.client o) c.in-Upgrade.is)) (c.upgrade.ensures W of))

await_is : (W : World) (c : ℕ) (text : List ℕ) → step W c (op.Takeover text) ≡ step W c (op.Await text)
unfolding step
await_is W c text = refl

takeover_or_await : (W : World) (c : ℕ) (text : List ℕ) (o : Op) → (o ≡ op.Takeover text) ⊎ (o ≡ op.Await text) → step W c (op.Takeover text) ≡ step W c o
takeover_or_await W c text o (inl is) = ap (λ (p : Op). step W c p) (sym is)
takeover_or_await W c text o (inr is) = await_is W c text ∙ ap (λ (p : Op). step W c p) (sym is)

pub returns-in-Takeover : goal.returns-in-Takeover
returns-in-Takeover g c W of =
    told_so c.takeover.result (λ why may. tt) (answers_as (takeover_or_await W c.args.client c.in-Takeover.label c.args.op.now c.in-Takeover.is) (c.takeover.ensures W of))

pub returns-in-Abort : goal.returns-in-Abort
returns-in-Abort g c W of =
    told_so c.abort.result (λ why may. tt) (answers_as (sym (ap (λ (o : Op). step W c.args.client o) c.in-Abort.is)) (c.abort.ensures W of))

pub returns-in-End : goal.returns-in-End
returns-in-End g c W of =
    told_so c.end.result (λ why may. subst (λ (o : Op). GoesOn o why) c.in-End.is may) (answers_as (sym (ap (λ (o : Op). step W c.args.client o) c.in-End.is)) (c.end.ensures W of))

pub returns-in-Begin : goal.returns-in-Begin
returns-in-Begin g c W of =
    told_so c.begin.result (λ why may. tt) (answers_as (sym (ap (λ (o : Op). step W c.args.client o) c.in-Begin.is)) (c.begin.ensures W of))

pub returns-in-Release : goal.returns-in-Release
returns-in-Release g c W of =
    told_so c.release.result (λ why may. tt) (answers_as (sym (ap (λ (o : Op). step W c.args.client o) c.in-Release.is)) (c.release.ensures (subst IsOp c.in-Release.is c.requires.op) W of))

pub returns-in-HashPut : goal.returns-in-HashPut
returns-in-HashPut g c W of =
    let so = store_so W c.args.client c.args.op.now c.in-HashPut.is in
    never_plain c.stored.result so.1 (λ why may. tt) (told_as so.0 (c.stored.ensures W of))

-- a group
pub group-requires-clause-op : goal.group-requires-clause-op
group-requires-clause-op g c =
    subst (λ (labels : List (List ℕ)). IsOp (op.Group labels)) (sym c.as_slice.ensures) (subst (λ (o : Op). IsOp o) c.in-Group.is c.requires.op)

pub returns-in-Group : goal.returns-in-Group
returns-in-Group g c W of =
    told_so c.group.result (λ why may. subst (λ (o : Op). GoesOn o why) c.in-Group.is may)
    (answers_as (ap (λ (labels : List (List ℕ)). step W c.args.client (op.Group labels)) c.as_slice.ensures ∙ sym (ap (λ (o : Op). step W c.args.client o) c.in-Group.is)) (c.group.ensures W of))
