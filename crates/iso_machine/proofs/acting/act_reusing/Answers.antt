use Rattle.iso_machine.proofs.{Words.{◌≡◌, ◌∙◌, refl, sym, ap, ℕ, List, Op, World, Live, disk_of, act_step, fill_step, mark_step, put_step, write_step}, Accesses.{refused, shown_given}, Acts.{acts_alone, acts_as, acts_or_stops}}
use Rattle.script_model.specs.declared.script.Op.TheVariants as op
use Rattle.script_model.specs.declared.script.Reply.TheVariants as reply
use Rattle.iso_machine.proofs.acting.act_reusing.Goals as goal

-- any other operation
others : (W : World) (t : Live) (o : Op) → ((b f : ℕ) (x : List ℕ) → o ≡ op.Put b f x → ⊥) → ((b : ℕ) → o ≡ op.Read b → ⊥) → ((b f n : ℕ) → o ≡ op.Get b f n → ⊥)
    → ((b : ℕ) (x : List ℕ) → o ≡ op.Write b x → ⊥) → ((b : ℕ) (x : List ℕ) → o ≡ op.Fill b x → ⊥) → ((f n : ℕ) → o ≡ op.Mark f n → ⊥) → act_step W t o ≡ (reply.NotInTx, W)
others W t (op.Put b f x) put read get write fill mark = absurd (put b f x refl)
others W t (op.Read b) put read get write fill mark = absurd (read b refl)
others W t (op.Get b f n) put read get write fill mark = absurd (get b f n refl)
others W t (op.Write b x) put read get write fill mark = absurd (write b x refl)
others W t (op.Fill b x) put read get write fill mark = absurd (fill b x refl)
others W t (op.Mark f n) put read get write fill mark = absurd (mark f n refl)
others W t o put read get write fill mark = refl

pub returns-in_default : goal.returns-in_default
returns-in_default g c =
    let other = c.in_default in
    acts_alone (g.met.D.Disk.lawful (disk_of c.args.core.now)) reply.NotInTx (λ W t of tx active.
    shown_given (g.D.Disk.state (disk_of c.args.core.now)) W t (act_step W t c.args.op.now) c.args.work.now reply.NotInTx
    (refused W t c.args.work.now active (act_step W t c.args.op.now) reply.NotInTx (others W t c.args.op.now other.not-Put other.not-Read other.not-Get other.not-Write other.not-Fill other.not-Mark)))

-- each access is that of its operation
pub returns-in-Put : goal.returns-in-Put
returns-in-Put g c =
    acts_as (λ W t. ap (λ (l : List ℕ). put_step W t c.in-Put.block c.in-Put.off l) c.as_slice.ensures ∙ ap (λ (o : Op). act_step W t o) (sym c.in-Put.is)) c.or_stop.ensures
    (acts_or_stops (g.met.D.Disk.lawful (disk_of c.args.core.now)) c.put.result (record { given = c.put.ensures.given; kept = c.put.ensures.kept }))

pub returns-in-Read : goal.returns-in-Read
returns-in-Read g c = acts_as (λ W t. ap (λ (o : Op). act_step W t o) (sym c.in-Read.is)) refl c.read.ensures

pub returns-in-Get : goal.returns-in-Get
returns-in-Get g c = acts_as (λ W t. ap (λ (o : Op). act_step W t o) (sym c.in-Get.is)) refl c.get.ensures

pub returns-in-Write : goal.returns-in-Write
returns-in-Write g c =
    acts_as (λ W t. ap (λ (l : List ℕ). write_step W t c.in-Write.block l) c.as_slice-in-Write.ensures ∙ ap (λ (o : Op). act_step W t o) (sym c.in-Write.is)) c.or_stop-in-Write.ensures
    (acts_or_stops (g.met.D.Disk.lawful (disk_of c.args.core.now)) c.write.result c.write.ensures)

pub returns-in-Fill : goal.returns-in-Fill
returns-in-Fill g c =
    acts_as (λ W t. ap (λ (l : List ℕ). fill_step W t c.in-Fill.block l) c.as_slice-in-Fill.ensures ∙ ap (λ (o : Op). act_step W t o) (sym c.in-Fill.is)) c.or_stop-in-Fill.ensures
    (acts_or_stops (g.met.D.Disk.lawful (disk_of c.args.core.now)) c.fill.result c.fill.ensures)

pub returns-in-Mark : goal.returns-in-Mark
returns-in-Mark g c =
    acts_as (λ W t. ap (λ (o : Op). act_step W t o) (sym c.in-Mark.is)) refl
    (acts_alone (g.met.D.Disk.lawful (disk_of c.args.core.now)) c.mark.result (λ W t of tx active.
    shown_given (g.D.Disk.state (disk_of c.args.core.now)) W t (mark_step W t c.in-Mark.off c.in-Mark.len) c.mark.new.work c.mark.result (c.mark.ensures W t active)))
