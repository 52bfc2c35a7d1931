use Rattle.iso_machine.proofs.{Words.{◌≡◌, ◌≤◌, ◌∙◌, sym, refl, ap, subst, ℕ, List, Ok, Err, Geometry, Reply, World, disk_of, up, step, Always}, Quiet.answers_as, Told.{told_as, told_so}}
use Rattle.iso_model.proofs.Bounds.{limits}
use Rattle.script_model.specs.declared.script.Op.TheVariants as op
use Rattle.script_model.specs.declared.script.Reply.TheVariants as reply
use Rattle.script_model.specs.declared.stop.Stop.TheVariants as stop
use Rattle.device_desk.specs.Sizes.{head_step, size_in, value_step}
use Rattle.device_desk.proofs.{FileSizes.{formed, leads_nowhere, leads_to, step_get, unformed}, Tables.{stays_with, wants_memory}}
use Rattle.device_desk.proofs.table.Table.size_at.Goals as goal

pub returns-in_default : goal.returns-in_default
returns-in_default g c W of =
    told_so {known = Always} (Ok (reply.Broken c.files_in-at.result.tree.start)) (λ why may. may)
    (stays_with of (g.met.D.Disk.lawful (disk_of c.args.self.now.core)) refl
    (leads_nowhere W c.geometry-geometry.result c.files_in-at.result c.args.number c.args.value.now (c.geometry-geometry.ensures W up of.core_of) c.files_in-at.ensures
    (c.in_default.ensures.none c.geometry-geometry.result.block)) of)

pub returns-in_default-zeros : goal.returns-in_default-zeros
returns-in_default-zeros g c W of = told_so {known = Always} (Err stop.Memory) (λ why may. may) (wants_memory of (g.met.D.Disk.lawful (disk_of c.args.self.now.core)) refl (λ may. of))

pub size_in-requires-clause-least : goal.size_in-requires-clause-least
size_in-requires-clause-least g c =
    let (W, of) = c.requires in
    subst (λ (h : Geometry). 64 ≤ h.block) (sym (c.geometry-geometry.ensures W up of.core_of)) (limits W.geometry of.core_of.kept_of.world.valid).least_block

pub size_in-requires-clause-most : goal.size_in-requires-clause-most
size_in-requires-clause-most g c =
    let (W, of) = c.requires in
    subst (λ (h : Geometry). h.block ≤ 4096) (sym (c.geometry-geometry.ensures W up of.core_of)) (limits W.geometry of.core_of.kept_of.world.valid).largest_block

-- the look as the rules tell it, in the words of the geometry that is read
told_there : (W : World) (h : Geometry) (number block : ℕ) (value : List ℕ) → h ≡ W.geometry → value_step W number value ≡ head_step W number block
    → (size_in h.block block (step W number (op.Get block 0 8)).0, (step W number (op.Get block 0 8)).1) ≡ value_step W number value
told_there W h number block value same leads =
    ap (λ (f : Geometry). let x : Reply × World = (size_in f.block block (step W number (op.Get block 0 8)).0, (step W number (op.Get block 0 8)).1) in x) same ∙ sym leads

pub returns-in-Ok-access : goal.returns-in-Ok-access
returns-in-Ok-access g c W of =
    let h = c.geometry-geometry.result in
    let same = c.geometry-geometry.ensures W up of.core_of in
    let leads = c.in-Some.ensures.some h.block in
    formed (size_in h.block c.in-Some.block) c.in-Ok-access.reply c.size_in.result c.size_in.ensures
    (told_there W h c.args.number c.in-Some.block c.args.value.now same (leads_to W h c.files_in-at.result c.args.number c.args.value.now same c.files_in-at.ensures c.in-Some.block leads.0 leads.1))
    (answers_as (step_get W c.args.number c.in-Some.block 0 8) (c.in-Ok-access.ensures W of tt))

pub returns-in-Err : goal.returns-in-Err
returns-in-Err g c W of =
    let h = c.geometry-geometry.result in
    let same = c.geometry-geometry.ensures W up of.core_of in
    let leads = c.in-Some.ensures.some h.block in
    told_as (told_there W h c.args.number c.in-Some.block c.args.value.now same (leads_to W h c.files_in-at.result c.args.number c.args.value.now same c.files_in-at.ensures c.in-Some.block leads.0 leads.1))
    (unformed (size_in h.block c.in-Some.block) c.in-Err.why (answers_as (step_get W c.args.number c.in-Some.block 0 8) (c.in-Err.ensures W of tt)))
