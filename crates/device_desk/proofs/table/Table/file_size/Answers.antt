use Rattle.iso_machine.proofs.{Words.{◌∙◌, sym, refl, ap, subst, IsTrue, Ok, Geometry, Reply, World, attached, disk_of, up, Always}, Told.told_so}
use Rattle.iso_model.specs.Geometry.{is_valid}
use Rattle.script_model.specs.declared.script.Reply.TheVariants as reply
use Rattle.device_desk.specs.Sizes.{looked, looked_step}
use Rattle.device_desk.proofs.{FileSizes.{asked, blocks_are, first_stopped, looked_keeps, no_files, nobody, none_there, one_after_other, size_keeps, some_there, step_tree_get, stored_keeps}, Tables.stays_with}
use Rattle.device_desk.proofs.table.Table.file_size.Goals as goal

pub returns-in_default : goal.returns-in_default
returns-in_default g c W of =
    told_so {known = Always} (Ok reply.NotInTx) (λ why may. may)
    (stays_with of (g.met.D.Disk.lawful (disk_of c.args.self.now.core)) refl (nobody W c.args.number c.args.key (none_there _ (attached W c.args.number) (c.in_default.ensures W of))) of)

pub returns-then-at-eq0 : goal.returns-then-at-eq0
returns-then-at-eq0 g c W of =
    let blocks = blocks_are W c.geometry-geometry.result c.files_in-at.result (c.geometry-geometry.ensures W up of.core_of) c.files_in-at.ensures in
    told_so {known = Always} (Ok reply.NoStore) (λ why may. may)
    (stays_with of (g.met.D.Disk.lawful (disk_of c.args.self.now.core)) refl (no_files W c.args.number c.args.key (some_there _ _ (attached W c.args.number) (c.in-Some.ensures W of)).1 (sym blocks ∙ c.if-at-eq0.true)) of)

pub returns : goal.returns
returns g c W of =
    let number = c.args.number in
    let name = c.args.key in
    let was = c.in-Ok.ensures.answer W of in
    let b = c.in-Ok.ensures.beside W of in
    let blocks = blocks_are W c.geometry-geometry.result c.files_in-at.result (c.geometry-geometry.ensures W up of.core_of) c.files_in-at.ensures in
    one_after_other was b
    (λ told. ap (λ found. looked_step number found b.world) c.looked.ensures
    ∙ (λ i. looked_step number (looked (was.reply told i)) (b.known told i))
    ∙ ap (λ (x : Reply × World). looked_step number (looked x.0) x.1) (step_tree_get W number name)
    ∙ sym (asked W number name (some_there _ _ (attached W number) (c.in-Some.ensures W of)).1 (λ none. c.if-at-eq0.false (blocks ∙ none))))
    (stored_keeps W number name) (size_keeps W number name) (looked_keeps number c.looked.result b.world) c.size_behind.result (c.size_behind.ensures b.world b.is)

pub files_in-at-requires : goal.files_in-at-requires
files_in-at-requires g c =
    let (W, of) = c.requires in
    subst (λ (h : Geometry). IsTrue (is_valid h)) (sym (c.geometry-geometry.ensures W up of.core_of)) of.core_of.kept_of.world.valid

pub size_behind-requires : goal.size_behind-requires
size_behind-requires g c =
    let (W, of) = c.requires in
    let b = c.in-Ok.ensures.beside W of in
    (b.world, b.is)

pub returns-in-Err : goal.returns-in-Err
returns-in-Err g c W of = first_stopped (stored_keeps W c.args.number c.args.key) (c.in-Err.ensures.answer W of)
