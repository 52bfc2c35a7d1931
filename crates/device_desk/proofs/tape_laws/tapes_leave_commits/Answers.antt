-- The moments of a queued disk are its calls, and no call changes the file that it is bound to.
use Rattle.std.proofs.{Common.{◌≡◌, ◌∙◌, ◌≤◌, ◌++◌, ℕ, List, Some, ap, sym, subst, length, arith}, lemmas.List.{append-nil, length-map}, lemmas.Option.same_Some}
use Rattle.iso_disk.specs.Disk.{LeavesOnly}
use Rattle.iso_machine.specs.Shown.{shows}
use Rattle.iso_model.specs.Between.{ShowsEither}
use Rattle.queued_disk.{proofs.{Files.files_same, Fronts.{front_image, left_image}}, specs.{declared.queued.QueuedDisk.{QueuedDisk}, Queued.{calls_of, file_of, given, handed_on, said, state_of, tape_of}}}
use Rattle.device_desk.specs.Device.{disk_under}
use Rattle.device_desk.proofs.tape_laws.tapes_leave_commits.Goals as goal

-- as many calls were handed on to one file as to the same file
handed_alike : (a b : QueuedDisk) → (state_of a).bound ≡ (state_of b).bound → length (handed_on a) ≡ length (handed_on b)
handed_alike a b bound =
    let file : file_of a ≡ file_of b = ap (λ (x : ℕ × List ℕ). x.1) (same_Some _ _ bound) in
    let told = (files_same (given a) (given b) (handed_on a) (handed_on b) file).1 in
    sym (length-map (handed_on a) said) ∙ ap length told ∙ length-map (handed_on b) said

pub returns-clause-done : goal.returns-clause-done
returns-clause-done c W image stands left =
    let q = disk_under c.args.desk.now in
    shows state_of c.args.desk.now.table.core W stands.table.core_of image (left_image (calls_of q) (given q) image q.writes_fit left)

pub returns-clause-front : goal.returns-clause-front
returns-clause-front c old W V n image none leaves le left =
    let q = disk_under c.args.desk.now in
    let o = disk_under old in
    let since = front_image (handed_on q) (tape_of q) (given q) image n q.writes_fit le left in
    let clock : (state_of o).clock ≡ length (handed_on o) = (λ i. length (handed_on o ++ none i)) ∙ ap length (append-nil (handed_on o)) in
    leaves.each image (subst (λ (t : ℕ). (state_of q).left t image) (handed_alike q o leaves.same_bound ∙ sym clock) since)
