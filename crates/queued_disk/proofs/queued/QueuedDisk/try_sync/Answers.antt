use Rattle.std.proofs.Common.{List, [], ◌∷◌, ◌++◌, ◌≡◌, length, is_ok, sym, subst}
use Rattle.iso_memdisk.specs.{declared.record.Call.Call, declared.record.Call.TheVariants.Sync, Record.{AllFit, written}}
use Rattle.queued_disk.{proofs.Standing.{either_way, fits_sync, holds_sync}, specs.Queued.{given, handed_on, tape_of, bytes_of}}
use Rattle.queued_disk.proofs.queued.QueuedDisk.try_sync.Goals as goal

pub invariant_of-self-clause-writes_fit : goal.invariant_of-self-clause-writes_fit
invariant_of-self-clause-writes_fit c =
    let d = c.args.self.now in
    let n = length (given d) in
    let fits = λ (l : List Call). AllFit n (handed_on d ++ l) in
    subst fits (sym c.push.ensures.items) (either_way fits (is_ok c.push.result) (tape_of d ++ Sync ∷ []) (tape_of d) (fits_sync (handed_on d) (tape_of d) n d.writes_fit) d.writes_fit)

pub invariant_of-self-clause-holds : goal.invariant_of-self-clause-holds
invariant_of-self-clause-holds c =
    let d = c.args.self.now in
    let holds = λ (l : List Call). bytes_of d ≡ written (handed_on d ++ l) (given d) in
    subst holds (sym c.push.ensures.items) (either_way holds (is_ok c.push.result) (tape_of d ++ Sync ∷ []) (tape_of d) (holds_sync (handed_on d) (tape_of d) (given d) (bytes_of d) d.holds) d.holds)
