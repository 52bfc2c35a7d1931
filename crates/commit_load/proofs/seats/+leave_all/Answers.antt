use Rattle.std.proofs.Common.{rules, arith, subst, sym, ◌≡◌, ◌<◌, ℕ, [], ◌∷◌, ◌++◌, length, slice_index_or}
use Rattle.std.specs.Prelude.{slice_get}
use Rattle.commit_load.specs.Seats.{IsSeated}
use Rattle.commit_load.proofs.Seating.{seated_front}
use Rattle.commit_load.proofs.seats.+leave_all.Goals as goal

pub leave_all-requires : goal.leave_all-requires
leave_all-requires g t c κs within =
    let s = c.args.shared.now in
    let ds = c.pop.new.self.items in
    let ws = c.pop-2.new.self.items in
    let d = c.in-Some.desk in
    let x = c.in-Some-pop.worker in
    let desks : c.args.desks.items ≡ ds ++ d ∷ [] = search rules in
    let workers : c.args.workers.items ≡ ws ++ x ∷ [] = search rules in
    let same : length ws ≡ length ds = search rules in
    let whole = subst (λ es. (i : ℕ) (w : _) → i < length (ws ++ x ∷ []) → IsSeated s (slice_get es i) (slice_index_or (ws ++ x ∷ []) i w)) desks
    (subst (λ us. (i : ℕ) (w : _) → i < length us → IsSeated s (slice_get c.args.desks.items i) (slice_index_or us i w)) workers c.requires.seated.each) in
    (search rules, (search rules, (search rules, (search rules, (c.leave-commits.ensures.port, record { same = same; each = seated_front s ds ws d x same whole })))))
