-- Each front of a tape leaves one of the images that a crash may leave.
use Rattle.std.proofs.{Common.{◌≤◌, ◌+◌, ℕ, List, ◌++◌, length, take, refl, sym, subst, arith, length-append}, Math.Seq.take-append-add}
use Rattle.iso_memdisk.{proofs.Crash.crash_image, specs.{declared.record.Call.Call, Record.{AllFit, written}, Replay.AllFit-take, Replayed.{images, images_since}}}
use Rattle.queued_disk.specs.Tape.{IsLeftBy}

-- all calls were done
pub left_image : (calls : List Call) (first image : List ℕ) → AllFit (length first) calls → IsLeftBy calls first image → images first calls image
left_image calls first image fit left = crash_image calls left.stable first (written (take left.stable calls) first) image refl (AllFit-take (length first) left.stable calls fit) left.torn

-- the first k of them
pub since_image : (calls : List Call) (first image : List ℕ) (t k : ℕ) → AllFit (length first) calls → t ≤ k → k ≤ length calls → IsLeftBy (take k calls) first image → images_since first calls t image
since_image calls first image t k fit from to left = (k, from, to, left_image (take k calls) first image (AllFit-take (length first) k calls fit) left)

-- all of the first calls and n of the second ones
pub front_image : (before tape : List Call) (first image : List ℕ) (n : ℕ) → AllFit (length first) (before ++ tape) → n ≤ length tape → IsLeftBy (before ++ take n tape) first image
    → images_since first (before ++ tape) (length before) image
front_image before tape first image n fit le left =
    since_image (before ++ tape) first image (length before) (length before + n) fit (omega arith) (omega (arith, length-append before tape))
    (subst (λ (l : List Call). IsLeftBy l first image) (sym (take-append-add before tape n)) left)
