-- What lies under the lock represents a list of entries.
use Rattle.std.specs.{Prelude.{◌≡◌, ℕ, ◌≤◌, true, List, [], ◌∷◌, ◌++◌, Option, Some, None, IsSome, is_some, length, map}, List.AllByRecursion}
use Rattle.iso_core.specs.{declared.core_itself.Core.Core, Core.{StandsFor, disk_of}, Standing.{Standing, up, down}}
use Rattle.iso_model.specs.{History.with_commits, declared.access.Commit.Commit, declared.access.Geometry.Geometry, declared.access.Mode.TheVariants.Serial, World.{World, fresh, empty_history}, Between.ShowsBetween}
use Rattle.iso_disk.specs.Disk.{DiskState, IsLawful, LeavesOnly, WritesNothing}
use mathlib.Core.List.{IsPrefix}
use Rattle.tx_table.specs.Work.{Doing}
use Rattle.iso_shared.specs.{declared.entry.Entry.Entry, declared.entry.Posting.Posting, declared.guarded.Posted.Posted, Legal.IsLegal, States.{Start, State, state_at}}

abbrev pub standing_of : Option (List Commit) → Standing
standing_of None = up
standing_of (Some lost) = down lost

-- how often the disk of the core has failed
abbrev pub faults_of : {D : Type 0} → (D → DiskState) → Core D → ℕ
faults_of state core = (state (disk_of core)).faults

-- the core represents the state, but for its labels
pub record Holds {D : Type 0} (disk : D → DiskState) (core : Core D) (S : State) : Type 0 where
  pub world : StandsFor disk core S.world (standing_of S.lost)
  pub counts : S.faults ≤ faults_of disk core
  pub told : S.lost ≡ None → S.tells ≡ true → IsSome (disk (disk_of core)).contents

-- the work is on an image of this geometry
pub record IsOn (g : Geometry) (work : Doing) : Type 0 where
  pub size : work.size ≡ g.block
  pub blocks : work.blocks ≡ g.blocks

abbrev pub posting_in : Posted → Posting
posting_in p = record { number = p.number; begin = p.work.begin; mode = p.work.mode; accesses = p.work.accesses }

abbrev pub postings : List (List ℕ × Posted) → List (List ℕ × Posting)
postings rack = map (λ e. (e.0, posting_in e.1)) rack

-- the world with the lost commits after the others
abbrev pub with_lost : World → Option (List Commit) → World
with_lost W None = W
with_lost W (Some lost) = record W { history = with_commits lost W.history }

-- the world at a place of the list, with the commits that may stand after the others
abbrev pub whole : State → World
whole S = with_lost S.world S.lost

-- the image shows the history that the list leads to, at a commit from the last one of its start on
abbrev pub ShowsSince : Start → List Entry → (image : List ℕ) → Type 0
ShowsSince A es image = ShowsBetween A.world (whole (state_at A es)) image

-- the image shows the history that the list leads to, at a commit from the last one of this front of the list on
abbrev pub ShowsFrom : Start → (before es : List Entry) → (image : List ℕ) → Type 0
ShowsFrom A before es image = ShowsBetween (state_at A before).world (whole (state_at A es)) image

-- What the disk has come to since the list began on the first one: at any moment a crash might have left no other image than
-- one that shows the list's history. Before the first entry nothing is written.
pub record Came (A : Start) (first d : DiskState) (es : List Entry) : Type 0 where
  pub moments : LeavesOnly first d (ShowsSince A es)
  pub unwritten : es ≡ [] → WritesNothing first d

-- This disk was there when the list was at this front, between the first disk and the one of now. Up to it no image shows more
-- than the front leads to; each image of it shows the front's last commit; and from its moment on none shows an earlier one. While the
-- device is up it tells its bytes, where the first one did.
pub record WasAt {D : Type 0} (disk : D → DiskState) (A : Start) (first d : DiskState) (es before : List Entry) (mid : D) : Type 0 where
  pub until : LeavesOnly first (disk mid) (ShowsSince A before)
  pub here : (image : List ℕ) → (disk mid).now image → ShowsFrom A before before image
  pub since : LeavesOnly (disk mid) d (ShowsFrom A before es)
  pub tells : (state_at A before).lost ≡ None → (state_at A before).tells ≡ true → IsSome (disk mid).contents

-- Each turn has ended at its moment, of the same place: the disk of that moment was there at the front that ends with the turn's
-- entry. The last one has ended now.
pub record HaveEnded {D : Type 0} (disk : D → DiskState) (A : Start) (first d : DiskState) (es : List Entry) (moments : List ℕ) : Type 0 where
  pub many : length moments ≡ length es
  pub each : (before : List Entry) (e : Entry) (past : List ℕ) (t : ℕ) → IsPrefix (before ++ e ∷ []) es → IsPrefix (past ++ t ∷ []) moments → length past ≡ length before
      → (mid : D) × ((disk mid).clock ≡ t) × WasAt disk A first d es (before ++ e ∷ []) mid
  pub last_is : (past : List ℕ) (t : ℕ) → moments ≡ past ++ t ∷ [] → t ≡ d.clock

-- the core and the rack stand for the list, each of whose turns has ended at its moment
pub record StandsAt {D : Type 0} (disk : D → DiskState) (A : Start) (first : DiskState) (held : Core D) (items : List (List ℕ × Posted)) (es : List Entry) (moments : List ℕ) : Type 0 where
  pub start : A.world.live ≡ []
  pub legal : IsLegal A es
  pub core : Holds disk held (state_at A es)
  pub rack : postings items ≡ (state_at A es).rack
  pub works : AllByRecursion (λ e. IsOn A.world.geometry e.1.work) items
  pub came : Came A first (disk (disk_of held)) es
  pub lawful : (d : D) → IsLawful (disk d)
  pub ended : HaveEnded disk A first (disk (disk_of held)) es moments

abbrev pub some_geometry : Geometry
some_geometry = record { block = 64; blocks = 1; log = 64; mode = Serial; hash = 0; tree = 0; form = 1 }

abbrev pub some_start : Start
some_start = record { world = fresh some_geometry 1 (empty_history some_geometry); faults = 0; tells = true }

-- where the list of a device begins whose core represents the world, on this disk
abbrev pub start_at : World → DiskState → Start
start_at W d = record { world = W; faults = d.faults; tells = is_some d.contents }
