-- Lists of a shared device whose transactions are those of accounts.
use Rattle.std.specs.{Prelude.{◌≡◌, ℕ, ◌≤◌, List, [], ◌∷◌, ◌++◌, Some}, List.AllByRecursion}
use Rattle.iso_model.specs.{declared.access.Commit.Commit, declared.access.EndReply.TheVariants.Committed, declared.access.Geometry.Geometry, Array.Array, History.{History, array_at, last}, World.World}
use Rattle.iso_image.specs.Refusal.{Opened, opened, recovered}
use Rattle.iso_shared.specs.declared.entry.Call.TheVariants as call
use Rattle.iso_shared.specs.declared.entry.Cause.TheVariants as cause
use Rattle.iso_shared.specs.{declared.entry.Entry.Entry, Standing.whole, States.{Start, lost_commits, members_of, state_at}}
use Rattle.iso_shared.specs.declared.entry.Entry.TheVariants as entry
use Rattle.store_scripts.specs.EntriesInOrder.{commit_at, world_at}
use Rattle.store_scripts.specs.Stores.{image_hash}
use Rattle.accounts.specs.{Sums.{Accounts, KeepsSum}, Transactions.CommitsAccounts}

-- the commits that an entry makes where the world is this, or leaves open after a fault of the disk
abbrev pub commits_by : World → Entry → List Commit
commits_by W (entry.End n accesses (Committed k)) = commit_at W n accesses ∷ []
commits_by W (entry.EndGroup ends) = lost_commits W (members_of ends)
commits_by W (entry.Refused (call.End n accesses) (cause.Disk was now)) = commit_at W n accesses ∷ []
commits_by W (entry.Refused (call.EndGroup members) (cause.Disk was now)) = lost_commits W members
commits_by W e = []

-- those of this entry after these are of accounts
abbrev pub IsOfAccountsAt : Accounts → Start → (before : List Entry) → Entry → Type 0
IsOfAccountsAt accounts A before e = AllByRecursion (CommitsAccounts accounts A.world.geometry (world_at A before).history) (commits_by (world_at A before) e)

-- Each commit of the list is one of accounts, by an end or in a group, and so is one that a fault of the disk has left open.
abbrev pub AreOfAccounts : Accounts → Start → List Entry → Type 0
AreOfAccounts accounts A es = (before later : List Entry) (e : Entry) → es ≡ before ++ e ∷ later → IsOfAccountsAt accounts A before e

-- the accounts of an array's hash store have their sum, or there are none yet
abbrev pub KeepsSumIn : Accounts → Geometry → Array → Type 0
KeepsSumIn accounts g A = KeepsSum accounts ((image_hash g).map_of A)

-- so it is at each commit of a history from this number on
abbrev pub KeepsSumSince : Accounts → Geometry → History → (n : ℕ) → Type 0
KeepsSumSince accounts g H n = (k : ℕ) → n ≤ k → k ≤ last H → KeepsSumIn accounts g (array_at H k)

-- so it is in the history that the list leads to, from the last commit of its start on, with the commits that a fault has left open
abbrev pub KeepsSumAt : Accounts → Start → List Entry → Type 0
KeepsSumAt accounts A es = KeepsSumSince accounts A.world.geometry (whole (state_at A es)).history (last A.world.history)

-- an image that opens, opens to accounts that have their sum, or to none yet
abbrev pub OpensWithSum : Accounts → (image : List ℕ) → Type 0
OpensWithSum accounts image = (o : Opened) → opened image ≡ Some o → KeepsSumIn accounts o.geometry (recovered o)
