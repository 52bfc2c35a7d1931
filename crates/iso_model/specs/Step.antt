-- What a begin, an end and upkeep of an image are answered, and the world after each.
use Rattle.std.specs.Prelude.{ℕ, ◌+◌, ◌-◌, ◌&&◌, ◌==◌, not, if◌then◌else◌, List, [], ◌∷◌, ◌++◌, Option, Some, None, length, replicate, nat_le, nat_lt, unwrap_or}
use Rattle.iso_model.specs.{declared.access.Access.Access, declared.access.Clash.Clash, declared.access.Commit.Commit, declared.access.Kind.TheVariants.{Read, Write}, declared.access.Mode.Mode, declared.core_reply.CoreReply.CoreReply, declared.limits.TheConstants.{LAST, MAX_LIVE}, Conflict.clash, Geometry.same_mode, Effect.{has_write, record_length, runs}, History.{last, shown_block, with_commits}, World.{World, Live, Place, floor, without, with, used}}
use Rattle.iso_model.specs.declared.core_reply.CoreReply.TheVariants as reply

-- a write of these bytes at off in a block of zeros, with one mark over them
abbrev pub put_access : (size block off : ℕ) → List ℕ → Access
put_access size block off bytes = record {
  kind = Write;
  block = block;
  spans = record { off = off; len = length bytes } ∷ [];
  bytes = replicate off 0 ++ bytes ++ replicate (size - (off + length bytes)) 0;
}

-- a read of a whole block
abbrev pub read_access : (block : ℕ) → Access
read_access block = record { kind = Read; block = block; spans = []; bytes = [] }

-- a read of len bytes of a block at off
abbrev pub get_access : (block off len : ℕ) → Access
get_access block off len = record { kind = Read; block = block; spans = record { off = off; len = len } ∷ []; bytes = [] }

-- a write of a whole block
abbrev pub write_access : (block : ℕ) → List ℕ → Access
write_access block bytes = record { kind = Write; block = block; spans = []; bytes = bytes }

-- the world with other live transactions
abbrev pub with_live : World → List Live → World
with_live W live = record W { live = live }

-- the world in which the transaction has these accesses
abbrev pub with_accesses : World → Live → List Access → World
with_accesses W t accesses = with_live W (with (record t { accesses = accesses }) W.live)

-- the world in which the transaction is somewhere else
abbrev pub placed : World → Live → Place → World
placed W t place = with_live W (with (record t { place = place }) W.live)

-- the world in which the transaction is no longer live
abbrev pub after_leaving : World → Live → World
after_leaving W t = with_live W (without t.number W.live)

-- the commit that a live transaction becomes
abbrev pub commit_from : Live → Commit
commit_from t = record { begin = t.begin; mode = t.mode; accesses = t.accesses }

-- the world in which the transaction is the next commit
abbrev pub after_commit : World → Live → World
after_commit W t = record (after_leaving W t) {
  history = with_commits (commit_from t ∷ []) W.history;
}

-- the mode that a begin names, or else the image's
abbrev pub mode_named : World → Option Mode → Mode
mode_named W mode = unwrap_or mode W.geometry.mode

-- the world after a begin
abbrev pub after_begin : World → Place → Mode → World
after_begin W place mode = record W {
  live = W.live ++ record { number = W.next; begin = last W.history; mode = mode; accesses = []; place = place } ∷ [];
  next = W.next + 1;
}

-- the bytes that a commit of these accesses needs in the log: its record and the next gate
abbrev pub need : World → Live → ℕ
need W t = record_length (runs W.geometry t.accesses) + 1

-- a begin at a place without a transaction; an image of form 1 has transactions of its own mode alone
unfoldable pub begin_step : World → Place → Mode → CoreReply × World
begin_step W place mode =
    if (W.geometry.form == 1) && not (same_mode mode W.geometry.mode) then (reply.ModeFixed, W)
    else if nat_le MAX_LIVE (length W.live) then (reply.TooManyTx, W)
    else if nat_lt LAST W.next then (reply.Worn, W)
    else (reply.Began (last W.history), after_begin W place mode)

-- what a read of the block shows the transaction
abbrev pub shown_to : World → Live → (block : ℕ) → List ℕ
shown_to W t block = shown_block W.history t.begin t.accesses block

-- the end of a transaction with a write, once its least clash is known
unfoldable pub commit_step : World → Live → Option Clash → CoreReply × World
commit_step W t (Some c) = (reply.Conflict c, after_leaving W t)
commit_step W t None =
    if last W.history == LAST then (reply.Worn, W)
    else if nat_lt (W.geometry.log - used W) (need W t) then (reply.LogFull (need W t) (W.geometry.log - used W), W)
    else (reply.Committed (last W.history + 1), after_commit W t)

unfoldable pub end_step : World → Live → CoreReply × World
end_step W t =
    if has_write t.accesses then commit_step W t (clash W.geometry W.history t.mode t.begin t.accesses)
    else (reply.ReadOnly, after_leaving W t)

-- the world in which no version is kept for a number below the floor
abbrev pub after_trim : World → World
after_trim W = record W { trim = floor W }

-- the world whose base is the array at the floor, in a half of this form
abbrev pub after_switch : World → (form : ℕ) → World
after_switch W form = record W { geometry = record W.geometry { form = form }; base = floor W; trim = floor W; generation = W.generation + 1 }

-- a switch to the other half
unfoldable pub switch_step : World → (form : ℕ) → CoreReply → CoreReply × World
switch_step W form answer = if W.generation == LAST then (reply.Worn, W) else (answer, after_switch W form)
