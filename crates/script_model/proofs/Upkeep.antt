-- What upkeep leaves as it is.
use Rattle.script_model.proofs.Words.{arith, ap, ℕ, Op, Trim, Stat, Compact, Upgrade, CoreReply, History, shown_block, step, shown_to, switch_step, World, Live, IsUpkeep}
use Rattle.std.proofs.Common.{◌≡◌, refl}

-- the same commits and the same transactions
record Keeps (W V : World) : Type 0 where
  live : V.live ≡ W.live
  history : V.history ≡ W.history

switch_keeps : (W : World) (form : ℕ) (answer : CoreReply) → Keeps W (switch_step W form answer).1
unfolding switch_step
switch_keeps W form answer = grind arith

keeps : (W : World) (client : ℕ) (op : Op) → IsUpkeep op → Keeps W (step W client op).1
unfolding step
keeps W client Trim is = record { live = refl; history = refl }
keeps W client Stat is = record { live = refl; history = refl }
keeps W client Compact is = switch_keeps W _ _
keeps W client Upgrade is = switch_keeps W _ _
keeps W client x is = absurd is

pub live_kept : (W : World) (client : ℕ) (op : Op) → IsUpkeep op → (step W client op).1.live ≡ W.live
live_kept W client op is = (keeps W client op is).live

pub history_kept : (W : World) (client : ℕ) (op : Op) → IsUpkeep op → (step W client op).1.history ≡ W.history
history_kept W client op is = (keeps W client op is).history

pub shown_kept : (W : World) (client : ℕ) (op : Op) (t : Live) (block : ℕ) → IsUpkeep op → shown_to (step W client op).1 t block ≡ shown_to W t block
shown_kept W client op t block is = ap (λ (H : History). shown_block H t.begin t.accesses block) ((keeps W client op is).history)
