-- A world that was just made or opened is sound, and in a serial one every commit is serial.
use Rattle.iso_model.proofs.{Words.{◌≡◌, ◌∙◌, refl, ℕ, zero, suc, ◌+◌, ◌-◌, ◌≤◌, IsTrue, List, [], ◌∷◌, Option, Some, None, slice_get, IfSome, arith, subst, same_Some, Commit, Geometry, Mode, Serial, LAST, IsSerialAt, is_valid, History, last, IsRecord, written, HasSeen, IsIsolated, IsIsolatedAt, IsHistory, World, used, fresh, empty_history, AreRecords, IsWorld}, Bounds.limits, Growth.empty_is}

-- the world of an image that was just made or opened
pub fresh_is : (g : Geometry) (generation : ℕ) (H : History) → IsTrue (is_valid g) → IsHistory g H → IsIsolated g H → AreRecords g H.commits
    → last H ≤ LAST → generation ≤ LAST → used (fresh g generation H) + 1 ≤ g.log → IsWorld (fresh g generation H)
fresh_is g generation H valid is isolated records numbers few room = grind arith

pub empty_world_is : (g : Geometry) (generation : ℕ) → IsTrue (is_valid g) → generation ≤ LAST → IsWorld (fresh g generation (empty_history g))
empty_world_is g generation valid few =
    let log : 64 ≤ g.log = (limits g valid).least_log in
    fresh_is g generation (empty_history g) valid (empty_is g) (λ k from to. tt) tt (omega arith) few (omega arith)

record_at : (g : Geometry) (commits : List Commit) (i : ℕ) (c : Commit) → AreRecords g commits → slice_get commits i ≡ Some c → IsRecord g (written g c)
record_at g [] i c all at = cc
record_at g (d ∷ commits) zero c all at = let same : d ≡ c = same_Some d c at in subst (λ (e : Commit). IsRecord g (written g e)) same all.0
record_at g (d ∷ commits) (suc i) c all at = record_at g commits i c all.1 at

serial_at : (g : Geometry) (H : History) (k : ℕ) (o : Option Commit) → slice_get H.commits (k - H.first) ≡ o
    → IfSome o (HasSeen g H k) → ((c : Commit) → o ≡ Some c → c.mode ≡ Serial) → IsSerialAt H k
serial_at g H k None at isolated serial = rw at tt
serial_at g H k (Some c) at isolated serial = subst (λ (mode : Mode). IsIsolatedAt g H mode k) (serial c refl) isolated.isolated

-- in a serial image of form 1 each commit is serial
pub world_is_serial : (W : World) → IsWorld W → W.geometry.form ≡ 1 → W.geometry.mode ≡ Serial
    → (k : ℕ) → W.history.first ≤ k → k ≤ last W.history → IsSerialAt W.history k
world_is_serial W is form mode k from to =
    serial_at W.geometry W.history k (slice_get W.history.commits (k - W.history.first)) refl (is.isolated k from to)
    (λ c at. (record_at W.geometry W.history.commits (k - W.history.first) c is.records at).mode form ∙ mode)
