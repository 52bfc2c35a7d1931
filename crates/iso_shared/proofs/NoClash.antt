-- A transaction that can clash with no commit.
use Rattle.iso_shared.proofs.Words.{◌≡◌, ◌∙◌, sym, refl, ℕ, ◌<◌, Bool, true, false, ◌&&◌, nat_lt, List, Option, Some, None, AreTouched, Write, clash, Access, Clash, Geometry, History, Mode, AreWithin, Doing}
use Rattle.std.proofs.lemmas.Bool.{both_ways, lt-ltb}
use Rattle.byte_marks.specs.{Touched.touches, declared.extent.Extent.Extent}
use Rattle.conflict_rule.proofs.Clashing.{no_write_where}
use Rattle.iso_model.{proofs.Clashes.{no_clash, some_clash}, specs.Conflict.guarded}
use Rattle.iso_model.specs.Effect as model
use Rattle.iso_shared.specs.Ports.{CannotClash}

inside : (s t u : Bool) → s ≡ true → t ≡ true → (s && t && u) ≡ u
inside s t u hs ht = rw (hs, ht) refl

-- where no byte is touched that later commits may not have written, there is no clash
pub unguarded : (g : Geometry) (H : History) (mode : Mode) (begin : ℕ) (accesses : List Access) (bytes : List (ℕ × List Extent)) → AreTouched g.block g.blocks (guarded mode) accesses bytes
    → ((b p : ℕ) → touches bytes b p ≡ false) → clash g H mode begin accesses ≡ None
unguarded g H mode begin accesses bytes are none = by (clash g H mode begin accesses) refl
  where
    by : (o : Option Clash) → clash g H mode begin accesses ≡ o → o ≡ None
    by None is = refl
    by (Some c) is =
        let a = (some_clash g H mode begin accesses c is).0 in
        let same : touches bytes c.block c.at ≡ model.touches (guarded mode) accesses c.block c.at =
        are.is c.block c.at ∙ inside (nat_lt c.block g.blocks) (nat_lt c.at g.block) (model.touches (guarded mode) accesses c.block c.at) (lt-ltb c.block g.blocks a.block) (lt-ltb c.at g.block a.byte) in
        absurd (both_ways (touches bytes c.block c.at) (none c.block c.at) (same ∙ a.guarded))

-- nor where no byte is written
pub unwritten : (work : Doing) (writes : List (ℕ × List Extent)) → 0 < work.size → AreWithin work.size work.blocks work.accesses → AreTouched work.size work.blocks Write work.accesses writes
    → ((b p : ℕ) → touches writes b p ≡ false) → CannotClash work
unwritten work writes some within are none g H size blocks =
    no_clash g H work.mode work.begin work.accesses (no_write_where (record g { block = work.size; blocks = work.blocks }) work.accesses writes some (within (record g { block = work.size; blocks = work.blocks }) refl refl) are none)

pub never : (work : Doing) (bytes : List (ℕ × List Extent)) → AreTouched work.size work.blocks (guarded work.mode) work.accesses bytes → ((b p : ℕ) → touches bytes b p ≡ false) → CannotClash work
never work bytes are none g H size blocks =
    unguarded g H work.mode work.begin work.accesses bytes (record {
      is = λ b p. are.is b p ∙ sym (λ i. nat_lt b (blocks i) && nat_lt p (size i) && model.touches (guarded work.mode) work.accesses b p);
    }) none
