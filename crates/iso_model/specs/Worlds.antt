-- What holds of every world that is reached from a sound one.
use Rattle.std.specs.{Prelude.{◌≡◌, ◌≢◌, ◌+◌, ◌<◌, ◌≤◌, IsTrue, List, [], ◌∷◌, ◌++◌, length, map}, List.AllByRecursion}
use Rattle.iso_model.specs.{declared.access.Commit.Commit, declared.access.Geometry.Geometry, declared.access.Mode.Mode, declared.limits.TheConstants.{LAST, MAX_ACCESSES, MAX_LIVE}, Geometry.is_valid, History.{History, last}, Image.{IsRecord, written}, Isolation.IsIsolated, Premises.{AreAccesses, IsHistory}, Labels.is_label, World.{World, Live, Place, client, label, unattached, used}}

-- a mode that a transaction of the image may have: in form 1 it is the image's
abbrev pub MayHave : Geometry → Mode → Type 0
MayHave g mode = g.form ≡ 1 → mode ≡ g.mode

-- a place where a transaction may be
abbrev pub IsPlace : Place → Type 0
IsPlace (client c) = Unit {0}
IsPlace (label text) = IsTrue (is_label text)
IsPlace unattached = Unit {0}

-- A live transaction of the image: it began at a commit whose array is kept, and its number was given out.
pub record IsLive (W : World) (t : Live) : Type 0 where
  pub accesses : AreAccesses W.geometry t.accesses
  pub count : length t.accesses ≤ MAX_ACCESSES
  pub since : W.trim ≤ t.begin
  pub begin : t.begin ≤ last W.history
  pub mode : MayHave W.geometry t.mode
  pub number : t.number < W.next
  pub place : IsPlace t.place

-- not at one client, and not under one label
abbrev pub AreApart : Place → Place → Type 0
AreApart (client c) (client d) = c ≢ d
AreApart (client c) (label text) = Unit {0}
AreApart (client c) unattached = Unit {0}
AreApart (label text) (label other) = text ≢ other
AreApart (label text) (client c) = Unit {0}
AreApart (label text) unattached = Unit {0}
AreApart unattached place = Unit {0}

-- two transactions with their own numbers and places
pub record AreTwo (t u : Live) : Type 0 where
  pub numbers : t.number ≢ u.number
  pub places : AreApart t.place u.place

-- each two of them are two
abbrev pub AreDistinct : List Live → Type 0
AreDistinct [] = Unit {0}
AreDistinct (t ∷ live) = AllByRecursion (AreTwo t) live × AreDistinct live

-- each commit may be a record
abbrev pub AreRecords : Geometry → List Commit → Type 0
AreRecords g commits = AllByRecursion (IsRecord g) (map (written g) commits)

-- A world of an image: its history is isolated, its commits fit the log, and its live transactions are the image's.
pub record IsWorld (W : World) : Type 0 where
  pub valid : IsTrue (is_valid W.geometry)
  pub history : IsHistory W.geometry W.history
  pub isolated : IsIsolated W.geometry W.history
  pub records : AreRecords W.geometry W.history.commits
  pub numbers : last W.history ≤ LAST
  pub since : W.history.first ≤ W.base + 1
  pub base : W.base ≤ W.trim
  pub trim : W.trim ≤ last W.history
  pub generation : W.generation ≤ LAST
  pub room : used W + 1 ≤ W.geometry.log
  pub live : AllByRecursion (IsLive W) W.live
  pub distinct : AreDistinct W.live
  pub count : length W.live ≤ MAX_LIVE
  pub next : W.next ≤ LAST + 1

-- the second history begins with the first
pub record Extends (H G : History) : Type 0 where
  pub first : G.first ≡ H.first
  pub base : G.base ≡ H.base
  pub more : List Commit
  pub commits : G.commits ≡ H.commits ++ more

-- the same geometry but for the form, which does not fall
pub record KeepsGeometry (g f : Geometry) : Type 0 where
  pub same : f ≡ record g { form = f.form }
  pub form : g.form ≤ f.form

-- What leads from one world to another: the geometry stays but for the form, the history grows, and the world stays sound.
pub record LeadsTo (W V : World) : Type 0 where
  pub world : IsWorld V
  pub geometry : KeepsGeometry W.geometry V.geometry
  pub history : Extends W.history V.history
