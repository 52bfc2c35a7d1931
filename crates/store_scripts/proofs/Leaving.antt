-- What a line leaves of its client's transaction, and what is told of it then.
use Rattle.store_scripts.proofs.{ThreadWords.{◌≡◌, ◌⊎◌, inl, inr, refl, ℕ, ◌-◌, Bool, true, IsTrue, List, [], ◌∷◌, Option, Some, None, Ok, AllByRecursion, Geometry, Mode, Array, is_valid, HasShape, Op, Reply, IsOp, step, Entry, Aborts, Begins, Compacts, Did, Does, Looks, LooksFor, Own, Stats, Trims, Upgrades, SecondStore, Told, SecondGoes, IsSecond, found_in}, Alike.{fill_alike, get_alike, mark_alike, put_alike, read_alike, write_alike}, ThreadLines.{Leaves, compacts, ends, idle, in_tx, posts, reads, says, stats, trims, upgrades}, Sound.IsGood, StoreLines.{IsOfArray, store_line}}
use Rattle.script_model.specs.declared.script.Op.TheVariants as op
use Rattle.iso_shared.specs.declared.entry.Entry.TheVariants as entry

-- A CLIENT WITH A TRANSACTION
module _ (S : SecondStore) (lawful : IsSecond S) (second : SecondGoes S) (g : Geometry) (valid : IsTrue (is_valid g)) (C : Array) (shape : HasShape g C) (t : Own) (told : Told S) (good : IsGood S g C t told) (tells : Bool) (all : tells ≡ true) where
  abbrev After : Op → Reply → Option Own → Type 0
  After x r own' = Leaves S lawful second g valid C shape t told good x r own'

  aborts : (es : List Entry) (r : Reply) (own' : Option Own) → Aborts t es (Ok r) own' → After op.Abort r own'
  aborts (entry.Abort n ∷ []) r own' d = inl d.2
  aborts es r own' d = absurd d

  does : (x : Op) (es : List Entry) (r : Reply) (own' : Option Own) → IsOp x → AllByRecursion (IsOfArray C) es → Does g tells (Some t) x es (Ok r) own' → After x r own'
  unfolding step
  does (op.Begin mode) es r own' isop of d = inr (in_tx S lawful second g valid C shape t told good (op.Begin mode) es r own' (lawful.quiet (op.Begin mode) tt) refl d)
  does (op.Takeover label) es r own' isop of d = inr (in_tx S lawful second g valid C shape t told good (op.Takeover label) es r own' (lawful.quiet (op.Takeover label) tt) refl d)
  does (op.Await label) es r own' isop of d = inr (in_tx S lawful second g valid C shape t told good (op.Await label) es r own' (lawful.quiet (op.Await label) tt) refl d)
  does (op.Put block off bytes) es r own' isop of d = inr (says S lawful second g valid C shape t told good (op.Put block off bytes) es r own' isop (put_alike S lawful g [] C t block off bytes) d)
  does (op.Write block bytes) es r own' isop of d = inr (says S lawful second g valid C shape t told good (op.Write block bytes) es r own' isop (write_alike S lawful g [] C t block bytes) d)
  does (op.Fill block bytes) es r own' isop of d = inr (says S lawful second g valid C shape t told good (op.Fill block bytes) es r own' isop (fill_alike S lawful g [] C t block bytes) d)
  does (op.Mark off len) es r own' isop of d = inr (says S lawful second g valid C shape t told good (op.Mark off len) es r own' isop (mark_alike S lawful g [] C t off len) d)
  does (op.Read block) es r own' isop of d = inr (reads S lawful second g valid C shape t told good (op.Read block) block es r own' isop (λ B. read_alike S lawful g B C t block) (lawful.quiet (op.Read block) tt) d)
  does (op.Get block off len) es r own' isop of d = inr (reads S lawful second g valid C shape t told good (op.Get block off len) block es r own' isop (λ B. get_alike S lawful g B C t block off len) (lawful.quiet (op.Get block off len) tt) d)
  does op.End es r own' isop of d = ends S lawful second g valid C shape t told good es r own' d
  does op.Abort es r own' isop of d = aborts es r own' d
  does (op.Release label) es r own' isop of d = posts S lawful second g valid C shape t told good label es r own' d
  does (op.Group labels) es r own' isop of d = inr (idle S lawful second g valid C shape t told good (op.Group labels) r own' (lawful.quiet (op.Group labels) tt r) d.1)
  does op.Trim es r own' isop of d = inr (trims S lawful second g valid C shape t told good es r own' d)
  does op.Stat es r own' isop of d = inr (stats S lawful second g valid C shape t told good es r own' d)
  does op.Compact es r own' isop of d = inr (compacts S lawful second g valid C shape t told good es r own' d)
  does op.Upgrade es r own' isop of d = inr (upgrades S lawful second g valid C shape t told good es r own' d)
  does x es r own' isop of d = inr (store_line S lawful second g valid C shape t told good x tt isop tells all es r own' of d)

  pub with_tx : (x : Op) (es : List Entry) (r : Reply) (own' : Option Own) → IsOp x → AllByRecursion (IsOfArray C) es → Did g tells (Some t) x es (Ok r) own' → After x r own'
  with_tx x es r own' isop of (inl d) = does x es r own' isop of d
  with_tx x es r own' isop of (inr wants) = absurd (cc wants.1)

-- A CLIENT WITHOUT ONE
-- it began one
pub record HasBegun (es : List Entry) (own' : Option Own) : Type 0 where
  pub number : ℕ
  pub at : ℕ
  pub mode : Mode
  pub made : es ≡ entry.Begin number at mode ∷ []
  pub is : own' ≡ Some (record { number = number; begin = at; mode = mode; accesses = [] })

-- its look found one
pub record HasLooked (es : List Entry) (own' : Option Own) : Type 0 where
  pub one : Own
  pub found : found_in es ≡ one ∷ []
  pub is : own' ≡ Some one

abbrev pub Starts : List Entry → Option Own → Type 0
Starts es own' = (own' ≡ None) ⊎ (HasBegun es own' ⊎ HasLooked es own')

module _ (g : Geometry) (tells : Bool) where
  begins : (named : Option Mode) (es : List Entry) (r : Reply) (own' : Option Own) → Begins g named es (Ok r) own' → Starts es own'
  begins named (entry.Begin n at mode ∷ []) r own' d = inr (inl (record { number = n; at = at; mode = mode; made = refl; is = d.2 }))
  begins named (entry.Refused c why ∷ []) r own' d = inl d.2
  begins named es r own' d = absurd d

  looked : (label : List ℕ) (found own' : Option Own) → own' ≡ found → Starts (entry.Look label found ∷ []) own'
  looked label None own' is = inl is
  looked label (Some t) own' is = inr (inr (record { one = t; found = refl; is = is }))

  looks : (label : List ℕ) (es : List Entry) (r : Reply) (own' : Option Own) → Looks label es (Ok r) own' → Starts es own'
  looks label (entry.Look l found ∷ []) r own' d = looked l found own' d.2
  looks label es r own' d = absurd d

  later : (l : List ℕ) (es : List Entry) (own' : Option Own) → (own' ≡ None) ⊎ HasLooked es own' → (own' ≡ None) ⊎ HasLooked (entry.Look l None ∷ es) own'
  later l es own' (inl none) = inl none
  later l es own' (inr has) = inr (record { one = has.one; found = has.found; is = has.is })

  looks_for : (label : List ℕ) (most : ℕ) (es : List Entry) (r : Reply) (own' : Option Own) → LooksFor label most es (Ok r) own' → (own' ≡ None) ⊎ HasLooked es own'
  looks_for label most [] r own' d = inl d.2
  looks_for label most (entry.Look l None ∷ es) r own' d = later l es own' (looks_for label (most - 1) es r own' d.2)
  looks_for label most (entry.Look l (Some t) ∷ []) r own' d = inr (record { one = t; found = refl; is = d.3 })
  looks_for label most es r own' d = absurd d

  waited : (es : List Entry) (own' : Option Own) → (own' ≡ None) ⊎ HasLooked es own' → Starts es own'
  waited es own' (inl none) = inl none
  waited es own' (inr has) = inr (inr has)

  no_trims : (es : List Entry) (r : Reply) (own' : Option Own) → Trims None es (Ok r) own' → own' ≡ None
  no_trims (entry.Trim n ∷ []) r own' d = d.1
  no_trims (entry.Refused c why ∷ []) r own' d = d.2
  no_trims es r own' d = absurd d

  no_compacts : (es : List Entry) (r : Reply) (own' : Option Own) → Compacts None es (Ok r) own' → own' ≡ None
  no_compacts (entry.Compact n ∷ []) r own' d = d.1
  no_compacts (entry.Refused c why ∷ []) r own' d = d.2
  no_compacts es r own' d = absurd d

  no_upgrades : (es : List Entry) (r : Reply) (own' : Option Own) → Upgrades None es (Ok r) own' → own' ≡ None
  no_upgrades (entry.Upgrade n ∷ []) r own' d = d.1
  no_upgrades (entry.Refused c why ∷ []) r own' d = d.2
  no_upgrades es r own' d = absurd d

  no_stats : (es : List Entry) (r : Reply) (own' : Option Own) → Stats None es (Ok r) own' → own' ≡ None
  no_stats (entry.Stat numbers ∷ []) r own' d = d.1
  no_stats es r own' d = absurd d

  starts : (x : Op) (es : List Entry) (r : Reply) (own' : Option Own) → Does g tells None x es (Ok r) own' → Starts es own'
  unfolding step
  starts (op.Begin named) es r own' d = begins named es r own' d
  starts (op.Takeover label) es r own' d = looks label es r own' d
  starts (op.Await label) es r own' d = waited es own' (looks_for label _ es r own' d)
  starts (op.Group labels) es r own' d = inl d.1
  starts op.Trim es r own' d = inl (no_trims es r own' d)
  starts op.Stat es r own' d = inl (no_stats es r own' d)
  starts op.Compact es r own' d = inl (no_compacts es r own' d)
  starts op.Upgrade es r own' d = inl (no_upgrades es r own' d)
  starts x es r own' d = inl d.2

  pub without_tx : (x : Op) (es : List Entry) (r : Reply) (own' : Option Own) → Did g tells None x es (Ok r) own' → Starts es own'
  without_tx x es r own' (inl d) = starts x es r own' d
  without_tx x es r own' (inr wants) = absurd (cc wants.1)
