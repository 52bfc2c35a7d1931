-- A client that the disk stopped: its own entries tell of a fault, or that the device is down.
use Rattle.iso_top.proofs.Words.{◌≡◌, ◌≢◌, ◌⊎◌, inl, inr, ◌==◌, ℕ, ◌-◌, Bool, true, false, cond, ◌||◌, List, [], ◌∷◌, ◌++◌, Option, Some, None, Err, refl, sym, subst, AllByRecursion, list_any, Geometry, Mode, Line, Op, Reply, Call, Cause, Entry, stopped, wants, entries_of, lines_run, Part, Stop, Aborts, Begins, CallsStore, ClientLines, Compacts, Did, Does, EndsNow, EndsThen, Fetches, GroupEnds, Groups, Looks, LooksFor, Own, Posts, Reads, Says, Stats, StopsAtLast, StopsBy, Trims, Upgrades, Where, WhereShown, all_fetches, refused, refused_fetch}
use Rattle.script_model.specs.declared.script.Op.TheVariants as op
use Rattle.script_model.specs.declared.script.Reply.TheVariants as reply
use Rattle.iso_shared.specs.declared.entry.Cause.TheVariants as cause
use Rattle.iso_shared.specs.declared.entry.Entry.TheVariants as entry
use Rattle.par_script.specs.Lines.{AsksAndEnds, Ends}
use Rattle.script_model.specs.declared.stop.Stop.TheVariants as stop

-- the entry tells of a fault, or that the device is down
abbrev pub Blames : Entry → Type 0
Blames (entry.Refused c (cause.Disk before now)) = Unit {0}
Blames (entry.Refused c cause.Down) = Unit {0}
Blames e = ⊥

-- such an entry is in the list
abbrev pub HasBlame : List Entry → Type 0
HasBlame [] = ⊥
HasBlame (e ∷ es) = Blames e ⊎ HasBlame es

pub blame_left : (xs ys : List Entry) → HasBlame xs → HasBlame (xs ++ ys)
blame_left [] ys b = absurd b
blame_left (x ∷ xs) ys (inl here) = inl here
blame_left (x ∷ xs) ys (inr b) = inr (blame_left xs ys b)

blame_right : (xs ys : List Entry) → HasBlame ys → HasBlame (xs ++ ys)
blame_right [] ys b = b
blame_right (x ∷ xs) ys b = inr (blame_right xs ys b)

owned_by : (e : Entry) (own es : List Entry) (t : Bool) → (HasBlame own → HasBlame es) → HasBlame (cond t (e ∷ own) own) → HasBlame (e ∷ es)
owned_by e own es true on (inl here) = inl here
owned_by e own es true on (inr b) = inr (on b)
owned_by e own es false on b = inr (on b)

-- it is one of a client's
blame_owned : (client : ℕ) (owners : List ℕ) (es : List Entry) → HasBlame (entries_of client owners es) → HasBlame es
blame_owned client [] es b = absurd b
blame_owned client (owner ∷ owners) [] b = absurd b
blame_owned client (owner ∷ owners) (e ∷ es) b = owned_by e (entries_of client owners es) es (owner == client) (blame_owned client owners es) b

refused_blames : (c : Call) (why : Cause) (w : Stop) → w ≢ stop.Memory → Err w ≡ refused why → Blames (entry.Refused c why)
refused_blames c cause.Down w other is = tt
refused_blames c cause.TooManyTx w other is = absurd (cc is)
refused_blames c (cause.LogFull need free) w other is = absurd (cc is)
refused_blames c (cause.Disk before now) w other is = tt
refused_blames c cause.Memory w other is = absurd (other (cc is))
refused_blames c cause.Worn w other is = absurd (cc is)
refused_blames c cause.ModeFixed w other is = absurd (cc is)
refused_blames c cause.LabelTaken w other is = absurd (cc is)

where_shown : (r : Reply) (P Q R : Type 0) → (P → R) → (Q → R) → WhereShown r P Q → R
where_shown (reply.Shown bytes) P Q R first second x = first x
where_shown r P Q R first second x = second x

where_of : (b : Bool) (P Q R : Type 0) → (P → R) → (Q → R) → Where b P Q → R
where_of true P Q R first second x = first x
where_of false P Q R first second x = second x

stops_none : (w : Stop) → w ≢ stop.Memory → StopsBy None (Err w) → ⊥
stops_none stop.Memory other s = other refl
stops_none stop.Disk other s = s
stops_none stop.Down other s = s

stops_by : (w : Stop) → w ≢ stop.Memory → (n : ℕ) (f : Option (ℕ × Cause)) → StopsBy f (Err w) → HasBlame (refused_fetch n f)
stops_by w other n None s = absurd (stops_none w other s)
stops_by w other n (Some (b, cause.Down)) s = inl tt
stops_by w other n (Some (b, cause.Disk before now)) s = inl tt
stops_by w other n (Some (b, why)) s = absurd s

-- the line at which a client stopped, where it did not want memory
module _ (g : Geometry) (tells : Bool) (w : Stop) (other : w ≢ stop.Memory) where
  says : (own : Option Own) (o : Op) (es : List Entry) (own' : Option Own) → Says g own o es (Err w) own' → HasBlame es
  says own o es own' d = absurd (cc d.1)

  begins : (named : Option Mode) (es : List Entry) (own' : Option Own) → Begins g named es (Err w) own' → HasBlame es
  begins named (entry.Begin n at mode ∷ []) own' d = absurd (cc d.1)
  begins named (entry.Refused c why ∷ []) own' d = inl (refused_blames c why w other d.1)
  begins named es own' d = absurd d

  fetches : (t : Own) (o : Op) (block : ℕ) (es : List Entry) (own' : Option Own) → Fetches g t o block es (Err w) own' → HasBlame es
  fetches t o block (entry.Fetch n b bytes ∷ []) own' d = absurd (cc d.2)
  fetches t o block (entry.Refused c why ∷ []) own' d = inl (refused_blames c why w other d.1)
  fetches t o block es own' d = absurd d

  reads : (t : Own) (o : Op) (block : ℕ) (es : List Entry) (own' : Option Own) → Reads g t o block es (Err w) own' → HasBlame es
  reads t o block es own' d = where_shown _ _ _ (HasBlame es) (fetches t o block es own') (says (Some t) o es own') d

  ends_now : (t : Own) (es : List Entry) (own' : Option Own) → EndsNow t es (Err w) own' → HasBlame es
  ends_now t (entry.End n accesses answered ∷ []) own' d = absurd (cc d.2)
  ends_now t (entry.Refused c why ∷ []) own' d = inl (refused_blames c why w other d.1)
  ends_now t es own' d = absurd d

  ends_then : (t : Own) (es : List Entry) (own' : Option Own) → EndsThen t es (Err w) own' → HasBlame es
  ends_then t [] own' d = absurd (other (cc d.0))
  ends_then t es own' d = ends_now t es own' d

  asks_and_ends : (t : Own) (es : List Entry) (own' : Option Own) → AsksAndEnds t es (Err w) own' → HasBlame es
  asks_and_ends t (entry.Refused c why ∷ []) own' d = inl (refused_blames c why w other d.1)
  asks_and_ends t (entry.Recent n upto ∷ es) own' d = inr (ends_then t es own' d.1)
  asks_and_ends t es own' d = absurd d

  ends : (t : Own) (es : List Entry) (own' : Option Own) → Ends g t es (Err w) own' → HasBlame es
  ends t es own' (inl d) = asks_and_ends t es own' d
  ends t es own' (inr d) = ends_now t es own' d.1

  aborts : (t : Own) (es : List Entry) (own' : Option Own) → Aborts t es (Err w) own' → HasBlame es
  aborts t (entry.Abort n ∷ []) own' d = absurd (cc d.1)
  aborts t es own' d = absurd d

  posts : (t : Own) (label : List ℕ) (es : List Entry) (own' : Option Own) → Posts t label es (Err w) own' → HasBlame es
  posts t label (entry.Post n l accesses ∷ []) own' d = absurd (cc d.3)
  posts t label (entry.Refused c why ∷ []) own' d = inl (refused_blames c why w other d.1)
  posts t label es own' d = absurd d

  looks : (label : List ℕ) (es : List Entry) (own' : Option Own) → Looks label es (Err w) own' → HasBlame es
  looks label (entry.Look l found ∷ []) own' d = absurd (cc d.1)
  looks label es own' d = absurd d

  looks_for : (label : List ℕ) (most : ℕ) (es : List Entry) (own' : Option Own) → LooksFor label most es (Err w) own' → HasBlame es
  looks_for label most [] own' d = absurd (cc d.1)
  looks_for label most (entry.Look l None ∷ es) own' d = inr (looks_for label (most - 1) es own' d.2)
  looks_for label most (entry.Look l (Some t) ∷ []) own' d = absurd (cc d.2)
  looks_for label most es own' d = absurd d

  group_ends : (found : List (Option Own)) (es : List Entry) → GroupEnds found es (Err w) → HasBlame es
  group_ends found [] d = absurd (cc d.1)
  group_ends found (entry.EndGroup ends ∷ []) d = absurd (cc d.2)
  group_ends found (entry.Refused c why ∷ es) d = inl (refused_blames c why w other d.3)
  group_ends found es d = absurd d

  groups : (labels : List (List ℕ)) (found : List (Option Own)) (es : List Entry) → Groups labels found es (Err w) → HasBlame es
  groups [] found es (inl d) = group_ends found es d
  groups [] found es (inr d) = absurd (other (cc d.1))
  groups (label ∷ labels) found (entry.Look l one ∷ es) d = inr (groups labels (found ++ one ∷ []) es d.1)
  groups (label ∷ labels) found es d = absurd (other (cc d.1))

  trims : (own : Option Own) (es : List Entry) (own' : Option Own) → Trims own es (Err w) own' → HasBlame es
  trims own (entry.Trim n ∷ []) own' d = absurd (cc d.0)
  trims own (entry.Refused c why ∷ []) own' d = inl (refused_blames c why w other d.1)
  trims own es own' d = absurd d

  compacts : (own : Option Own) (es : List Entry) (own' : Option Own) → Compacts own es (Err w) own' → HasBlame es
  compacts own (entry.Compact n ∷ []) own' d = absurd (cc d.0)
  compacts own (entry.Refused c why ∷ []) own' d = inl (refused_blames c why w other d.1)
  compacts own es own' d = absurd d

  upgrades : (own : Option Own) (es : List Entry) (own' : Option Own) → Upgrades own es (Err w) own' → HasBlame es
  upgrades own (entry.Upgrade n ∷ []) own' d = absurd (cc d.0)
  upgrades own (entry.Refused c why ∷ []) own' d = inl (refused_blames c why w other d.1)
  upgrades own es own' d = absurd d

  stats : (own : Option Own) (es : List Entry) (own' : Option Own) → Stats own es (Err w) own' → HasBlame es
  stats own (entry.Stat numbers ∷ []) own' d = absurd (cc d.0)
  stats own es own' d = absurd d

  calls : (t : Own) (o : Op) (es : List Entry) (own' : Option Own) → CallsStore g tells t o es (Err w) own' → HasBlame es
  calls t o es own' d = subst HasBlame (sym d.are) (blame_right (all_fetches t.number d.fetched) (refused_fetch t.number d.refused) (stops_by w other t.number d.refused d.stops))

  in_store : (b : Bool) (t : Own) (o : Op) (es : List Entry) (own' : Option Own) → Where b (CallsStore g tells t o es (Err w) own') (Says g (Some t) o es (Err w) own') → HasBlame es
  in_store b t o es own' d = where_of b (CallsStore g tells t o es (Err w) own') (Says g (Some t) o es (Err w) own') (HasBlame es) (calls t o es own') (says (Some t) o es own') d

  does : (own : Option Own) (o : Op) (es : List Entry) (own' : Option Own) → Does g tells own o es (Err w) own' → HasBlame es
  does None (op.Begin named) es own' d = begins named es own' d
  does None (op.Takeover label) es own' d = looks label es own' d
  does None (op.Await label) es own' d = looks_for label _ es own' d
  does None op.Trim es own' d = trims None es own' d
  does None op.Stat es own' d = stats None es own' d
  does None op.Compact es own' d = compacts None es own' d
  does None op.Upgrade es own' d = upgrades None es own' d
  does (Some t) (op.Read block) es own' d = reads t (op.Read block) block es own' d
  does (Some t) (op.Get block off len) es own' d = reads t (op.Get block off len) block es own' d
  does (Some t) op.End es own' d = ends t es own' d
  does (Some t) op.Abort es own' d = aborts t es own' d
  does (Some t) (op.Release label) es own' d = posts t label es own' d
  does (Some t) (op.HashPut key value) es own' d = in_store _ t (op.HashPut key value) es own' d
  does (Some t) (op.HashGet key) es own' d = in_store _ t (op.HashGet key) es own' d
  does (Some t) (op.HashDelete key) es own' d = in_store _ t (op.HashDelete key) es own' d
  does (Some t) (op.TreePut key value) es own' d = in_store _ t (op.TreePut key value) es own' d
  does (Some t) (op.TreeGet key) es own' d = in_store _ t (op.TreeGet key) es own' d
  does (Some t) (op.TreeDelete key) es own' d = in_store _ t (op.TreeDelete key) es own' d
  does (Some t) (op.TreeScan from to most) es own' d = in_store _ t (op.TreeScan from to most) es own' d
  does (Some t) (op.FileNew name) es own' d = in_store _ t (op.FileNew name) es own' d
  does (Some t) (op.FileWrite name off bytes) es own' d = in_store _ t (op.FileWrite name off bytes) es own' d
  does (Some t) (op.FileRead name off len) es own' d = in_store _ t (op.FileRead name off len) es own' d
  does (Some t) (op.FileMove from to) es own' d = in_store _ t (op.FileMove from to) es own' d
  does (Some t) (op.FileDelete name) es own' d = in_store _ t (op.FileDelete name) es own' d
  does (Some t) op.Trim es own' d = trims (Some t) es own' d
  does (Some t) op.Stat es own' d = stats (Some t) es own' d
  does (Some t) op.Compact es own' d = compacts (Some t) es own' d
  does (Some t) op.Upgrade es own' d = upgrades (Some t) es own' d
  does None (op.Group labels) es own' d = groups labels [] es d.0
  does (Some t) (op.Group labels) es own' d = groups labels [] es d.0
  does own o es own' d = absurd (cc d.1)

  did : (own : Option Own) (o : Op) (es : List Entry) (own' : Option Own) → Did g tells own o es (Err w) own' → HasBlame es
  did own o es own' (inl d) = does own o es own' d
  did own o es own' (inr wanted) = absurd (other (cc wanted.1))

  client_blames : (lines : List (ℕ × Line)) (told : List (ℕ × Reply)) (F : List Entry) → ClientLines g tells lines told (Some w) F → HasBlame F
  client_blames lines told F c =
      let s : StopsAtLast g tells lines told w c.made c.own = c.ran in
      let here : HasBlame (s.walked ++ s.entries) = blame_right s.walked s.entries (did s.mid s.last.1.op s.entries c.own s.did) in
      subst HasBlame (sym c.all) (blame_left c.made _ (subst HasBlame (sym s.all) here))

-- of clients of which none wanted memory, but one stopped
module _ (g : Geometry) (tells : Bool) (made : List Entry) where
  part_or : (o : Option Stop) (lines : List (ℕ × Line)) (told : List (ℕ × Reply)) (F : List Entry) (V S : Bool) → ClientLines g tells lines told o F → (HasBlame F → HasBlame made)
      → (wants o || V) ≡ false → (stopped o || S) ≡ true → (V ≡ false → S ≡ true → HasBlame made) → HasBlame made
  part_or None lines told F V S c up none one rest = rest none one
  part_or (Some stop.Memory) lines told F V S c up none one rest = absurd (cc none)
  part_or (Some stop.Disk) lines told F V S c up none one rest = up (client_blames g tells stop.Disk (λ e. cc e) lines told F c)
  part_or (Some stop.Down) lines told F V S c up none one rest = up (client_blames g tells stop.Down (λ e. cc e) lines told F c)

  pub parts_blame : (lines : List (ℕ × Line)) (owners : List ℕ) (parts : List Part) → AllByRecursion (λ p. ClientLines g tells (lines_run lines p) p.told p.stop (entries_of p.client owners made)) parts
      → list_any (λ p. wants p.stop) parts ≡ false → list_any (λ p. stopped p.stop) parts ≡ true → HasBlame made
  parts_blame lines owners [] all none one = absurd (cc one)
  parts_blame lines owners (p ∷ parts) all none one =
      part_or p.stop (lines_run lines p) p.told (entries_of p.client owners made) _ _ all.0 (blame_owned p.client owners made) none one (parts_blame lines owners parts all.1)
