-- The last of several transactions, and what became of it.
use Rattle.committer.proofs.Words.{inl, inr, ℕ, ◌++◌, ◌≡◌, List, [], ◌∷◌, length, map, refl, sym, ap, subst, arith, ◌≢◌, ◌⊎◌, AllByRecursion, CoreError, IsLegal, number_of, tx_view, prefix_self, Start, Entry, Shared, Tx, View, ArePaired, IsBack, cause_of, members_in, units_of, IsPrefix}
use Rattle.iso_model.specs.declared.access.Access.{Access}
use Rattle.iso_model.specs.declared.core_error.CoreError.TheVariants as error
use Rattle.iso_shared.specs.{declared.entry.Member.Member, Ports.{IsSameTx, Made, doing_of}}
use Rattle.handle_pass.proofs.Handing.{same_on}
use Rattle.iso_shared.specs.declared.entry.Call.TheVariants as call
use Rattle.iso_shared.specs.declared.entry.Entry.TheVariants as entry
use Rattle.committer.specs.Outcomes.{IsHandedBack, IsMember, IsRefusedIn, MayEnd}

module _ {X Y : Type 0} (P : X → Y → Type 0) where
  -- the last of a pairing, and the others
  pub last_paired : (xs : List X) (x : X) (ys : List Y) (y : Y) → ArePaired P (xs ++ x ∷ []) (ys ++ y ∷ []) → P x y × ArePaired P xs ys
  last_paired [] x [] y p = (p.0, tt)
  last_paired [] x (z ∷ []) y p = absurd p.1
  last_paired [] x (z ∷ w ∷ ys) y p = absurd p.1
  last_paired (a ∷ []) x [] y p = absurd p.1
  last_paired (a ∷ b ∷ xs) x [] y p = absurd p.1
  last_paired (a ∷ xs) x (z ∷ ys) y p = let r = last_paired xs x ys y p.1 in (r.0, (p.0, r.1))

  pub some_paired : (xs : List X) (x : X) (ys : List Y) → ys ≡ [] → ArePaired P (xs ++ x ∷ []) ys → ⊥
  some_paired [] x [] none p = p
  some_paired (a ∷ xs) x [] none p = p
  some_paired xs x (y ∷ ys) none p = absurd (omega (arith, ap length none))

pub last_of : {X : Type 0} (P : X → Type 0) (xs : List X) (x : X) → AllByRecursion P (xs ++ x ∷ []) → P x × AllByRecursion P xs
last_of P [] x p = (p.0, tt)
last_of P (a ∷ xs) x p = let r = last_of P xs x p.1 in (r.0, (p.0, r.1))

pub paired_self : {X : Type 0} (P : X → Type 0) (xs : List X) → AllByRecursion P xs → ArePaired (λ t u. (u ≡ t) × P t) xs xs
paired_self P [] all = tt
paired_self P (x ∷ xs) all = ((refl, all.0), paired_self P xs all.1)

-- a refusal after which the members of a group are handed back is no fault of the disk
pub not_disk : (e : CoreError) → (e ≡ error.Down) ⊎ (e ≡ error.Memory) → e ≢ error.Disk
not_disk e (inl down) disk = cc (down, disk)
not_disk e (inr memory) disk = cc (memory, disk)

module _ {D O : Type 0} (shared : Shared D O) (A : Start) where
  -- The end of t by itself was refused, which handed it back as u. Its places were left with a port that has seen this, and so it is w.
  pub alone_back : (e : CoreError) (faults now : ℕ) (seen : List Entry) (v : View Entry) (t u w : Tx D O) → e ≢ error.Disk → IsSameTx t u
      → Made A v (tx_view t) (entry.Refused (call.End (number_of t) (doing_of t).accesses) (cause_of faults now e)) (tx_view u) → IsBack shared A seen u w → IsPrefix (tx_view u).seen seen → IsHandedBack shared A t e w
  alone_back e faults now seen v t u w live same m back known = record {
    tx = record { tx = back.tx; unit = back.has.2 };
    same = same_on t u w same back.same;
    bare = back.has.0;
    live = live;
    list = (tx_view u).seen;
    refused = record {
      asked = call.End (number_of t) (doing_of t).accesses;
      of = inl refl;
      faults = faults;
      now = now;
      seen = record { before = m.before; told = m.begins; seen_is = m.seen; legal = m.legal };
    };
    known = subst (λ (l : List Entry). IsPrefix (tx_view u).seen l) (sym back.seen_is) known;
  }

  pub units_one : (txs : List (Tx D O)) → AllByRecursion (MayEnd shared A) txs → units_of txs ≡ length txs
  units_one [] all = refl
  units_one (t ∷ txs) all = let rest = units_one txs all.1 in let one = all.0.unit in omega (arith, rest, one)

  pub are_txs : (txs : List (Tx D O)) → AllByRecursion (MayEnd shared A) txs → Rattle.group_commit.specs.Groups.AreTxs shared A txs
  are_txs [] all = tt
  are_txs (t ∷ txs) all = (all.0.tx, are_txs txs all.1)

  module _ (e : CoreError) (faults now : ℕ) (before seen : List Entry) (members : List Member)
      (is : seen ≡ before ++ entry.Refused (call.EndGroup members) (cause_of faults now e) ∷ []) (legal : IsLegal A seen) where
    -- a member of the group that was refused
    refused : (t : Tx D O) → IsPrefix (tx_view t).seen before → IsMember (number_of t) (doing_of t).accesses members → IsRefusedIn shared A t e seen
    refused t begins among = record {
      asked = call.EndGroup members;
      of = inr (members, refl, among);
      faults = faults;
      now = now;
      seen = record { before = before; told = begins; seen_is = is; legal = legal };
    }

    pub all_back : (e ≢ error.Disk) → (txs us : List (Tx D O)) → AllByRecursion (λ (u : View Entry). IsPrefix u.seen before) (map tx_view txs)
        → ((n : ℕ) (accesses : List Access) → IsMember n accesses (members_in txs) → IsMember n accesses members)
        → ArePaired (IsBack shared A seen) txs us → ArePaired (λ t u. IsHandedBack shared A t e u) txs us
    all_back live [] [] begins among back = tt
    all_back live [] (u ∷ us) begins among back = absurd back
    all_back live (t ∷ txs) [] begins among back = absurd back
    all_back live (t ∷ txs) (u ∷ us) begins among back = (
      record {
        tx = record { tx = back.0.tx; unit = back.0.has.2 };
        same = back.0.same;
        bare = back.0.has.0;
        live = live;
        list = seen;
        refused = refused t begins.0 (among (number_of t) (doing_of t).accesses (inl refl));
        known = subst (λ (l : List Entry). IsPrefix seen l) (sym back.0.seen_is) (prefix_self seen);
      },
      all_back live txs us begins.1 (λ n accesses one. among n accesses (inr one)) back.1,
    )

    pub all_lost : (txs : List (Tx D O)) → AllByRecursion (λ (u : View Entry). IsPrefix u.seen before) (map tx_view txs)
        → ((n : ℕ) (accesses : List Access) → IsMember n accesses (members_in txs) → IsMember n accesses members)
        → AllByRecursion (λ t. IsRefusedIn shared A t e seen) txs
    all_lost [] begins among = tt
    all_lost (t ∷ txs) begins among = (refused t begins.0 (among (number_of t) (doing_of t).accesses (inl refl)), all_lost txs begins.1 (λ n accesses one. among n accesses (inr one)))

  pub same_seen : (old new : List Entry) → new ≡ old → (txs : List (Tx D O)) → AllByRecursion (λ t. IsRefusedIn shared A t error.Disk old) txs → AllByRecursion (λ t. IsRefusedIn shared A t error.Disk new) txs
  same_seen old new same txs all = subst (λ l. AllByRecursion (λ t. IsRefusedIn shared A t error.Disk l) txs) (sym same) all
