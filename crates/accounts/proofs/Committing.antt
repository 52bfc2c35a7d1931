-- A transaction that is filled commits as one of accounts, wherever it ends.
use Rattle.accounts.proofs.Words.{◌≡◌, ◌∙◌, inl, inr, sym, refl, ap, subst, ℕ, ◌+◌, ◌<◌, ◌≤◌, true, List, [], ◌∷◌, ◌++◌, arith, length, Accounts, Array, image_hash, image_tree, IsPrefix, length-append, cases_lt, prefix_shorter, Own, array_at, last, Live, IsWorld, began_last, began_own, Follows, follows_prefix, legal_last, opened_sound, sound_all, Entry, IsLegal, IsOwn, Start, is_live, live_of, opened, state_at, commit_at, world_at, AreMixed, array_extends, Doing, sound_at, CommitsAccounts, IsOfAccounts, IsFilled}
use Rattle.iso_shared.specs.declared.entry.Entry.TheVariants as entry

module _ (accounts : Accounts) (A : Start) (E W before : List Entry) (o : Own) (sound : IsWorld A.world) (idle : A.world.live ≡ []) (filled : IsFilled (IsOfAccounts accounts) A E o) (within : IsPrefix E W)
    (legal : IsLegal A before) (at : IsPrefix before W) (live : is_live o.number (world_at A before).live ≡ true) where
  abbrev first : List Entry
  first = filled.before

  abbrev e : Entry
  e = entry.Begin o.number o.begin o.mode

  abbrev begun : List Entry
  begun = first ++ e ∷ []

  parts_of : IsLegal A first × (o.number ≡ (world_at A first).next) × (o.begin ≡ last (world_at A first).history)
  parts_of =
      let l = legal_last (opened A) first e filled.legal in
      (l.0, l.1.answers.1, began_last (world_at A first) o.mode o.begin l.1.answers.2)

  -- it is live after its begin alone
  later : IsPrefix begun before
  later =
      let begunW : IsPrefix begun W = Rattle.turn_lock.proofs.Prefixes.prefix_trans begun E W filled.known within in
      let firstW : IsPrefix first W = Rattle.turn_lock.proofs.Prefixes.prefix_trans first begun W (e ∷ [], refl) begunW in
      let size : length begun ≡ length first + 1 = length-append first (e ∷ []) in
      elim (cases_lt (length first) (length before)) [
        | inl past ↦ prefix_shorter begun before W begunW at (omega arith)
        | inr not_yet ↦
            let front = follows_prefix A before first (prefix_shorter before first W at firstW not_yet) in
            let below : o.number < (world_at A before).next = (sound_all (opened A) before (opened_sound A idle) legal).below o.number live in
            let next : (world_at A before).next ≤ (world_at A first).next = front.next in
            let same : o.number ≡ (world_at A first).next = parts_of.1 in
            absurd (omega (arith, below, next, same))
      ]

  here : Follows (state_at A begun) (state_at A before)
  here = follows_prefix A begun before later

  own : IsOwn (state_at A begun) o.number (record { begin = o.begin; mode = o.mode; size = (world_at A first).geometry.block; blocks = (world_at A first).geometry.blocks; accesses = []; ready = Rattle.std.proofs.Common.None; settled = true })
  own =
      let work : Doing = record { begin = o.begin; mode = o.mode; size = (world_at A first).geometry.block; blocks = (world_at A first).geometry.blocks; accesses = []; ready = Rattle.std.proofs.Common.None; settled = true } in
      began_own A first o.number o.begin o.mode work idle filled.legal refl refl (record { size = refl; blocks = refl })

  -- what is live there is what began
  tx_is : ((live_of o.number (world_at A before).live).begin ≡ o.begin) × ((live_of o.number (world_at A before).live).mode ≡ o.mode)
  tx_is =
      let was = here.live o.number own.number live in
      (ap (λ (t : Live). t.begin) was.1 ∙ own.begin was.0, ap (λ (t : Live). t.mode) was.1 ∙ own.mode was.0)

  same_array : array_at (world_at A before).history o.begin ≡ array_at (world_at A first).history o.begin
  same_array =
      let some = (sound_at A first sound parts_of.0).history.first in
      let f = follows_prefix A first before (Rattle.turn_lock.proofs.Prefixes.prefix_trans first begun before (e ∷ [], refl) later) in
      let low : o.begin ≤ last (world_at A first).history = let is = parts_of.2 in omega (arith, is) in
      array_extends (world_at A first).history (world_at A before).history o.begin some f.history low

  pub commits_well : CommitsAccounts accounts A.world.geometry (world_at A before).history (commit_at (world_at A before) o.number o.accesses)
  commits_well = record {
    of = record {
      parts = filled.parts;
      are = filled.are;
      made = subst (λ (n : ℕ). AreMixed (image_hash A.world.geometry) (image_tree A.world.geometry) (array_at (world_at A before).history n) filled.parts) (sym tx_is.0)
          (subst (λ (B : Array). AreMixed (image_hash A.world.geometry) (image_tree A.world.geometry) B filled.parts) (sym same_array) filled.made);
      mode = inr (tx_is.1 ∙ filled.serial);
    };
    does = filled.is;
  }
