-- What a wrong definition of what a tape leaves would get wrong.
use Rattle.std.proofs.Common.{◌≡◌, ℕ, zero, suc, ◌+◌, List, [], ◌∷◌, length, take, drop, Vec, refl, sym, ◌∙◌, ap, subst}
use Rattle.std.specs.declared.alloc.Global.{Global}
use Rattle.iso_disk.specs.Disk.{Torn, spliced}
use Rattle.iso_memdisk.specs.{declared.record.Call.TheVariants.{Write, Sync}, Record.{NoSync, TornBy, written}}
use Rattle.queued_disk.specs.Tape.{IsLeftBy}

module _ (v w : Vec ℕ Global) (seven : v.items ≡ 7 ∷ []) (nine : w.items ≡ 9 ∷ []) where
  -- a write that no sync came after may have left any byte in its range
  pub left_torn : IsLeftBy (Write 0 v ∷ []) (0 ∷ 0 ∷ []) (5 ∷ 0 ∷ [])
  left_torn = record { stable = 0; no_sync = alone; torn = (5 ∷ 0 ∷ [], torn, refl) }
    where
      alone : NoSync (Write 0 v ∷ [])
      alone zero is = absurd (cc is)
      alone (suc k) is = absurd (cc is)

      torn : Torn 0 (length v.items) (0 ∷ 0 ∷ []) (5 ∷ 0 ∷ [])
      torn = subst (λ (l : List ℕ). Torn 0 (length l) (0 ∷ 0 ∷ []) (5 ∷ 0 ∷ [])) (sym seven) (record { before = refl; after = refl; size = refl })

  -- and no byte outside
  pub outside_stays : IsLeftBy (Write 0 v ∷ []) (0 ∷ 0 ∷ []) (7 ∷ 1 ∷ []) → ⊥
  outside_stays left = by left.stable left.torn
    where
      whole : (7 ∷ 1 ∷ []) ≡ spliced (0 ∷ 0 ∷ []) 0 v.items → ⊥
      whole is = let said : (7 ∷ 1 ∷ []) ≡ 7 ∷ 0 ∷ [] = is ∙ ap (spliced (0 ∷ 0 ∷ []) 0) seven in absurd (cc said)

      by : (s : ℕ) → TornBy (drop s (Write 0 v ∷ [])) (written (take s (Write 0 v ∷ [])) (0 ∷ 0 ∷ [])) (7 ∷ 1 ∷ []) → ⊥
      by zero (mid, torn, is) =
          let after : drop 1 mid ≡ 0 ∷ [] = subst (λ (l : List ℕ). drop (0 + length l) mid ≡ drop (0 + length l) (0 ∷ 0 ∷ [])) seven torn.after in
          let said : 1 ∷ [] ≡ 0 ∷ [] = ap (drop 1) is ∙ after in
          absurd (cc said)
      by (suc zero) is = whole is
      by (suc (suc s)) is = whole is

  -- what a sync came after stays
  pub synced_stands : IsLeftBy (Write 0 v ∷ Sync ∷ Write 1 w ∷ []) (0 ∷ 0 ∷ []) (0 ∷ 9 ∷ []) → ⊥
  synced_stands left = by left.stable left.no_sync left.torn
    where
      first : take 1 (spliced (0 ∷ 0 ∷ []) 0 v.items) ≡ 7 ∷ []
      first = ap (λ (l : List ℕ). take 1 (spliced (0 ∷ 0 ∷ []) 0 l)) seven

      whole : (0 ∷ 9 ∷ []) ≡ spliced (spliced (0 ∷ 0 ∷ []) 0 v.items) 1 w.items → ⊥
      whole is =
          let said : (0 ∷ 9 ∷ []) ≡ 7 ∷ 9 ∷ [] = is ∙ (λ i. spliced (spliced (0 ∷ 0 ∷ []) 0 (seven i)) 1 (nine i)) in
          absurd (cc said)

      by : (s : ℕ) → NoSync (drop s (Write 0 v ∷ Sync ∷ Write 1 w ∷ [])) → TornBy (drop s (Write 0 v ∷ Sync ∷ Write 1 w ∷ [])) (written (take s (Write 0 v ∷ Sync ∷ Write 1 w ∷ [])) (0 ∷ 0 ∷ [])) (0 ∷ 9 ∷ []) → ⊥
      by zero none torn = absurd (none 1 refl)
      by (suc zero) none torn = absurd (none 0 refl)
      by (suc (suc zero)) none (mid, torn, is) =
          let said : 0 ∷ [] ≡ 7 ∷ [] = ap (take 1) is ∙ torn.before ∙ first in
          absurd (cc said)
      by (suc (suc (suc zero))) none is = whole is
      by (suc (suc (suc (suc s)))) none is = whole is
