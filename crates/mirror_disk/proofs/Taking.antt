-- The other side while it is made as the one that was chosen.
use Rattle.mirror_disk.proofs.{Words.{◌≡◌, ◌≢◌, inl, inr, ⊎_elim, ℕ, ◌+◌, ◌≤◌, Bool, List, Ok, Option, IfSome, Some, None, Rose, sym, ◌∙◌, ap, arith, same_Some, DiskState, IsLawful, IsSettled, LeavesOnly, TellsTorn, TornFrom, WritesNothing, at_end, joined, weakened, Mark, Slot, AreAlike, AreChosen, Copies, IsCopied, MakesAlike, OfChosen, OfOther, body, epoch, HasEpoch, IsMarked, KeepsBody, Raising, TellsOn}, Ended.{keeps_on, marked_on, tells_on}, Epochs.epoch-torn, Handed.later_twice, Headers.header_behind, Raises.told_before}

-- the other side goes on telling its bytes while they are copied, and while its epoch is raised
pub tells_copied : {old new : DiskState} {k n : ℕ} → TellsTorn k n old new → TellsOn old new
tells_copied torn = record { told = tells_on torn; untold = torn.untold }

pub tells_raised : {old mid new : DiskState} {k n : ℕ} → TellsTorn k n old mid → KeepsBody mid new → TellsOn old new
tells_raised torn keeps = record { told = λ some. keeps_on keeps (tells_on torn some); untold = λ none. keeps.untold (torn.untold none) }

-- a settled side whose images have this epoch is marked
pub marked_settled : {d : DiskState} (slot : Slot) (e : ℕ) → IsSettled d → ((x : List ℕ) → d.now x → HasEpoch slot e x) → IsMarked slot e d
marked_settled slot e settled each = grind arith

module _ (from to mid : DiskState) (count : ℕ) (slot : Slot) (e next : ℕ) (law_to : IsLawful to) (law_mid : IsLawful mid) (settled : IsSettled to) (behind : (y : List ℕ) → to.now y → HasEpoch slot e y)
    (run : LeavesOnly to mid (TornFrom 64 count to.now)) where
  -- while the bytes are copied
  pub copied_moments : LeavesOnly to mid (OfOther e next from to)
  copied_moments = weakened run (λ y t.
      let has = behind t.old t.was in
      let same : epoch y ≡ epoch t.old = epoch-torn t.torn (omega arith) in
      record { header = header_behind has.header t.torn (omega arith) same; told = λ none. absurd (cc (none, settled t.old t.was)); either = inl (omega (arith, same, has.epoch_is)) })

  -- once they are
  pub copied_mark : TellsTorn 64 count to mid → IsMarked slot e mid
  copied_mark torn =
      let mark = marked_settled {d = to} slot e settled behind in
      marked_on slot e 0 count law_to law_mid (λ y now. (behind y now).epoch_is) (λ y now. (behind y now).slot_is) mark.fronts (λ y now none. absurd (cc (none, settled y now))) (λ y now. (behind y now).header) (tells_on torn) run

  -- while the epoch is raised
  pub raised_moments : (new : DiskState) → TellsTorn 64 count to mid → LeavesOnly mid new (Raising e next mid) → ((x y : List ℕ) → from.contents ≡ Some x → mid.contents ≡ Some y → body y ≡ body x) → LeavesOnly to new (OfOther e next from to)
  raised_moments new torn raise copied = joined copied_moments (weakened raise (λ y r. record {
    header = r.0;
    told = ⊎_elim
        (λ (k : (epoch y ≡ e) × ((x : List ℕ) × mid.now x × (body y ≡ body x))). (at_end law_mid copied_moments k.1.0 k.1.1).told)
        (λ (k : (epoch y ≡ next) × ((c : List ℕ) × (mid.contents ≡ Some c) × (body y ≡ body c))). λ (none : to.contents ≡ None). absurd (cc (torn.untold none, k.1.1)))
        r.1;
    either = ⊎_elim
        (λ (k : (epoch y ≡ e) × ((x : List ℕ) × mid.now x × (body y ≡ body x))). inl (omega (arith, k.0)))
        (λ (k : (epoch y ≡ next) × ((c : List ℕ) × (mid.contents ≡ Some c) × (body y ≡ body c))). inr (k.0, λ d told. k.1.2 ∙ copied d k.1.0 told k.1.1))
        r.1;
  }))

-- the sides are alike, where they had the same epoch
pub alike_copied : (from new_from mid : DiskState) (one slot : Slot) (e next : ℕ) → e ≡ next → IsLawful new_from → WritesNothing from new_from → ((x : List ℕ) → from.now x → HasEpoch one next x) → IsMarked slot e mid → IsSettled mid
    → ((x y : List ℕ) → from.contents ≡ Some x → mid.contents ≡ Some y → body y ≡ body x) → AreAlike new_from mid next one slot
alike_copied from new_from mid one slot e next same laws still chosen mark settled copied = grind (arith, at_end)

-- or where the lower one was raised
pub alike_raised : (from new_from mid new : DiskState) (one slot : Slot) (next : ℕ) → IsLawful new_from → WritesNothing from new_from → ((x : List ℕ) → from.now x → HasEpoch one next x)
    → ((y : List ℕ) → new.now y → HasEpoch slot next y) → IsSettled new → KeepsBody mid new → ((x y : List ℕ) → from.contents ≡ Some x → mid.contents ≡ Some y → body y ≡ body x) → AreAlike new_from new next one slot
alike_raised from new_from mid new one slot next laws still chosen raised settled keeps copied = record {
  first = λ x now. chosen x (at_end laws still.moments x now);
  second = raised;
  settled = settled;
  agree = λ x y told told'. let c = told_before keeps y told' in sym (c.2 ∙ copied x c.0 (sym still.same_contents ∙ told) c.1);
}

-- two sides of which one was chosen, once its bytes were copied: the other one is marked
pub mark_behind : {E : Type 0} {from to new_from mid : DiskState} {count : ℕ} {done : Bool} (one two : Mark) → IsLawful to → IsLawful mid → AreChosen from to count one two → Copies {E = E} from to new_from mid 64 count (IsCopied from) (Ok done) → IsMarked two.slot two.epoch mid
mark_behind {from = from} {to = to} {mid = mid} {count = count} one two law_to law_mid are copies = copied_mark from to mid count two.slot two.epoch one.epoch law_to law_mid are.settled.1 are.behind copies.moments copies.torn

-- what was made of both, where its epoch was raised then, or was not
pub made_raised : {E F : Type 0} {from to new_from mid new : DiskState} {count : ℕ} {done : Bool} (one two : Mark) (answer : Option Slot) → IsLawful to → IsLawful mid → AreChosen from to count one two → Copies {E = E} from to new_from mid 64 count (IsCopied from) (Ok done) → IsCopied from mid
    → (two.epoch ≢ one.epoch) → LeavesOnly mid new (Raising two.epoch one.epoch mid) → KeepsBody mid new → mid.faults ≤ new.faults → IfSome answer (λ s. AreAlike new_from new one.epoch one.slot s) → (answer ≡ None → Rose to.faults new.faults) → MakesAlike {E = F} from to new_from new one two (Ok answer)
made_raised {from = from} {to = to} {mid = mid} {new = new} {count = count} one two answer law_to law_mid are copies copied other raise keeps later alike left = record {
  made = record {
    moments = raised_moments from to mid count two.slot two.epoch one.epoch law_to law_mid are.settled.1 are.behind copies.moments new copies.torn raise copied.alike;
    tells = tells_raised copies.torn keeps;
    alike = alike;
    left = left;
  };
  unwritten = copies.unwritten;
  still = λ same. absurd (other same);
  cause = record { later = copies.cause.later; failed = λ is. absurd (cc is); passed = copies.cause.passed };
  later = later_twice _ _ _ copies.later later;
}

-- the side that was chosen, as it was settled
pub chosen_image : (from : DiskState) (slot : Slot) (e : ℕ) → IsSettled from → ((x : List ℕ) → from.now x → HasEpoch slot e x) → (x : List ℕ) → from.now x → OfChosen e from x
chosen_image from slot e settled each x now = grind arith

-- and while it is raised, as the other one is left out
pub chosen_raised : (from mid new : DiskState) (slot : Slot) (e : ℕ) → IsLawful mid → IsSettled from → ((x : List ℕ) → from.now x → HasEpoch slot e x) → WritesNothing from mid → LeavesOnly mid new (Raising e (e + 1) mid) → LeavesOnly from new (OfChosen e from)
chosen_raised from mid new slot e laws settled each still raise =
    joined (weakened still.moments (chosen_image from slot e settled each)) (weakened raise (λ x r. record {
      header = r.0;
      most = ⊎_elim (λ (k : (epoch x ≡ e) × ((y : List ℕ) × mid.now y × (body x ≡ body y))). (let le : e ≤ epoch x = omega (arith, k.0) in le)) (λ (k : (epoch x ≡ e + 1) × ((c : List ℕ) × (mid.contents ≡ Some c) × (body x ≡ body c))). (let le : e ≤ epoch x = omega (arith, k.0) in le)) r.1;
      told = ⊎_elim
          (λ (k : (epoch x ≡ e) × ((y : List ℕ) × mid.now y × (body x ≡ body y))). (chosen_image from slot e settled each k.1.0 (at_end laws still.moments k.1.0 k.1.1)).told)
          (λ (k : (epoch x ≡ e + 1) × ((c : List ℕ) × (mid.contents ≡ Some c) × (body x ≡ body c))). λ (none : from.contents ≡ None). absurd (cc (none, still.same_contents, k.1.1)))
          r.1;
      same = λ d told. ⊎_elim
          (λ (k : (epoch x ≡ e) × ((y : List ℕ) × mid.now y × (body x ≡ body y))). k.1.2 ∙ (chosen_image from slot e settled each k.1.0 (at_end laws still.moments k.1.0 k.1.1)).same d told)
          (λ (k : (epoch x ≡ e + 1) × ((c : List ℕ) × (mid.contents ≡ Some c) × (body x ≡ body c))). k.1.2 ∙ ap body (same_Some k.1.0 d (sym k.1.1 ∙ still.same_contents ∙ told)))
          r.1;
    }))
