-- Two sides after one of them was chosen, and the other one was made as it, or was left out.
use Rattle.mirror_disk.proofs.{Words.{◌≡◌, ◌⊎◌, ℕ, ◌+◌, ◌<◌, ◌≤◌, List, [], arith, DiskState, IsLawful, IsSettled, LeavesOnly, WritesNothing, Rose, Marks, Slot, Both, OnlyFirst, OnlySecond, AreAdopted, AreAlike, OfChosen, OfOther, Settles, TellsOn, WhereSame, HasEpoch, KeepsBody, other, ArePair}, Adopted.{alike_turned, body_tells, both_alike, first_kept, first_leads, pair_of, second_kept, second_leads, stands_both, stands_first, stands_second, told_kept}, Alone.{settled_both, settled_first, settled_second}, Done.rose_behind}

module _ {a b new_a new_b : DiskState} {e low : ℕ} {one two : Slot} (law_a : IsLawful a) (law_b : IsLawful b) (law_a' : IsLawful new_a) (law_b' : IsLawful new_b) (settled_a : IsSettled a) (settled_b : IsSettled b) where
  -- the first side was chosen
  pub first_settles : low ≤ e → ((x : List ℕ) → a.now x → HasEpoch one e x) → ((y : List ℕ) → b.now y → HasEpoch two low y) → LeavesOnly a new_a (OfChosen e a) → LeavesOnly b new_b (OfOther low e a b) → KeepsBody a new_a → TellsOn b new_b
      → (low ≡ e → WhereSame a b (Rose b.faults new_b.faults ⊎ (WritesNothing a new_a × WritesNothing b new_b))) → Settles a b new_a new_b
  first_settles le marks_a marks_b run_a run_b keeps tells still =
      let kept = first_kept a b new_a new_b e low one two law_a law_b law_a' law_b' le marks_a marks_b run_a run_b in
      record {
        kept = kept;
        contents = told_kept a b new_a new_b law_a law_b law_a' law_b' run_a.later run_b.later (body_tells keeps) tells settled_a settled_b kept;
        bound = run_a.same_bound;
        still = λ x y told told' same.
            let p = (marks_a x (law_a.reads_as_image x told)).epoch_is in
            let q = (marks_b y (law_b.reads_as_image y told')).epoch_is in
            still (omega (arith, p, q, same)) x y told told';
      }

  -- the second one was: the epochs differ
  pub second_settles : low < e → ((x : List ℕ) → a.now x → HasEpoch one low x) → ((y : List ℕ) → b.now y → HasEpoch two e y) → LeavesOnly a new_a (OfOther low e b a) → LeavesOnly b new_b (OfChosen e b) → TellsOn a new_a → KeepsBody b new_b → Settles a b new_a new_b
  second_settles less marks_a marks_b run_a run_b tells keeps =
      let kept = second_kept a b new_a new_b e low one two law_a law_b law_a' law_b' less marks_a marks_b run_a run_b in
      record {
        kept = kept;
        contents = told_kept a b new_a new_b law_a law_b law_a' law_b' run_a.later run_b.later tells (body_tells keeps) settled_a settled_b kept;
        bound = run_a.same_bound;
        still = λ x y told told' same alike.
            let p = (marks_a x (law_a.reads_as_image x told)).epoch_is in
            let q = (marks_b y (law_b.reads_as_image y told')).epoch_is in
            absurd (omega (arith, p, q, same, less));
      }

module _ {a b new_a new_b : DiskState} {e low : ℕ} (law_a : IsLawful a) (law_b : IsLawful b) (law_a' : IsLawful new_a) (law_b' : IsLawful new_b) (sizes : b.size ≡ a.size) (room : 64 ≤ a.size) (one two : Slot) where
  first_pair : LeavesOnly a new_a (OfChosen e a) → LeavesOnly b new_b (OfOther low e a b) → KeepsBody a new_a → TellsOn b new_b → ArePair new_a new_b []
  first_pair run_a run_b keeps tells = pair_of law_a' law_b' sizes room run_a run_b (λ x p. (p.header, p.told)) (λ y q. (q.header, q.told)) (body_tells keeps) tells

  second_pair : LeavesOnly a new_a (OfOther low e b a) → LeavesOnly b new_b (OfChosen e b) → TellsOn a new_a → KeepsBody b new_b → ArePair new_a new_b []
  second_pair run_a run_b tells keeps = pair_of law_a' law_b' sizes room run_a run_b (λ x p. (p.header, p.told)) (λ y q. (q.header, q.told)) tells (body_tells keeps)

  -- the other one is as the first
  pub first_adopted : LeavesOnly a new_a (OfChosen e a) → LeavesOnly b new_b (OfOther low e a b) → KeepsBody a new_a → TellsOn b new_b → IsSettled new_a → AreAlike new_a new_b e one two → AreAdopted a b new_a new_b (record { used = Both; epoch = e; first_slot = one; second_slot = two })
  first_adopted run_a run_b keeps tells settled alike = record {
    in_use = ((λ no. cc no), (λ no. cc no));
    goes_on = λ no. cc no;
    left_first = λ no. absurd (cc no);
    left_second = λ no. absurd (cc no);
    stands = stands_both (first_pair run_a run_b keeps tells) (both_alike new_a new_b e one two law_a' law_b' settled alike);
    settled = settled_both new_a new_b [] 0 0 settled alike.settled;
  }

  -- or was left out
  pub first_alone : low ≤ e → LeavesOnly a new_a (OfChosen e a) → LeavesOnly b new_b (OfOther low e a b) → KeepsBody a new_a → TellsOn b new_b → IsSettled new_a → ((x : List ℕ) → new_a.now x → HasEpoch (other one) (e + 1) x) → Rose b.faults new_b.faults
      → AreAdopted a b new_a new_b (record { used = OnlyFirst; epoch = e; first_slot = one; second_slot = two })
  first_alone le run_a run_b keeps tells settled raised rose =
      let pair = first_pair run_a run_b keeps tells in
      let leads = first_leads a b new_a new_b e low one two law_a law_b law_a' law_b' le run_a run_b raised in
      record {
        in_use = ((λ no. cc no), (λ no. cc no));
        goes_on = λ no. cc no;
        left_first = λ no. absurd (cc no);
        left_second = λ _. rose;
        stands = stands_first one two pair leads;
        settled = settled_first new_a new_b [] 0 0 e law_a' law_b' pair leads settled;
      }

  -- the same where the second side was chosen
  pub second_adopted : LeavesOnly a new_a (OfOther low e b a) → LeavesOnly b new_b (OfChosen e b) → TellsOn a new_a → KeepsBody b new_b → IsSettled new_b → AreAlike new_b new_a e two one → AreAdopted a b new_a new_b (record { used = Both; epoch = e; first_slot = one; second_slot = two })
  second_adopted run_a run_b tells keeps settled alike = record {
    in_use = ((λ no. cc no), (λ no. cc no));
    goes_on = λ no. cc no;
    left_first = λ no. absurd (cc no);
    left_second = λ no. absurd (cc no);
    stands = stands_both (second_pair run_a run_b tells keeps) (both_alike new_a new_b e one two law_a' law_b' alike.settled (alike_turned settled alike));
    settled = settled_both new_a new_b [] 0 0 alike.settled settled;
  }

  pub second_alone : low < e → LeavesOnly a new_a (OfOther low e b a) → LeavesOnly b new_b (OfChosen e b) → TellsOn a new_a → KeepsBody b new_b → IsSettled new_b → ((y : List ℕ) → new_b.now y → HasEpoch (other two) (e + 1) y) → Rose a.faults new_a.faults
      → AreAdopted a b new_a new_b (record { used = OnlySecond; epoch = e; first_slot = one; second_slot = two })
  second_alone less run_a run_b tells keeps settled raised rose =
      let pair = second_pair run_a run_b tells keeps in
      let leads = second_leads a b new_a new_b e low one two law_a law_b law_a' law_b' less run_a raised in
      record {
        in_use = ((λ no. cc no), (λ no. cc no));
        goes_on = λ no. cc no;
        left_first = λ _. rose;
        left_second = λ no. absurd (cc no);
        stands = stands_second one two pair leads;
        settled = settled_second new_a new_b [] 0 0 e law_a' law_b' pair leads settled;
      }

-- what holds of sides that were made stable or bound before: their counts have not fallen
pub adopted_behind : {a b mid_a mid_b new_a new_b : DiskState} {marks : Marks} → a.faults ≤ mid_a.faults → b.faults ≤ mid_b.faults → AreAdopted mid_a mid_b new_a new_b marks → AreAdopted a b new_a new_b marks
adopted_behind later later' adopted = record {
  in_use = adopted.in_use;
  goes_on = adopted.goes_on;
  left_first = λ is. rose_behind _ _ _ later (adopted.left_first is);
  left_second = λ is. rose_behind _ _ _ later' (adopted.left_second is);
  stands = adopted.stands;
  settled = adopted.settled;
}
