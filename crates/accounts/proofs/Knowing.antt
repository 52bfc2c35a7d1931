-- What a session comes to know of the members of a group, one after the other.
use Rattle.accounts.proofs.Words.{◌≡◌, ◌∙◌, refl, ap, subst, suc, List, [], ◌∷◌, ◌++◌, arith, length, Accounts, Entry, IsLegal, IsPrefix, AllByRecursion, prefix_trans, times, Shared, Start, count, port_view, IsKept, SessionState}
use Rattle.accounts.proofs.Covering.{covers_less, covers_on}
use Rattle.accounts.specs.Learned.{IsEnded, IsLearned}
use Rattle.group_commit.specs.{declared.each.Ended.Ended, Each.IsEndedIn}
use Rattle.handle_pass.specs.Splits.{Joined}
use Rattle.iso_shared.specs.{declared.shared.Port.Port, declared.tx.Tx.Tx, Groups.ArePaired}
use Rattle.iso_shared.specs.declared.entry.Entry.TheVariants as entry

module _ {D O : Type 0} where
  -- a session that takes a port in which has no place, is one of accounts still
  pub joined_kept : (accounts : Accounts) (A : Start) (s t : SessionState) (q : Port D O) → (port_view q).mine ≡ [] → Joined s q t → IsKept accounts A s → IsKept accounts A t
  joined_kept accounts A s t q bare joined kept = record {
    covers = covers_less accounts A t.seen (count s) (count t) (λ p. let a = joined.places p in let b = ap (times p) bare in omega (arith, a, b)) (covers_on accounts A s.seen t.seen (count s) joined.known kept.covers);
    none = joined.tx.is ∙ kept.none;
  }

module _ {D O : Type 0} (shared : Shared D O) (A : Start) where
  pub as_many : (txs : List (Tx D O)) (told : List (Ended D O)) → ArePaired (IsEndedIn shared A) txs told → length told ≡ length txs
  as_many [] [] pairs = refl
  as_many [] (e ∷ told) pairs = absurd pairs
  as_many (t ∷ txs) [] pairs = absurd pairs
  as_many (t ∷ txs) (e ∷ told) pairs = ap suc (as_many txs told pairs.1)

  pub all_ended : (txs : List (Tx D O)) (told : List (Ended D O)) → ArePaired (IsEndedIn shared A) txs told → AllByRecursion (IsEnded shared A) told
  all_ended [] [] pairs = tt
  all_ended [] (e ∷ told) pairs = absurd pairs
  all_ended (t ∷ txs) [] pairs = absurd pairs
  all_ended (t ∷ txs) (e ∷ told) pairs = ((t, pairs.0), all_ended txs told pairs.1)

  -- who has seen what the member's port has, knows its end
  pub learned_in : (seen : List Entry) (e : Ended D O) → IsPrefix (port_view e.port).seen seen → IsLearned shared A seen e
  learned_in seen e more t is =
      record {
        before = is.before;
        members = is.members;
        told = is.told;
        known = subst (λ (l : List Entry). IsPrefix l seen) is.seen_is more;
        legal = subst (IsLegal A) is.seen_is is.legal;
        among = is.among;
      }

  pub learned_on : (seen more : List Entry) (e : Ended D O) → IsPrefix seen more → IsLearned shared A seen e → IsLearned shared A more e
  learned_on seen more e longer knows t is =
      let k = knows t is in
      record {
        before = k.before;
        members = k.members;
        told = k.told;
        known = prefix_trans (k.before ++ entry.EndGroup k.members ∷ []) seen more k.known longer;
        legal = k.legal;
        among = k.among;
      }

  -- once the ends of those that are left are known, all are
  abbrev pub LearnsMore : (seen : List Entry) (rest all : List (Ended D O)) → Type 0
  LearnsMore seen rest all = (more : List Entry) → IsPrefix seen more → AllByRecursion (IsLearned shared A more) rest → AllByRecursion (IsLearned shared A more) all

  pub learns_more : (seen next : List Entry) (e : Ended D O) (rest all : List (Ended D O)) → IsPrefix seen next → IsLearned shared A next e → LearnsMore seen (e ∷ rest) all → LearnsMore next rest all
  learns_more seen next e rest all longer one before more on known = before more (prefix_trans seen next more longer on) (learned_on next more e on one, known)
