-- What stood before: a look finds what was posted and nothing has taken out since, and a begin is at or above each commit that was told of.
use Rattle.iso_shared.proofs.{Words.{ShowsFrom, ◌≡◌, ◌⊎◌, inl, inr, ℕ, ◌+◌, ◌≤◌, ◌==◌, Bool, true, false, cond, List, [], ◌∷◌, ◌++◌, Option, Some, None, refl, sym, ap, ◌∙◌, subst, arith, bytes_eq, drop, option_map, slice_get, AllByRecursion, lookup, remove_entry, bytes_eq-Decides, hit, times, hit_same, Access, Call, Cause, Entry, Posting, Fits, IsLegal, LegalFrom, WasPosted, is_number, takes_out, Start, State, after, after_all, after_fault, after_refusal, opened, posting_of, racked, state_at, ◌-◌, ◌<◌, nat_lt, length-append, ahead, decided, group_is, made_by, member_reply, Clash, EndReply, Committed, ReadOnly, Conflict, Mode, CoreReply, LAST, clash, has_write, last, commit_from, commit_step, end_step, need, World, Live, used, MemberEnd, CommitsUpTo, IsMemberUpTo, IsReplyUpTo, replies_of, tx_of}, Trace.{IsSound, first_parts, hits, hits_are, label_parts, legal_last, opened_sound, sound_next}, Begins.began_last, Follows.{follows_all, last_longer}, Grouped.{after_history, decided_extends}}
use Rattle.iso_shared.specs.declared.entry.Call.TheVariants as call
use Rattle.iso_shared.specs.declared.entry.Cause.TheVariants as cause
use Rattle.iso_shared.specs.declared.entry.Entry.TheVariants as entry
use Rattle.iso_model.specs.declared.core_reply.CoreReply.TheVariants as reply

-- ---- what is in a rack

abbrev Item : Type 0
Item = List ℕ × Posting

abbrev IsIn : Item → List Item → Type 0
IsIn x [] = ⊥
IsIn x (y ∷ rack) = (y ≡ x) ⊎ IsIn x rack

found_by : (label : List ℕ) (y : Item) (rack : List Item) (p : Posting) (b : Bool) → bytes_eq label y.0 ≡ b → (lookup (bytes_eq label) rack ≡ Some p → IsIn (label, p) rack)
    → cond b (Some y.1) (lookup (bytes_eq label) rack) ≡ Some p → IsIn (label, p) (y ∷ rack)
found_by label y rack p true test later is = grind (arith, bytes_eq-Decides)
found_by label y rack p false test later is = inr (later is)

found_in : (label : List ℕ) (rack : List Item) (p : Posting) → lookup (bytes_eq label) rack ≡ Some p → IsIn (label, p) rack
found_in label [] p is = absurd (cc is)
found_in label (y ∷ rack) p is = found_by label y rack p (bytes_eq label y.0) refl (found_in label rack p) is

removed_by : (x y : Item) (rack rest : List Item) (b : Bool) → (IsIn x rest → IsIn x rack) → IsIn x (cond b rack (y ∷ rest)) → IsIn x (y ∷ rack)
removed_by x y rack rest true later is = inr is
removed_by x y rack rest false later (inl same) = inl same
removed_by x y rack rest false later (inr more) = inr (later more)

removed_in : (x : Item) (test : List ℕ → Bool) (rack : List Item) → IsIn x (remove_entry test rack) → IsIn x rack
removed_in x test [] is = is
removed_in x test (y ∷ rack) is = removed_by x y rack (remove_entry test rack) (test y.0) (removed_in x test rack) is

dropped_in : (x : Item) (rack : List Item) → IsIn x (drop 1 rack) → IsIn x rack
dropped_in x [] is = is
dropped_in x (y ∷ rack) is = inr is

last_in : (x y : Item) (rack : List Item) → IsIn x (rack ++ y ∷ []) → IsIn x rack ⊎ (y ≡ x)
last_in x y [] (inl same) = inr same
last_in x y [] (inr never) = absurd never
last_in x y (z ∷ rack) (inl same) = inl (inl same)
last_in x y (z ∷ rack) (inr more) = elim (last_in x y rack more) [ inl there ↦ inl (inr there) | inr same ↦ inr same ]

counted : (x : Item) (rack : List Item) → IsIn x rack → 1 ≤ times x.1.number (racked rack)
counted x [] never = absurd never
counted x (y ∷ rack) (inl same) = omega (arith, hit_same y.1.number x.1.number (ap (λ (z : Item). z.1.number) same))
counted x (y ∷ rack) (inr more) = let later = counted x rack more in omega (arith, later)

-- the number of one that is still there was not taken out
not_taken : (b : Bool) (all rest : ℕ) → all ≡ cond b 1 0 + rest → all ≤ 1 → 1 ≤ rest → b ≡ false
not_taken true all rest is one some = absurd (omega (arith, is, one, some))
not_taken false all rest is one some = refl

-- ---- one entry

refused_rack : (S : State) (c : Call) (why : Cause) → (after_refusal S c why).rack ≡ S.rack
refused_rack S c (cause.Disk before now) = faulted c
  where
    faulted : (x : Call) → (after_fault S x now).rack ≡ S.rack
    faulted (call.Begin named) = refl
    faulted (call.Fetch n block) = refl
    faulted (call.End n accesses) = refl
    faulted (call.EndGroup members) = refl
    faulted call.Trim = refl
    faulted call.Compact = refl
    faulted call.Upgrade = refl
    faulted (call.Post n label accesses) = refl
    faulted (call.Recent n) = refl
refused_rack S c why = refl

-- the entry is the post of it
pub record IsPostOf (S : State) (label : List ℕ) (p : Posting) (e : Entry) : Type 0 where
  pub entry_is : e ≡ entry.Post p.number label p.accesses
  pub is : p ≡ posting_of S.world p.number p.accesses

-- what is in the rack after the entry stood there before and was not taken out, or the entry posted it
abbrev StoodOr : State → List ℕ → Posting → Entry → Type 0
StoodOr S label p e = (IsIn (label, p) S.rack × (takes_out p.number e ≡ false)) ⊎ IsPostOf S label p e

look_back : (S : State) (label l : List ℕ) (p : Posting) (found : Option Posting) → IsSound S → found ≡ lookup (bytes_eq l) S.rack → IsIn (label, p) (remove_entry (bytes_eq l) S.rack)
    → is_number p.number (option_map (λ q. q.number) found) ≡ false
look_back S label l p None s is there = refl
look_back S label l p (Some q) s is there =
    let rest : ℕ = times p.number (racked (remove_entry (bytes_eq l) S.rack)) in
    let parts : times p.number (racked S.rack) ≡ hit q.number p.number + rest = label_parts p.number (bytes_eq l) S.rack ∙ ap (λ v. hits p.number v + rest) (sym is) in
    not_taken (q.number == p.number) (times p.number (racked S.rack)) rest parts (s.alone p.number) (counted (label, p) (remove_entry (bytes_eq l) S.rack) there)

sweep_back : (S : State) (label : List ℕ) (p : Posting) (k : ℕ) → IsSound S → Some k ≡ option_map (λ e. e.1.number) (slice_get S.rack 0) → IsIn (label, p) (drop 1 S.rack)
    → (k == p.number) ≡ false
sweep_back S label p k s is there =
    let rest : ℕ = times p.number (racked (drop 1 S.rack)) in
    let parts : times p.number (racked S.rack) ≡ hit k p.number + rest = first_parts p.number S.rack ∙ ap (λ v. v + rest) (hits_are p.number (slice_get S.rack 0) k is) in
    not_taken (k == p.number) (times p.number (racked S.rack)) rest parts (s.alone p.number) (counted (label, p) (drop 1 S.rack) there)

post_back : (S : State) (label l : List ℕ) (p : Posting) (n : ℕ) (accesses : List Access) → IsIn (label, p) (S.rack ++ (l, posting_of S.world n accesses) ∷ []) → StoodOr S label p (entry.Post n l accesses)
post_back S label l p n accesses there = elim (last_in (label, p) (l, posting_of S.world n accesses) S.rack there) [
  | inl before ↦ inl (before, refl)
  | inr same ↦ inr (record {
    entry_is = λ i. entry.Post (same i).1.number (same i).0 (same i).1.accesses;
    is = sym (ap (λ (x : Item). x.1) same) ∙ (λ i. posting_of S.world (same i).1.number (same i).1.accesses);
  })
]

back : (S : State) (label : List ℕ) (p : Posting) (e : Entry) → IsSound S → Fits S e → IsIn (label, p) (after S e).rack → StoodOr S label p e
back S label p (entry.Post n l accesses) s fits there = post_back S label l p n accesses there
back S label p (entry.Look l found) s fits there = inl (removed_in (label, p) (bytes_eq l) S.rack there, look_back S label l p found s fits.answers there)
back S label p (entry.Sweep (Some k)) s fits there = inl (dropped_in (label, p) S.rack there, sweep_back S label p k s fits.answers there)
back S label p (entry.Refused c why) s fits there = inl (subst (IsIn (label, p)) (refused_rack S c why) there, refl)
back S label p e s fits there = inl (there, refl)

-- ---- the list

abbrev FromBefore : State → List Entry → List ℕ → Posting → Type 0
FromBefore S es label p = WasPosted S es label p ⊎ (IsIn (label, p) S.rack × AllByRecursion (λ e. takes_out p.number e ≡ false) es)

joined : (S : State) (label : List ℕ) (p : Posting) (e : Entry) (es : List Entry) → AllByRecursion (λ x. takes_out p.number x ≡ false) es → StoodOr S label p e → FromBefore S (e ∷ es) label p
joined S label p e es kept (inl stood) = inr (stood.0, (stood.1, kept))
joined S label p e es kept (inr post) = inl (record { before = []; behind = es; are = ap (λ (x : Entry). x ∷ es) post.entry_is; is = post.is; kept = kept })

step_back : (S : State) (label : List ℕ) (p : Posting) (e : Entry) (es : List Entry) → IsSound S → Fits S e → FromBefore (after S e) es label p → FromBefore S (e ∷ es) label p
step_back S label p e es s fits (inl posted) =
    inl (record { before = e ∷ posted.before; behind = posted.behind; are = ap (λ (l : List Entry). e ∷ l) posted.are; is = posted.is; kept = posted.kept })
step_back S label p e es s fits (inr stood) = joined S label p e es stood.1 (back S label p e s fits stood.0)

from_before : (S : State) (es : List Entry) (label : List ℕ) (p : Posting) → IsSound S → LegalFrom S es → IsIn (label, p) (after_all S es).rack → FromBefore S es label p
from_before S [] label p s legal there = inr (there, tt)
from_before S (e ∷ es) label p s legal there = step_back S label p e es s legal.0 (from_before (after S e) es label p (sound_next S e s legal.0) legal.1 there)

none_before : (A : Start) (es : List Entry) (label : List ℕ) (p : Posting) → FromBefore (opened A) es label p → WasPosted (opened A) es label p
none_before A es label p (inl posted) = posted
none_before A es label p (inr stood) = absurd stood.0

pub look_was_posted : (A : Start) (es : List Entry) (label : List ℕ) (p : Posting) → A.world.live ≡ [] → IsLegal A (es ++ entry.Look label (Some p) ∷ []) → WasPosted (opened A) es label p
look_was_posted A es label p none legal =
    let (before, fits) = legal_last (opened A) es (entry.Look label (Some p)) legal in
    none_before A es label p (from_before (opened A) es label p (opened_sound A none) before (found_in label (state_at A es).rack p (sym fits.answers)))

-- ---- a begin is at or above each commit that was told of before it

-- a commit is the next one
module _ (W : World) (t : Live) (k : ℕ) where
  abbrev IsNext : CoreReply × World → Type 0
  IsNext x = x.0 ≡ reply.Committed k → k ≡ last W.history + 1

  either : (test : Bool) (x y : CoreReply × World) → IsNext x → IsNext y → IsNext (cond test x y)
  either true x y first second = first
  either false x y first second = second

  commits_next : (o : Option Clash) → IsNext (commit_step W t o)
  unfolding commit_step
  commits_next (Some c) = λ is. absurd (cc is)
  commits_next None = grind arith

  ends_next : IsNext (end_step W t)
  unfolding end_step
  ends_next = either (has_write t.accesses) _ _ (commits_next (clash W.geometry W.history t.mode t.begin t.accesses)) (λ is. absurd (cc is))

replied : (S : State) (n bound : ℕ) (accesses : List Access) (r : EndReply) → 0 < S.world.history.first → Fits S (entry.End n accesses r) → last (after S (entry.End n accesses r)).world.history ≤ bound
    → IsReplyUpTo bound r
replied S n bound accesses (Committed k) some fits upto =
    let is : k ≡ last S.world.history + 1 = ends_next S.world (tx_of S.world n accesses) k fits.answers.2 in
    omega (arith, is, upto, some, length-append S.world.history.commits (commit_from (tx_of S.world n accesses) ∷ []))
replied S n bound accesses ReadOnly some fits upto = tt
replied S n bound accesses (Conflict c) some fits upto = tt

-- a commit of a member has the number of the last one in the world with it
module _ (W : World) (t : Live) (bound : ℕ) (some : 0 < W.history.first) where
  abbrev IsTold : CoreReply × World → Type 0
  IsTold x = last (ahead W (made_by t (member_reply x.0))).history ≤ bound → IsMemberUpTo bound (member_reply x.0)

  one_of : (test : Bool) (x y : CoreReply × World) → IsTold x → IsTold y → IsTold (cond test x y)
  one_of true x y first second = first
  one_of false x y first second = second

  commit_told : (o : Option Clash) → IsTold (commit_step W t o)
  unfolding commit_step
  commit_told (Some c) = λ upto. tt
  commit_told None =
      one_of (last W.history == LAST) _ _ (λ upto. tt)
      (one_of (nat_lt (W.geometry.log - used W) (need W t)) _ _ (λ upto. tt) (λ upto. let more = length-append W.history.commits (commit_from t ∷ []) in omega (arith, upto, some, more)))

  end_told : IsTold (end_step W t)
  unfolding end_step
  end_told = one_of (has_write t.accesses) _ _ (commit_told (clash W.geometry W.history t.mode t.begin t.accesses)) (λ upto. tt)

longer : (W : World) (txs : List Live) → 0 < W.history.first → last W.history ≤ last (decided W txs).1.history
longer W txs some = last_longer W.history (decided W txs).1.history some (decided_extends W txs)

decided_told : (W : World) (txs : List Live) (bound : ℕ) → 0 < W.history.first → last (decided W txs).1.history ≤ bound → AllByRecursion (IsMemberUpTo bound) (decided W txs).0
decided_told W [] bound some upto = tt
decided_told W (t ∷ txs) bound some upto =
    let V : World = ahead W (made_by t (member_reply (end_step W t).0)) in
    (end_told W t bound some (omega (arith, longer V txs some, upto)), decided_told V txs bound some upto)

group_told : (S : State) (bound : ℕ) (ends : List MemberEnd) → 0 < S.world.history.first → Fits S (entry.EndGroup ends) → last (after S (entry.EndGroup ends)).world.history ≤ bound
    → AllByRecursion (IsMemberUpTo bound) (replies_of ends)
group_told S bound ends some fits upto = grind (arith, group_is, decided_told, after_history)

told : (S : State) (bound : ℕ) (e : Entry) → 0 < S.world.history.first → Fits S e → last (after S e).world.history ≤ bound → CommitsUpTo bound e
told S bound (entry.End n accesses r) some fits upto = replied S n bound accesses r some fits upto
told S bound (entry.EndGroup ends) some fits upto = group_told S bound ends some fits upto
told S bound e some fits upto = tt

all_told : (S : State) (es : List Entry) (bound : ℕ) → 0 < S.world.history.first → LegalFrom S es → last (after_all S es).world.history ≤ bound → AllByRecursion (λ e. CommitsUpTo bound e) es
all_told S [] bound some legal upto = tt
all_told S (e ∷ es) bound some legal upto =
    let more : 0 < (after S e).world.history.first = omega (arith, (follows_all S (e ∷ [])).history.first, some) in
    let later = last_longer (after S e).world.history (after_all (after S e) es).world.history more (follows_all (after S e) es).history in
    (told S bound e some legal.0 (omega (arith, later, upto)), all_told (after S e) es bound more legal.1 upto)

pub begins_after_commits : (A : Start) (es : List Entry) (n at : ℕ) (mode : Mode) → 0 < A.world.history.first → IsLegal A (es ++ entry.Begin n at mode ∷ []) → AllByRecursion (λ e. CommitsUpTo at e) es
begins_after_commits A es n at mode some legal = grind (arith, legal_last, all_told, began_last)

-- an image that shows no commit before the last one of a list shows none before one that the list told of
pub told_shown : (A : Start) (told es : List Entry) (image : List ℕ) → 0 < A.world.history.first → IsLegal A told → (shown : ShowsFrom A told es image) → AllByRecursion (λ e. CommitsUpTo shown.at e) told
told_shown A told es image some legal shown = all_told (opened A) told shown.at some legal shown.from
