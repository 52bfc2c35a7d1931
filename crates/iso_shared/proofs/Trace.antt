-- What a legal list leads to: live transactions and labelled ones, as entries change them, are sound at each place.
use Rattle.iso_shared.proofs.{Words.{◌≡◌, ℕ, ◌+◌, ◌==◌, Bool, true, false, not, cond, List, [], ◌∷◌, ◌++◌, Option, Some, None, refl, ap, ◌∙◌, arith, drop, option_map, slice_get, lookup, remove_entry, nat_tests, Live, without, hit, times, Posting, is_live, live_of, racked, zero, suc, ◌<◌, ◌≤◌, ◌&&◌, ◌||◌, sym, subst, bytes_eq, option_to_list, is_among, out_next, out_from, is_out, hit_same, Access, EndReply, Committed, AllByRecursion, World, after_leaving, ahead, leave_all, Call, Cause, Entry, Member, Start, State, opened, is_loose, after, after_all, after_fault, after_group, after_refusal, after_sweep, lost_commits, member_numbers, members_of, state_at, tx_of, txs_of, with_world, AreLoose, Answers, Fits, LegalFrom, IsLegal, handed, returned, ended_by}, Grouped.after_is}
use Rattle.iso_shared.specs.declared.entry.Call.TheVariants as call
use Rattle.iso_shared.specs.declared.entry.Cause.TheVariants as cause
use Rattle.iso_shared.specs.declared.entry.Entry.TheVariants as entry

first_or : (a b : Bool) (l x : Bool) → x ≡ cond b true l → cond a true x ≡ cond b true (cond a true l)
first_or true true l x e = refl
first_or true false l x e = refl
first_or false true l x e = e
first_or false false l x e = e

pub live_snoc : (n : ℕ) (live : List Live) (t : Live) → is_live n (live ++ t ∷ []) ≡ cond (t.number == n) true (is_live n live)
live_snoc n [] t = refl
live_snoc n (u ∷ live) t = first_or (u.number == n) (t.number == n) (is_live n live) (is_live n (live ++ t ∷ [])) (live_snoc n live t)

drop_by : (t : Live) (k n : ℕ) (rest : List Live) (l a b c : Bool) → (t.number == k) ≡ a → (t.number == n) ≡ b → (k == n) ≡ c → is_live n rest ≡ cond c false l
    → is_live n (cond (not a) (t ∷ rest) rest) ≡ cond c false (cond b true l)
drop_by t k n rest l true b true x y z e = e
drop_by t k n rest l true true false x y z e = absurd (grind (arith, nat_tests))
drop_by t k n rest l true false false x y z e = e
drop_by t k n rest l false true true x y z e = absurd (grind (arith, nat_tests))
drop_by t k n rest l false true false x y z e = ap (λ v. cond v true (is_live n rest)) y
drop_by t k n rest l false false c x y z e = ap (λ v. cond v true (is_live n rest)) y ∙ e

neither : (c : Bool) → false ≡ cond c false false
neither true = refl
neither false = refl

pub live_without : (k n : ℕ) (live : List Live) → is_live n (without k live) ≡ cond (k == n) false (is_live n live)
live_without k n [] = neither (k == n)
live_without k n (t ∷ live) = drop_by t k n (without k live) (is_live n live) (t.number == k) (t.number == n) (k == n) refl refl refl (live_without k n live)

-- the live transaction of a number stays where another one is added or leaves
of_snoc_by : (n : ℕ) (u t : Live) (live : List Live) (b : Bool) → cond b true (is_live n live) ≡ true → (is_live n live ≡ true → live_of n (live ++ t ∷ []) ≡ live_of n live)
    → cond b u (live_of n (live ++ t ∷ [])) ≡ cond b u (live_of n live)
of_snoc_by n u t live true is ih = refl
of_snoc_by n u t live false is ih = ih is

pub of_snoc : (n : ℕ) (live : List Live) (t : Live) → is_live n live ≡ true → live_of n (live ++ t ∷ []) ≡ live_of n live
of_snoc n [] t is = absurd (cc is)
of_snoc n (u ∷ live) t is = of_snoc_by n u t live (u.number == n) is (of_snoc n live t)

of_drop_by : (t : Live) (k n : ℕ) (rest : List Live) (l : Live) (a b : Bool) → (t.number == k) ≡ a → (t.number == n) ≡ b → (k == n) ≡ false → live_of n rest ≡ l
    → live_of n (cond (not a) (t ∷ rest) rest) ≡ cond b t l
of_drop_by t k n rest l true true x y z e = absurd (grind (arith, nat_tests))
of_drop_by t k n rest l true false x y z e = e
of_drop_by t k n rest l false true x y z e = ap (λ v. cond v t (live_of n rest)) y
of_drop_by t k n rest l false false x y z e = ap (λ v. cond v t (live_of n rest)) y ∙ e

pub of_without : (k n : ℕ) (live : List Live) → (k == n) ≡ false → live_of n (without k live) ≡ live_of n live
of_without k n [] other = refl
of_without k n (t ∷ live) other = of_drop_by t k n (without k live) (live_of n live) (t.number == k) (t.number == n) refl refl other (of_without k n live other)

pub racked_snoc : (n : ℕ) (rack : List (List ℕ × Posting)) (e : List ℕ × Posting) → times n (racked (rack ++ e ∷ [])) ≡ times n (racked rack) + hit e.1.number n
racked_snoc n [] e = omega arith
racked_snoc n (f ∷ rack) e = let ih = racked_snoc n rack e in omega arith

-- 1 where the posting is there and has the number n
abbrev pub hits : ℕ → Option Posting → ℕ
hits n None = 0
hits n (Some p) = hit p.number n

parts_by : (n : ℕ) (test : List ℕ → Bool) (e : List ℕ × Posting) (rack : List (List ℕ × Posting)) (b : Bool)
    → times n (racked rack) ≡ hits n (lookup test rack) + times n (racked (remove_entry test rack))
    → hit e.1.number n + times n (racked rack) ≡ hits n (cond b (Some e.1) (lookup test rack)) + times n (racked (cond b rack (e ∷ remove_entry test rack)))
parts_by n test e rack true is = refl
parts_by n test e rack false is = grind arith

-- what is taken out from under a label, and the rest
pub label_parts : (n : ℕ) (test : List ℕ → Bool) (rack : List (List ℕ × Posting)) → times n (racked rack) ≡ hits n (lookup test rack) + times n (racked (remove_entry test rack))
label_parts n test [] = refl
label_parts n test (e ∷ rack) = parts_by n test e rack (test e.0) (label_parts n test rack)

pub first_parts : (n : ℕ) (rack : List (List ℕ × Posting)) → times n (racked rack) ≡ hits n (option_map (λ e. e.1) (slice_get rack 0)) + times n (racked (drop 1 rack))
first_parts n [] = refl
first_parts n (e ∷ rack) = refl

-- ---- the state along a list, and which numbers are out in it

-- the state after one entry more
pub after_snoc : (S : State) (es : List Entry) (e : Entry) → after_all S (es ++ e ∷ []) ≡ after (after_all S es) e
after_snoc S [] e = refl
after_snoc S (x ∷ es) e = after_snoc (after S x) es e

pub after_append : (S : State) (es ds : List Entry) → after_all S (es ++ ds) ≡ after_all (after_all S es) ds
after_append S [] ds = refl
after_append S (x ∷ es) ds = after_append (after S x) es ds

pub legal_snoc : (S : State) (es : List Entry) (e : Entry) → LegalFrom S es → Fits (after_all S es) e → LegalFrom S (es ++ e ∷ [])
legal_snoc S [] e legal fits = (fits, tt)
legal_snoc S (x ∷ es) e legal fits = (legal.0, legal_snoc (after S x) es e legal.1 fits)

-- a legal list with one entry more is legal without it, and the entry is legal at its place
pub legal_last : (S : State) (es : List Entry) (e : Entry) → LegalFrom S (es ++ e ∷ []) → LegalFrom S es × Fits (after_all S es) e
legal_last S [] e legal = (tt, legal.0)
legal_last S (x ∷ es) e legal = let r = legal_last (after S x) es e legal.1 in ((legal.0, r.0), r.1)

pub legal_append : (S : State) (es ds : List Entry) → LegalFrom S (es ++ ds) → LegalFrom S es × LegalFrom (after_all S es) ds
legal_append S [] ds legal = (tt, legal)
legal_append S (x ∷ es) ds legal = let r = legal_append (after S x) es ds legal.1 in ((legal.0, r.0), r.1)

-- live numbers are below the next one, and labelled ones are live, each under one label
pub record Sound (live : ℕ → Bool) (held : ℕ → ℕ) (k : ℕ) : Type 0 where
  pub below : (n : ℕ) → live n ≡ true → n < k
  pub racked : (n : ℕ) → 0 < held n → live n ≡ true
  pub alone : (n : ℕ) → held n ≤ 1

abbrev pub IsSound : State → Type 0
IsSound S = Sound (λ n. is_live n S.world.live) (λ n. times n (racked S.rack)) S.world.next

both_true : (a b : Bool) → (a && b) ≡ true → (a ≡ true) × (b ≡ true)
both_true true b e = (refl, e)
both_true false b e = absurd (cc e)

and_false : (a : Bool) → (a && false) ≡ false
and_false true = refl
and_false false = refl

none_is : (k : ℕ) → (k == 0) ≡ true → k ≡ 0
none_is k e = grind (arith, nat_tests)

is_none : (k : ℕ) → k ≡ 0 → (k == 0) ≡ true
is_none k e = grind (arith, nat_tests)

some_is : (k : ℕ) → 0 < k → (k == 0) ≡ false
some_is k e = grind (arith, nat_tests)

module _ (L L' : ℕ → Bool) (R R' : ℕ → ℕ) (k : ℕ) where
  unlive_by : Sound L R k → (j n : ℕ) (b : Bool) → (j == n) ≡ b → R j ≡ 0 → 0 < R n → cond b false (L n) ≡ true
  unlive_by s j n true is none some = let e : j ≡ n = grind (arith, nat_tests) in let z : R n ≡ 0 = subst (λ (v : ℕ). R v ≡ 0) e none in absurd (omega arith)
  unlive_by s j n false is none some = s.racked n some

  still : (b a : Bool) → cond b false a ≡ true → a ≡ true
  still true a e = absurd (cc e)
  still false a e = e

  -- one that is not labelled leaves
  pub sound_leave : Sound L R k → (j : ℕ) → R j ≡ 0 → ((n : ℕ) → L' n ≡ cond (j == n) false (L n)) → Sound L' R k
  sound_leave s j none is = record {
    below = λ n e. s.below n (still (j == n) (L n) (sym (is n) ∙ e));
    racked = λ n some. is n ∙ unlive_by s j n (j == n) refl none some;
    alone = s.alone;
  }

  post_by : Sound L R k → (j n : ℕ) → L j ≡ true → R j ≡ 0 → (b : Bool) → (j == n) ≡ b → (0 < R n + cond b 1 0 → L n ≡ true) × (R n + cond b 1 0 ≤ 1)
  post_by s j n live none true is = grind arith
  post_by s j n live none false is = let a = s.alone n in ((λ some. s.racked n (omega arith)), omega arith)

  -- one that is not labelled gets a label
  pub sound_post : Sound L R k → (j : ℕ) → L j ≡ true → R j ≡ 0 → ((n : ℕ) → R' n ≡ R n + hit j n) → Sound L R' k
  sound_post s j live none is = record {
    below = s.below;
    racked = λ n some. let e = is n in (post_by s j n live none (j == n) refl).0 (omega arith);
    alone = λ n. let e = is n in let p = (post_by s j n live none (j == n) refl).1 in omega arith;
  }

  -- some are no longer labelled
  pub sound_less : Sound L R k → ((n : ℕ) → R' n ≤ R n) → Sound L R' k
  sound_less s le = record {
    below = s.below;
    racked = λ n some. let e = le n in s.racked n (omega arith);
    alone = λ n. let e = le n in let a = s.alone n in omega arith;
  }

  sweep_by : Sound L R k → (j n : ℕ) (b : Bool) → (j == n) ≡ b → R n ≡ cond b 1 0 + R' n → 0 < R' n → cond b false (L n) ≡ true
  sweep_by s j n true is e some = let a = s.alone n in absurd (omega arith)
  sweep_by s j n false is e some = s.racked n (omega arith)

  -- a labelled one leaves
  pub sound_sweep : Sound L R k → (j : ℕ) → ((n : ℕ) → L' n ≡ cond (j == n) false (L n)) → ((n : ℕ) → R n ≡ hit j n + R' n) → Sound L' R' k
  sound_sweep s j is parts = record {
    below = λ n e. s.below n (still (j == n) (L n) (sym (is n) ∙ e));
    racked = λ n some. is n ∙ sweep_by s j n (j == n) refl (parts n) some;
    alone = λ n. let e = parts n in let a = s.alone n in omega arith;
  }

  begin_by : Sound L R k → (n : ℕ) (b : Bool) → (k == n) ≡ b → cond b true (L n) ≡ true → n < k + 1
  begin_by s n true is e = let same : k ≡ n = grind (arith, nat_tests) in omega arith
  begin_by s n false is e = let a = s.below n e in omega arith

  more : (b a : Bool) → a ≡ true → cond b true a ≡ true
  more true a e = refl
  more false a e = e

  -- the next one begins
  pub sound_begin : Sound L R k → ((n : ℕ) → L' n ≡ cond (k == n) true (L n)) → Sound L' R (k + 1)
  sound_begin s is = record {
    below = λ n e. begin_by s n (k == n) refl (sym (is n) ∙ e);
    racked = λ n some. is n ∙ more (k == n) (L n) (s.racked n some);
    alone = s.alone;
  }

-- what looseness says
pub loose_is : (n : ℕ) (S : State) → is_loose n S ≡ true → (is_live n S.world.live ≡ true) × (times n (racked S.rack) ≡ 0)
loose_is n S e = let b = both_true (is_live n S.world.live) (times n (racked S.rack) == 0) e in (b.0, none_is (times n (racked S.rack)) b.1)

sound_left : (S : State) (k : ℕ) → IsSound S → is_loose k S ≡ true → Sound (λ n. is_live n (without k S.world.live)) (λ n. times n (racked S.rack)) S.world.next
sound_left S k s loose =
    sound_leave (λ n. is_live n S.world.live) (λ n. is_live n (without k S.world.live)) (λ n. times n (racked S.rack)) (λ n. times n (racked S.rack)) S.world.next s k (loose_is k S loose).1
    (λ n. live_without k n S.world.live)

end_left : (S : State) (k : ℕ) (accesses : List Access) (r : EndReply) → IsSound S → is_loose k S ≡ true → IsSound (after S (entry.End k accesses r))
end_left S k accesses (Committed c) s loose = sound_left S k s loose
end_left S k accesses x s loose = sound_left S k s loose

-- several leave that are not labelled
all_left : (T : State) (txs : List Live) → IsSound T → AllByRecursion (λ t. times t.number (racked T.rack) ≡ 0) txs → IsSound (with_world T (leave_all txs T.world))
all_left T [] s none = s
all_left T (t ∷ txs) s none =
    all_left (with_world T (after_leaving T.world t)) txs
    (sound_leave (λ n. is_live n T.world.live) (λ n. is_live n (without t.number T.world.live)) (λ n. times n (racked T.rack)) (λ n. times n (racked T.rack)) T.world.next s t.number none.0 (λ n. live_without t.number n T.world.live))
    none.1

unlabelled : (S : State) (W : World) (members : List Member) → AreLoose (member_numbers members) S → AllByRecursion (λ (t : Live). times t.number (racked S.rack) ≡ 0) (txs_of W members)
unlabelled S W [] loose = tt
unlabelled S W (m ∷ members) loose = ((loose_is m.number S loose.0).1, unlabelled S W members loose.1)

group_left : (S : State) (members : List Member) → IsSound S → AreLoose (member_numbers members) S → IsSound (with_world S (after_group S.world members))
group_left S members s loose =
    let V : World = ahead S.world (lost_commits S.world members) in
    subst (λ (W : World). IsSound (with_world S W)) (sym (after_is S.world members))
    (all_left (with_world S V) (txs_of S.world members) s (unlabelled S S.world members loose))

fault_left : (S : State) (c : Call) (before now : ℕ) → IsSound S → AreLoose (ended_by c (cause.Disk before now)) S → IsSound (after_fault S c now)
fault_left S (call.End n accesses) before now s loose = sound_left S n s loose.0
fault_left S (call.EndGroup members) before now s loose = all_left S (txs_of S.world members) s (unlabelled S S.world members loose)
fault_left S c before now s loose = s

refusal_left : (S : State) (c : Call) (why : Cause) → IsSound S → AreLoose (ended_by c why) S → IsSound (after_refusal S c why)
refusal_left S c (cause.Disk before now) s loose = fault_left S c before now s loose
refusal_left S c why s loose = s

pub hits_are : (n : ℕ) (o : Option (List ℕ × Posting)) (k : ℕ) → Some k ≡ option_map (λ e. e.1.number) o → hits n (option_map (λ e. e.1) o) ≡ hit k n
hits_are n None k is = absurd (cc is)
hits_are n (Some e) k is = let same : e.1.number ≡ k = cc is in ap (λ (v : ℕ). hit v n) same

look_less : (test : List ℕ → Bool) (n : ℕ) (rack : List (List ℕ × Posting)) → times n (racked (remove_entry test rack)) ≤ times n (racked rack)
look_less test n rack = let h : ℕ = hits n (lookup test rack) in let e : times n (racked rack) ≡ h + times n (racked (remove_entry test rack)) = label_parts n test rack in omega arith

sweep_left : (S : State) (found : Option ℕ) → IsSound S → found ≡ option_map (λ e. e.1.number) (slice_get S.rack 0) → IsSound (after_sweep S found)
sweep_left S None s is = s
sweep_left S (Some k) s is =
    sound_sweep (λ n. is_live n S.world.live) (λ n. is_live n (without k S.world.live)) (λ n. times n (racked S.rack)) (λ n. times n (racked (drop 1 S.rack))) S.world.next s k
    (λ n. live_without k n S.world.live)
    (λ n. first_parts n S.rack ∙ ap (λ v. v + times n (racked (drop 1 S.rack))) (hits_are n (slice_get S.rack 0) k is))

-- an entry that is legal at its place keeps the state sound
pub sound_next : (S : State) (e : Entry) → IsSound S → Fits S e → IsSound (after S e)
sound_next S (entry.Begin k at mode) s fits = sound_begin (λ n. is_live n S.world.live) (λ n. is_live n (after S (entry.Begin k at mode)).world.live) (λ n. times n (racked S.rack)) (λ n. times n (racked S.rack)) S.world.next s (λ n. live_snoc n S.world.live _)
sound_next S (entry.End k accesses r) s fits = end_left S k accesses r s fits.takes.0
sound_next S (entry.EndGroup ends) s fits = group_left S (members_of ends) s fits.takes
sound_next S (entry.Abort k) s fits = sound_left S k s fits.takes.0
sound_next S (entry.Post k l accesses) s fits = grind (arith, loose_is, sound_post, racked_snoc)
sound_next S (entry.Look l found) s fits = sound_less (λ n. is_live n S.world.live) (λ n. is_live n S.world.live) (λ n. times n (racked S.rack)) (λ n. times n (racked (remove_entry (bytes_eq l) S.rack))) S.world.next s (λ n. look_less (bytes_eq l) n S.rack)
sound_next S (entry.Sweep found) s fits = sweep_left S found s fits.answers
sound_next S (entry.Refused c why) s fits = refusal_left S c why s fits.takes
sound_next S e s fits = s

one_among : (n k : ℕ) → is_among n (k ∷ []) ≡ (k == n)
one_among n k = or_false (k == n)
  where
    or_false : (b : Bool) → (b || false) ≡ b
    or_false true = refl
    or_false false = refl

-- an entry that takes one number back, or hands one out
takes_one : (n k : ℕ) (b : Bool) → cond (is_among n (k ∷ [])) false b ≡ cond (k == n) false b
takes_one n k b = ap (λ v. cond v false b) (one_among n k)

hands_one : (n k : ℕ) (b : Bool) → cond (is_among n (k ∷ [])) true b ≡ cond (k == n) true b
hands_one n k b = ap (λ v. cond v true b) (one_among n k)

leave_by : (b a z : Bool) → cond b false (a && z) ≡ (cond b false a && z)
leave_by true a z = refl
leave_by false a z = refl

left_loose : (n k : ℕ) (S : State) → cond (is_among n (k ∷ [])) false (is_loose n S) ≡ (is_live n (without k S.world.live) && (times n (racked S.rack) == 0))
left_loose n k S = takes_one n k (is_loose n S) ∙ leave_by (k == n) (is_live n S.world.live) (times n (racked S.rack) == 0) ∙ ap (λ v. v && (times n (racked S.rack) == 0)) (sym (live_without k n S.world.live))

join_by : (b a z : Bool) → (b ≡ true → z ≡ true) → cond b true (a && z) ≡ (cond b true a && z)
join_by true a z all = sym (all refl)
join_by false a z all = refl

none_racked : (R : ℕ) (k n : ℕ) (L : Bool) → (0 < R → L ≡ true) → (L ≡ true → n < k) → (k == n) ≡ true → R ≡ 0
none_racked zero k n L live below is = refl
none_racked (suc R) k n L live below is = let same : k ≡ n = grind (arith, nat_tests) in let b = below (live (omega arith)) in absurd (omega arith)

begin_loose : (S : State) (n k : ℕ) (t : Live) → IsSound S → k ≡ S.world.next → t.number ≡ S.world.next
    → cond (is_among n (k ∷ [])) true (is_loose n S) ≡ (is_live n (S.world.live ++ t ∷ []) && (times n (racked S.rack) == 0))
begin_loose S n k t s is number = grind (arith, hands_one, join_by, is_none, none_racked, live_snoc)

post_loose_by : (b a : Bool) (R R' : ℕ) → R' ≡ R + cond b 1 0 → cond b false (a && (R == 0)) ≡ (a && (R' == 0))
post_loose_by true a R R' e = sym (ap (λ v. a && v) (some_is R' (omega arith)) ∙ and_false a)
post_loose_by false a R R' e = let same : R ≡ R' = omega arith in ap (λ (v : ℕ). a && (v == 0)) same

look_loose_by : (b a : Bool) (R R' : ℕ) → R ≡ cond b 1 0 + R' → R ≤ 1 → (0 < R → a ≡ true) → cond b true (a && (R == 0)) ≡ (a && (R' == 0))
look_loose_by true a R R' e one live = let z : R' ≡ 0 = omega arith in sym (ap (λ v. v && (R' == 0)) (live (omega arith)) ∙ is_none R' z)
look_loose_by false a R R' e one live = let same : R ≡ R' = omega arith in ap (λ (v : ℕ). a && (v == 0)) same

look_loose : (S : State) (n : ℕ) (test : List ℕ → Bool) (found : Option Posting) → IsSound S → found ≡ lookup test S.rack
    → cond (is_among n (option_to_list (option_map (λ p. p.number) found))) true (is_loose n S) ≡ (is_live n S.world.live && (times n (racked (remove_entry test S.rack)) == 0))
look_loose S n test None s is =
    let e : times n (racked S.rack) ≡ 0 + times n (racked (remove_entry test S.rack)) = label_parts n test S.rack ∙ ap (λ v. hits n v + times n (racked (remove_entry test S.rack))) (sym is) in
    look_loose_by false (is_live n S.world.live) (times n (racked S.rack)) (times n (racked (remove_entry test S.rack))) e (s.alone n) (s.racked n)
look_loose S n test (Some p) s is =
    let e : times n (racked S.rack) ≡ hit p.number n + times n (racked (remove_entry test S.rack)) = label_parts n test S.rack ∙ ap (λ v. hits n v + times n (racked (remove_entry test S.rack))) (sym is) in
    hands_one n p.number (is_loose n S) ∙ look_loose_by (p.number == n) (is_live n S.world.live) (times n (racked S.rack)) (times n (racked (remove_entry test S.rack))) e (s.alone n) (s.racked n)

sweep_loose_by : (b a : Bool) (R R' : ℕ) → R ≡ cond b 1 0 + R' → (a && (R == 0)) ≡ (cond b false a && (R' == 0))
sweep_loose_by true a R R' e = ap (λ v. a && v) (some_is R (omega arith)) ∙ and_false a
sweep_loose_by false a R R' e = let same : R ≡ R' = omega arith in ap (λ (v : ℕ). a && (v == 0)) same

sweep_loose : (S : State) (n : ℕ) (found : Option ℕ) → found ≡ option_map (λ e. e.1.number) (slice_get S.rack 0) → is_loose n S ≡ is_loose n (after_sweep S found)
sweep_loose S n None is = refl
sweep_loose S n (Some k) is = grind (arith, first_parts, hits_are, sweep_loose_by, live_without)

both_take : (a b x : Bool) → cond (a || b) false x ≡ cond b false (cond a false x)
both_take true true x = refl
both_take true false x = refl
both_take false b x = refl

-- members of a group are not loose after they left
all_loose : (n : ℕ) (W : World) (T : State) (members : List Member) → cond (is_among n (member_numbers members)) false (is_loose n T) ≡ is_loose n (with_world T (leave_all (txs_of W members) T.world))
all_loose n W T [] = refl
all_loose n W T (m ∷ members) =
    let U : State = with_world T (after_leaving T.world (tx_of W m.number m.accesses)) in
    let later : Bool = is_among n (member_numbers members) in
    both_take (m.number == n) later (is_loose n T)
    ∙ ap (λ v. cond later false v) (sym (takes_one n m.number (is_loose n T)) ∙ left_loose n m.number T)
    ∙ all_loose n W U members

group_loose : (S : State) (n : ℕ) (members : List Member) → cond (is_among n (member_numbers members)) false (is_loose n S) ≡ is_loose n (with_world S (after_group S.world members))
group_loose S n members =
    let V : World = ahead S.world (lost_commits S.world members) in
    all_loose n S.world (with_world S V) members ∙ ap (λ (W : World). is_loose n (with_world S W)) (sym (after_is S.world members))

fault_loose : (S : State) (n : ℕ) (c : Call) (before now : ℕ) → cond (is_among n (ended_by c (cause.Disk before now))) false (is_loose n S) ≡ is_loose n (after_fault S c now)
fault_loose S n (call.End k accesses) before now = left_loose n k S
fault_loose S n (call.EndGroup members) before now = all_loose n S.world S members
fault_loose S n c before now = refl

refusal_loose : (S : State) (n : ℕ) (c : Call) (why : Cause) → cond (is_among n (ended_by c why)) false (is_loose n S) ≡ is_loose n (after_refusal S c why)
refusal_loose S n c (cause.Disk before now) = fault_loose S n c before now
refusal_loose S n c why = refl

end_loose : (S : State) (n k : ℕ) (accesses : List Access) (r : EndReply) → cond (is_among n (k ∷ [])) false (is_loose n S) ≡ is_loose n (after S (entry.End k accesses r))
end_loose S n k accesses (Committed c) = left_loose n k S
end_loose S n k accesses x = left_loose n k S

-- out after the entry is what is live and under no label after it
loose_next : (S : State) (e : Entry) (n : ℕ) → IsSound S → Fits S e → out_next handed returned n (is_loose n S) e ≡ is_loose n (after S e)
loose_next S (entry.Begin k at mode) n s fits = begin_loose S n k _ s fits.answers.1 refl
loose_next S (entry.End k accesses r) n s fits = end_loose S n k accesses r
loose_next S (entry.EndGroup ends) n s fits = group_loose S n (members_of ends)
loose_next S (entry.Abort k) n s fits = left_loose n k S
loose_next S (entry.Post k l accesses) n s fits = grind (arith, takes_one, post_loose_by, racked_snoc)
loose_next S (entry.Look l found) n s fits = look_loose S n (bytes_eq l) found s fits.answers
loose_next S (entry.Sweep found) n s fits = sweep_loose S n found fits.answers
loose_next S (entry.Refused c why) n s fits = refusal_loose S n c why
loose_next S e n s fits = refl

-- the numbers that are out are those of transactions which are live and under no label
pub out_from_is : (S : State) (es : List Entry) (n : ℕ) → IsSound S → LegalFrom S es → out_from handed returned n (is_loose n S) es ≡ is_loose n (after_all S es)
out_from_is S [] n s legal = refl
out_from_is S (e ∷ es) n s legal =
    ap (λ (b : Bool). out_from handed returned n b es) (loose_next S e n s legal.0) ∙ out_from_is (after S e) es n (sound_next S e s legal.0) legal.1

pub sound_all : (S : State) (es : List Entry) → IsSound S → LegalFrom S es → IsSound (after_all S es)
sound_all S [] s legal = s
sound_all S (e ∷ es) s legal = sound_all (after S e) es (sound_next S e s legal.0) legal.1

no_live : (L : List Live) (n : ℕ) → L ≡ [] → is_live n L ≡ false
no_live L n e = ap (is_live n) e

pub opened_sound : (A : Start) → A.world.live ≡ [] → IsSound (opened A)
opened_sound A e = grind (arith, no_live)

-- A number is out in a legal list exactly where its transaction is live and under no label.
pub out_is : (A : Start) (es : List Entry) (n : ℕ) → A.world.live ≡ [] → IsLegal A es → is_out handed returned n es ≡ is_loose n (state_at A es)
out_is A es n e legal =
    ap (λ (b : Bool). out_from handed returned n b es) (sym (ap (λ v. v && (0 == 0)) (no_live A.world.live n e))) ∙ out_from_is (opened A) es n (opened_sound A e) legal

-- a number that an entry hands out was not loose
abbrev pub NotLoose : Option ℕ → State → Type 0
NotLoose None S = Unit {0}
NotLoose (Some n) S = is_loose n S ≡ false

unless : (a z : Bool) → (a ≡ true → ⊥) → (a && z) ≡ false
unless true z never = absurd (never refl)
unless false z never = refl

look_not : (S : State) (test : List ℕ → Bool) (found : Option Posting) → found ≡ lookup test S.rack → NotLoose (option_map (λ p. p.number) found) S
look_not S test None is = tt
look_not S test (Some p) is =
    let R' : ℕ = times p.number (racked (remove_entry test S.rack)) in
    let e : times p.number (racked S.rack) ≡ hit p.number p.number + R' = label_parts p.number test S.rack ∙ ap (λ v. hits p.number v + R') (sym is) in
    let h = hit_same p.number p.number refl in
    ap (λ v. is_live p.number S.world.live && v) (some_is (times p.number (racked S.rack)) (omega arith)) ∙ and_false (is_live p.number S.world.live)

pub not_loose : (S : State) (e : Entry) → IsSound S → Answers S e → NotLoose (handed e) S
not_loose S (entry.Begin k at mode) s a = unless (is_live k S.world.live) (times k (racked S.rack) == 0) (λ live. let b = s.below k live in let e : k ≡ S.world.next = a.1 in absurd (omega arith))
not_loose S (entry.Look l found) s a = look_not S (bytes_eq l) found a
not_loose S e s a = tt
