-- The replies of a run, and their text.
use Rattle.script_runner.proofs.Words.{arith, ◌≡◌, ℕ, List, [], ◌∷◌, ◌++◌, inl, inr, take, ap, refl, sym, subst, ◌∙◌, append_assoc, append-nil, append_known, DiskState, SinkState, Wrote, append_known-append, append_known-nil, World, IsWorld, Line, Reply, answers_to, replies, step, reply_line, RunEnd, AreRepliesTo, AreSameButShown, IfCut, IsReplyTo, PutReplies, PutRepliesBy, Replied, text_of, ArePlain, IsPlain, SameButShown, StandsSo, Disk, Output}

-- the text of one reply
pub reply_is : (W : World) (number : ℕ) (said : Line) (answer : Reply) (given set : List ℕ) → given ≡ set → set ≡ reply_line said.client answer
    → answer ≡ (step W said.client said.op).0 → given ≡ replies W ((number, said) ∷ [])
reply_is W number said answer given set same line is =
    same ∙ line ∙ ap (reply_line said.client) is ∙ sym (append-nil _)

-- what was written, after the replies to earlier lines
pub wrote_on : (k mid l : SinkState) (first second : List ℕ) → Wrote k mid first → Wrote mid l second → Wrote k l (first ++ second)
wrote_on k mid l first second one two = two ∙ ap (λ known. append_known known second) one ∙ append_known-append k.written first second

wrote_nothing : (k mid l : SinkState) (first : List ℕ) → Wrote k mid first → Wrote mid l [] → Wrote k l first
wrote_nothing k mid l first one two = subst (λ (xs : List ℕ). Wrote k l xs) (append-nil first) (wrote_on k mid l first [] one two)

pub replied_on : (end : RunEnd) (k mid l : SinkState) (first next : List ℕ) → Wrote k mid first → Replied end mid l [] next → Replied end k l first next
replied_on Output k mid l first next one (inl two) = inl (record { count = two.count; short = two.short; wrote = wrote_on k mid l first (take two.count next) one two.wrote })
replied_on Output k mid l first next one (inr two) = inr (two.0, wrote_nothing k mid l first one two.1)
replied_on x k mid l first next one two = wrote_nothing k mid l first one two

-- an end that no line brings: neither the disk nor the sink failed
abbrev pub IsQuiet : RunEnd → Type 0
IsQuiet Disk = ⊥
IsQuiet Output = ⊥
IsQuiet end = Unit {0}

pub quiet_replies : (end : RunEnd) (k l : SinkState) (text next : List ℕ) → IsQuiet end → Wrote k l text → Replied end k l text next
quiet_replies Disk k l text next quiet wrote = absurd quiet
quiet_replies Output k l text next quiet wrote = absurd quiet
quiet_replies x k l text next quiet wrote = wrote

-- what holds where the sink ended the run
cut_on : (end : RunEnd) (P Q : Type 0) → (P → Q) → IfCut end P → IfCut end Q
cut_on Output P Q on cut = on cut
cut_on x P Q on cut = tt

quiet_cut : (end : RunEnd) (P : Type 0) → IsQuiet end → IfCut end P
quiet_cut end P quiet = grind arith

-- the text of one reply that was made
pub made_is : (number : ℕ) (said : Line) (answer : Reply) (given set : List ℕ) → given ≡ set → set ≡ reply_line said.client answer → given ≡ text_of ((number, said) ∷ []) (answer ∷ [])
made_is number said answer given set same line = same ∙ line ∙ sym (append-nil _)

-- the replies to lines and then to more of them
are_on : (W U V : World) (xs ys : List (ℕ × Line)) (rs ss : List Reply) → AreRepliesTo W xs rs U → AreRepliesTo U ys ss V → AreRepliesTo W (xs ++ ys) (rs ++ ss) V
are_on W U V [] ys [] ss first second = subst (λ (X : World). AreRepliesTo X ys ss V) first second
are_on W U V [] ys (r ∷ rs) ss first second = absurd first
are_on W U V (x ∷ xs) ys [] ss first second = absurd first
are_on W U V (x ∷ xs) ys (r ∷ rs) ss first second = (first.0, first.1, are_on first.0 U V xs ys rs ss first.2 second)

text_on : (W U : World) (xs ys : List (ℕ × Line)) (rs ss : List Reply) → AreRepliesTo W xs rs U → text_of (xs ++ ys) (rs ++ ss) ≡ text_of xs rs ++ text_of ys ss
text_on W U [] ys [] ss first = refl
text_on W U [] ys (r ∷ rs) ss first = absurd first
text_on W U (x ∷ xs) ys [] ss first = absurd first
text_on W U (x ∷ xs) ys (r ∷ rs) ss first =
    ap (λ text. reply_line x.1.client r ++ text) (text_on first.0 U xs ys rs ss first.2) ∙ sym (append_assoc (reply_line x.1.client r) (text_of xs rs) (text_of ys ss))

-- no line, no reply
none_led : (W V : World) (rs : List Reply) → AreRepliesTo W [] rs V → V ≡ W
none_led W V [] are = are
none_led W V (r ∷ rs) are = absurd are

pub put_none : (k : SinkState) (W : World) → PutReplies k k W [] W
put_none k W = record { given = []; are = refl; put = sym (append_known-nil _) }

-- what a machine answered
pub is_reply : {stands : World → Type 0} {d : DiskState} (W : World) (line : Line) (r : Reply) → (so : StandsSo stands d (IsPlain line.op) (step W line.client line.op).1)
    → IsWorld so.world → (IsPlain line.op → SameButShown r (step W line.client line.op).0) → IsReplyTo W line r so.world
is_reply W line r so sound shown = record { plain = λ plain. (shown plain, so.known (inr plain)); history = so.history; geometry = so.geometry; sound = sound }

pub put_one : (k l : SinkState) (W : World) (x : ℕ × Line) (r : Reply) (V : World) → IsReplyTo W x.1 r V → Wrote k l (text_of (x ∷ []) (r ∷ [])) → PutReplies k l W (x ∷ []) V
put_one k l W x r V is put = record { given = r ∷ []; are = (V, is, refl); put = put }

-- a line that has no reply ends the run
pub put_silent : (end : RunEnd) (k : SinkState) (W V : World) (x : ℕ × Line) → ((P : Type 0) → IfCut end P) → Replied end k k [] [] → PutRepliesBy end k k W [] (x ∷ []) W V
put_silent end k W V x uncut put = record { given = []; last = []; are = refl; last_is = uncut _; put = put }

-- of a reply the sink took a front
pub put_front : (k l : SinkState) (W V : World) (x : ℕ × Line) (r : Reply) → IsReplyTo W x.1 r V → Replied Output k l [] (text_of (x ∷ []) (r ∷ [])) → PutRepliesBy Output k l W [] (x ∷ []) W V
put_front k l W V x r is put = record { given = []; last = r ∷ []; are = refl; last_is = (V, is, refl); put = put }

-- replies, and then more of them
pub put_more : (k mid l : SinkState) (W U V : World) (xs ys : List (ℕ × Line)) → PutReplies k mid W xs U → PutReplies mid l U ys V → PutReplies k l W (xs ++ ys) V
put_more k mid l W U V xs ys first second = record {
  given = first.given ++ second.given;
  are = are_on W U V xs ys first.given second.given first.are second.are;
  put = wrote_on k mid l (text_of xs first.given) (text_of ys second.given) first.put second.put
      ∙ ap (append_known k.written) (sym (text_on W U xs ys first.given second.given first.are));
}

pub put_halted : (end : RunEnd) (k mid l : SinkState) (W U V F : World) (xs ys : List (ℕ × Line)) → PutReplies k mid W xs U → PutRepliesBy end mid l U [] ys V F
    → PutRepliesBy end k l W xs ys U F
put_halted end k mid l W U V F xs ys first second = record {
  given = first.given;
  last = second.last;
  are = first.are;
  last_is = cut_on end (AreRepliesTo V ys second.last F) (AreRepliesTo U ys second.last F)
      (subst (λ (X : World). AreRepliesTo X ys second.last F) (none_led U V second.given second.are)) second.last_is;
  put = replied_on end k mid l (text_of xs first.given) (text_of ys second.last) first.put second.put;
}

pub put_quiet : (end : RunEnd) (k l : SinkState) (W V : World) (xs : List (ℕ × Line)) → IsQuiet end → PutReplies k l W xs V → PutRepliesBy end k l W xs [] V V
put_quiet end k l W V xs quiet done = record {
  given = done.given;
  last = [];
  are = done.are;
  last_is = quiet_cut end _ quiet;
  put = quiet_replies end k l (text_of xs done.given) [] quiet done.put;
}

-- the sink ended the run where it was to hand on, and no line ran after those
pub put_held : (k mid l : SinkState) (W V : World) (xs : List (ℕ × Line)) → PutReplies k mid W xs V → l.written ≡ mid.written → PutRepliesBy Output k l W xs [] V V
put_held k mid l W V xs done same = record { given = done.given; last = []; are = done.are; last_is = refl; put = inr (refl, same ∙ done.put) }

-- replies to lines that call no store are the model's but for the bytes shown
pub plain_same : (W V : World) (xs : List (ℕ × Line)) (rs : List Reply) → ArePlain xs → AreRepliesTo W xs rs V → AreSameButShown rs (answers_to W xs)
plain_same W V [] [] plain are = tt
plain_same W V [] (r ∷ rs) plain are = absurd are
plain_same W V (x ∷ xs) [] plain are = absurd are
plain_same W V (x ∷ xs) (r ∷ rs) plain are =
    let one = are.1.plain plain.0 in
    (one.0, subst (λ (U : World). AreSameButShown rs (answers_to U xs)) one.1 (plain_same are.0 V xs rs plain.1 are.2))
