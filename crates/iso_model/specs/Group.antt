-- Transactions that end as a group: one after the other, with one answer each.
use Rattle.std.specs.Prelude.{◌≡◌, ℕ, ◌+◌, List, [], ◌∷◌, Option, Some, None}
use Rattle.iso_model.specs.{declared.access.Commit.Commit, declared.access.GroupReply.GroupReply, declared.core_reply.CoreReply.CoreReply, History.with_commits, Step.{after_leaving, commit_from, end_step, placed}, World.{World, Live, held, unattached}}
use Rattle.iso_model.specs.declared.access.GroupReply.TheVariants as member
use Rattle.iso_model.specs.declared.core_reply.CoreReply.TheVariants as reply

-- what a member is answered whose end is answered so
abbrev pub member_reply : CoreReply → GroupReply
member_reply (reply.Committed number) = member.Committed number
member_reply (reply.Conflict clash) = member.Conflict clash
member_reply (reply.LogFull need free) = member.Full need free
member_reply reply.Worn = member.Worn
member_reply answer = member.ReadOnly

-- the world after a member: an end that is answered log full or worn leaves it live, and a member is aborted then
abbrev pub after_member : Live → CoreReply × World → World
after_member t (reply.LogFull need free, V) = after_leaving V t
after_member t (reply.Worn, V) = after_leaving V t
after_member t (answer, V) = V

abbrev pub with_first : {A : Type 0} → A → List A × World → List A × World
with_first first (others, V) = (first ∷ others, V)

-- the members are ended one after the other, each in the world after those before it
abbrev pub group : World → List Live → List GroupReply × World
group W [] = ([], W)
group W (t ∷ members) = with_first (member_reply (end_step W t).0) (group (after_member t (end_step W t)) members)

-- ---- the group that labels ask for

-- the world in which what was found under a label has left it
abbrev pub after_look : World → Option Live → World
after_look W None = W
after_look W (Some t) = placed W t unattached

-- what is found under the labels, one after the other
abbrev pub looks : World → List (List ℕ) → List (Option Live) × World
looks W [] = ([], W)
looks W (text ∷ texts) = with_first (held W text) (looks (after_look W (held W text)) texts)

-- those that were found are the members
abbrev pub found_ones : List (Option Live) → List Live
found_ones [] = []
found_ones (None ∷ found) = found_ones found
found_ones (Some t ∷ found) = t ∷ found_ones found

-- the replies to the labels: none for a label under which nothing was found
abbrev pub label_replies : List (Option Live) → List GroupReply → List (Option GroupReply)
label_replies [] replies = []
label_replies (None ∷ found) replies = None ∷ label_replies found replies
label_replies (Some t ∷ found) [] = None ∷ label_replies found []
label_replies (Some t ∷ found) (first ∷ replies) = Some first ∷ label_replies found replies

-- the transactions under the labels leave them, and are ended as a group
unfoldable pub group_step : World → List (List ℕ) → List (Option GroupReply) × World
group_step W texts =
    let found : List (Option Live) × World = looks W texts in
    let ended : List GroupReply × World = group found.1 (found_ones found.0) in
    (label_replies found.0 ended.0, ended.1)

-- ---- the same result, decided first: all members stay live until the last of them is decided

-- the world with these commits after its history, in which all are live still
abbrev pub ahead : World → List Commit → World
ahead W more = record W { history = with_commits more W.history }

-- the world without any of these transactions
abbrev pub leave_all : List Live → World → World
leave_all [] W = W
leave_all (t ∷ members) W = leave_all members (after_leaving W t)

-- the commit that a member makes that is answered so
abbrev pub made_by : Live → GroupReply → List Commit
made_by t (member.Committed number) = commit_from t ∷ []
made_by t member.ReadOnly = []
made_by t (member.Conflict clash) = []
made_by t (member.Full need free) = []
made_by t member.Worn = []

-- the replies of a group, and the world with its commits, in which all members are live still
abbrev pub decided : World → List Live → List GroupReply × World
decided W [] = ([], W)
decided W (t ∷ members) = with_first (member_reply (end_step W t).0) (decided (ahead W (made_by t (member_reply (end_step W t).0))) members)

-- ---- the numbers of its commits

-- the numbers of the commits that replies tell
abbrev pub numbers_told : List GroupReply → List ℕ
numbers_told [] = []
numbers_told (member.Committed number ∷ replies) = number ∷ numbers_told replies
numbers_told (answer ∷ replies) = numbers_told replies

-- numbers that follow n without a gap
abbrev pub Follow : ℕ → List ℕ → Type 0
Follow n [] = Unit {0}
Follow n (m ∷ numbers) = (m ≡ n + 1) × Follow m numbers
