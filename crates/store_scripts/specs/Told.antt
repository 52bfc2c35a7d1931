-- What the lines of a script and their replies tell of the calls of the stores that each transaction made: of the hash store, and of a
-- second one beside it.
use Rattle.std.specs.{Prelude.{◌≡◌, ◌⊎◌, ℕ, ◌==◌, Bool, true, false, ◌&&◌, ◌||◌, not, cond, IsTrue, List, [], ◌∷◌, ◌++◌, Option, Some, None, length, drop, nat_lt}, List.list_all}
use Rattle.iso_model.specs.{declared.access.Access.Access, declared.access.Geometry.Geometry, declared.access.GroupReply.GroupReply, Effect.is_write, Group.{group_step, looks}, World.{Live, World, attached}}
use Rattle.iso_model.specs.declared.access.GroupReply.TheVariants as member
use Rattle.script_model.specs.{declared.script.Line.Line, declared.script.Op.Op, declared.script.Op.TheVariants.{Group, Mark}, declared.script.Reply.Reply, Step.step}
use Rattle.script_model.specs.declared.script.Reply.TheVariants as reply
use Rattle.store_model.specs.Areas.{hash_area}
use Rattle.store_laws.specs.Calls.{KeyCall, StoreAnswer, in_area}
use Rattle.store_scripts.specs.{Answers.{Answered, OfHash, OfSecond}, Stores.{SecondStore, second_store}}

-- calls of a store, in order, and what each was answered
pub record Asked (Call Answer : Type 0) : Type 0 where
  pub calls : List Call
  pub answers : List Answer

-- The calls that a transaction made of each store, and how many accesses it had when the last of them was over. It keeps to the
-- stores where it wrote their regions by these calls alone, and no access of such a call took a mark.
pub record Told (S : SecondStore) : Type 0 where
  pub hash : Asked KeyCall StoreAnswer
  pub second : Asked S.Call S.Answer
  pub over : ℕ
  pub kept : Bool

abbrev pub nothing_told : (S : SecondStore) → Told S
nothing_told S = record { hash = record { calls = []; answers = [] }; second = record { calls = []; answers = [] }; over = 0; kept = true }

abbrev pub one_more : {Call Answer : Type 0} → Asked Call Answer → Call → Answer → Asked Call Answer
one_more asked call answer = record { calls = asked.calls ++ call ∷ []; answers = asked.answers ++ answer ∷ [] }

-- with one more call, after which the transaction has `over` accesses
abbrev pub with_call : (S : SecondStore) → Told S → Answered S.Call S.Answer → (over : ℕ) → Told S
with_call S told (OfHash call answer) over = record told { hash = one_more told.hash call answer; over = over }
with_call S told (OfSecond call answer) over = record told { second = one_more told.second call answer; over = over }

-- whether an access writes no block of the stores
abbrev pub spares_stores : SecondStore → Geometry → Access → Bool
spares_stores S g a = not (is_write a) || (not (in_area (hash_area g) a.block) && not ((second_store S g).has_block a.block))

abbrev pub is_done : Reply → Bool
is_done reply.Done = true
is_done r = false

-- whether an operation puts no mark on an access of a call, where the transaction had `count` accesses
abbrev pub spares_calls : Op → Reply → (over count : ℕ) → Bool
spares_calls (Mark off len) r over count = not (is_done r) || nat_lt over count
spares_calls op r over count = true

-- what is told after a line of the transaction with this reply, by its accesses before and after
abbrev pub told_more : (S : SecondStore) → Geometry → Op → Reply → (before after : List Access) → Told S → Option (Answered S.Call S.Answer) → Told S
told_more S g op r before after told (Some call) = with_call S told call (length after)
told_more S g op r before after told None =
    record told { kept = told.kept && list_all (spares_stores S g) (drop (length before) after) && spares_calls op r told.over (length before) }

abbrev pub accesses_or_none : Option Live → List Access
accesses_or_none None = []
accesses_or_none (Some t) = t.accesses

-- what is told of the transaction of a number after a line of a client that is answered so, by who is attached to the client
abbrev pub told_by : (S : SecondStore) → Geometry → (client number : ℕ) → Op → Option Live → Reply × World → Told S → Told S
told_by S g client number op None result told = told
told_by S g client number op (Some t) result told =
    cond (t.number == number)
    (told_more S g op result.0 t.accesses (accesses_or_none (attached result.1 client)) told (S.answered op result.0))
    told

-- what is told of each transaction, by its number
abbrev pub Notes : SecondStore → Type 0
Notes S = ℕ → Told S

abbrev pub no_notes : (S : SecondStore) → Notes S
no_notes S = λ number. nothing_told S

-- after a line
abbrev pub noted : (S : SecondStore) → World → Notes S → (client : ℕ) → Op → Notes S
noted S W notes client op = λ number. told_by S W.geometry client number op (attached W client) (step W client op) (notes number)

-- and after lines; a transaction that another client took over goes on with what is told of it
abbrev pub notes_after : (S : SecondStore) → World → Notes S → List (ℕ × Line) → Notes S
notes_after S W notes [] = notes
notes_after S W notes (line ∷ lines) = notes_after S (step W line.1.client line.1.op).1 (noted S W notes line.1.client line.1.op) lines

-- what is told of the transaction of a number after lines of a world of whose transactions nothing is told
abbrev pub told_after : (S : SecondStore) → World → List (ℕ × Line) → (number : ℕ) → Told S
told_after S W lines number = notes_after S W (no_notes S) lines number

-- by what was found under the labels of a group and what these are answered, the transaction ends as commit k
abbrev pub EndsAs : List (Option Live) → List (Option GroupReply) → (t : Live) → (k : ℕ) → Type 0
EndsAs [] answers t k = ⊥
EndsAs (one ∷ found) [] t k = ⊥
EndsAs (one ∷ found) (answer ∷ answers) t k = ((one ≡ Some t) × (answer ≡ Some (member.Committed k))) ⊎ EndsAs found answers t k

-- the operation is a group that ends the transaction as commit k
abbrev pub IsEndedAs : World → Op → (t : Live) → (k : ℕ) → Type 0
IsEndedAs W (Group texts) t k = EndsAs (looks W texts).0 (group_step W texts).0 t k
IsEndedAs W op t k = ⊥

-- a line that commits transactions, one by an end or each that a group commits, commits such as keep to the stores
pub record CommitKeeps (S : SecondStore) (W : World) (notes : Notes S) (client : ℕ) (op : Op) : Type 0 where
  pub one : (t : Live) (k : ℕ) → attached W client ≡ Some t → (step W client op).0 ≡ reply.Committed k → IsTrue (notes t.number).kept
  pub each : (t : Live) (k : ℕ) → IsEndedAs W op t k → IsTrue (notes t.number).kept

-- each transaction that commits in these lines keeps to the stores
abbrev pub CommitsKeep : (S : SecondStore) → World → Notes S → List (ℕ × Line) → Type 0
CommitsKeep S W notes [] = Unit {0}
CommitsKeep S W notes (line ∷ lines) =
    CommitKeeps S W notes line.1.client line.1.op × CommitsKeep S (step W line.1.client line.1.op).1 (noted S W notes line.1.client line.1.op) lines
