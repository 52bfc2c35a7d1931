-- What the commands `recover` and `bench` print, and the script that a bench runs.
use Rattle.std.specs.Prelude.{ℕ, zero, suc, ◌+◌, ◌*◌, ◌/◌, ◌%◌, ◌^◌, ◌-◌, Bool, true, false, List, [], ◌∷◌, ◌++◌, Option, Some, None, length, filter, flat_map, codes, decimal}
use Rattle.sha2.specs.Sha256.{sha256}
use Rattle.iso_model.specs.{declared.access.Geometry.Geometry, declared.access.GroupReply.GroupReply, declared.access.Mode.TheVariants.Serial, Array.Array, History.{History, last, array_at}, World.{World, fresh, empty_history}}
use Rattle.iso_model.specs.declared.access.GroupReply.TheVariants as member
use Rattle.script_model.specs.{declared.script.Line.Line, declared.script.Reply.Reply, declared.script.Reply.TheVariants.{Committed, Conflict, Grouped}, Script.{replies, script}, Step.step, Text.hex_text}

-- the generator's state after a draw
abbrev pub drawn : ℕ → ℕ
drawn x = (x * 6364136223846793005 + 1442695040888963407) % 2 ^ 64

-- the number that a draw to this state gives: its upper 32 bits
abbrev pub number_drawn : ℕ → ℕ
number_drawn x = x / 2 ^ 32

-- the state after n draws
abbrev pub after_draws : ℕ → ℕ → ℕ
after_draws zero x = x
after_draws (suc n) x = after_draws n (drawn x)

-- the n-th number drawn from a state, below a bound
abbrev pub nth_drawn : (x n bound : ℕ) → ℕ
nth_drawn x n bound = number_drawn (after_draws n x) % bound

-- a line of a bench: some words and a line feed
abbrev pub bench_line : List (List ℕ) → List ℕ
bench_line words = flat_map (λ word. word) words ++ 10 ∷ []

-- the eight lines of a round: two clients read and write two blocks crosswise, at one of sixteen places each
abbrev pub round_text : (p q i j v w : ℕ) → List ℕ
round_text p q i j v w =
    bench_line (codes "1 begin" ∷ [])
    ++ bench_line (codes "2 begin" ∷ [])
    ++ bench_line (codes "1 get " ∷ decimal p ∷ codes " " ∷ decimal (4 * i) ∷ codes " 4" ∷ [])
    ++ bench_line (codes "1 put " ∷ decimal q ∷ codes " " ∷ decimal (4 * j) ∷ codes " " ∷ hex_text (v ∷ []) ∷ [])
    ++ bench_line (codes "2 get " ∷ decimal q ∷ codes " " ∷ decimal (4 * i) ∷ codes " 4" ∷ [])
    ++ bench_line (codes "2 put " ∷ decimal p ∷ codes " " ∷ decimal (4 * i) ∷ codes " " ∷ hex_text (w ∷ []) ∷ [])
    ++ bench_line (codes "1 end" ∷ [])
    ++ bench_line (codes "2 end" ∷ [])

-- the round that six numbers drawn from a state give
abbrev pub drawn_round : (x : ℕ) → List ℕ
drawn_round x = round_text (nth_drawn x 1 64) (nth_drawn x 2 64) (nth_drawn x 3 16) (nth_drawn x 4 16) (nth_drawn x 5 256) (nth_drawn x 6 256)

-- the script of `count` rounds, drawn from a state
unfoldable pub bench_text : (count x : ℕ) → List ℕ
bench_text zero x = []
bench_text (suc count) x = drawn_round x ++ bench_text count (after_draws 6 x)

-- the image of a bench
abbrev pub bench_geometry : Geometry
bench_geometry = record { block = 64; blocks = 64; log = 8388608; mode = Serial; hash = 0; tree = 0; form = 1 }

abbrev pub bench_world : World
bench_world = fresh bench_geometry 1 (empty_history bench_geometry)

-- whether the first label of a group is told a commit
abbrev pub tells_first : List (Option GroupReply) → Bool
tells_first [] = false
tells_first (None ∷ answers) = false
tells_first (Some (member.Committed n) ∷ answers) = true
tells_first (Some member.ReadOnly ∷ answers) = false
tells_first (Some (member.Conflict c) ∷ answers) = false
tells_first (Some (member.Full need free) ∷ answers) = false
tells_first (Some member.Worn ∷ answers) = false

-- a reply that begins as that of a commit; the script of a bench asks for no group
abbrev pub is_committed : Reply → Bool
is_committed (Committed n) = true
is_committed (Grouped answers) = tells_first answers
is_committed reply = false

abbrev pub is_conflict : Reply → Bool
is_conflict (Conflict c) = true
is_conflict reply = false

-- what a world answers to each of the lines
abbrev pub answers_to : World → List (ℕ × Line) → List Reply
answers_to W [] = []
answers_to W (line ∷ lines) = (step W line.1.client line.1.op).0 ∷ answers_to (step W line.1.client line.1.op).1 lines

-- the line that a bench prints of these lines of its script
abbrev pub bench_summary : (count : ℕ) → List (ℕ × Line) → List ℕ
bench_summary count lines =
    codes "rounds " ++ decimal count
    ++ codes " commits " ++ decimal (length (filter is_committed (answers_to bench_world lines)))
    ++ codes " conflicts " ++ decimal (length (filter is_conflict (answers_to bench_world lines)))
    ++ codes " sha256 " ++ hex_text (sha256 (replies bench_world lines)) ++ 10 ∷ []

-- what `bench` with this seed and `count` rounds prints
abbrev pub bench_output : (seed count : ℕ) → List ℕ
bench_output seed count = bench_summary count (script (bench_text count seed)).lines

-- the bytes of the array, block after block
abbrev pub array_bytes : Array → List ℕ
array_bytes A = flat_map (λ block. block) A

-- what `recover` prints of an image that holds this history
abbrev pub recover_output : History → List ℕ
recover_output H =
    codes "last " ++ decimal (last H) ++ codes " base " ++ decimal (H.first - 1)
    ++ codes " sha256 " ++ hex_text (sha256 (array_bytes (array_at H (last H)))) ++ 10 ∷ []
