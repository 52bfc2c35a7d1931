-- Two clients who hand a transaction to each other under labels: one list that they may leave, with what each is told.
use Rattle.par_script.{proofs.Words.{◌≡◌, ℕ, ◌<◌, zero, suc, true, List, [], ◌∷◌, ◌++◌, Some, None, ap, inl, inr, length, replicate, refl, sym, arith, Ok, Err, slice_index, Access, Committed, ReadOnly, Geometry, Serial, Snapshot, Line, Op, Reply, put, clash, runs, AreBytes, IsAccess, get_access, put_access, begin_step, commit_step, end_step, get_step, put_step, read_step, step, empty_history, fresh, get_is_access, put_is_access, no_bytes, Entry, Start, IsLegal, MAX_LOOKS, Own, Does, Did, Walk, last_abort, Told, clients_in, entries_of, lines_of}, specs.Lines.{ClientLines, StopsAtLast}, specs.Told.FoundSome, specs.declared.part.Part.Part}
use Rattle.std.specs.{Prelude.{Bool, false, Option, ◌==◌, map}, List.{AllByRecursion, list_any}}
use Rattle.iso_shared.specs.declared.entry.Numbers.{Numbers}
use Rattle.script_model.specs.declared.stop.Stop.{Stop}
use Rattle.script_model.specs.declared.script.Op.TheVariants as op
use Rattle.script_model.specs.declared.script.Reply.TheVariants as reply
use Rattle.iso_shared.specs.declared.entry.Call.TheVariants as call
use Rattle.iso_shared.specs.declared.entry.Cause.TheVariants as cause
use Rattle.iso_shared.specs.declared.entry.Entry.TheVariants as entry
use Rattle.script_model.specs.declared.stop.Stop.TheVariants as stop

abbrev small : Geometry
small = record { block = 64; blocks = 4; log = 256; mode = Serial; hash = 0; tree = 0; form = 1 }

abbrev start : Start
start = record { world = fresh small 1 (empty_history small); faults = 0; tells = true }

abbrev says : (number client : ℕ) → Op → ℕ × Line
says number client o = (number, record { client = client; op = o })

abbrev a : List ℕ
a = 97 ∷ []

abbrev b : List ℕ
b = 98 ∷ []

abbrev first_lines : List (ℕ × Line)
first_lines =
    says 1 1 (op.Begin None) ∷ says 2 1 (op.Put 0 0 (170 ∷ [])) ∷ says 3 1 (op.Release a) ∷ says 4 1 (op.Await b) ∷ says 5 1 op.End ∷ []

abbrev second_lines : List (ℕ × Line)
second_lines =
    says 6 2 (op.Await a) ∷ says 7 2 (op.Put 0 1 (187 ∷ [])) ∷ says 8 2 op.End ∷ says 9 2 (op.Begin None) ∷ says 10 2 (op.Get 0 0 2) ∷ says 11 2 (op.Release b) ∷ []

abbrev lines : List (ℕ × Line)
lines = first_lines ++ second_lines

abbrev put_aa : Access
put_aa = put_access 64 0 0 (170 ∷ [])

abbrev put_bb : Access
put_bb = put_access 64 0 1 (187 ∷ [])

abbrev get_both : Access
get_both = get_access 0 0 2

-- the block after the commit
abbrev block : List ℕ
block = 170 ∷ 187 ∷ replicate 62 0

-- the transaction under label a, and the one under label b
abbrev at_a : Own
at_a = record { number = 1; begin = 0; mode = Serial; accesses = put_aa ∷ [] }

abbrev at_b : Own
at_b = record { number = 2; begin = 1; mode = Serial; accesses = get_both ∷ [] }

abbrev first_entries : List Entry
first_entries =
    entry.Begin 1 0 Serial ∷ entry.Post 1 a (put_aa ∷ []) ∷ entry.Look b None ∷ entry.Look b (Some at_b) ∷ entry.Recent 2 1 ∷ entry.End 2 (get_both ∷ []) ReadOnly ∷ []

abbrev second_entries : List Entry
second_entries =
    entry.Look a None ∷ entry.Look a (Some at_a) ∷ entry.Recent 1 0 ∷ entry.End 1 (put_aa ∷ put_bb ∷ []) (Committed 1) ∷ entry.Begin 2 1 Serial
    ∷ entry.Fetch 2 0 block ∷ entry.Post 2 b (get_both ∷ []) ∷ []

-- what each is told
abbrev first_told : List (ℕ × Reply)
first_told = (1, reply.Began 0) ∷ (2, reply.Done) ∷ (3, reply.Done) ∷ (4, reply.Began 1) ∷ (5, reply.ReadOnly) ∷ []

abbrev second_told : List (ℕ × Reply)
second_told =
    (6, reply.Began 0) ∷ (7, reply.Done) ∷ (8, reply.Committed 1) ∷ (9, reply.Began 1) ∷ (10, reply.Shown (170 ∷ 187 ∷ [])) ∷ (11, reply.Done) ∷ []

-- one order of their turns: the second client looks for a before it is posted, and the first one for b
abbrev owners : List ℕ
owners = 2 ∷ 1 ∷ 1 ∷ 1 ∷ 2 ∷ 2 ∷ 2 ∷ 2 ∷ 2 ∷ 2 ∷ 1 ∷ 1 ∷ 1 ∷ []

abbrev made : List Entry
made =
    entry.Look a None
    ∷ entry.Begin 1 0 Serial
    ∷ entry.Post 1 a (put_aa ∷ [])
    ∷ entry.Look b None
    ∷ entry.Look a (Some at_a)
    ∷ entry.Recent 1 0
    ∷ entry.End 1 (put_aa ∷ put_bb ∷ []) (Committed 1)
    ∷ entry.Begin 2 1 Serial
    ∷ entry.Fetch 2 0 block
    ∷ entry.Post 2 b (get_both ∷ [])
    ∷ entry.Look b (Some at_b)
    ∷ entry.Recent 2 1
    ∷ entry.End 2 (get_both ∷ []) ReadOnly
    ∷ []

-- each client's lines and entries are these
its_lines : (lines_of 1 lines ≡ first_lines) × (lines_of 2 lines ≡ second_lines) × (clients_in lines ≡ 1 ∷ 2 ∷ [])
its_lines = (refl, refl, refl)

its_entries : (entries_of 1 owners made ≡ first_entries) × (entries_of 2 owners made ≡ second_entries)
its_entries = (refl, refl)

-- the lines of each, one after another
begins_one : Did small true None (op.Begin None) (entry.Begin 1 0 Serial ∷ []) (Ok (reply.Began 0)) (Some (record at_a { accesses = [] }))
begins_one = inl (refl, refl, refl)

puts_aa : Did small true (Some (record at_a { accesses = [] })) (op.Put 0 0 (170 ∷ [])) [] (Ok reply.Done) (Some at_a)
unfolding step put_step
puts_aa = inl (refl, refl, refl)

releases_a : Did small true (Some at_a) (op.Release a) (entry.Post 1 a (put_aa ∷ []) ∷ []) (Ok reply.Done) None
releases_a = inl (refl, refl, refl, refl, refl)

awaits_b : Did small true None (op.Await b) (entry.Look b None ∷ entry.Look b (Some at_b) ∷ []) (Ok (reply.Began 1)) (Some at_b)
awaits_b = inl (omega arith, refl, (omega arith, refl, refl, refl))

ends_two : Did small true (Some at_b) op.End (entry.Recent 2 1 ∷ entry.End 2 (get_both ∷ []) ReadOnly ∷ []) (Ok reply.ReadOnly) None
ends_two = inl (inl (refl, (refl, refl, refl, refl)))

puts_bb : Did small true (Some at_a) (op.Put 0 1 (187 ∷ [])) [] (Ok reply.Done) (Some (record at_a { accesses = put_aa ∷ put_bb ∷ [] }))
unfolding step put_step
puts_bb = inl (refl, refl, refl)

gets_both : Did small true (Some (record at_b { accesses = [] })) (op.Get 0 0 2) (entry.Fetch 2 0 block ∷ []) (Ok (reply.Shown (170 ∷ 187 ∷ []))) (Some at_b)
unfolding step get_step
gets_both = inl (refl, refl, refl, refl)

awaits_a : Did small true None (op.Await a) (entry.Look a None ∷ entry.Look a (Some at_a) ∷ []) (Ok (reply.Began 0)) (Some at_a)
awaits_a = inl (omega arith, refl, (omega arith, refl, refl, refl))

ends_one : Did small true (Some (record at_a { accesses = put_aa ∷ put_bb ∷ [] })) op.End (entry.Recent 1 0 ∷ entry.End 1 (put_aa ∷ put_bb ∷ []) (Committed 1) ∷ []) (Ok (reply.Committed 1)) None
ends_one = inl (inl (refl, (refl, refl, refl, refl)))

begins_two : Did small true None (op.Begin None) (entry.Begin 2 1 Serial ∷ []) (Ok (reply.Began 1)) (Some (record at_b { accesses = [] }))
begins_two = inl (refl, refl, refl)

releases_b : Did small true (Some at_b) (op.Release b) (entry.Post 2 b (get_both ∷ []) ∷ []) (Ok reply.Done) None
releases_b = inl (refl, refl, refl, refl, refl)

first_walk : Walk small true None first_lines first_entries first_told None
first_walk = (
  _,
  _,
  _,
  _,
  _,
  refl,
  refl,
  begins_one,
  (
    _,
    _,
    _,
    _,
    _,
    refl,
    refl,
    puts_aa,
    (
      _,
      _,
      _,
      _,
      _,
      refl,
      refl,
      releases_a,
      (
        _,
        _,
        _,
        _,
        _,
        refl,
        refl,
        awaits_b,
        (
          _,
          _,
          _,
          _,
          _,
          refl,
          refl,
          ends_two,
          (refl, refl, refl),
        ),
      ),
    ),
  ),
)

second_walk : Walk small true None second_lines second_entries second_told None
second_walk = (
  _,
  _,
  _,
  _,
  _,
  refl,
  refl,
  awaits_a,
  (
    _,
    _,
    _,
    _,
    _,
    refl,
    refl,
    puts_bb,
    (
      _,
      _,
      _,
      _,
      _,
      refl,
      refl,
      ends_one,
      (
        _,
        _,
        _,
        _,
        _,
        refl,
        refl,
        begins_two,
        (
          _,
          _,
          _,
          _,
          _,
          refl,
          refl,
          gets_both,
          (
            _,
            _,
            _,
            _,
            _,
            refl,
            refl,
            releases_b,
            (refl, refl, refl),
          ),
        ),
      ),
    ),
  ),
)

-- the accesses are ones that a transaction may have made
one_byte : (value : ℕ) → value < 256 → AreBytes (value ∷ [])
one_byte value less zero = less
one_byte value less (suc i) = no_bytes i

may_put : (off value : ℕ) → off < 64 → value < 256 → IsAccess small (put_access 64 0 off (value ∷ []))
may_put off value within less = put_is_access small 0 off (value ∷ []) (omega arith) (omega arith) (omega arith) (one_byte value less)

may_get : IsAccess small get_both
may_get = get_is_access small 0 0 2 (omega arith) (record { some = omega arith; fits = omega arith })

legal : IsLegal start (made ++ entry.Sweep None ∷ [])
unfolding put clash runs begin_step commit_step end_step
legal = (
  record { needs = tt; takes = tt; answers = refl },
  (
    record { needs = tt; takes = tt; answers = (refl, refl, refl) },
    (
      record { needs = tt; takes = (refl, tt); answers = refl },
      (
        record { needs = tt; takes = tt; answers = refl },
        (
          record { needs = tt; takes = tt; answers = refl },
          (
            record { needs = (refl, tt); takes = tt; answers = (refl, refl) },
            (
              record { needs = tt; takes = (refl, tt); answers = (refl, record { each = (may_put 0 170 (omega arith) (omega arith), (may_put 1 187 (omega arith) (omega arith), tt)); count = omega arith }, refl) },
              (
                record { needs = tt; takes = tt; answers = (refl, refl, refl) },
                (
                  record { needs = (refl, tt); takes = tt; answers = (refl, omega arith, λ tells. refl) },
                  (
                    record { needs = tt; takes = (refl, tt); answers = refl },
                    (
                      record { needs = tt; takes = tt; answers = refl },
                      (
                        record { needs = (refl, tt); takes = tt; answers = (refl, refl) },
                        (
                          record { needs = tt; takes = (refl, tt); answers = (refl, record { each = (may_get, tt); count = omega arith }, refl) },
                          (
                            record { needs = tt; takes = tt; answers = refl },
                            tt,
                          ),
                        ),
                      ),
                    ),
                  ),
                ),
              ),
            ),
          ),
        ),
      ),
    ),
  ),
)

-- the whole: one legal list, in which each client was told so
told : Told start lines (record { client = 1; told = first_told; stop = None } ∷ record { client = 2; told = second_told; stop = None } ∷ []) (made ++ entry.Sweep None ∷ [])
told = record {
  legal = legal;
  made = made;
  swept = [];
  found = tt;
  are = refl;
  owners = owners;
  each = refl;
  clients = refl;
  owned = (refl, (refl, (refl, (refl, (refl, (refl, (refl, (refl, (refl, (refl, (refl, (refl, (refl, tt)))))))))))));
  told = (record { made = first_entries; own = None; ran = first_walk; all = refl }, (record { made = second_entries; own = None; ran = second_walk; all = refl }, tt));
}

-- What is refused: an entry of a line that the client's own state answers, a look for another label, and a read of the block as
-- it is without the own writes.
not_in_one : Does small true (Some at_a) (op.Begin None) (entry.Begin 2 0 Serial ∷ []) (Ok (reply.Began 0)) (Some at_a) → ⊥
unfolding step
not_in_one does = cc (does.0)

answers_in_tx : Does small true (Some at_a) (op.Begin None) [] (Ok reply.InTx) (Some at_a)
unfolding step
answers_in_tx = (refl, refl, refl)

not_equal : (m n : ℕ) → m < n → m ≡ n → ⊥
not_equal m n less same = absurd (omega arith)

not_another_label : Does small true None (op.Takeover a) (entry.Look b (Some at_b) ∷ []) (Ok (reply.Began 1)) (Some at_b) → ⊥
not_another_label does = not_equal (slice_index a 0) (slice_index b 0) (omega arith) (ap (λ l. slice_index l 0) (sym does.0))

not_another_begin : Does small true None (op.Takeover b) (entry.Look b (Some at_b) ∷ []) (Ok (reply.Began 0)) (Some at_b) → ⊥
not_another_begin does = cc (does.1)

-- an await that gives up at its first look
not_at_once : Does small true None (op.Await b) (entry.Look b None ∷ []) (Ok reply.NoHandle) None → ⊥
not_at_once does = cc (does.2.0)

-- what the own state, or the arguments, refuse makes no entry
outside : Does small true (Some at_a) (op.Read 4) [] (Ok reply.BadBlock) (Some at_a)
unfolding step read_step
outside = (refl, refl, refl)

no_fetch_outside : Does small true (Some at_a) (op.Read 4) (entry.Fetch 1 4 [] ∷ []) (Ok reply.BadBlock) (Some at_a) → ⊥
unfolding step read_step
no_fetch_outside does = cc (does.0)

-- a fault of a fetch: the client stops, and has its transaction to abort
stops_with : Does small true (Some at_a) (op.Read 0) (entry.Refused (call.Fetch 1 0) (cause.Disk 0 1) ∷ []) (Err stop.Disk) (Some at_a)
unfolding step read_step
stops_with = (refl, refl, refl)

-- the entries of the one client are not those of the other
not_the_others : entries_of 1 owners made ≡ second_entries → ⊥
not_the_others same = not_equal (length (entries_of 1 owners made)) (length second_entries) (omega arith) (ap length same)

-- an await looks so often
so_often : MAX_LOOKS ≡ 1000000
so_often = refl

-- a begin is in the mode that is named, and names it where it is refused
not_another_mode : Does small true None (op.Begin (Some Snapshot)) (entry.Begin 1 0 Serial ∷ []) (Ok (reply.Began 0)) (Some (record at_a { accesses = [] })) → ⊥
not_another_mode does = cc (does.0)

not_another_begin_refused : Does small true None (op.Begin None) (entry.Refused (call.Begin (Some Snapshot)) cause.ModeFixed ∷ []) (Ok reply.ModeFixed) None → ⊥
not_another_begin_refused does = cc (does.0)

-- a read fetches its own block, by its own transaction
not_another_block : Does small true (Some at_a) (op.Read 0) (entry.Fetch 1 1 block ∷ []) (Ok (reply.Shown block)) (Some at_a) → ⊥
unfolding step read_step
not_another_block does = cc (does.1)

not_another_reader : Does small true (Some at_a) (op.Read 0) (entry.Fetch 2 0 block ∷ []) (Ok (reply.Shown block)) (Some at_a) → ⊥
unfolding step read_step
not_another_reader does = cc (does.0)

-- an abort, a post and a look are of the own transaction and label
not_anothers_abort : Does small true (Some at_a) op.Abort (entry.Abort 2 ∷ []) (Ok reply.Done) None → ⊥
not_anothers_abort does = cc (does.0)

not_anothers_post : Does small true (Some at_a) (op.Release a) (entry.Post 2 a (put_aa ∷ []) ∷ []) (Ok reply.Done) None → ⊥
not_anothers_post does = cc (does.0)

not_posted_bare : Does small true (Some at_a) (op.Release a) (entry.Post 1 a [] ∷ []) (Ok reply.Done) None → ⊥
not_posted_bare does = not_equal 0 1 (omega arith) (ap (λ (l : List Access). length l) (does.2))

not_kept_by_a_post : Does small true (Some at_a) (op.Release a) (entry.Post 1 a (put_aa ∷ []) ∷ []) (Ok reply.Done) (Some at_a) → ⊥
not_kept_by_a_post does = cc (does.4)

not_lost_by_a_look : Does small true None (op.Takeover b) (entry.Look b (Some at_b) ∷ []) (Ok (reply.Began 1)) None → ⊥
not_lost_by_a_look does = cc (does.2)

-- upkeep tells the floor, and keeps the transaction
not_another_trim : Does small true None op.Trim (entry.Trim 0 ∷ []) (Ok (reply.Trimmed 1)) None → ⊥
not_another_trim does = cc (does.0)

not_lost_by_a_trim : Does small true (Some at_a) op.Trim (entry.Trim 0 ∷ []) (Ok (reply.Trimmed 0)) None → ⊥
not_lost_by_a_trim does = cc (does.1)

not_another_compact : Does small true None op.Compact (entry.Compact 0 ∷ []) (Ok (reply.Compacted 1)) None → ⊥
not_another_compact does = cc (does.0)

not_another_upgrade : Does small true None op.Upgrade (entry.Upgrade 0 ∷ []) (Ok (reply.Upgraded 1)) None → ⊥
not_another_upgrade does = cc (does.0)

-- at its end a client aborts what it still has
aborts_the_last : last_abort (Some at_a) ≡ entry.Abort 1 ∷ []
aborts_the_last = refl

-- want of memory before a turn makes no entry
no_entry_before_a_turn : Did small true (Some at_a) op.Abort (entry.Abort 2 ∷ []) (Err stop.Memory) (Some at_a) → ⊥
no_entry_before_a_turn (inl does) = cc (does.0)
no_entry_before_a_turn (inr wants) = cc (wants.0)

-- a call that is refused is the line's own, is answered so, and leaves what it leaves
not_another_fetch_refused : Does small true (Some at_a) (op.Read 0) (entry.Refused (call.Fetch 1 1) (cause.Disk 0 1) ∷ []) (Err stop.Disk) (Some at_a) → ⊥
unfolding step read_step
not_another_fetch_refused does = cc (does.0)

not_anothers_post_refused : Does small true (Some at_a) (op.Release a) (entry.Refused (call.Post 2 a (put_aa ∷ [])) cause.LabelTaken ∷ []) (Ok reply.LabelTaken) (Some at_a) → ⊥
not_anothers_post_refused does = cc (does.0)

not_lost_by_a_refused_post : Does small true (Some at_a) (op.Release a) (entry.Refused (call.Post 1 a (put_aa ∷ [])) cause.LabelTaken ∷ []) (Ok reply.LabelTaken) None → ⊥
not_lost_by_a_refused_post does = cc (does.2)

not_another_compact_refused : Does small true None op.Compact (entry.Refused call.Upgrade cause.Memory ∷ []) (Err stop.Memory) None → ⊥
not_another_compact_refused does = cc (does.0)

not_done_by_a_refused_compact : Does small true None op.Compact (entry.Refused call.Compact cause.Worn ∷ []) (Ok (reply.Compacted 0)) None → ⊥
not_done_by_a_refused_compact does = cc (does.1)

not_another_upgrade_refused : Does small true None op.Upgrade (entry.Refused call.Compact cause.Memory ∷ []) (Err stop.Memory) None → ⊥
not_another_upgrade_refused does = cc (does.0)

not_done_by_a_refused_upgrade : Does small true None op.Upgrade (entry.Refused call.Upgrade cause.Worn ∷ []) (Ok (reply.Upgraded 0)) None → ⊥
not_done_by_a_refused_upgrade does = cc (does.1)

not_another_trim_refused : Does small true None op.Trim (entry.Refused call.Compact cause.Down ∷ []) (Err stop.Down) None → ⊥
not_another_trim_refused does = cc (does.0)

not_done_by_a_refused_trim : Does small true None op.Trim (entry.Refused call.Trim cause.Down ∷ []) (Ok (reply.Trimmed 0)) None → ⊥
not_done_by_a_refused_trim does = cc (does.1)

-- a begin leaves the client with its transaction, and one that is refused without
not_lost_by_a_begin : Does small true None (op.Begin None) (entry.Begin 1 0 Serial ∷ []) (Ok (reply.Began 0)) None → ⊥
not_lost_by_a_begin does = cc (does.2)

not_begun_by_a_refused_begin : Does small true None (op.Begin None) (entry.Refused (call.Begin None) cause.TooManyTx ∷ []) (Ok reply.TooManyTx) (Some at_a) → ⊥
not_begun_by_a_refused_begin does = cc (does.2)

-- a read that was shown is an access more
abbrev accesses_had : Option Own → List Access
accesses_had None = []
accesses_had (Some t) = t.accesses

not_read_unnoted : Does small true (Some (record at_b { accesses = [] })) (op.Get 0 0 2) (entry.Fetch 2 0 block ∷ []) (Ok (reply.Shown (170 ∷ 187 ∷ []))) (Some (record at_b { accesses = [] })) → ⊥
unfolding step get_step
not_read_unnoted does = not_equal 0 1 (omega arith) (ap (λ (o : Option Own). length (accesses_had o)) (does.3))

-- an await looks for its own label, and takes what it finds there
not_awaited_elsewhere : Does small true None (op.Await b) (entry.Look a None ∷ entry.Look b (Some at_b) ∷ []) (Ok (reply.Began 1)) (Some at_b) → ⊥
not_awaited_elsewhere does = not_equal (slice_index a 0) (slice_index b 0) (omega arith) (ap (λ l. slice_index l 0) (does.1))

not_found_elsewhere : Does small true None (op.Await b) (entry.Look a (Some at_b) ∷ []) (Ok (reply.Began 1)) (Some at_b) → ⊥
not_found_elsewhere does = not_equal (slice_index a 0) (slice_index b 0) (omega arith) (ap (λ l. slice_index l 0) (does.1))

not_found_at_another_begin : Does small true None (op.Await b) (entry.Look b (Some at_b) ∷ []) (Ok (reply.Began 0)) (Some at_b) → ⊥
not_found_at_another_begin does = cc (does.2)

not_lost_by_an_await : Does small true None (op.Await b) (entry.Look b (Some at_b) ∷ []) (Ok (reply.Began 1)) None → ⊥
not_lost_by_an_await does = cc (does.3)

-- a stat tells the numbers of its entry
abbrev some_numbers : Numbers
some_numbers = record { last = 2; base = 1; trim = 1; live = 0; used = 29; versions = 1; down = false }

not_other_numbers : Does small true None op.Stat (entry.Stat some_numbers ∷ []) (Ok (reply.Numbers 3 1 1 0 29 1)) None → ⊥
not_other_numbers does = cc (does.0)

-- a sweep that found none is no sweep that found
not_found_none : FoundSome (entry.Sweep None) → ⊥
not_found_none found = found

-- What the list of a run is, in plain words: each entry before the sweeps is that of one of the clients, which are those of the lines;
-- and a client's entries are those of its lines, up to the one at which it stopped, with the abort at their end.
list_is_dealt : (A : Start) (l : List (ℕ × Line)) (parts : List Part) (E : List Entry) (t : Told A l parts E)
    → (E ≡ t.made ++ t.swept ++ entry.Sweep None ∷ []) × (length t.owners ≡ length t.made) × (map (λ p. p.client) parts ≡ clients_in l)
    × AllByRecursion (λ owner. list_any (λ p. p.client == owner) parts ≡ true) t.owners
list_is_dealt A l parts E t = (t.are, t.each, t.clients, t.owned)

entries_are_the_lines : (g : Geometry) (tells : Bool) (l : List (ℕ × Line)) (had : List (ℕ × Reply)) (why : Option Stop) (F : List Entry) (c : ClientLines g tells l had why F) → F ≡ c.made ++ last_abort c.own
entries_are_the_lines g tells l had why F c = c.all

stops_at_its_last : (g : Geometry) (tells : Bool) (l : List (ℕ × Line)) (had : List (ℕ × Reply)) (why : Stop) (F : List Entry) (own : Option Own) (s : StopsAtLast g tells l had why F own)
    → (l ≡ s.first ++ s.last ∷ []) × (F ≡ s.walked ++ s.entries)
stops_at_its_last g tells l had why F own s = (s.are, s.all)
