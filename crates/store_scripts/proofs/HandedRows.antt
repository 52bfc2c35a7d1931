-- Two clients whose calls of the tree store are told along one order: the one hands its transaction to the other.
use Rattle.store_scripts.{proofs.ThreadWords.{◌≡◌, refl, ℕ, true, false, List, [], ◌∷◌, ◌++◌, take, Option, Some, None, Geometry, Serial, Op, Reply, look_access, store_access, Own, Get, Got, Put, WasPut, OnKey, the_tree, nothing_told, no_notes, notes_after, Event, Made, entries_in, events_of, EachCommit, MemberEnd}, specs.Trace.Done}
use Rattle.script_model.specs.declared.script.Op.TheVariants as op
use Rattle.script_model.specs.declared.script.Reply.TheVariants as reply
use Rattle.iso_shared.specs.declared.entry.Entry.TheVariants as entry

abbrev stores : Geometry
stores = record { block = 256; blocks = 8; log = 4096; mode = Serial; hash = 0; tree = 3; form = 1 }

abbrev label : List ℕ
label = 97 ∷ []

abbrev key : List ℕ
key = 107 ∷ []

abbrev value : List ℕ
value = 118 ∷ []

abbrev begun : Own
begun = record { number = 1; begin = 0; mode = Serial; accesses = [] }

-- after the put, and after the look-up
abbrev put_in : Own
put_in = record begun { accesses = look_access 1 [] ∷ store_access 1 [] [] ∷ [] }

abbrev got_out : Own
got_out = record begun { accesses = look_access 1 [] ∷ store_access 1 [] [] ∷ look_access 1 [] ∷ [] }

-- and after a plain write of a block of the tree store
abbrev written : Own
written = record begun { accesses = look_access 1 [] ∷ store_access 1 [] [] ∷ look_access 1 [] ∷ store_access 1 [] [] ∷ [] }

abbrev line : (number client : ℕ) → Op → Reply → (before after : Option Own) → Event
line number client x r before after = Done client (record { line = (number, record { client = client; op = x }); reply = r; before = before; after = after })

-- the first client puts a pair and posts its transaction, which the second one looks up; it looks for the key
abbrev handed : List Event
handed =
    Made 1 (entry.Begin 1 0 Serial)
    ∷ line 1 1 (op.Begin None) (reply.Began 0) None (Some begun)
    ∷ Made 2 (entry.Look label None)
    ∷ line 2 1 (op.TreePut key value) reply.Done (Some begun) (Some put_in)
    ∷ Made 1 (entry.Post 1 label put_in.accesses)
    ∷ Made 2 (entry.Look label (Some put_in))
    ∷ line 3 1 (op.Release label) reply.Done (Some put_in) None
    ∷ line 4 2 (op.Await label) (reply.Began 0) None (Some put_in)
    ∷ line 5 2 (op.TreeGet key) (reply.Found value) (Some put_in) (Some got_out)
    ∷ []

-- what is told of the second client's transaction: the put of the first one, and its own look-up
calls_go_on : (notes_after the_tree stores (no_notes the_tree) handed).of 2
    ≡ record {
      hash = record { calls = []; answers = [] };
      second = record { calls = OnKey (Put key value) ∷ OnKey (Get key) ∷ []; answers = WasPut ∷ Got (Some value) ∷ [] };
      over = 3;
      kept = true;
    }
calls_go_on = refl

-- what was told of the first client's stays with it until its next line, and nothing is under the label any more
first_was_told : (notes_after the_tree stores (no_notes the_tree) handed).of 1 ≡ record (nothing_told the_tree) { second = record { calls = OnKey (Put key value) ∷ []; answers = WasPut ∷ [] }; over = 2 }
first_was_told = refl

none_posted : (notes_after the_tree stores (no_notes the_tree) handed).posted ≡ []
none_posted = refl

-- what its looks found is there until its line is answered, and not for the next one
found_first : (notes_after the_tree stores (no_notes the_tree) (take 6 handed)).found 2 ≡ record (nothing_told the_tree) { second = record { calls = OnKey (Put key value) ∷ []; answers = WasPut ∷ [] }; over = 2 } ∷ []
found_first = refl

spent_by_its_line : (notes_after the_tree stores (no_notes the_tree) handed).found 2 ≡ []
spent_by_its_line = refl

-- a plain write of a block of the tree store is one that does not keep to the stores
not_kept : ((notes_after the_tree stores (no_notes the_tree) (handed ++ line 6 2 (op.Put 1 0 []) reply.Done (Some got_out) (Some written) ∷ [])).of 2).kept ≡ false
not_kept = refl

-- each client's events, and the entries
its_entries : entries_in (events_of 2 handed) ≡ entry.Look label None ∷ entry.Look label (Some put_in) ∷ []
its_entries = refl

-- a group with a member more than its looks found is none of them
not_more_members : (m : MemberEnd) → EachCommit {T = ℕ} (λ k found. Unit {0}) (m ∷ []) [] → ⊥
not_more_members m each = each
