-- Worked examples: the call that an operation makes of a store, and the answer that its reply tells.
use Rattle.store_scripts.proofs.Words.{Geometry, Live, Serial, Snapshot, World, label, inl, inr, EndsAs, IsEndedAs, Answered, CallsStore, OfHash, OfSecond, answered, PutKey, GetKey, Del, Got, WasFound, WasPut, WasThere, KeyCall, OnKey, Scan, TreeCall, StoreAnswer, FileAnswer, FileCall, FileMade, FileThere, MakeFile, ReadFile, RemoveFile, RenameFile, WasRead, WriteFile, the_files, second_store}
use Rattle.std.specs.Prelude.{◌≡◌, ℕ, true, false, List, [], ◌∷◌, Option, Some, None, refl}
use Rattle.iso_model.specs.declared.access.GroupReply.TheVariants as member
use Rattle.script_model.specs.declared.script.Op.TheVariants as op
use Rattle.script_model.specs.declared.script.Reply.TheVariants as reply
use Rattle.store_scripts.specs.{Answers.file_answered, Stores.image_files}

abbrev key : List ℕ
key = 107 ∷ []

abbrev value : List ℕ
value = 118 ∷ []

abbrev of_hash : {Call Answer : Type 0} → KeyCall → StoreAnswer → Option (Answered Call Answer)
of_hash call answer = Some (OfHash call answer)

abbrev of_tree : TreeCall → StoreAnswer → Option (Answered TreeCall StoreAnswer)
of_tree call answer = Some (OfSecond call answer)

abbrev of_files : FileCall → FileAnswer → Option (Answered FileCall FileAnswer)
of_files call answer = Some (OfSecond call answer)

-- of the hash store, beside the tree store and beside the files
hash_calls : (answered (op.HashPut key value) reply.Done ≡ of_hash (PutKey key value) WasPut) × (answered (op.HashGet key) (reply.Found value) ≡ of_hash (GetKey key) (Got (Some value)))
    × (answered (op.HashGet key) reply.Missing ≡ of_hash (GetKey key) (Got None)) × (answered (op.HashDelete key) reply.Done ≡ of_hash (Del key) (WasThere true))
    × (answered (op.HashDelete key) reply.Missing ≡ of_hash (Del key) (WasThere false))
hash_calls = (refl, refl, refl, refl, refl)

hash_calls_beside_files : (file_answered (op.HashPut key value) reply.Done ≡ of_hash (PutKey key value) WasPut) × (file_answered (op.HashGet key) (reply.Found value) ≡ of_hash (GetKey key) (Got (Some value)))
    × (file_answered (op.HashGet key) reply.Missing ≡ of_hash (GetKey key) (Got None)) × (file_answered (op.HashDelete key) reply.Done ≡ of_hash (Del key) (WasThere true))
    × (file_answered (op.HashDelete key) reply.Missing ≡ of_hash (Del key) (WasThere false))
hash_calls_beside_files = (refl, refl, refl, refl, refl)

-- of the tree store: a scan that finds no key answers no pair
tree_calls : (answered (op.TreePut key value) reply.Done ≡ of_tree (OnKey (PutKey key value)) WasPut) × (answered (op.TreeGet key) (reply.Found value) ≡ of_tree (OnKey (GetKey key)) (Got (Some value)))
    × (answered (op.TreeGet key) reply.Missing ≡ of_tree (OnKey (GetKey key)) (Got None)) × (answered (op.TreeDelete key) reply.Done ≡ of_tree (OnKey (Del key)) (WasThere true))
    × (answered (op.TreeDelete key) reply.Missing ≡ of_tree (OnKey (Del key)) (WasThere false))
    × (answered (op.TreeScan [] key 3) (reply.Pairs ((value, key) ∷ [])) ≡ of_tree (Scan [] key 3) (WasFound ((value, key) ∷ [])))
    × (answered (op.TreeScan [] key 3) reply.Missing ≡ of_tree (Scan [] key 3) (WasFound []))
tree_calls = (refl, refl, refl, refl, refl, refl, refl)

-- on files
file_calls : (file_answered (op.FileNew key) reply.Done ≡ of_files (MakeFile key) FileMade) × (file_answered (op.FileWrite key 3 value) reply.Done ≡ of_files (WriteFile key 3 value) (FileThere true))
    × (file_answered (op.FileWrite key 3 value) reply.Missing ≡ of_files (WriteFile key 3 value) (FileThere false)) × (file_answered (op.FileRead key 3 5) (reply.Found value) ≡ of_files (ReadFile key 3 5) (WasRead (Some value)))
    × (file_answered (op.FileRead key 3 5) reply.Missing ≡ of_files (ReadFile key 3 5) (WasRead None)) × (file_answered (op.FileMove key value) reply.Done ≡ of_files (RenameFile key value) (FileThere true))
    × (file_answered (op.FileMove key value) reply.Missing ≡ of_files (RenameFile key value) (FileThere false)) × (file_answered (op.FileDelete key) reply.Done ≡ of_files (RemoveFile key) (FileThere true))
    × (file_answered (op.FileDelete key) reply.Missing ≡ of_files (RemoveFile key) (FileThere false))
file_calls = (refl, refl, refl, refl, refl, refl, refl, refl, refl)

-- A call that was refused tells of none, and one store's call is none of the other's.
none_where_refused : (answered (op.HashPut key value) reply.BadValue ≡ None) × (answered (op.HashGet key) reply.NoStore ≡ None) × (answered (op.TreeDelete key) reply.StoreMode ≡ None)
    × (answered (op.TreeScan [] key 3) reply.NoStore ≡ None) × (file_answered (op.FileNew key) reply.Exists ≡ None) × (file_answered (op.FileRead key 3 5) reply.BadRange ≡ None)
    × (file_answered (op.FileWrite key 3 value) reply.TooManyAccesses ≡ None)
none_where_refused = (refl, refl, refl, refl, refl, refl, refl)

none_of_the_other : (answered (op.FileNew key) reply.Done ≡ None) × (file_answered (op.TreePut key value) reply.Done ≡ None) × (answered op.End reply.Done ≡ None) × (file_answered op.Abort reply.Done ≡ None)
none_of_the_other = (refl, refl, refl, refl)

-- the operations of which a refused call writes nothing
each_calls_a_store : CallsStore (op.HashPut key value) × CallsStore (op.HashGet key) × CallsStore (op.HashDelete key) × CallsStore (op.TreePut key value) × CallsStore (op.TreeGet key) × CallsStore (op.TreeDelete key)
    × CallsStore (op.TreeScan [] key 3)
each_calls_a_store = (tt, tt, tt, tt, tt, tt, tt)

-- ---- how a group ends a transaction: as the commit that its label is answered

abbrev held : Live
held = record { number = 4; begin = 0; mode = Serial; accesses = []; place = label key }

ends_at_its_label : EndsAs (None ∷ Some held ∷ []) (None ∷ Some (member.Committed 7) ∷ []) held 7
ends_at_its_label = inr (inl (refl, refl))

not_as_another_commit : EndsAs (Some held ∷ []) (Some (member.Committed 7) ∷ []) held 8 → ⊥
not_as_another_commit (inl both) = cc (both.1)
not_as_another_commit (inr never) = never

not_where_another_ends : EndsAs (None ∷ Some held ∷ []) (Some (member.Committed 7) ∷ None ∷ []) held 7 → ⊥
not_where_another_ends (inl both) = cc (both.0)
not_where_another_ends (inr (inl both)) = cc (both.1)
not_where_another_ends (inr (inr never)) = never

not_by_an_end : (W : World) → IsEndedAs W op.End held 7 → ⊥
not_by_an_end W never = never

-- ---- the blocks of the files: those of the tree store, which has their names, and those after it

abbrev with_files : Geometry
with_files = record { block = 256; blocks = 8; log = 4096; mode = Serial; hash = 1; tree = 3; form = 1 }

its_blocks : ((image_files with_files).has_block 0 ≡ false) × ((image_files with_files).has_block 1 ≡ true) × ((image_files with_files).has_block 3 ≡ true) × ((image_files with_files).has_block 4 ≡ true)
    × ((image_files with_files).has_block 7 ≡ true) × ((image_files with_files).has_block 8 ≡ false)
its_blocks = (refl, refl, refl, refl, refl, refl)

-- an image without files has none, also where it has a tree store
no_blocks : ((image_files (record with_files { tree = 0 })).has_block 2 ≡ false) × ((image_files (record with_files { tree = 6 })).has_block 2 ≡ false)
no_blocks = (refl, refl)

-- the form of the image says nothing of them
in_either_form : ((second_store the_files (record with_files { form = 2 })).has_block 4 ≡ true) × ((second_store the_files (record with_files { form = 2; mode = Snapshot })).has_block 0 ≡ false)
in_either_form = (refl, refl)
