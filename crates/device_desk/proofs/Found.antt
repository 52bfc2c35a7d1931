-- What the size of a file is answered where the files are well formed.
use Rattle.iso_machine.proofs.{Words.{◌≡◌, ◌≢◌, ◌⊎◌, ◌∙◌, inl, inr, sym, refl, ap, subst, ℕ, ◌+◌, ◌-◌, ◌<◌, ◌≤◌, ◌==◌, ◌&&◌, Bool, true, false, cond, List, [], ◌∷◌, ◌++◌, length, take, drop, find, slice_index, Option, Some, None, option_map, Result, Ok, arith, nat_le, nat_tests, eq-eqb, ne_eqb, and_parts, same_Some, AllByRecursion, Access, Array, Serial, own, array_at, array_of, block_at, MAX_ACCESSES, Reply, World, Live, IsWorld, attached, in_store, in_transaction, is_at_client, is_outside, get_access, get_step, shown_to, step, store_act, with, with_access, with_accesses, same_number}, Accesses.get_is}
use Rattle.std.{proofs.lemmas.{Bool.{cases_Bool, cases_eq}, List.{drop-take, length-take-le, take-take}, List.FromFn.length-map-range_with_len}, specs.{FinMap.get, Int.{from_be_bytes, w32}}}
use Rattle.iso_fs.proofs.{Files.handed_is, Lookups.files_get}
use Rattle.iso_tree.proofs.Gets.{get_answers, get_reads}
use Rattle.script_model.{proofs.FilesPlace.{HasFiles, has_files}, specs.{FilesArea.{file_blocks, files_area}, Step.{found_reply, store_refusal, store_reply}}}
use Rattle.script_model.specs.declared.script.Op.TheVariants as op
use Rattle.script_model.specs.declared.script.Reply.TheVariants as reply
use Rattle.store_model.specs.{Cells.word_at, FileNodes.{bytes_of, is_number, most_bytes, number_of}, FileRegion.{AreFileRegions, file_at}, HashCalls.is_key, Stores.{Program, accesses_of, outcome}, TreeRegion.tree_map, declared.files.FileAreas.FileAreas, declared.stores.Area.Area, declared.stores.StoreError.StoreError}
use Rattle.store_model.specs.{FileNodes.is_file, FileRegion.files, TreeCalls.get_program}
use Rattle.tx_blocks.proofs.{Outcomes.outcome_whole, Programs.own_reads, Progress.own_append}
use Rattle.device_desk.specs.Sizes.{head_step, is_head, looked, looked_step, size_in, size_step}
use Rattle.device_desk.proofs.FileSizes.{asked, step_get, step_tree_get}

-- A TRANSACTION WITH OTHER ACCESSES IS WHERE IT WAS
abbrev at : ℕ → Live → Bool
at c t = is_at_client c t.place

found_passes : (c : ℕ) (live : List Live) (t : Live) → find (at c) live ≡ Some t → at c t ≡ true
found_passes c [] t is = cc
found_passes c (u ∷ live) t is = elim (cases_Bool (at c u)) [
  | inl pass ↦ (let e : u ≡ t = same_Some u t (sym (ap (λ (b : Bool). cond b (Some u) (find (at c) live)) pass) ∙ is) in subst (λ (v : Live). at c v ≡ true) e pass)
  | inr fail ↦ found_passes c live t (sym (ap (λ (b : Bool). cond b (Some u) (find (at c) live)) fail) ∙ is)
]

found_with : (c : ℕ) (t : Live) (accesses : List Access) (live : List Live) → at c t ≡ true → AllByRecursion (λ u. u.number ≡ t.number → u ≡ t) live → find (at c) live ≡ Some t
    → find (at c) (with (record t { accesses = accesses }) live) ≡ Some (record t { accesses = accesses })
found_with c t accesses [] here same is = cc
found_with c t accesses (u ∷ live) here same is =
    let new : Live = record t { accesses = accesses } in
    elim (cases_eq u.number t.number) [
      | inl owner ↦
          (let e : cond (u.number == t.number) new u ≡ new = ap (λ (b : Bool). cond b new u) (eq-eqb u.number t.number owner) in
          ap (λ (v : Live). cond (at c v) (Some v) (find (at c) (with new live))) e ∙ ap (λ (b : Bool). cond b (Some new) (find (at c) (with new live))) here)
      | inr other ↦
          (let e : cond (u.number == t.number) new u ≡ u = ap (λ (b : Bool). cond b new u) (ne_eqb u.number t.number other) in
          ap (λ (v : Live). cond (at c v) (Some v) (find (at c) (with new live))) e
          ∙ elim (cases_Bool (at c u)) [
            | inl pass ↦ (let same_one : u ≡ t = same_Some u t (sym (ap (λ (b : Bool). cond b (Some u) (find (at c) live)) pass) ∙ is) in absurd (other (ap (λ (v : Live). v.number) same_one)))
            | inr fail ↦
                ap (λ (b : Bool). cond b (Some u) (find (at c) (with new live))) fail
                ∙ found_with c t accesses live here same.1 (sym (ap (λ (b : Bool). cond b (Some u) (find (at c) live)) fail) ∙ is)
          ])
    ]

-- THE HEAD OF A FILE
first_of : (xs : List ℕ) → slice_index (take 8 xs) 0 ≡ slice_index xs 0
first_of [] = refl
first_of (x ∷ xs) = refl

pub record IsHeadOf (size : ℕ) (file : List ℕ) : Type 0 where
  pub head : is_head size (take 8 file) ≡ true
  pub four : length (drop 4 (take 8 file)) ≡ 4
  pub spells : from_be_bytes w32 (drop 4 (take 8 file)) ≡ bytes_of file

head_of : (a : Area) (file : List ℕ) → is_file a file ≡ true → length file ≡ a.size → 8 ≤ a.size → IsHeadOf a.size file
unfolding is_file
head_of a file good long some =
    let eight : length (take 8 file) ≡ 8 = length-take-le 8 file (omega (arith, long, some)) in
    let size : drop 4 (take 8 file) ≡ take 4 (drop 4 file) = drop-take 4 4 file in
    let four : length (drop 4 (take 8 file)) ≡ 4 = Rattle.std.proofs.lemmas.List.length-drop 4 (take 8 file) ∙ (let e = eight in omega (arith, e)) in
    let word : word_at 4 (take 8 file) ≡ bytes_of file = ap (λ (xs : List ℕ). from_be_bytes w32 (take 4 xs)) size ∙ ap (from_be_bytes w32) (take-take 4 4 (drop 4 file) (omega arith)) in
    let kind : (slice_index file 0 == 3) ≡ true = (and_parts _ _ (and_parts _ _ good).0).0 in
    let few : nat_le (bytes_of file) (most_bytes a.size) ≡ true = (and_parts _ _ (and_parts _ _ good).0).1 in
    record {
      head = (λ i. (eight i == 8) && ((first_of file i == 3) && nat_le (word i) (most_bytes a.size))) ∙ (λ i. kind i && few i);
      four = four;
      spells = ap (from_be_bytes w32) size;
    }

-- THE STEPS
in_store_is : (W : World) (t : Live) (blocks : ℕ) (result : Reply × World) → blocks ≢ 0 → t.mode ≡ Serial → in_store W t blocks result ≡ result
in_store_is W t blocks result some serial = let there : (blocks == 0) ≡ false = ne_eqb blocks 0 some in rw (there, serial) refl

no_file : {X : Type 0} (o : Option (List ℕ)) (f : List ℕ → X) → option_map f o ≡ None → o ≡ None
no_file None f is = refl
no_file (Some value) f is = absurd (cc is)

a_file : (o : Option (List ℕ)) (f : List ℕ → List ℕ) (file : List ℕ) → option_map f o ≡ Some file → (value : List ℕ) × (o ≡ Some value) × (f value ≡ file)
a_file None f file is = absurd (cc is)
a_file (Some value) f file is = (value, refl, same_Some (f value) file is)

module _ (W : World) (number : ℕ) (t : Live) (name : List ℕ) (is : IsWorld W) (here : attached W number ≡ Some t) (serial : t.mode ≡ Serial) (room : file_blocks W.geometry ≢ 0)
    (regions : AreFileRegions (files_area W.geometry) (array_of W t)) (key : is_key name ≡ true) where
  abbrev a : FileAreas
  a = files_area W.geometry

  abbrev A : Array
  A = array_of W t

  abbrev program : Program (Result (Option (List ℕ)) StoreError)
  program = get_program a.tree name

  abbrev made : List Access × Option (Result (Option (List ℕ)) StoreError)
  made = outcome (MAX_ACCESSES - length t.accesses) program A

  abbrev u : Live
  u = record t { accesses = t.accesses ++ made.0 }

  abbrev V : World
  V = with_accesses W t (t.accesses ++ made.0)

  has : HasFiles W.geometry
  has = has_files W.geometry is.valid room

  looks : step W number (op.TreeGet name) ≡ (store_reply store_refusal found_reply made.1, V)
  looks =
      sym (step_tree_get W number name) ∙ ap (λ (o : Option Live). in_transaction W o (λ t. store_act W t (op.TreeGet name))) here
      ∙ in_store_is W t W.geometry.tree (store_reply store_refusal found_reply made.1, V) has.tree serial

  -- the step after this answer
  size_is : (o : Option (Result (Option (List ℕ)) StoreError)) → made.1 ≡ o → size_step W number name ≡ looked_step number (looked (store_reply store_refusal found_reply o)) V
  size_is o answer =
      asked W number name here room ∙ ap (λ (x : Reply × World). looked_step number (looked x.0) x.1) looks
      ∙ ap (λ (p : Option (Result (Option (List ℕ)) StoreError)). looked_step number (looked (store_reply store_refusal found_reply p)) V) answer

  no_room : made.1 ≡ None → (size_step W number name).0 ≡ reply.TooManyAccesses
  no_room none = ap (λ (x : Reply × World). x.0) (size_is None none)

  answer_is : (r : Result (Option (List ℕ)) StoreError) → made.1 ≡ Some r → r ≡ Ok (get (tree_map a.tree A) name)
  answer_is r some = sym (outcome_whole (MAX_ACCESSES - length t.accesses) program A r some).answer_is ∙ get_answers a.tree A name regions.tree key

  pub missing : get (files a A) name ≡ None → ((size_step W number name).0 ≡ reply.Missing) ⊎ ((size_step W number name).0 ≡ reply.TooManyAccesses)
  missing none = go made.1 refl
    where
      go : (o : Option (Result (Option (List ℕ)) StoreError)) → made.1 ≡ o → ((size_step W number name).0 ≡ reply.Missing) ⊎ ((size_step W number name).0 ≡ reply.TooManyAccesses)
      go None e = inr (no_room e)
      go (Some r) e =
          let nothing : get (tree_map a.tree A) name ≡ None = no_file _ _ (sym (files_get a A name) ∙ none) in
          inl (ap (λ (x : Reply × World). x.0) (size_is (Some (Ok None)) (e ∙ ap Some (answer_is r e ∙ ap Ok nothing))))

  -- the look into the first block
  module _ (value : List ℕ) (named : get (tree_map a.tree A) name ≡ Some value) (whole : made.0 ≡ accesses_of program A) where
    abbrev block : ℕ
    block = a.files.start + number_of value

    abbrev head : List ℕ
    head = file_at a A (number_of value)

    abbrev answer : Reply
    answer = reply.Shown (take 8 (drop 0 (shown_to V u block)))

    good_number : is_number a.files value ≡ true
    good_number = regions.named name value named

    below : number_of value < a.files.blocks
    below = (handed_is a.files.blocks (number_of value) (and_parts _ _ good_number).1).below

    of_file : IsHeadOf W.geometry.block head
    of_file =
        head_of a.files head (regions.files name (number_of value) (ap (option_map number_of) named)) (regions.shape (number_of value) below)
        (let least = has.areas.tree.least_size in omega (arith, least))

    shown : take 8 (drop 0 (shown_to V u block)) ≡ take 8 head
    shown = ap (λ (B : Array). take 8 (block_at B block)) (own_append (array_at W.history t.begin) t.accesses made.0 ∙ ap (own A) whole ∙ own_reads A _ (get_reads a.tree name A))

    pub head_shown : ((head_step V number block).0 ≡ reply.Found (drop 4 (take 8 head))) ⊎ ((head_step V number block).0 ≡ reply.TooManyAccesses)
    head_shown = go (nat_le MAX_ACCESSES (length u.accesses)) refl
      where
        inside : nat_le W.geometry.blocks block ≡ false
        inside = let fits = has.behind in let less = below in grind (arith, nat_tests)

        right : is_outside W.geometry.block 0 8 ≡ false
        right = let least = has.areas.tree.least_size in grind (arith, nat_tests)

        got : (b : Bool) → nat_le MAX_ACCESSES (length u.accesses) ≡ b → step V number (op.Get block 0 8) ≡ cond b (reply.TooManyAccesses, V) (answer, with_access V u (get_access block 0 8))
        got b many =
            sym (step_get V number block 0 8)
            ∙ ap (λ (o : Option Live). in_transaction V o (λ t. get_step V t block 0 8)) (found_with number t (t.accesses ++ made.0) W.live (found_passes number W.live t here) (same_number (at number) W.live t is.distinct here) here)
            ∙ get_is V u block 0 8
            ∙ (λ i. cond {A = Reply × World} (inside i) (reply.BadBlock, V) (cond (right i) (reply.BadRange, V) (cond (many i) (reply.TooManyAccesses, V) (answer, with_access V u (get_access block 0 8)))))

        go : (b : Bool) → nat_le MAX_ACCESSES (length u.accesses) ≡ b → ((head_step V number block).0 ≡ reply.Found (drop 4 (take 8 head))) ⊎ ((head_step V number block).0 ≡ reply.TooManyAccesses)
        go true many = inr (ap (λ (x : Reply × World). size_in W.geometry.block block x.0) (got true many))
        go false many =
            inl (ap (λ (x : Reply × World). size_in W.geometry.block block x.0) (got false many) ∙ ap (λ (xs : List ℕ). size_in W.geometry.block block (reply.Shown xs)) shown
            ∙ ap (λ (b : Bool). cond b (reply.Found (drop 4 (take 8 head))) (reply.Broken block)) of_file.head)

  pub found : (file : List ℕ) → get (files a A) name ≡ Some file
      → ((bytes : List ℕ) × ((size_step W number name).0 ≡ reply.Found bytes) × (length bytes ≡ 4) × (from_be_bytes w32 bytes ≡ length file)) ⊎ ((size_step W number name).0 ≡ reply.TooManyAccesses)
  found file some = go made.1 refl
    where
      go : (o : Option (Result (Option (List ℕ)) StoreError)) → made.1 ≡ o
          → ((bytes : List ℕ) × ((size_step W number name).0 ≡ reply.Found bytes) × (length bytes ≡ 4) × (from_be_bytes w32 bytes ≡ length file)) ⊎ ((size_step W number name).0 ≡ reply.TooManyAccesses)
      go None e = inr (no_room e)
      go (Some r) e =
          let (value, named, content_is) = a_file _ _ file (sym (files_get a A name) ∙ some) in
          let whole = sym (outcome_whole (MAX_ACCESSES - length t.accesses) program A r e).accesses_are in
          let answer : size_step W number name ≡ head_step V number (a.files.start + number_of value) =
          size_is (Some (Ok (Some value))) (e ∙ ap Some (answer_is r e ∙ ap Ok named))
          ∙ ap (λ (b : Bool). cond {A = Reply × World} b (head_step V number (a.files.start + number_of value)) (reply.Broken a.tree.start, V)) (good_number value named whole) in
          let of = of_file value named whole in
          let size : bytes_of (file_at a A (number_of value)) ≡ length file = sym (length-map-range_with_len _ 0 (bytes_of (file_at a A (number_of value)))) ∙ ap length content_is in
          elim (head_shown value named whole) [
            | inl told ↦ inl (drop 4 (take 8 (file_at a A (number_of value))), ap (λ (x : Reply × World). x.0) answer ∙ told, of.four, of.spells ∙ size)
            | inr many ↦ inr (ap (λ (x : Reply × World). x.0) answer ∙ many)
          ]
