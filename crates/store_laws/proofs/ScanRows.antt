-- One thread's calls of a tree store on a finite map, worked out.
use Rattle.store_laws.proofs.Words.{◌≡◌, ◌∙◌, refl, ap, true, false, List, [], ◌∷◌, ◌++◌, ℕ, take, nat_list_cmp_total, slice_cmp, entries, entries-insert, from_entries, insert, filter, nat_cmp, Area, Pairs, is_within, entries_are, Found, Put, StoreAnswer, WasPut, in_area, run, OnKey, Scan, TreeCall, tree_store}
use Rattle.std.specs.FinMap.{put}

-- four blocks from block 3 on
abbrev four_blocks : Area
four_blocks = record { size = 256; start = 3; blocks = 4 }

pub first_is_in : in_area four_blocks 3 ≡ true
first_is_in = refl

pub last_is_in : in_area four_blocks 6 ≡ true
last_is_in = refl

pub before_is_out : in_area four_blocks 2 ≡ false
before_is_out = refl

pub after_is_out : in_area four_blocks 7 ≡ false
after_is_out = refl

abbrev key : ℕ → List ℕ
key n = n ∷ []

abbrev pair : (n value : ℕ) → List ℕ × List ℕ
pair n value = (key n, value ∷ [])

abbrev three_pairs : List (List ℕ × List ℕ)
three_pairs = pair 3 30 ∷ pair 4 40 ∷ pair 5 50 ∷ []

abbrev three : Pairs
three = from_entries three_pairs

three_entries : entries three ≡ three_pairs
three_entries = entries_are three_pairs refl

abbrev answers : List TreeCall → List StoreAnswer
answers calls = (run (tree_store four_blocks) three calls).0

-- what a scan chooses of the pairs of a map
abbrev chosen : (from to : List ℕ) → (most : ℕ) → List (List ℕ × List ℕ) → List StoreAnswer
chosen from to most es = Found (take most (filter (λ p. is_within from to p.0) es)) ∷ []

-- it answers them in the order of their keys, without the end of its range, and no more than it is asked for
pub scan_is_in_order : answers (Scan (key 3) (key 9) 10 ∷ []) ≡ Found (pair 3 30 ∷ pair 4 40 ∷ pair 5 50 ∷ []) ∷ []
scan_is_in_order = ap (chosen (key 3) (key 9) 10) three_entries

pub scan_leaves_out_its_end : answers (Scan (key 3) (key 5) 10 ∷ []) ≡ Found (pair 3 30 ∷ pair 4 40 ∷ []) ∷ []
scan_leaves_out_its_end = ap (chosen (key 3) (key 5) 10) three_entries

pub scan_stops_at_most : answers (Scan (key 3) (key 9) 2 ∷ []) ≡ Found (pair 3 30 ∷ pair 4 40 ∷ []) ∷ []
scan_stops_at_most = ap (chosen (key 3) (key 9) 2) three_entries

-- a key is before those that go on after it
pub scan_goes_by_bytes : answers (Scan (3 ∷ 0 ∷ []) (4 ∷ 0 ∷ []) 10 ∷ []) ≡ Found (pair 4 40 ∷ []) ∷ []
scan_goes_by_bytes = ap (chosen (3 ∷ 0 ∷ []) (4 ∷ 0 ∷ []) 10) three_entries

pub scan_of_no_range : answers (Scan (key 5) (key 3) 10 ∷ []) ≡ Found [] ∷ []
scan_of_no_range = ap (chosen (key 5) (key 3) 10) three_entries

-- a scan shows what the calls before it left
abbrev two_puts : List TreeCall
two_puts = OnKey (Put (key 4) (44 ∷ [])) ∷ OnKey (Put (key 1) (10 ∷ [])) ∷ []

pub scan_after_puts : answers (two_puts ++ Scan (key 0) (key 5) 10 ∷ []) ≡ WasPut ∷ WasPut ∷ Found (pair 1 10 ∷ pair 3 30 ∷ pair 4 44 ∷ []) ∷ []
scan_after_puts =
    let order = slice_cmp nat_cmp in
    let once : entries (insert three (key 4) (44 ∷ [])) ≡ (pair 3 30 ∷ pair 4 44 ∷ pair 5 50 ∷ []) = entries-insert nat_list_cmp_total three (key 4) (44 ∷ []) ∙ ap (put order (key 4) (44 ∷ [])) three_entries in
    let twice : entries (insert (insert three (key 4) (44 ∷ [])) (key 1) (10 ∷ [])) ≡ (pair 1 10 ∷ pair 3 30 ∷ pair 4 44 ∷ pair 5 50 ∷ []) =
    entries-insert nat_list_cmp_total (insert three (key 4) (44 ∷ [])) (key 1) (10 ∷ []) ∙ ap (put order (key 1) (10 ∷ [])) once in
    ap (λ (es : List (List ℕ × List ℕ)). WasPut ∷ WasPut ∷ chosen (key 0) (key 5) 10 es) twice
