-- A block that is read by the versions of a half's records is the block of the array after them.
use Rattle.version_read.proofs.{Words.{◌≡◌, ◌∙◌, sym, refl, ap, ℕ, zero, suc, ◌+◌, ◌-◌, ◌*◌, ◌<◌, ◌≤◌, ◌==◌, Bool, true, false, cond, nat_le, List, [], ◌∷◌, ◌++◌, length, take, drop, get_or, unwrap_or, arith, subst, length-drop, le-leb, lt-leb, get_or-take, get_or-drop, ext_get_or, take_all, length-map, length-take-le, filter-append, Commit, Geometry, Run, Array, byte_at, own, record_length, base_place, log_place, History, all_own, array_at, last, IsRecord, Written, blocks_of, commits_of, records, written, recorded, IsHistory, block_at, held_array, HasSize, own_size, Half, IsHeld, half_of, history_of, last_told, held_each, held_log, log_in_image, Version, IsIndexOf, placed, version_of, versions_of, ShowTheSame, byte_in, BlockVersions, shown_since, upto, versions_in, newest_kept, same_newest, since_same, IsOver}, Lying.all_first, Records.records_show, Stands.{StandsAt, first_stand, log_stands}}

-- the versions of a commit up to n, all of them
low_step : (n b k at : ℕ) (run : Run) (parts : List Run) → nat_le k n ≡ true → upto n (placed b k (at + (8 + length run.bytes)) parts) ≡ placed b k (at + (8 + length run.bytes)) parts → (same : Bool)
    → upto n (cond same (version_of k at run ∷ placed b k (at + (8 + length run.bytes)) parts) (placed b k (at + (8 + length run.bytes)) parts)) ≡ cond same (version_of k at run ∷ placed b k (at + (8 + length run.bytes)) parts) (placed b k (at + (8 + length run.bytes)) parts)
low_step n b k at run parts le rest true = grind arith
low_step n b k at run parts le rest false = rest

low_placed : (n b k at : ℕ) (parts : List Run) → nat_le k n ≡ true → upto n (placed b k at parts) ≡ placed b k at parts
low_placed n b k at [] le = refl
low_placed n b k at (run ∷ parts) le = low_step n b k at run parts le (low_placed n b k (at + (8 + length run.bytes)) parts le) (run.block == b)

-- and those above n, none of them
high_step : (n b k at : ℕ) (run : Run) (parts : List Run) → nat_le k n ≡ false → upto n (placed b k (at + (8 + length run.bytes)) parts) ≡ [] → (same : Bool)
    → upto n (cond same (version_of k at run ∷ placed b k (at + (8 + length run.bytes)) parts) (placed b k (at + (8 + length run.bytes)) parts)) ≡ []
high_step n b k at run parts gt rest true = grind arith
high_step n b k at run parts gt rest false = rest

high_placed : (n b k at : ℕ) (parts : List Run) → nat_le k n ≡ false → upto n (placed b k at parts) ≡ []
high_placed n b k at [] gt = refl
high_placed n b k at (run ∷ parts) gt = high_step n b k at run parts gt (high_placed n b k (at + (8 + length run.bytes)) parts gt) (run.block == b)

high_versions : (n b k at : ℕ) (told : List Written) → n < k → upto n (versions_of b k at told) ≡ []
high_versions n b k at [] lt = refl
high_versions n b k at (w ∷ told) lt =
    filter-append (λ v. nat_le v.number n) (placed b k (at + 20) w.parts) (versions_of b (k + 1) (at + record_length w.parts) told)
    ∙ (λ i. high_placed n b k (at + 20) w.parts (lt-leb k n lt) i ++ high_versions n b (k + 1) (at + record_length w.parts) told (omega (arith, lt)) i)

-- the versions up to n are those of the records up to n
upto_versions : (n b k at m : ℕ) (told : List Written) → m ≡ n + 1 - k → upto n (versions_of b k at told) ≡ versions_of b k at (take m told)
upto_versions n b k at zero told is = high_versions n b k at told (omega (arith, is))
upto_versions n b k at (suc m) [] is = refl
upto_versions n b k at (suc m) (w ∷ told) is =
    filter-append (λ v. nat_le v.number n) (placed b k (at + 20) w.parts) (versions_of b (k + 1) (at + record_length w.parts) told)
    ∙ (λ i. low_placed n b k (at + 20) w.parts (le-leb k n (omega (arith, is))) i ++ upto_versions n b (k + 1) (at + record_length w.parts) m told (omega (arith, is)) i)

take_commits : (g : Geometry) (k m : ℕ) (told : List Written) → take m (commits_of g k told) ≡ commits_of g k (take m told)
take_commits g k zero told = refl
take_commits g k (suc m) [] = refl
take_commits g k (suc m) (w ∷ told) = ap (λ (l : List Commit). record { begin = k - 1; mode = w.mode; accesses = recorded g w.parts } ∷ l) (take_commits g (k + 1) m told)

at_same : (bytes : List ℕ) (i j : ℕ) → i ≡ j → get_or bytes i 0 ≡ get_or bytes j 0
at_same bytes i j is = ap (λ (k : ℕ). get_or bytes k 0) is

-- a byte of the block b of the base
base_byte : (size n b p : ℕ) (bytes : List ℕ) → b < n → p < size → get_or (get_or (blocks_of size n bytes) b []) p 0 ≡ get_or bytes (b * size + p) 0
base_byte size zero b p bytes block inside = absurd (omega (arith, block))
base_byte size (suc n) zero p bytes block inside = get_or-take size bytes p 0 inside ∙ at_same bytes p (0 * size + p) (omega arith)
base_byte size (suc n) (suc b) p bytes block inside = base_byte size n b p (drop size bytes) (omega (arith, block)) inside ∙ get_or-drop size bytes (b * size + p) 0 ∙ at_same bytes (size + (b * size + p)) (suc b * size + p) (omega arith)

length-blocks : (size n : ℕ) (bytes : List ℕ) → length (blocks_of size n bytes) ≡ n
length-blocks size zero bytes = refl
length-blocks size (suc n) bytes = ap suc (length-blocks size n (drop size bytes))

length-block : (size n : ℕ) (bytes : List ℕ) (b : ℕ) → n * size ≤ length bytes → b < n → length (get_or (blocks_of size n bytes) b []) ≡ size
length-block size zero bytes b enough below = absurd (omega (arith, below))
length-block size (suc n) bytes zero enough below = length-take-le size bytes (omega (arith, enough))
length-block size (suc n) bytes (suc b) enough below = length-block size n (drop size bytes) b (omega (arith, enough, length-drop size bytes)) (omega (arith, below))

all_own_size : (g : Geometry) (A : Array) (commits : List Commit) → HasSize g A → HasSize g (all_own A commits)
all_own_size g A [] size = size
all_own_size g A (c ∷ commits) size = all_own_size g (own A c.accesses) commits (own_size g A c.accesses size)

module _ (g : Geometry) (x : Half) (image : List ℕ) (has : IsHeld g x image) where
  base_is : x.array ≡ blocks_of g.block g.blocks (drop (base_place g x.at) image)
  base_is = subst (λ (k : ℕ). x.array ≡ blocks_of g.block g.blocks (drop (base_place g k) image)) has.at_is has.image.base

  base_size : HasSize g x.array
  base_size =
      let room : g.blocks * g.block ≤ length (drop (base_place g x.at) image) = omega (arith, length-drop (base_place g x.at) image, log_in_image g x image has) in
      subst (HasSize g) (sym base_is) (record { blocks = length-blocks g.block g.blocks (drop (base_place g x.at) image); bytes = λ b below. length-block g.block g.blocks (drop (base_place g x.at) image) b room below })

  -- over the base bytes the versions of the first records show the array after them
  first_shown : (m b : ℕ) (versions : List Version) (block : List ℕ) → b < g.blocks → length block ≡ g.block
      → ((p : ℕ) → byte_in image versions p ≡ byte_in image (versions_of b (x.base + 1) (log_place g x.at) (take m x.told)) p)
      → IsOver image (base_place g x.at + b * g.block) versions block → block ≡ block_at (all_own x.array (take m (commits_of g (x.base + 1) x.told))) b
  first_shown m b versions block below long same over =
      let size : HasSize g (all_own x.array (commits_of g (x.base + 1) (take m x.told))) = all_own_size g x.array (commits_of g (x.base + 1) (take m x.told)) base_size in
      let stand : StandsAt image (log_place g x.at) (records g (x.base + 1) (take m x.told)) =
      first_stand g (x.base + 1) m (log_place g x.at) x.told image (log_stands (log_place g x.at) g.log g (x.base + 1) x.told image (held_log g x image has)) in
      ext_get_or 0 block (block_at (all_own x.array (commits_of g (x.base + 1) (take m x.told))) b) (long ∙ sym (size.bytes b below)) (λ p inside.
      let in_block : p < g.block = omega (arith, inside, long) in
      let under : byte_at x.array b p ≡ get_or image (base_place g x.at + b * g.block + p) 0 =
      ap (λ (A : Array). byte_at A b p) base_is ∙ base_byte g.block g.blocks b p (drop (base_place g x.at) image) below in_block ∙ get_or-drop (base_place g x.at) image (b * g.block + p) 0
      ∙ at_same image (base_place g x.at + (b * g.block + p)) (base_place g x.at + b * g.block + p) (omega arith) in
      over p inside
      ∙ (λ i. unwrap_or (same p i) (sym under i))
      ∙ sym (records_show image g x.array (x.base + 1) (log_place g x.at) (take m x.told) b p base_size (all_first (IsRecord g) m x.told (held_each g x image has)) below in_block stand))
      ∙ ap (λ (commits : List Commit). block_at (all_own x.array commits) b) (sym (take_commits g (x.base + 1) m x.told))

  module _ (t n b : ℕ) (index : List BlockVersions) (block : List ℕ) (is : IsIndexOf g (x.base + 1) (log_place g x.at) t x.told index) (below : b < g.blocks) (long : length block ≡ g.block) where
    -- with the versions up to a number
    pub fetched : t ≤ n → IsOver image (base_place g x.at + b * g.block) (upto n (versions_in index b)) block → block ≡ block_at (array_at (history_of g x) n) b
    fetched le over =
        first_shown (n + 1 - (x.base + 1)) b (upto n (versions_in index b)) block below long (λ p.
        ap (λ (l : List Version). byte_in image (upto n l) p) (is.each b below) ∙ since_same image t n p (versions_of b (x.base + 1) (log_place g x.at) x.told) le
        ∙ ap (λ (l : List Version). byte_in image l p) (upto_versions n b (x.base + 1) (log_place g x.at) (n + 1 - (x.base + 1)) x.told refl)) over

    -- with pieces of all of them
    pub newest : (pieces : List Version) → last_told x ≤ n → ShowTheSame pieces (versions_in index b) → IsOver image (base_place g x.at + b * g.block) pieces block → block ≡ block_at (array_at (history_of g x) n) b
    newest pieces late show over =
        let all : take (n + 1 - (x.base + 1)) x.told ≡ x.told = take_all (n + 1 - (x.base + 1)) x.told (omega (arith, late)) in
        first_shown (n + 1 - (x.base + 1)) b pieces block below long (λ p.
        show image p ∙ ap (λ (l : List Version). byte_in image l p) (is.each b below)
        ∙ same_newest (shown_since t (versions_of b (x.base + 1) (log_place g x.at) x.told)) (versions_of b (x.base + 1) (log_place g x.at) x.told) (λ q. newest_kept t q (versions_of b (x.base + 1) (log_place g x.at) x.told)) image p
        ∙ ap (λ (told : List Written). byte_in image (versions_of b (x.base + 1) (log_place g x.at) told) p) (sym all)) over

-- the array of a history whose later commits the half has
pub array_of : (g : Geometry) (at generation base n : ℕ) (H : History) → IsHistory g H → H.first ≤ base + 1 → base ≤ n → array_at (history_of g (half_of g at generation base H)) n ≡ array_at H n
array_of g at generation base n H is since le = held_array g base n H is since le

-- the last number of the half is the history's
pub last_of : (g : Geometry) (at generation base n : ℕ) (H : History) → IsHistory g H → H.first ≤ base + 1 → base ≤ n → last H ≤ n → last_told (half_of g at generation base H) ≤ n
last_of g at generation base n H is since le late =
    let count = length-map (drop (base + 1 - H.first) H.commits) (written g) in
    omega (arith, is.first, since, le, late, count, length-drop (base + 1 - H.first) H.commits)
