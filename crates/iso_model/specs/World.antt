-- An image with its live transactions, as a client of one thread sees it.
use Rattle.std.specs.Prelude.{◌≡◌, ℕ, ◌+◌, ◌-◌, Bool, false, ◌==◌, not, cond, List, [], ◌∷◌, Option, Some, min, bytes_eq, drop, slice_get, filter, map, find, sum_by}
use Rattle.iso_model.specs.{declared.access.Access.Access, declared.access.Commit.Commit, declared.access.Geometry.Geometry, declared.access.Mode.Mode, Array.zeros, Effect.{runs, record_length}, History.{History, last}}

-- where a live transaction is: attached to a client, under a label, or neither
pub data Place : Type 0 where
  client : ℕ → Place
  label : List ℕ → Place
  unattached : Place

-- a transaction that has begun and not ended
pub record Live : Type 0 where
  pub number : ℕ
  pub begin : ℕ
  pub mode : Mode
  pub accesses : List Access
  pub place : Place

pub record World : Type 0 where
  pub geometry : Geometry
  pub history : History
  pub live : List Live
  -- the number of the next transaction
  pub next : ℕ
  -- the number of the last commit that the base of the current half holds
  pub base : ℕ
  pub trim : ℕ
  pub generation : ℕ

-- the history of an image on which nothing was committed
abbrev pub empty_history : Geometry → History
empty_history g = record { first = 1; base = zeros g.block g.blocks; commits = [] }

-- the world of an image with this history that was just made or opened
abbrev pub fresh : Geometry → (generation : ℕ) → History → World
fresh g generation H = record { geometry = g; history = H; live = []; next = 1; base = H.first - 1; trim = H.first - 1; generation = generation }

-- the least of n and the begins
abbrev pub least_begin : ℕ → List Live → ℕ
least_begin n [] = n
least_begin n (t ∷ live) = least_begin (min n t.begin) live

-- the least live begin, or the last commit's number where no transaction is live
abbrev pub floor_of : ℕ → List Live → ℕ
floor_of n [] = n
floor_of n (t ∷ live) = least_begin t.begin live

abbrev pub floor : World → ℕ
floor W = floor_of (last W.history) W.live

-- one of the transactions began there
abbrev pub BeganAt : ℕ → List Live → Type 0
BeganAt n live = (i : ℕ) × (t : Live) × (slice_get live i ≡ Some t) × (t.begin ≡ n)

-- the commits above the base number, whose records the log of the current half holds
abbrev pub logged_commits : World → List Commit
logged_commits W = drop (W.base + 1 - W.history.first) W.history.commits

-- the bytes of the log that records take
abbrev pub used : World → ℕ
used W = sum_by (λ c. record_length (runs W.geometry c.accesses)) (logged_commits W)

abbrev pub is_at_client : ℕ → Place → Bool
is_at_client c (client d) = c == d
is_at_client c (label text) = false
is_at_client c unattached = false

-- the transaction that is attached to the client
abbrev pub attached : World → (c : ℕ) → Option Live
attached W c = find (λ t. is_at_client c t.place) W.live

abbrev pub is_under_label : List ℕ → Place → Bool
is_under_label text (client c) = false
is_under_label text (label other) = bytes_eq text other
is_under_label text unattached = false

-- the transaction under the label
abbrev pub held : World → List ℕ → Option Live
held W text = find (λ t. is_under_label text t.place) W.live

-- the live transactions without this one
abbrev pub without : ℕ → List Live → List Live
without number live = filter (λ t. not (t.number == number)) live

-- the live transactions with this one in the place of the one with its number
abbrev pub with : Live → List Live → List Live
with t live = map (λ u. cond (u.number == t.number) t u) live
