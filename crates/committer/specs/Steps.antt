-- What each step tells its side.
use Rattle.std.specs.Prelude.{◌≡◌, ◌≢◌, ℕ, [], ◌∷◌}
use Rattle.atomic_table.specs.Table.{Me, Step}
use Rattle.committer.specs.{declared.protocol.Message.Message, declared.protocol.Message.TheVariants.{Empty, Request, Response}, declared.protocol.Side.Side, declared.protocol.Side.TheVariants.{New, Opened, Resting, Waiting, Left, Idle, Serving}}

module _ {Q A : Type 0} (allows : Q → Type 0) (answers : Q → A → Type 0) where
  abbrev Sat : Type 0
  Sat = Me (Message Q A) (Side Q)

  -- the slot of a new desk was taken
  abbrev pub opened : Step (Message Q A) → Sat → ℕ → Sat → Type 0
  opened st m found m' = m ≡ (New, []) → m' ≡ (Opened, (0, Empty) ∷ [])

  -- the request was put, and is waited for
  abbrev pub requested : Step (Message Q A) → Sat → ℕ → Sat → Type 0
  requested st m found m' = (request : Q) → m ≡ (Resting, (0, Request request) ∷ []) → m' ≡ (Waiting request, [])

  -- a request was taken, where there was one
  abbrev pub accepted : Step (Message Q A) → Sat → ℕ → Sat → Type 0
  accepted st m found m' = m ≡ (Idle, []) → (found ≡ 1 → (request : Q) × allows request × (m' ≡ (Serving request, (0, Request request) ∷ []))) × (found ≢ 1 → m' ≡ m)

  -- the response was put
  abbrev pub responded : Step (Message Q A) → Sat → ℕ → Sat → Type 0
  responded st m found m' = (request : Q) (response : A) → m ≡ (Serving request, (0, Response response) ∷ []) → answers request response → m' ≡ (Idle, [])

  -- a response that answers the request was taken, where there was one
  abbrev pub received : Step (Message Q A) → Sat → ℕ → Sat → Type 0
  received st m found m' = (request : Q) → m ≡ (Waiting request, [])
      → (found ≡ 2 → (response : A) × answers request response × (m' ≡ (Resting, (0, Response response) ∷ []))) × (found ≢ 2 → m' ≡ m)

  -- the slot was given back
  abbrev pub left : Step (Message Q A) → Sat → ℕ → Sat → Type 0
  left st m found m' = m ≡ (Resting, (0, Empty) ∷ []) → m' ≡ (Left, [])
