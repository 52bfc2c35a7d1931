-- The rule of a desk: the word is 1 from the request to the response, and the slot has the last message while no side has it.
use Rattle.std.specs.Prelude.{◌≡◌, ◌≢◌, ℕ, [], ◌∷◌}
use mathlib.Core.Option.{none, some}
use Rattle.atomic_table.specs.Table.{State}
use Rattle.committer.specs.{declared.protocol.Message.Message, declared.protocol.Message.TheVariants.{Empty, Request, Response}, declared.protocol.Side.Side, declared.protocol.Side.TheVariants.{New, Opened, Resting, Waiting, Left, Idle, Serving}}

module _ {Q A : Type 0} where
  -- before the sides are parted: the slot is at home, or was taken
  pub record IsNew (s : State (Message Q A) (Side Q)) : Type 0 where
    pub views_are : s.views ≡ New ∷ []
    pub homes_are : s.homes ≡ some Empty ∷ []
    pub words_are : s.words ≡ 0 ∷ []

  pub record IsOpened (s : State (Message Q A) (Side Q)) : Type 0 where
    pub views_are : s.views ≡ Opened ∷ []
    pub homes_are : s.homes ≡ none ∷ []
    pub word : ℕ
    pub words_are : s.words ≡ word ∷ []
    pub not_requested : word ≢ 1

  -- no request: the client has the slot
  pub record IsResting (s : State (Message Q A) (Side Q)) : Type 0 where
    pub views_are : s.views ≡ Resting ∷ Idle ∷ []
    pub homes_are : s.homes ≡ none ∷ []
    pub word : ℕ
    pub words_are : s.words ≡ word ∷ []
    pub not_requested : word ≢ 1

  -- a request that was not taken
  pub record IsRequested (allows : Q → Type 0) (s : State (Message Q A) (Side Q)) : Type 0 where
    pub request : Q
    pub allowed : allows request
    pub views_are : s.views ≡ Waiting request ∷ Idle ∷ []
    pub homes_are : s.homes ≡ some (Request request) ∷ []
    pub words_are : s.words ≡ 1 ∷ []

  -- a request that was taken: the server has the slot
  pub record IsServing (s : State (Message Q A) (Side Q)) : Type 0 where
    pub request : Q
    pub views_are : s.views ≡ Waiting request ∷ Serving request ∷ []
    pub homes_are : s.homes ≡ none ∷ []
    pub words_are : s.words ≡ 1 ∷ []

  -- a response that was not taken
  pub record IsResponded (answers : Q → A → Type 0) (s : State (Message Q A) (Side Q)) : Type 0 where
    pub request : Q
    pub response : A
    pub met : answers request response
    pub views_are : s.views ≡ Waiting request ∷ Idle ∷ []
    pub homes_are : s.homes ≡ some (Response response) ∷ []
    pub words_are : s.words ≡ 2 ∷ []

  -- the client has left, and the slot is at home
  pub record IsLeft (s : State (Message Q A) (Side Q)) : Type 0 where
    pub views_are : s.views ≡ Left ∷ Idle ∷ []
    pub homes_are : s.homes ≡ some Empty ∷ []
    pub words_are : s.words ≡ 0 ∷ []

pub data Rule {Q A : Type 0} (allows : Q → Type 0) (answers : Q → A → Type 0) (s : State (Message Q A) (Side Q)) : Type 0 where
  new : IsNew s → Rule allows answers s
  opened : IsOpened s → Rule allows answers s
  resting : IsResting s → Rule allows answers s
  requested : IsRequested allows s → Rule allows answers s
  serving : IsServing s → Rule allows answers s
  responded : IsResponded answers s → Rule allows answers s
  left : IsLeft s → Rule allows answers s
