-- What clauses say of a desk, of its client, and of who serves it.
use Rattle.std.specs.Prelude.{◌≡◌, [], ◌∷◌}
use Rattle.atomic_table.specs.{Seated.{TableId}, Table.{Me}, declared.shared.Seat.Seat}
use Rattle.committer.specs.{declared.desk.Client.Client, declared.desk.Desk.Desk, declared.desk.Job.Job, declared.protocol.Message.Message, declared.protocol.Message.TheVariants.{Empty}, declared.protocol.Side.Side, declared.protocol.Side.TheVariants.{Resting, Waiting, Idle, Serving}}

-- which desk it is
abbrev pub desk_id : {P Q A : Type 0} → Desk P Q A → TableId
desk_id d = d.table.shared.table_id

module _ {Q A : Type 0} where
  -- the server without a request, and with one, with the slot
  abbrev pub idle : Me (Message Q A) (Side Q)
  idle = (Idle, [])

  abbrev pub serving : Q → Me (Message Q A) (Side Q)
  serving request = (Serving request, (0, Empty) ∷ [])

  -- one seat, before and after a call
  abbrev pub IsSameSeat : Seat (Message Q A) (Side Q) → Seat (Message Q A) (Side Q) → Type 0
  IsSameSeat p q = (q.table_id ≡ p.table_id) × (q.id ≡ p.id)

module _ {P Q A : Type 0} where
  -- it is this desk's client
  abbrev pub IsClient : Desk P Q A → Client P Q A → Type 0
  IsClient d c = c.seat.table_id ≡ desk_id d

  -- the client has no request
  abbrev pub Rests : Client P Q A → Type 0
  Rests c = c.seat.me ≡ (Resting, (0, Empty) ∷ [])

  -- the client has put this request, and has taken no response to it
  abbrev pub HasRequest : Client P Q A → Q → Type 0
  HasRequest c request = c.seat.me ≡ (Waiting request, [])

  -- this request was taken at this desk, and has no response yet
  abbrev pub IsJob : Desk P Q A → Job P Q A → Q → Type 0
  IsJob d j request = (j.seat.table_id ≡ desk_id d) × (j.seat.me ≡ serving request)
