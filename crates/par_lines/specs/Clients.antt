-- What contracts see of a client, and what a line makes of it.
use Rattle.std.specs.Prelude.{◌≡◌, ℕ, ◌<◌, List, [], ◌∷◌, ◌++◌, Option, Some, Result, Ok, Err, IsTrue}
use Rattle.script_model.specs.{declared.script.Line.Line, declared.script.Reply.Reply, declared.stop.Stop.Stop}
use Rattle.iso_model.specs.Geometry.{is_valid}
use Rattle.iso_shared.specs.States.{Start}
use Rattle.par_runner.specs.{declared.job.Flow.Flow, declared.job.Flow.TheVariants.{Go, Halt}}
use Rattle.handle_pass.specs.Sessions.{device_of}
use Rattle.par_lines.specs.{declared.client.ParClient.ParClient, Answers.Answered}

-- A line that was answered has its reply after the others; one that was not leaves them, and says why the client stops.
abbrev pub Tells : Flow → (number : ℕ) → Result Reply Stop → (told : List (ℕ × Reply)) → (was : Option Stop) → (told' : List (ℕ × Reply)) → (now : Option Stop) → Type 0
Tells Go number (Ok r) told was told' now = (told' ≡ told ++ (number, r) ∷ []) × (now ≡ was)
Tells Go number (Err why) told was told' now = ⊥
Tells Halt number (Ok r) told was told' now = ⊥
Tells Halt number (Err why) told was told' now = (told' ≡ told) × (now ≡ Some why)

module _ {D O : Type 0} where
  -- it may make a step
  pub record IsClient (A : Start) (c : ParClient D O) : Type 0 where
    -- enough for a transaction of its own and for the port of a group
    pub units : 33 < c.session.units
    pub device : c.session.device ≡ device_of c.shared.now
    pub geometry : c.geometry ≡ A.world.geometry
    pub valid : IsTrue (is_valid A.world.geometry)

  -- one step of a client
  pub record Stepped (A : Start) (c : ParClient D O) (number : ℕ) (line : Line) (flow : Flow) (d : ParClient D O) : Type 0 where
    pub answer : Result Reply Stop
    pub made : Answered A c.session line.op answer d.session
    pub tells : Tells flow number answer c.told.items c.stop d.told.items d.stop
