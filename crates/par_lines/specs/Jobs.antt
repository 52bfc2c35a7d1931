-- What the clients of a run were told, as their threads have returned.
use Rattle.std.specs.{Prelude.{◌≡◌, ◌⊎◌, ℕ, ◌+◌, List, [], ◌∷◌, ◌++◌, None, length}, List.AllByRecursion}
use Rattle.script_model.specs.declared.script.Line.{Line}
use Rattle.iso_shared.specs.{declared.entry.Entry.Entry, declared.shared.Shared.Shared, States.Start}
use Rattle.turn_lock.specs.{declared.view.View.View, Lists.places}
use Rattle.par_runner.specs.declared.job.Job.{Job}
use Rattle.par_script.specs.{Lines.{ClientLines, Ran}, Told.{FoundSome, lines_of, lines_run}, declared.part.Part.Part}
use Rattle.handle_pass.specs.{Logs.Log, Sessions.{count, device_of}}
use Rattle.par_lines.specs.{declared.client.ParClient.ParClient, Clients.IsClient}

module _ {D O : Type 0} where
  -- a job of a client that was told nothing yet
  pub record IsNew (A : Start) (l : Shared D O) (lines : List (ℕ × Line)) (j : Job (ParClient D O)) : Type 0 where
    pub device : j.client.session.device ≡ device_of l
    pub client : IsClient A j.client
    pub none : j.client.session.own ≡ None
    pub unmade : (p : ℕ) → count j.client.session p ≡ 0
    pub told : j.client.told.items ≡ []
    pub stop : j.client.stop ≡ None
    pub asked : j.lines.items ≡ lines_of j.id lines

  -- what its client was told
  abbrev pub part_of : Job (ParClient D O) → Part
  part_of j = record { client = j.id; told = j.client.told.items; stop = j.client.stop }

  -- a job whose lines were run
  pub record Finished (A : Start) (l : Shared D O) (lines : List (ℕ × Line)) (j : Job (ParClient D O)) : Type 0 where
    pub device : j.client.session.device ≡ device_of l
    pub client : IsClient A j.client
    pub made : List Entry
    pub log : Log (count j.client.session) j.client.session.seen made
    pub ran : Ran A.world.geometry A.tells (lines_run lines (part_of j)) j.client.told.items j.client.stop made j.client.session.own

  abbrev pub units_in : Job (ParClient D O) → ℕ
  units_in j = j.client.session.units

-- each client was told its replies by the entries at its places; together they have the places that are counted
abbrev pub AllTold : Start → (lines : List (ℕ × Line)) → List Entry → List Part → (ℕ → ℕ) → Type 0
AllTold A lines E [] count = (p : ℕ) → count p ≡ 0
AllTold A lines E (q ∷ parts) count =
    (one : ℕ → ℕ) × (others : ℕ → ℕ) × ((p : ℕ) → count p ≡ one p + others p)
    × ((F : List Entry) × Log one E F × ClientLines A.world.geometry A.tells (lines_run lines q) q.told q.stop F) × AllTold A lines E parts others

-- a port has swept: its places were all places, once it has
pub record Swept (v w : View Entry) : Type 0 where
  pub entries : List Entry
  pub found : AllByRecursion FoundSome entries
  pub seen : w.seen ≡ v.seen ++ entries
  pub all : (w ≡ v) ⊎ (v.mine ≡ places (length v.seen))
