-- What the looks of a group line make through a port.
use Rattle.std.specs.{Prelude.{◌≡◌, ℕ, List, [], ◌∷◌, Option, length, map}, List.AllByRecursion}
use Rattle.turn_lock.specs.declared.view.View.{View}
use Rattle.iso_shared.specs.{declared.entry.Entry.Entry, declared.tx.Tx.Tx, Ports.tx_view}
use Rattle.iso_shared.specs.declared.entry.Entry.TheVariants as entry
use Rattle.handle_pass.specs.{Inside.own_of, Logs.MovesThrough, Sessions.SessionState}
use Rattle.par_script.specs.Lines.{Own}

-- a look for each label, in order, with what it found
abbrev pub looks_for : List (List ℕ) → List (Option Own) → List Entry
looks_for [] found = []
looks_for (label ∷ labels) [] = []
looks_for (label ∷ labels) (one ∷ found) = entry.Look label one ∷ looks_for labels found

module _ {D O : Type 0} where
  -- what the looks told of the transactions that they gave
  abbrev pub told_of : List (Option (Tx D O)) → List (Option Own)
  told_of found = map own_of found

  -- transactions that have made no entry of their own
  abbrev pub AreNew : List (Tx D O) → Type 0
  AreNew txs = AllByRecursion (λ t. (tx_view t).mine ≡ []) txs

  -- from the one view of a port to the other each label was looked for, in order, and no other entry was made
  pub record HaveLooked (v : View Entry) (labels : List (List ℕ)) (found : List (Option (Tx D O))) (w : View Entry) : Type 0 where
    pub count : length found ≡ length labels
    pub made : (s : SessionState) → MovesThrough s v w (looks_for labels (told_of found))
