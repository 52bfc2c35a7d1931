use Rattle.committer.proofs.{Words.{ap, arith, inl, List, port_view, subst, sym, ArePaired, Entry, Tx, View, ◌++◌, ◌∙◌, ◌∷◌, ◌≡◌, []}, Lasts.{last_of, last_paired, same_seen, some_paired}}
use Rattle.std.proofs.Common.{length-append}
use Rattle.iso_model.specs.declared.core_error.CoreError.TheVariants as error
use Rattle.group_commit.{proofs.Grouping.{nothing_left}, specs.{declared.each.Ended.Ended, Each.IsEndedIn}}
use Rattle.committer.specs.{declared.outcomes.Outcomes.Outcomes, Outcomes.{IsHandedBack, IsRefusedIn, MayEnd}, Serving.{AreTold, due}}
use Rattle.committer.proofs.outcomes.last_outcome.Goals as goal

pub unreachable-requires : goal.unreachable-requires
unreachable-requires g c =
    let s = c.args.shared.now in
    let A = g.O.Origin.start in
    let told = rw c.in-Ended.is at c.requires.told.2 in
    some_paired (IsEndedIn s A) c.requires.told.0 c.requires.told.1 c.in-Ended.told.items (nothing_left c.in-Ended.told.items (sym c.in-Ended.told.ok.0 ∙ c.in_default.ensures.cases.0)) told

pub unreachable-requires-in_default-pop : goal.unreachable-requires-in_default-pop
unreachable-requires-in_default-pop g c =
    let s = c.args.shared.now in
    let A = g.O.Origin.start in
    let told = rw c.in-Refused.is at c.requires.told.2 in
    some_paired (λ t u. IsHandedBack s A t c.in-Refused.error u) c.requires.told.0 c.requires.told.1 c.in-Refused.back.items
    (nothing_left c.in-Refused.back.items (sym c.in-Refused.back.ok.0 ∙ c.in_default-pop.ensures.cases.0)) told

pub unreachable-requires-in_default-pop-2 : goal.unreachable-requires-in_default-pop-2
unreachable-requires-in_default-pop-2 g c =
    let s = c.args.shared.now in
    let A = g.O.Origin.start in
    let told = rw c.in-Live.is at c.requires.told.2 in
    some_paired (λ t u. (u ≡ t) × MayEnd s A t) c.requires.told.0 c.requires.told.1 c.in-Live.txs.items (nothing_left c.in-Live.txs.items (sym c.in-Live.txs.ok.0 ∙ c.in_default-pop-2.ensures.cases.0)) told

pub end_alone-requires-clause-tx : goal.end_alone-requires-clause-tx
end_alone-requires-clause-tx g c =
    let s = c.args.shared.now in
    let A = g.O.Origin.start in
    let told = rw c.in-Live.is at c.requires.told.2 in
    let r = last_paired (λ t u. (u ≡ t) × MayEnd s A t) c.requires.told.0 c.requires.told.1 c.pop-in-Live.new.self.items c.in-Some-pop-2.last
    (subst (λ (l : List (Tx _ _)). ArePaired (λ t u. (u ≡ t) × MayEnd s A t) (c.requires.told.0 ++ c.requires.told.1 ∷ []) l) c.in-Some-pop-2.ensures.items told) in
    subst (MayEnd s A) (sym r.0.0) r.0.1

pub returns-in-Some-clause-told : goal.returns-in-Some-clause-told
returns-in-Some-clause-told g c = λ txs t is.
    let s = c.args.shared.now in
    let A = g.O.Origin.start in
    let seen = (port_view c.args.port.now).seen in
    let told = subst (λ (o : Outcomes _ _). AreTold s A seen (txs ++ t ∷ []) o) c.in-Ended.is is in
    let r = last_paired (IsEndedIn s A) txs t c.pop.new.self.items c.in-Some.last (subst (λ (l : List (Ended _ _)). ArePaired (IsEndedIn s A) (txs ++ t ∷ []) l) c.in-Some.ensures.items told) in
    let owed = ap (λ (o : Outcomes _ _). due o (txs ++ t ∷ [])) c.in-Ended.is in
    (inl r.0, r.1, omega (arith, owed))

pub returns-in-Some-pop-clause-told : goal.returns-in-Some-pop-clause-told
returns-in-Some-pop-clause-told g c = λ txs t is.
    let s = c.args.shared.now in
    let A = g.O.Origin.start in
    let seen = (port_view c.args.port.now).seen in
    let told = subst (λ (o : Outcomes _ _). AreTold s A seen (txs ++ t ∷ []) o) c.in-Refused.is is in
    let r = last_paired (λ t u. IsHandedBack s A t c.in-Refused.error u) txs t c.pop-in-Refused.new.self.items c.in-Some-pop.last
    (subst (λ (l : List (Tx _ _)). ArePaired (λ t u. IsHandedBack s A t c.in-Refused.error u) (txs ++ t ∷ []) l) c.in-Some-pop.ensures.items told) in
    let owed = ap (λ (o : Outcomes _ _). due o (txs ++ t ∷ [])) c.in-Refused.is in
    (r.0, r.1, omega (arith, owed))

pub returns-in-Lost-clause-told : goal.returns-in-Lost-clause-told
returns-in-Lost-clause-told g c = λ txs t is.
    let s = c.args.shared.now in
    let A = g.O.Origin.start in
    let seen = (port_view c.args.port.now).seen in
    let told = subst (λ (o : Outcomes _ _). AreTold s A seen (txs ++ t ∷ []) o) c.in-Lost.is is in
    let r = last_of (λ t. IsRefusedIn s A t error.Disk seen) txs t told in
    let owed = ap (λ (o : Outcomes _ _). due o (txs ++ t ∷ [])) c.in-Lost.is in
    let some = c.requires.told.3 in
    let count = length-append txs (t ∷ []) in
    let kept = ap (λ (v : View Entry). v.units) c.port.ensures.from.1 in
    let given = ap (λ (v : View Entry). v.seen) c.port.ensures.new.1 in
    let left = ap (λ (v : View Entry). v.seen) c.port.ensures.from.1 in (
      record {
        port = record { port = c.port.ensures.new.0; unit = ap (λ (v : View Entry). v.units) c.port.ensures.new.1; bare = ap (λ (v : View Entry). v.mine) c.port.ensures.new.1 };
        refused = subst (λ (l : List Entry). IsRefusedIn s A t error.Disk l) (sym given) r.0;
      },
      same_seen s A seen (port_view c.port.new.from).seen left txs r.1,
      omega (arith, owed, some, count, kept, c.requires.port.2),
    )

pub returns-in-Some-pop-2-clause-told : goal.returns-in-Some-pop-2-clause-told
returns-in-Some-pop-2-clause-told g c = λ txs t is.
    let s = c.args.shared.now in
    let A = g.O.Origin.start in
    let seen = (port_view c.args.port.now).seen in
    let told = subst (λ (o : Outcomes _ _). AreTold s A seen (txs ++ t ∷ []) o) c.in-Live.is is in
    let r = last_paired (λ t u. (u ≡ t) × MayEnd s A t) txs t c.pop-in-Live.new.self.items c.in-Some-pop-2.last
    (subst (λ (l : List (Tx _ _)). ArePaired (λ t u. (u ≡ t) × MayEnd s A t) (txs ++ t ∷ []) l) c.in-Some-pop-2.ensures.items told) in
    let owed = ap (λ (o : Outcomes _ _). due o (txs ++ t ∷ [])) c.in-Live.is in
    (subst (λ (u : Tx _ _). Rattle.committer.specs.Outcomes.IsOutcome s A u c.end_alone.result) r.0.0 c.end_alone.ensures.outcome, r.1, omega (arith, owed, c.end_alone.ensures.units))
