use Rattle.iso_shared.{proofs.Words.{view, CoreError, EndReply, Err, IfErr, Made, MadeBoth, Result, View, ap, longer, refl, sym, times, ℕ, ◌+◌, ◌≡◌, ◌≢◌, ◌∙◌, rules, subst, Doing, Entry, TookFew, end_entry, OfDisk}, specs.Ports.IsTx, proofs.Mades.{both_on, joined_seen, made_on, units_by}, proofs.shared.Shared.end.Goals.After-end_in_turn}
use Rattle.iso_shared.specs.Turns.{moments}
use Rattle.std.proofs.lemmas.List.{append-nil}
use Rattle.std.specs.Prelude.{[]}
use mathlib.Core.List.{IsPrefix}
use Rattle.iso_shared.proofs.shared.Shared.end.Goals as goal

-- what there is once the turn of the end is over
module _ (g : Rattle.iso_shared.proofs.shared.Shared.end.Given.Over) (c : After-end_in_turn g) where
  abbrev t : View Entry
  t = (view c.tell_tx.new.tx.pass)

  abbrev w : View Entry
  w = (view c.end_in_turn.new.tx.pass)

  -- its entry, told of the transaction that was handed in
  made : (r : Result EndReply CoreError) → c.end_in_turn.result ≡ r → Made g.O.Origin.start t t (end_entry c.end_in_turn.ensures.made.0 c.end_in_turn.ensures.made.1 c.args.tx.number c.args.tx.work.accesses r) w
  made r is =
      let m = c.end_in_turn.ensures.made in
      let same = c.tell_tx.ensures.same in
      subst (λ (e : Entry). Made g.O.Origin.start t t e w) (λ i. end_entry m.0 m.1 (same.0.number i) ((same.1 i).accesses) (is i)) m.2

  -- a port into which the pass is then joined
  module _ (x : View Entry) (joined : x.seen ≡ longer (view c.tell_tx.new.port.pass).seen w.seen) where
    both : (e : Entry) → Made g.O.Origin.start t t e w → ((p : ℕ) → times p x.mine ≡ times p (view c.tell_tx.new.port.pass).mine + times p w.mine) → MadeBoth g.O.Origin.start (view c.args.port.now.pass) (view c.args.tx.pass) e x
    both e is places =
        both_on g.O.Origin.start (view c.args.port.now.pass) (view c.tell_tx.new.port.pass) (view c.args.tx.pass) t w x e
        c.tell_tx.ensures.port.1 c.tell_tx.ensures.told c.tell_tx.ensures.begins c.tell_tx.ensures.same.2.0 is joined places

    few : TookFew g.O.Origin.start x.seen c.args.tx.checked.upto c.args.steps.now c.end_in_turn.new.steps
    few =
        let seen = joined_seen g.O.Origin.start (view c.args.port.now.pass) (view c.tell_tx.new.port.pass) t w x _ c.tell_tx.ensures.port.1 c.tell_tx.ensures.told c.end_in_turn.ensures.made.2 joined in
        subst (λ l. TookFew g.O.Origin.start l c.args.tx.checked.upto c.args.steps.now c.end_in_turn.new.steps) (sym seen)
        (subst (λ k. TookFew g.O.Origin.start w.seen k.upto c.args.steps.now c.end_in_turn.new.steps) c.tell_tx.ensures.same.0.checked c.end_in_turn.ensures.steps)

  units : (x : View Entry) → x.units ≡ (view c.tell_tx.new.port.pass).units + w.units → x.units ≡ (view c.args.port.now.pass).units + (view c.args.tx.pass).units
  units x spent = units_by (view c.tell_tx.new.port.pass) (view c.args.port.now.pass) (view c.args.tx.pass) w x c.tell_tx.ensures.port.1 (c.end_in_turn.ensures.units ∙ c.tell_tx.ensures.same.2.2) spent

pub returns-in-Ok-clause-ok : goal.returns-in-Ok-clause-ok
returns-in-Ok-clause-ok g c =
    let s = (goal.at.returns-in-Ok-clause-ok g c).After-end_in_turn in
    let x = (view c.spend.new.port.pass) in
    (both g s x c.spend.ensures.seen _ (made g s _ c.in-Ok.is) c.spend.ensures.places, units g s x c.spend.ensures.units)

pub returns-in-Ok-clause-past : goal.returns-in-Ok-clause-past
returns-in-Ok-clause-past g c = subst (λ l. IsPrefix l (moments c.spend.new.port.pass)) c.tell_tx.ensures.past c.spend.ensures.past

pub returns-in-Ok-clause-steps : goal.returns-in-Ok-clause-steps
returns-in-Ok-clause-steps g c = few g (goal.at.returns-in-Ok-clause-steps g c).After-end_in_turn (view c.spend.new.port.pass) c.spend.ensures.seen

pub returns-in-Disk-clause-gone : goal.returns-in-Disk-clause-gone
returns-in-Disk-clause-gone g c =
    let s = (goal.at.returns-in-Disk-clause-gone g c).After-end_in_turn in
    let x = (view c.spend-in-Disk.new.port.pass) in
    let m = c.end_in_turn.ensures.made in
    (refl, units g s x c.spend-in-Disk.ensures.units, (m.0, m.1, both g s x c.spend-in-Disk.ensures.seen _ (made g s _ (c.in-Err.is ∙ ap Err c.in-Disk.is)) c.spend-in-Disk.ensures.places))

pub returns-in-Disk-clause-past : goal.returns-in-Disk-clause-past
returns-in-Disk-clause-past g c = subst (λ l. IsPrefix l (moments c.spend-in-Disk.new.port.pass)) c.tell_tx.ensures.past c.spend-in-Disk.ensures.past

pub returns-in-Disk-clause-steps : goal.returns-in-Disk-clause-steps
returns-in-Disk-clause-steps g c = few g (goal.at.returns-in-Disk-clause-steps g c).After-end_in_turn (view c.spend-in-Disk.new.port.pass) c.spend-in-Disk.ensures.seen

pub returns-in_default : goal.returns-in_default
returns-in_default g c =
    let A = g.O.Origin.start in
    let s = (goal.at.returns-in_default g c).After-end_in_turn in
    let same = c.tell_tx.ensures.same in
    let turn = c.end_in_turn.ensures.same in
    let last = c.end_in_turn.new.tx in
    let is_tx = subst (λ r. IfErr r (λ e. e ≢ OfDisk → IsTx c.args.self.now A last)) c.in-Err.is c.end_in_turn.ensures.tx in
    record {
      port = search rules;
      ok = tt;
      gone = tt;
      kept = (
        c.in_default.not-Disk,
        is_tx c.in_default.not-Disk,
        record {
          number = turn.number ∙ same.0.number;
          work = turn.work ∙ ap (λ (v : Doing). record v { settled = last.work.settled }) same.1;
          checked = turn.checked ∙ same.0.checked;
        },
        c.end_in_turn.ensures.units ∙ same.2.2,
        c.tell_tx.ensures.port.1,
        (
          c.end_in_turn.ensures.made.0,
          c.end_in_turn.ensures.made.1,
          made_on A (view c.args.port.now.pass) (view c.args.tx.pass) (t g s) (w g s) _ c.tell_tx.ensures.told c.tell_tx.ensures.begins same.2.0 (made g s _ c.in-Err.is),
        ),
      );
      past = subst (λ l. IsPrefix l (moments c.tell_tx.new.port.pass)) c.tell_tx.ensures.past ([], append-nil (moments c.tell_tx.new.port.pass));
      steps = subst (λ k. TookFew A (w g s).seen k.upto c.args.steps.now c.end_in_turn.new.steps) same.0.checked c.end_in_turn.ensures.steps;
    }
