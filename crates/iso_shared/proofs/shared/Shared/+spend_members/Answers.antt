use Rattle.iso_shared.proofs.{Words.{view, rules, arith, sym, ap, ◌∙◌, length, length-append, subst, List, Entry, Tx, AllByRecursion, IsNote, ◌∷◌, []}, HandedBack.front_notes}
use Rattle.iso_shared.proofs.shared.Shared.+spend_members.Goals as goal

pub spend_note-requires-clause-tx : goal.spend_note-requires-clause-tx
spend_note-requires-clause-tx g t c =
    let seen = (view c.args.port.now.pass).seen in
    let notes = subst (λ (ts : List (Tx _ _)). AllByRecursion (IsNote c.args.self.now seen) ts) c.in-Some.ensures.items c.requires.group in
    (front_notes c.args.self.now seen c.pop.new.self.items c.in-Some.tx notes).1

pub spend_members-requires : goal.spend_members-requires
spend_members-requires g t c κs within =
    let s = c.args.self.now in
    let seen = (view c.args.port.now.pass).seen in
    let front = c.pop.new.self.items in
    let notes = front_notes s seen front c.in-Some.tx (subst (λ (ts : List (Tx _ _)). AllByRecursion (IsNote s seen) ts) c.in-Some.ensures.items c.requires.group) in
    let rest = subst (λ (seen : List Entry). AllByRecursion (IsNote s seen) front) (sym c.spend_note.ensures.seen) notes.0 in
    let fewer = ap (λ (ts : List (Tx _ _)). length ts) c.in-Some.ensures.items ∙ length-append front (c.in-Some.tx ∷ []) in
    (omega (arith, fewer, c.decreases), (search rules, (search rules, (search rules, rest))))

pub returns : goal.returns
returns g t c = record {
  port = c.spend_members.ensures.port;
  units = c.spend_members.ensures.units ∙ c.spend_note.ensures.units;
  seen = c.spend_members.ensures.seen ∙ c.spend_note.ensures.seen;
  places = λ p. c.spend_members.ensures.places p ∙ c.spend_note.ensures.places p;
}
