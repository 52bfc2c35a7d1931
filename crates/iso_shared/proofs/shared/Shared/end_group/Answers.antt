use Rattle.iso_shared.proofs.{Words.{view, ◌≡◌, ◌+◌, ◌≤◌, ◌<◌, ap, sym, refl, ◌∙◌, subst, arith, length, map, List, ℕ, AllByRecursion, AreDistinct, AreHeld, ArePaired, IsBack, MAX_GROUP, MadeAll, Tx, times, Entry, Made, answered, cause_of, members_in, numbers_in, tx_view, units_of}, Groupings.not_disk, HandedBack.{back_all, back_are, joined_all, made_joined, many_units, members_held, noted_numbers, noted_many, parts_many, same_numbers}, shared.Shared.end_group.Goals.After-join_members}
use Rattle.std.proofs.lemmas.List.{with_items_is}
use Rattle.iso_shared.specs.Ports.{IsTx}
use Rattle.iso_model.specs.declared.core_error.CoreError.{CoreError}
use Rattle.iso_model.specs.declared.core_error.CoreError.TheVariants as error
use Rattle.iso_shared.specs.declared.entry.Call.TheVariants as call
use Rattle.iso_shared.specs.declared.entry.Entry.TheVariants as entry
use Rattle.iso_shared.proofs.shared.Shared.end_group.Goals as goal

-- the members once their passes were joined into the port: as they were lent, they are those that were handed in
module _ (g : Rattle.iso_shared.proofs.shared.Shared.end_group.Given.Over) (c : After-join_members g) where
  are : c.as_mut_slice-members.result.now ≡ c.args.group.items
  are = c.as_mut_slice-members.ensures.value

  each : AllByRecursion (IsTx c.args.self.now g.O.Origin.start) c.as_mut_slice-members.result.now
  each = subst (λ (l : List (Tx _ _)). AllByRecursion (IsTx c.args.self.now g.O.Origin.start) l) (sym are) c.requires.group

  some : 0 < length c.as_mut_slice-members.result.now
  some = subst (λ (l : List (Tx _ _)). 0 < length l) (sym are) c.requires.some

  most : length c.as_mut_slice-members.result.now ≤ MAX_GROUP
  most = subst (λ (l : List (Tx _ _)). length l ≤ MAX_GROUP) (sym are) c.requires.most

  held : AreHeld (numbers_in c.as_mut_slice-members.result.now) (view c.join_members.new.port.pass).holds × AreDistinct (numbers_in c.as_mut_slice-members.result.now)
  held = members_held c.args.self.now g.O.Origin.start c.as_mut_slice-members.result.now (view c.args.port.now.pass).holds (view c.join_members.new.port.pass).holds each some c.join_members.ensures.holds c.join_members.ensures.alone

pub end_joined-requires : goal.end_joined-requires
end_joined-requires g c =
    let j = (goal.at.end_joined-requires g c).After-join_members in
    let ts = c.as_mut_slice-members.result.now in
    let s = c.args.self.now in
    let A = g.O.Origin.start in
    let holds = (view c.join_members.new.port.pass).holds in
    let noted = c.join_members.ensures.group in
    let many = noted_many s A _ ts c.join_members.new.group noted in record {
      port = c.join_members.ensures.port;
      each = joined_all s A _ ts c.join_members.new.group noted;
      some = omega (arith, many, some g j);
      most = omega (arith, many, most g j);
      held = subst (λ (ns : List ℕ). AreHeld ns holds × AreDistinct ns) (sym (noted_numbers s A _ ts c.join_members.new.group noted)) (held g j);
    }

pub returns-in-Ok-clause-ok : goal.returns-in-Ok-clause-ok
returns-in-Ok-clause-ok g c =
    let j = (goal.at.returns-in-Ok-clause-ok g c).After-join_members in
    let ts = c.as_mut_slice-members.result.now in
    let s = c.args.self.now in
    let A = g.O.Origin.start in
    let v = (view c.args.port.now.pass) in
    let m = (view c.join_members.new.port.pass) in
    let w = (view c.end_joined.new.port.pass) in
    let x = (view c.spend_members.new.port.pass) in
    let noted = c.join_members.ensures.group in
    let (many, made) = c.in-Ok.ensures.ok in (
      many ∙ noted_many s A _ ts _ noted ∙ ap (λ (l : List (Tx _ _)). length l) (are g j),
      c.spend_members.ensures.units ∙ c.end_joined.ensures.turn.units ∙ c.join_members.ensures.units ∙ ap (λ (l : List (Tx _ _)). v.units + units_of l) (are g j),
      subst (λ (l : List (Tx _ _)). MadeAll A v (map tx_view l) (entry.EndGroup (answered (members_in l) c.in-Ok.replies)) x) (are g j)
          (made_joined s A v m w x ts _ (λ ms. entry.EndGroup (answered ms c.in-Ok.replies)) c.join_members.ensures.seen noted c.join_members.ensures.places made c.spend_members.ensures.seen c.spend_members.ensures.places),
    )

pub returns-in-Disk-clause-gone : goal.returns-in-Disk-clause-gone
returns-in-Disk-clause-gone g c =
    let j = (goal.at.returns-in-Disk-clause-gone g c).After-join_members in
    let ts = c.as_mut_slice-members.result.now in
    let s = c.args.self.now in
    let A = g.O.Origin.start in
    let v = (view c.args.port.now.pass) in
    let m = (view c.join_members.new.port.pass) in
    let w = (view c.end_joined.new.port.pass) in
    let x = (view c.spend_members-in-Disk.new.port.pass) in
    let (before, now, made) = c.in-Err.ensures.err in
    let disk = subst (λ (e : CoreError). Made A m m (entry.Refused (call.EndGroup (members_in c.join_members.new.group)) (cause_of before now e)) w) c.in-Disk.is made in (
      refl,
      c.spend_members-in-Disk.ensures.units ∙ c.end_joined.ensures.turn.units ∙ c.join_members.ensures.units ∙ ap (λ (l : List (Tx _ _)). v.units + units_of l) (are g j),
      (
        before,
        now,
        subst (λ (l : List (Tx _ _)). MadeAll A v (map tx_view l) (entry.Refused (call.EndGroup (members_in l)) (cause_of before now error.Disk)) x) (are g j)
            (made_joined s A v m w x ts _ (λ ms. entry.Refused (call.EndGroup ms) (cause_of before now error.Disk)) c.join_members.ensures.seen c.join_members.ensures.group c.join_members.ensures.places disk
            c.spend_members-in-Disk.ensures.seen c.spend_members-in-Disk.ensures.places),
      ),
    )

pub split_members-requires : goal.split_members-requires
split_members-requires g c =
    let j = (goal.at.split_members-requires g c).After-join_members in
    let ts = c.as_mut_slice-members.result.now in
    let s = c.args.self.now in
    let A = g.O.Origin.start in
    let holds = (view c.join_members.new.port.pass).holds in
    let noted = c.join_members.ensures.group in
    let numbers = same_numbers s A _ _ (c.in-Err.ensures.back c.in_default.not-Disk) ∙ noted_numbers s A _ ts _ noted in
    let many = noted_many s A _ ts _ noted in
    let units = many_units s A ts (each g j) in record {
      port = c.end_joined.ensures.turn.port;
      units = omega (arith, many, units, c.end_joined.ensures.many, c.end_joined.ensures.turn.units, c.join_members.ensures.units, c.requires.port.2);
      held = subst (λ (hs : List ℕ). AreHeld (numbers_in c.end_joined.new.group) hs) (sym (c.in-Err.ensures.turn.holds c.in_default.not-Disk)) (subst (λ (ns : List ℕ). AreHeld ns holds) (sym numbers) (held g j).0);
      distinct = subst AreDistinct (sym numbers) (held g j).1;
      group = c.end_joined.ensures.notes;
    }

pub returns-in_default : goal.returns-in_default
returns-in_default g c =
    let j = (goal.at.returns-in_default g c).After-join_members in
    let ts = c.as_mut_slice-members.result.now in
    let s = c.args.self.now in
    let A = g.O.Origin.start in
    let v = (view c.args.port.now.pass) in
    let m = (view c.join_members.new.port.pass) in
    let w = (view c.end_joined.new.port.pass) in
    let x = (view c.split_members.new.port.pass) in
    let noted = c.join_members.ensures.group in
    let parts = c.split_members.ensures.group in
    let many = noted_many s A _ ts _ noted in
    let split = parts_many s A _ _ _ parts in
    let other = c.in_default.not-Disk in
    let back = back_all s A m.seen w.seen ts _ _ _ c.end_joined.ensures.turn.seen noted (c.in-Err.ensures.back other) parts in
    let last = sym (with_items_is c.args.group c.split_members.new.group (split ∙ c.end_joined.ensures.many ∙ many ∙ c.as_mut_slice-members.ensures.len)) in
    let pairs = subst (λ (l : List (Tx _ _)). ArePaired (IsBack s A x.seen) c.args.group.items l) last (subst (λ (l : List (Tx _ _)). ArePaired (IsBack s A x.seen) l c.split_members.new.group) (are g j)
    (subst (λ (l : List Entry). ArePaired (IsBack s A l) ts c.split_members.new.group) (sym c.split_members.ensures.seen) back)) in
    let again = back_are s A x.seen c.args.group.items _ pairs in
    let long = ap (λ (l : List (Tx _ _)). length l) (are g j) in
    let total = ap (λ (l : List (Tx _ _)). units_of l) (are g j) in
    let (before, now, made) = c.in-Err.ensures.err in record {
      port = c.split_members.ensures.port;
      ok = tt;
      gone = tt;
      kept = (
        not_disk _ other c.in-Err.ensures.turn.only,
        omega (arith, many, long, total, c.end_joined.ensures.many, c.end_joined.ensures.turn.units, c.join_members.ensures.units, c.split_members.ensures.units),
        pairs,
        (
          before,
          now,
          subst (λ (l : List (Tx _ _)). MadeAll A v (map tx_view l) (entry.Refused (call.EndGroup (members_in l)) (cause_of before now c.in-Err.error)) x) (are g j)
              (made_joined s A v m w x ts _ (λ ms. entry.Refused (call.EndGroup ms) (cause_of before now c.in-Err.error)) c.join_members.ensures.seen noted c.join_members.ensures.places made
              c.split_members.ensures.seen (λ p. ap (times p) c.split_members.ensures.mine)),
        ),
      );
      again = (again.0, again.1, ap (λ (l : List (Tx _ _)). length l) (sym last) ∙ split ∙ c.end_joined.ensures.many ∙ many ∙ long);
    }
