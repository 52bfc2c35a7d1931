use Rattle.iso_core.proofs.{Words.{◌≡◌, ◌∙◌, refl, sym, ap, suc, ◌+◌, length, map, arith, subst, List, ◌∷◌, [], ◌++◌, append_assoc, take-append-drop, with_records, Commit, record_length, log_place, Written, written, IsIndexOf, PartSpan, HasRoom, Staged, MayTakeAll}, Staging.{enough, none_staged, room_first, room_rest, staged_parted, takes_first, takes_rest}}
use Rattle.std.proofs.lemmas.List.{append-nil}
use Rattle.iso_core.proofs.taking.+take_staged.Goals as goal

pub split_at-requires : goal.split_at-requires
split_at-requires t c =
    let m = c.requires in
    let p = staged_parted m.g m.x m.upto m.at m.commits c.args.number c.args.gate c.in-Some.record.now c.args.staged.now c.in-Some.rest.now c.args.parts.now c.args.index.now c.in-Some.ensures.cases.0 m.may in
    enough m.g m.x m.upto m.at p.first p.others c.args.number c.args.gate c.in-Some.record.now c.in-Some.rest.now c.args.parts.now c.args.index.now p.may

pub add_parts-requires-clause-may : goal.add_parts-requires-clause-may
add_parts-requires-clause-may t c =
    let m = c.requires in
    let p = staged_parted m.g m.x m.upto m.at m.commits c.args.number c.args.gate c.in-Some.record.now c.args.staged.now c.in-Some.rest.now c.args.parts.now c.args.index.now c.in-Some.ensures.cases.0 m.may in
    takes_first m.g m.x m.upto m.at p.first p.others c.args.number c.args.gate c.in-Some.record.now c.in-Some.rest.now c.args.parts.now c.args.index.now p.may c.split_at.result.0.now c.split_at.ensures.front

pub add_parts-requires-clause-room : goal.add_parts-requires-clause-room
add_parts-requires-clause-room t c =
    room_first c.split_at.result.0.now c.split_at.result.1.now c.args.index.now
    (subst (λ (l : List PartSpan). HasRoom l c.args.index.now) (sym (take-append-drop c.in-Some.record.now.count c.args.parts.now) ∙ sym (λ i. c.split_at.ensures.front i ++ c.split_at.ensures.back i)) c.requires.room)

pub overflow_add-gate : goal.overflow_add-gate
overflow_add-gate t c =
    let m = c.requires in
    let p = staged_parted m.g m.x m.upto m.at m.commits c.args.number c.args.gate c.in-Some.record.now c.args.staged.now c.in-Some.rest.now c.args.parts.now c.args.index.now c.in-Some.ensures.cases.0 m.may in
    let low = (takes_first m.g m.x m.upto m.at p.first p.others c.args.number c.args.gate c.in-Some.record.now c.in-Some.rest.now c.args.parts.now c.args.index.now p.may c.split_at.result.0.now c.split_at.ensures.front).place in
    omega (arith, low)

pub overflow_add-number : goal.overflow_add-number
overflow_add-number t c = grind (arith, staged_parted)

pub take_staged-requires : goal.take_staged-requires
take_staged-requires t c =
    let m = c.requires in
    let p = staged_parted m.g m.x m.upto m.at m.commits c.args.number c.args.gate c.in-Some.record.now c.args.staged.now c.in-Some.rest.now c.args.parts.now c.args.index.now c.in-Some.ensures.cases.0 m.may in
    let rest = takes_rest m.g m.x m.upto m.at p.first p.others c.args.number c.args.gate c.in-Some.record.now c.in-Some.rest.now c.args.parts.now c.args.index.now p.may c.split_at.result.0.now c.split_at.result.1.now c.add_parts.new.index c.split_at.ensures.front c.split_at.ensures.back c.add_parts.ensures in
    let shorter : length c.args.staged.now ≡ suc (length c.in-Some.rest.now) = ap (λ (l : List Staged). length l) c.in-Some.ensures.cases.0 in (
      omega (arith, shorter, c.decreases),
      record {
        g = m.g;
        x = with_records (written m.g p.first ∷ []) m.x;
        upto = m.upto;
        at = m.at + record_length (written m.g p.first).parts;
        commits = p.others;
        may = rest;
        room = room_rest c.split_at.result.0.now c.split_at.result.1.now c.args.number (c.args.gate + c.in-Some.record.now.at) c.args.index.now c.add_parts.new.index
            (subst (λ (l : List PartSpan). HasRoom l c.args.index.now) (sym (take-append-drop c.in-Some.record.now.count c.args.parts.now) ∙ sym (λ i. c.split_at.ensures.front i ++ c.split_at.ensures.back i)) c.requires.room)
            c.add_parts.ensures;
      },
    )

pub returns : goal.returns
returns t c m =
    let p = staged_parted m.g m.x m.upto m.at m.commits c.args.number c.args.gate c.in-Some.record.now c.args.staged.now c.in-Some.rest.now c.args.parts.now c.args.index.now c.in-Some.ensures.cases.0 m.may in
    let rest = takes_rest m.g m.x m.upto m.at p.first p.others c.args.number c.args.gate c.in-Some.record.now c.in-Some.rest.now c.args.parts.now c.args.index.now p.may c.split_at.result.0.now c.split_at.result.1.now c.add_parts.new.index c.split_at.ensures.front c.split_at.ensures.back c.add_parts.ensures in
    let told = c.take_staged.ensures (record {
      g = m.g;
      x = with_records (written m.g p.first ∷ []) m.x;
      upto = m.upto;
      at = m.at + record_length (written m.g p.first).parts;
      commits = p.others;
      may = rest;
      room = room_rest c.split_at.result.0.now c.split_at.result.1.now c.args.number (c.args.gate + c.in-Some.record.now.at) c.args.index.now c.add_parts.new.index
          (subst (λ (l : List PartSpan). HasRoom l c.args.index.now) (sym (take-append-drop c.in-Some.record.now.count c.args.parts.now) ∙ sym (λ i. c.split_at.ensures.front i ++ c.split_at.ensures.back i)) m.room)
          c.add_parts.ensures;
    }) in
    subst (λ (l : List Written). IsIndexOf m.g (m.x.base + 1) (log_place m.g m.x.at) m.upto l c.take_staged.new.index)
    (append_assoc m.x.told (written m.g p.first ∷ []) (map (written m.g) p.others) ∙ sym (ap (λ (l : List Commit). m.x.told ++ map (written m.g) l) p.are)) told

no_record : (staged : List Staged) → length staged ≡ 0 → staged ≡ []
no_record [] none = refl
no_record (s ∷ staged) none = absurd (omega (arith, none))

pub returns-in_default : goal.returns-in_default
returns-in_default t c m =
    let none = none_staged m.g m.x m.upto m.at m.commits c.args.number c.args.gate c.args.parts.now c.args.index.now (subst (λ (l : List Staged). MayTakeAll m.g m.x m.upto m.at m.commits c.args.number c.args.gate l c.args.parts.now c.args.index.now) (no_record c.args.staged.now c.in_default.ensures.cases) m.may) in
    subst (λ (l : List Written). IsIndexOf m.g (m.x.base + 1) (log_place m.g m.x.at) m.upto l c.args.index.now)
    (sym (ap (λ (l : List Commit). m.x.told ++ map (written m.g) l) none ∙ append-nil m.x.told)) m.may.is
