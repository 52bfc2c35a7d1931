use Rattle.half_switch.proofs.{Words.{◌≡◌, ℕ, ◌+◌, ◌-◌, List, length, records, subst, take, sym, ◌∙◌, ap, arith, Written, limits, all_laid, laid}, Lays.length-laid, Nexts.{at_next, all_laid-push, length-more, same_parts, window_inside}}
use Rattle.half_switch.proofs.lay.lay_records.Goals as goal

pub returns-in_default : goal.returns-in_default
returns-in_default c = record {
  within = c.loop-i.invariant.inside;
  long = c.loop-i.invariant.long;
  shows = λ told each enough small bytes.
      let (into, at) = c.loop-i.invariant.laid told each enough small bytes in
      let n = at_next c.args.geometry.now (c.args.number + 1) c.loop-i.i c.loop-i.at told c.args.log.now c.split_at.result.1.now c.requires.valid each (omega (arith, enough, c.loop-i-test.true)) (omega (arith, small, c.loop-i-test.true)) bytes at c.split_at.ensures.back in
      let found = c.read_record.ensures.only n.next.read c.requires.valid n.next.begins in
      absurd (cc (c.in_default.is, found));
}

pub returns : goal.returns
returns c = record {
  within = c.loop-i.invariant.inside;
  long = c.loop-i.invariant.long;
  shows = λ told each enough small bytes.
      let done : c.loop-i.i ≡ c.args.count = omega (arith, c.loop-i-test.false) in
      subst (λ (k : ℕ). (c.loop-i.into ≡ all_laid c.args.geometry.now.block (take k told) c.args.into.now) × (c.loop-i.at ≡ length (records c.args.geometry.now (c.args.number + 1) (take k told)))) done
      (c.loop-i.invariant.laid told each enough small bytes);
}

pub lay_parts-requires : goal.lay_parts-requires
lay_parts-requires c = (limits c.args.geometry.now c.requires.valid).largest_block

pub record_window-requires : goal.record_window-requires
record_window-requires c = (window_inside c.args.geometry.now (c.args.number + 1 + c.loop-i.i) c.in-Ok.record c.split_at.result.1.now c.requires.valid c.in-Ok.ensures.spelled).head

pub overflow_add-at : goal.overflow_add-at
overflow_add-at c = grind (arith, window_inside)

pub loop-i-preserved : goal.loop-i-preserved
loop-i-preserved c =
    let inside = window_inside c.args.geometry.now (c.args.number + 1 + c.loop-i.i) c.in-Ok.record c.split_at.result.1.now c.requires.valid c.in-Ok.ensures.spelled in
    record {
      inside = omega (arith, c.loop-i.invariant.inside, inside.window, c.record_window.ensures, c.split_at.ensures.back_len);
      long = ap length c.lay_parts.ensures ∙ length-laid c.args.geometry.now.block c.parts.result c.loop-i.into ∙ c.loop-i.invariant.long;
      laid = λ told each enough small bytes.
          let (into, at) = c.loop-i.invariant.laid told each enough small bytes in
          let n = at_next c.args.geometry.now (c.args.number + 1) c.loop-i.i c.loop-i.at told c.args.log.now c.split_at.result.1.now c.requires.valid each (omega (arith, enough, c.loop-i-test.true)) (omega (arith, small, c.loop-i-test.true)) bytes at c.split_at.ensures.back in
          let found = c.read_record.ensures.only n.next.read c.requires.valid n.next.begins in
          let parts : c.parts.result ≡ n.here.w.parts = c.parts.ensures ∙ same_parts c.read_record.result c.in-Ok.record n.next.read c.in-Ok.is found ∙ n.next.parts_are in (
            c.lay_parts.ensures ∙ (λ i. laid c.args.geometry.now.block (parts i) (into i)) ∙ sym (all_laid-push c.args.geometry.now.block (take c.loop-i.i told) n.here.w c.args.into.now)
                ∙ ap (λ (l : List Written). all_laid c.args.geometry.now.block l c.args.into.now) (sym n.here.front),
            length-more c.args.geometry.now (c.args.number + 1) c.loop-i.i c.loop-i.at (c.record_window.result - 1) told n.here at (omega (arith, c.record_window.ensures, n.next.size)),
          );
    }
