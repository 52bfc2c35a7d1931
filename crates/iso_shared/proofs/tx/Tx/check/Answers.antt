use Rattle.iso_shared.proofs.{Words.{view, ◌≡◌, ◌<◌, ◌≤◌, ℕ, true, ap, arith, refl, subst, sym, ◌∙◌, up_to, dropped_after, AreTouched, Read, Write, clash, History, Doing, state_at}, Begins.{some_size, up_to_twice}, Ends.{ahead_same, on_same, own_same}}

settled_so : (old new : Doing) → new ≡ record old { settled = true } → new ≡ record old { settled = new.settled }
settled_so old new is = subst (λ (w : Doing). w ≡ record old { settled = w.settled }) (sym is) refl

pub returns-clause-tx : Rattle.iso_shared.proofs.tx.Tx.check.Goals.returns-clause-tx
returns-clause-tx g c =
    let A = g.O.Origin.start in
    let S = state_at A (view c.args.self.now.pass).seen in
    let H = S.world.history in
    let old = c.args.self.now.work in
    let work = c.settle.new.self in
    let n = c.args.self.now.number in
    let checked = c.args.self.now.checked in
    let recent = c.args.recent in
    let is = settled_so old work c.in_ok-settle.ensures.ok in
    let own = own_same S n old work is c.requires.tx.own in
    let ahead = ahead_same S old work checked is c.requires.tx.ahead in
    let from : recent.after ≡ checked.upto = c.requires.recent.from in
    let later : recent.after ≤ recent.upto = c.requires.recent.later in
    let begin : work.begin ≤ checked.upto = ahead.from in
    let valid : 0 < work.size = subst (λ (k : ℕ). 0 < k) c.block_size.ensures.size (some_size _ c.block_size.ensures.valid) in
    let G = up_to H recent.upto in
    record {
      held = c.requires.tx.held;
      on = on_same A.world.geometry old work is c.requires.tx.on;
      own = own;
      ahead = record {
        first = ahead.first;
        from = omega arith;
        to = c.requires.recent.to;
        clash_is = c.meeting-clash.ensures S.world.geometry G (sym own.on.size) (sym own.on.blocks) (λ reads writes read written. record {
          size = subst (λ (k : ℕ). 0 < k) own.on.size valid;
          well_formed = c.settle.ensures.within S.world.geometry (sym own.on.size) (sym own.on.blocks);
          order = ahead.from;
          reads = subst (λ (k : ℕ). AreTouched k S.world.geometry.blocks Read work.accesses reads) own.on.size (subst (λ (k : ℕ). AreTouched work.size k Read work.accesses reads) own.on.blocks read);
          writes = subst (λ (k : ℕ). AreTouched k S.world.geometry.blocks Write work.accesses writes) own.on.size (subst (λ (k : ℕ). AreTouched work.size k Write work.accesses writes) own.on.blocks written);
          ahead = ahead.clash_is ∙ ap (λ (K : History). clash S.world.geometry K work.mode work.begin work.accesses) (sym (up_to_twice H checked.upto recent.upto (omega arith)));
          later = dropped_after S.world.geometry G recent.after checked.upto recent.notes.notes (omega arith) c.requires.recent.notes;
        });
      };
    }
