-- All rows are applied, and as many of them are in what is touched as the count says.
use Rattle.tx_table.proofs.{Words.{length-map, take_all, ◌≡◌, ◌∙◌, ◌≤◌, sym, subst, arith, inl, inr, List, map, take, length, AreTouched, Access, Read, Write, Row, AreEffects, HavePatches, access_of}, Last.{have_kept, if_some, rows_within}}

pub returns-then-self-len-clause-within : Rattle.tx_table.proofs.work.Work.settle.Goals.returns-then-self-len-clause-within
returns-then-self-len-clause-within c = rows_within c.self.inside.size c.self.inside.blocks c.self.inside.rows.items c.self.invariant.2

pub returns-clause-within : Rattle.tx_table.proofs.work.Work.settle.Goals.returns-clause-within
returns-clause-within c = rows_within c.self.inside.size c.self.inside.blocks c.self.inside.rows.items c.self.invariant.2

pub invariant_of-self-2 : Rattle.tx_table.proofs.work.Work.settle.Goals.invariant_of-self-2
invariant_of-self-2 c =
    let rows = c.self.inside.rows.items in
    let size = c.self.inside.size in
    let blocks = c.self.inside.blocks in
    let old = c.self.inside.patches in
    let new = c.apply.new.patches in
    let folded = c.fold-self-inside.result in
    let seen : c.as_slice.result.now ≡ rows = c.as_slice.ensures.value in
    let seen' : c.as_slice-2.result.now ≡ rows = c.as_slice-2.ensures.value in
    let same : old.size ≡ size = c.self.invariant.1 in
    let effects : AreEffects size (map access_of rows) new.entries = (let h = c.apply.ensures.effects in rw (seen, same) at h) c.self.invariant.5 in
    let have : HavePatches (map access_of rows) new.entries = have_kept (map access_of rows) old.entries new.entries (λ b h. c.apply.ensures.same.kept b ∙ h) c.self.invariant.6 in
    let done : c.len-self-inside.result ≡ length rows = c.len-self-inside.ensures ∙ c.self.inside.rows.ok.0 in
    let within : folded ≤ length rows = subst (λ (l : List Row). folded ≤ length l) seen' c.fold-self-inside.ensures.within in
    let whole : take c.len-self-inside.result (map access_of rows) ≡ map access_of rows = take_all c.len-self-inside.result (map access_of rows) (omega (arith, done, length-map rows access_of)) in
    let reads : AreTouched size blocks Read (take folded (map access_of rows)) c.fold-self-inside.new.reads = (let h = c.fold-self-inside.ensures.reads in rw seen' at h) c.self.invariant.7 in
    let writes : AreTouched size blocks Write (take folded (map access_of rows)) c.fold-self-inside.new.writes = (let h = c.fold-self-inside.ensures.writes in rw seen' at h) c.self.invariant.8 in (
      c.self.invariant.0,
      c.apply.ensures.same.size ∙ same,
      c.self.invariant.2,
      omega (arith, done),
      within,
      subst (λ (l : List Access). AreEffects size l new.entries) (sym whole) effects,
      have,
      reads,
      writes,
      if_some c.self.inside.ready (λ b room. (
        room.0,
        room.1,
        room.2,
        elim room.3 [ inl there ↦ inl (c.apply.ensures.same.kept b ∙ there) | inr spare ↦ inr (c.apply.ensures.same.spare ∙ spare) ],
      )) c.self.invariant.9,
      c.self.invariant.10,
      c.self.invariant.11,
    )
