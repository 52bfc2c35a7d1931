-- What is laid over the block are the own writes.
use Rattle.tx_table.proofs.{Words.{◌≡◌, ◌∙◌, ℕ, ◌<◌, false, sym, ap, subst, arith, refl, [], length, both_ways, Read, is_write, AreBytes, IsRow, Access, access_of, Doing}, Entering.{applied, few_rows, room_for, shown_own}, Last.{appended, unmarked_row}}

pub returns-clause-shown : Rattle.tx_table.proofs.work.Work.read.Goals.returns-clause-shown
returns-clause-shown c A is =
    let rows = c.self.inside.rows.items in
    let size = c.self.inside.size in
    let set = applied size c.self.inside.applied rows c.as_slice.result.now c.self.inside.patches c.apply.new.patches c.as_slice.ensures.value c.self.invariant.1 c.self.invariant.5 c.self.invariant.6 c.apply.ensures.same c.apply.ensures.effects in
    shown_own A size c.self.inside.blocks c.args.block rows c.args.self.now.accesses c.apply.new.patches c.args.into.now c.lay.new.into set c.self.invariant.2 (ap (λ (d : Doing). d.accesses) c.self.view_is)
    (c.requires.bytes ∙ sym (ap (λ (d : Doing). d.size) c.self.view_is)) is c.lay.ensures

pub invariant_of-self : Rattle.tx_table.proofs.work.Work.read.Goals.invariant_of-self
invariant_of-self c =
    let rows = c.self.inside.rows.items in
    let size = c.self.inside.size in
    let blocks = c.self.inside.blocks in
    let row = c.unmarked.result in
    let held = c.apply.new.patches in
    let set = applied size c.self.inside.applied rows c.as_slice.result.now c.self.inside.patches c.apply.new.patches c.as_slice.ensures.value c.self.invariant.1 c.self.invariant.5 c.self.invariant.6 c.apply.ensures.same c.apply.ensures.effects in
    let room = room_for _ c.self.inside.ready c.args.block (ap (λ (d : Doing). d.ready) c.self.view_is ∙ c.requires.ready) c.self.invariant.9 in
    let few = few_rows rows c.args.self.now.accesses (ap (λ (d : Doing). d.accesses) c.self.view_is) c.requires.room in
    let a : Access = record { kind = Read; block = c.args.block; spans = []; bytes = c.new-bytes.result.items } in
    let access : access_of row ≡ a = c.unmarked.ensures.access in
    let no_write : is_write (access_of row) ≡ false = ap is_write access in
    let is_row : IsRow size row = unmarked_row size row a access c.unmarked.ensures.none refl (λ write. absurd (both_ways false refl write)) (λ read. c.new-bytes.ensures.items)
    (subst AreBytes (sym c.new-bytes.ensures.items) (λ i. omega arith)) in
    let block : row.block < blocks = subst (λ (n : ℕ). n < blocks) (sym (ap (λ (x : Access). x.block) access)) room.0 in
    let done : c.len-self-inside.result ≡ length rows = c.len-self-inside.ensures ∙ c.self.inside.rows.ok.0 in
    let all = appended size blocks c.len-self-inside.result c.self.inside.folded rows c.push_reserved.new.self.items row held.entries c.self.inside.reads c.self.inside.writes
    c.push_reserved.ensures.items done c.self.invariant.4 few c.self.invariant.2 is_row block set.effects set.have (λ write. absurd (both_ways (is_write (access_of row)) no_write write)) c.self.invariant.7 c.self.invariant.8 in
    (c.self.invariant.0, set.sized, all.0, all.1, all.2, all.3, all.4, all.5, all.6, tt, all.7, c.self.invariant.11)
