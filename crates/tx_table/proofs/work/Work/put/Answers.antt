-- The row with the bytes is after the others, and its block has a patch.
use Rattle.tx_table.proofs.{Words.{◌∷◌, Span, IsSpan, span_at, ◌≡◌, ◌∙◌, ℕ, ◌+◌, ◌<◌, ◌≤◌, true, sym, ap, subst, arith, refl, [], length, both_ways, Access, Write, HasBytes, has_patch, access_of, Doing, IsRow}, Entering.{applied, few_rows, held_too, room_for}, Last.{appended, length_put, once_marked_row}}

pub invariant_of-self : Rattle.tx_table.proofs.work.Work.put.Goals.invariant_of-self
invariant_of-self c =
    let rows = c.self.inside.rows.items in
    let size = c.self.inside.size in
    let blocks = c.self.inside.blocks in
    let row = c.marked.result in
    let held = c.hold.new.self in
    let set = held_too size c.args.block rows c.apply.new.patches held (applied size c.self.inside.applied rows c.as_slice.result.now c.self.inside.patches c.apply.new.patches c.as_slice.ensures.value c.self.invariant.1 c.self.invariant.5 c.self.invariant.6 c.apply.ensures.same c.apply.ensures.effects) c.hold.ensures in
    let room = room_for _ c.self.inside.ready c.args.block (ap (λ (d : Doing). d.ready) c.self.view_is ∙ c.requires.ready) c.self.invariant.9 in
    let few = few_rows rows c.args.self.now.accesses (ap (λ (d : Doing). d.accesses) c.self.view_is) c.requires.room in
    let size_is : size ≡ c.args.self.now.size = ap (λ (d : Doing). d.size) c.self.view_is in
    let within : c.args.off + length c.args.bytes.now ≤ size = omega (arith, c.requires.fits, size_is) in
    let span : Span = span_at c.args.off (length c.args.bytes.now) in
    let is_span : IsSpan size span = record { some = c.requires.some; fits = within } in
    let a : Access = record { kind = Write; block = c.args.block; spans = span ∷ []; bytes = c.lay_zeros_round.new.kept.items } in
    let access : access_of row ≡ a = c.marked.ensures.access in
    let bytes : HasBytes size a = λ write. ap (length {A = ℕ}) c.lay_zeros_round.ensures.laid ∙ length_put size c.args.off c.args.bytes.now within in
    let is_row : IsRow size row = once_marked_row size row a span access c.marked.ensures.one refl is_span bytes (λ read. absurd (both_ways true read refl)) c.lay_zeros_round.ensures.values in
    let block_is : row.block ≡ c.args.block = ap (λ (x : Access). x.block) access in
    let block : row.block < blocks = subst (λ (n : ℕ). n < blocks) (sym block_is) room.0 in
    let done : c.len-self-inside.result ≡ length rows = c.len-self-inside.ensures ∙ c.self.inside.rows.ok.0 in
    let all = appended size blocks c.len-self-inside.result c.self.inside.folded rows c.push_reserved.new.self.items row held.entries c.self.inside.reads c.self.inside.writes
    c.push_reserved.ensures.items done c.self.invariant.4 few c.self.invariant.2 is_row block set.effects set.have (λ write. ap (λ (b : ℕ). has_patch b held.entries) block_is ∙ c.hold.ensures.held) c.self.invariant.7 c.self.invariant.8 in
    (c.self.invariant.0, set.sized, all.0, all.1, all.2, all.3, all.4, all.5, all.6, tt, all.7, rw c.replace-kept.ensures.after c.new.ensures.items)
