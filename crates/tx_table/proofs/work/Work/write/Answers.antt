-- The row with the bytes is after the others, and its block has a patch.
use Rattle.tx_table.proofs.{Words.{◌≡◌, ◌∙◌, ℕ, ◌+◌, ◌<◌, ◌≤◌, true, sym, ap, subst, arith, refl, [], length, is_ok, vec_capacity, vec_len, both_ways, Access, Write, AreBytes, HasBytes, has_patch, access_of, Doing, IsRow}, Entering.{applied, few_rows, held_too, room_for}, Last.{appended, unmarked_row}}

pub invariant_of-self : Rattle.tx_table.proofs.work.Work.write.Goals.invariant_of-self
invariant_of-self c =
    let rows = c.self.inside.rows.items in
    let size = c.self.inside.size in
    let blocks = c.self.inside.blocks in
    let row = c.unmarked.result in
    let held = c.hold.new.self in
    let set = held_too size c.args.block rows c.apply.new.patches held (applied size c.self.inside.applied rows c.as_slice.result.now c.self.inside.patches c.apply.new.patches c.as_slice.ensures.value c.self.invariant.1 c.self.invariant.5 c.self.invariant.6 c.apply.ensures.same c.apply.ensures.effects) c.hold.ensures in
    let room = room_for _ c.self.inside.ready c.args.block (ap (λ (d : Doing). d.ready) c.self.view_is ∙ c.requires.ready) c.self.invariant.9 in
    let few = few_rows rows c.args.self.now.accesses (ap (λ (d : Doing). d.accesses) c.self.view_is) c.requires.room in
    let none : c.replace-kept.result.items ≡ [] = rw c.replace-kept.ensures.value c.self.invariant.11 in
    let capacity : size ≤ vec_capacity c.replace-kept.result = rw c.replace-kept.ensures.value room.2 in
    let long : length c.args.bytes.now ≡ size = c.requires.bytes ∙ sym (ap (λ (d : Doing). d.size) c.self.view_is) in
    let empty : vec_len c.replace-kept.result ≡ 0 = c.replace-kept.result.ok.0 ∙ ap (length {A = ℕ}) none in
    let fits : vec_len c.replace-kept.result + length c.args.bytes.now ≤ vec_capacity c.replace-kept.result = omega (arith, capacity, long, empty) in
    let taken : is_ok c.extend_from_slice.result ≡ true = c.extend_from_slice.ensures.succeeds fits in
    let kept : c.extend_from_slice.new.self.items ≡ c.args.bytes.now = (let h = c.extend_from_slice.ensures.items in rw (taken, none) at h) in
    let a : Access = record { kind = Write; block = c.args.block; spans = []; bytes = c.extend_from_slice.new.self.items } in
    let access : access_of row ≡ a = c.unmarked.ensures.access in
    let bytes : HasBytes size a = λ write. ap (length {A = ℕ}) kept ∙ c.requires.bytes ∙ sym (ap (λ (d : Doing). d.size) c.self.view_is) in
    let values : AreBytes a.bytes = subst AreBytes (sym kept) (λ i. (c.type_inv.bytes i).fits) in
    let is_row : IsRow size row = unmarked_row size row a access c.unmarked.ensures.none refl bytes (λ read. absurd (both_ways true read refl)) values in
    let block_is : row.block ≡ c.args.block = ap (λ (x : Access). x.block) access in
    let block : row.block < blocks = subst (λ (n : ℕ). n < blocks) (sym block_is) room.0 in
    let done : c.len-self-inside.result ≡ length rows = c.len-self-inside.ensures ∙ c.self.inside.rows.ok.0 in
    let all = appended size blocks c.len-self-inside.result c.self.inside.folded rows c.push_reserved.new.self.items row held.entries c.self.inside.reads c.self.inside.writes
    c.push_reserved.ensures.items done c.self.invariant.4 few c.self.invariant.2 is_row block set.effects set.have (λ write. ap (λ (b : ℕ). has_patch b held.entries) block_is ∙ c.hold.ensures.held) c.self.invariant.7 c.self.invariant.8 in
    (c.self.invariant.0, set.sized, all.0, all.1, all.2, all.3, all.4, all.5, all.6, tt, all.7, rw c.replace-kept.ensures.after c.new.ensures.items)
