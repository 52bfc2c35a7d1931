use Rattle.iso_format.proofs.{Words.{◌≡◌, ℕ, ◌+◌, ◌-◌, ◌++◌, [], length, take, drop, ap, ◌∙◌, arith, body_length, spell, Spelled, spelled, head}, Parts.{body_bound, count_bound}, Buffers.{finished, finished_is, parts_length, parts_count}}

pub overflow_cast-self-inside : Rattle.iso_format.proofs.record_buffer.RecordBuffer.finish.Goals.overflow_cast-self-inside
overflow_cast-self-inside c = grind (arith, count_bound, body_bound, parts_count)

pub overflow_cast-length : Rattle.iso_format.proofs.record_buffer.RecordBuffer.finish.Goals.overflow_cast-length
overflow_cast-length c =
    let parts = c.args.self.now.parts in
    let same = ap (λ (s : Spelled). body_length s.parts) c.self.view_is in
    omega (arith, same, c.len-end.ensures, body_bound parts c.requires.runs, parts_length c.self.inside.start c.self.inside.count c.self.inside.bytes.items c.self.invariant)

pub returns-clause-ok : Rattle.iso_format.proofs.record_buffer.RecordBuffer.finish.Goals.returns-clause-ok
returns-clause-ok c =
    let start = c.self.inside.start in
    let count = c.self.inside.count in
    let old = c.self.inside.bytes.items in
    let kind = c.args.kind in
    let number = c.args.number in
    let end : c.len-end.result ≡ length old = omega (arith, c.len-end.ensures, c.self.inside.bytes.ok.0) in
    let all = c.in_ok-extend_from_slice.ensures.items in
    let first = c.head-head.ensures ∙ ap (λ (n : ℕ). head 1 kind number count (n - start - 20)) end in
    let bytes : c.put_head.new.bytes.items ≡ finished start count kind number old =
    c.put_head.ensures ∙ (λ i. take start (all i) ++ first i ++ drop (start + 20) (all i)) in
    (λ i. spelled (end i) 0 (bytes i)) ∙ finished_is start count kind number old c.self.invariant
    ∙ ap (λ (s : Spelled). record { records = s.records ++ spell 1 kind number s.parts; parts = [] }) c.self.view_is
