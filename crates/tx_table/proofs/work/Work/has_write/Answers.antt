-- A row that is a write, or one more that is none.
use Rattle.tx_table.proofs.{Words.{◌≡◌, ◌∙◌, ◌+◌, ◌<◌, List, ap, sym, subst, length, get_or, map, take, Access, Kind, Write, has_write, is_write, same_kind, Row, access_of, Doing}, Covered.{no_write_more, write_there}, work.Work.has_write.Goals.After-row-item}

-- the row of the turn
inside : (c : After-row-item) → c.loop-row.row-index < length c.self.inside.rows.items
inside c = subst (λ (l : List Row). c.loop-row.row-index < length l) c.deref-row-items.ensures.value c.loop-row-test.true

kind : (c : After-row-item) → is_write (access_of (get_or c.self.inside.rows.items c.loop-row.row-index c.row-item.result)) ≡ same_kind Write c.row-item.result.kind
kind c = ap (λ (r : Row). same_kind Write r.kind) (sym (subst (λ (l : List Row). c.row-item.result ≡ get_or l c.loop-row.row-index c.row-item.result) c.deref-row-items.ensures.value c.row-item.is))

pub returns-in-Write : Rattle.tx_table.proofs.work.Work.has_write.Goals.returns-in-Write
returns-in-Write c =
    let s = (Rattle.tx_table.proofs.work.Work.has_write.Goals.at.returns-in-Write c).After-row-item in
    sym (sym (ap (λ (d : Doing). has_write d.accesses) c.self.view_is)
    ∙ write_there c.loop-row.row-index c.self.inside.rows.items c.row-item.result (inside s) (kind s ∙ ap (λ (k : Kind). same_kind Write k) c.in-Write.is))

pub loop-row-preserved : Rattle.tx_table.proofs.work.Work.has_write.Goals.loop-row-preserved
loop-row-preserved c =
    let s = (Rattle.tx_table.proofs.work.Work.has_write.Goals.at.loop-row-preserved c).After-row-item in
    let rows = c.self.inside.rows.items in
    let i = c.loop-row.row-index in
    let all : map access_of rows ≡ c.args.self.now.accesses = ap (λ (d : Doing). d.accesses) c.self.view_is in
    sym (ap (λ (l : List Access). has_write (take (i + 1) l)) all)
    ∙ no_write_more i rows c.row-item.result (inside s) (kind s ∙ ap (λ (k : Kind). same_kind Write k) c.in-Read.is) (ap (λ (l : List Access). has_write (take i l)) all ∙ c.loop-row.invariant)
