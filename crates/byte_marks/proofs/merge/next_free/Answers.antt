-- It is where the last of them ends, and one more.
use Rattle.byte_marks.proofs.{Words.{◌∙◌, ap, sym, arith, next_free}, Apart.{last_inside, next_free-append}}

pub overflow_add-result : Rattle.byte_marks.proofs.merge.next_free.Goals.overflow_add-result
overflow_add-result c = grind (arith, last_inside)

pub returns-in-Some : Rattle.byte_marks.proofs.merge.next_free.Goals.returns-in-Some
returns-in-Some c = sym (ap (next_free 0) c.in-Some.ensures.cases.0 ∙ next_free-append 0 c.in-Some.field-0-1.now c.in-Some.last.now)
