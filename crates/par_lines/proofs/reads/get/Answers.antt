use Rattle.par_lines.proofs.{Words.{◌≡◌, [], ap, drop, subst, sym, take, ◌∙◌, Ok, Get, is_outside, get_access, Answered}, Fetching.{get_line, get_parts, refused_read, wrong_get}, Writing.wants}
use Rattle.par_lines.proofs.reads.get.Goals as goal

pub returns-then-is_outside : goal.returns-then-is_outside
returns-then-is_outside g c =
    record {
      did = subst (λ r. Answered g.O.Origin.start c.args.session.now (Get c.args.range.block c.args.range.off c.args.range.len) (Ok r) c.args.session.now) (sym c.wrong_bytes.ensures)
          (wrong_get g.O.Origin.start c.args.range.block c.args.image.now.geometry c.args.range.off c.args.range.len c.args.session.now c.args.image.now.same (sym c.if-is_outside.ensures));
    }

pub returns-in_default : goal.returns-in_default
returns-in_default g c = record { did = wants g.O.Origin.start c.args.range.block [] c.args.session.now (Get c.args.range.block c.args.range.off c.args.range.len) }

pub returns-in-Err : goal.returns-in-Err
returns-in-Err g c = record { did = wants g.O.Origin.start c.args.range.block [] c.args.session.now (Get c.args.range.block c.args.range.off c.args.range.len) }

pub returns-in-Ok-read_into : goal.returns-in-Ok-read_into
returns-in-Ok-read_into g c =
    let cut : c.copy_from.new.bytes.items ≡ take c.args.range.len (drop c.args.range.off c.read_into.new.bytes.items) =
    c.copy_from.ensures ∙ (ap (λ n. take n (drop c.args.range.off c.deref.result.now)) c.in-Ok.ensures ∙ ap (λ l. take c.args.range.len (drop c.args.range.off l)) c.deref.ensures.value) in
    record {
      did = subst (λ r. Answered g.O.Origin.start c.args.session.now (Get c.args.range.block c.args.range.off c.args.range.len) r c.mark_range-answer.new.session) (sym c.shown.ensures)
          (get_line g.O.Origin.start c.args.range.block c.args.range.off c.args.range.len (ap (λ h. is_outside h.block c.args.range.off c.args.range.len) (sym c.args.image.now.same) ∙ sym c.if-is_outside.ensures)
          c.args.session.now c.read_into.new.session c.mark_range-answer.new.session c.read_into.new.bytes.items c.copy_from.new.bytes.items c.in-Ok-read_into.field-0 c.mark_range-answer.result
          c.in-Ok-read_into.ensures.cause c.in-Ok-read_into.ensures.did c.mark_range-answer.ensures.cause c.mark_range-answer.ensures.did cut);
    }

pub returns-in-Err-read_into : goal.returns-in-Err-read_into
returns-in-Err-read_into g c =
    record {
      did = subst (λ r. Answered g.O.Origin.start c.args.session.now (Get c.args.range.block c.args.range.off c.args.range.len) r c.read_into.new.session) (sym c.accessed.ensures)
          (refused_read g.O.Origin.start (Get c.args.range.block c.args.range.off c.args.range.len) c.args.range.block (λ l. take c.args.range.len (drop c.args.range.off l)) (get_access c.args.range.block c.args.range.off c.args.range.len)
          (get_parts g.O.Origin.start.world.geometry c.args.range.block c.args.range.off c.args.range.len (ap (λ h. is_outside h.block c.args.range.off c.args.range.len) (sym c.args.image.now.same) ∙ sym c.if-is_outside.ensures))
          c.args.session.now c.read_into.new.session c.in-Err-read_into.error c.read_into.new.bytes.items c.in-Err-read_into.ensures.cause c.in-Err-read_into.ensures.did);
    }
