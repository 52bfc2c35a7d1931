use Rattle.par_script.proofs.{Words.{◌≡◌, ◌++◌, map, subst, concat, reply_line, told_lines, AreFirst}, Lines.{any_err, first_more, some_more}}

pub returns-in_err-push_replies-clause-err : Rattle.par_script.proofs.text.push_all_told.Goals.returns-in_err-push_replies-clause-err
returns-in_err-push_replies-clause-err c =
    any_err _ (first_more c.args.parts.now c.loop-part.part-index c.part-item.result c.loop-part-test.true c.part-item.is told_lines _ _ _ c.loop-part.invariant (subst (λ v. AreFirst (map (λ t. reply_line c.part-item.result.client t.1) v) c.loop-part.out.items c.push_replies.new.out.items) c.as_slice.ensures c.in_err-push_replies.ensures.err))

pub loop-part-preserved : Rattle.par_script.proofs.text.push_all_told.Goals.loop-part-preserved
loop-part-preserved c =
    some_more c.args.parts.now c.loop-part.part-index c.part-item.result c.loop-part-test.true c.part-item.is told_lines _ _ _ c.loop-part.invariant (subst (λ v. c.push_replies.new.out.items ≡ c.loop-part.out.items ++ concat (map (λ t. reply_line c.part-item.result.client t.1) v)) c.as_slice.ensures c.in_ok-push_replies.ensures.ok)
