use Rattle.par_script.proofs.{Words.{◌∙◌, ap, ◌++◌, map, sym, subst, ◌≤◌, take_all, length-map, concat, reply_line}, Lines.{any_err, first_now, one_more}}

pub returns-in_err-push_reply-clause-err : Rattle.par_script.proofs.text.push_replies.Goals.returns-in_err-push_reply-clause-err
returns-in_err-push_reply-clause-err c =
    any_err _ (first_now (λ t. reply_line c.args.client t.1) c.args.told.now c.loop-reply.reply-index _ _ _ c.loop-reply-test.true c.loop-reply.invariant c.in_err-push_reply.ensures.err)

pub loop-reply-preserved : Rattle.par_script.proofs.text.push_replies.Goals.loop-reply-preserved
loop-reply-preserved c =
    one_more c.args.told.now c.loop-reply.reply-index c.loop-reply-item.result c.loop-reply-test.true c.loop-reply-item.is (λ t. reply_line c.args.client t.1) _ _ _ c.loop-reply.invariant c.in_ok-push_reply.ensures.ok

pub returns-clause-ok : Rattle.par_script.proofs.text.push_replies.Goals.returns-clause-ok
returns-clause-ok c =
    c.loop-reply.invariant
    ∙ ap (λ v. c.args.out.now.items ++ concat v)
    (take_all c.loop-reply.reply-index (map (λ t. reply_line c.args.client t.1) c.args.told.now)
    (subst (λ n. n ≤ c.loop-reply.reply-index) (sym (length-map c.args.told.now (λ t. reply_line c.args.client t.1))) c.loop-reply-test.false))
