use Rattle.par_script.proofs.Words.{◌≡◌, ◌++◌, map, take, concat, reply_line}

abbrev pub invariant-loop-reply : Rattle.par_script.proofs.text.push_replies.Given.invariant-loop-reply
invariant-loop-reply l = l.out.items ≡ l.initial.out.items ++ concat (take l.reply-index (map (λ t. reply_line l.client t.1) l.told))
