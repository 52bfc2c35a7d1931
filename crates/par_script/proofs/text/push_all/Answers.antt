use Rattle.par_script.proofs.{Words.{◌≡◌, ◌∙◌, ap, ◌++◌, flat_map, map, subst, concat, on_ok_weaker, on_err_weaker, commit_line, told_lines, AreFirst}, Lines.{any_err, front_of_replies, front_of_all_replies, front_with_commits, whole_text}}

pub returns-in_err-push_all_told-clause-err : Rattle.par_script.proofs.text.push_all.Goals.returns-in_err-push_all_told-clause-err
returns-in_err-push_all_told-clause-err c =
    any_err _ (front_of_replies c.args.parts.now _ (subst (λ v. AreFirst (flat_map told_lines c.args.parts.now) v c.push_all_told.new.out.items) c.requires c.in_err-push_all_told.ensures.err))

pub returns-in_err-commits-clause-err : Rattle.par_script.proofs.text.push_all.Goals.returns-in_err-commits-clause-err
returns-in_err-commits-clause-err c =
    any_err c.from_residual-in_err-commits.result (front_of_all_replies c.args.parts.now c.push_all_told.new.out.items _ (c.in_ok-push_all_told.ensures.ok ∙ ap (λ v. v ++ concat (flat_map told_lines c.args.parts.now)) c.requires) (λ i. c.push_all_told.new.out.items))

pub returns-clause-ok : Rattle.par_script.proofs.text.push_all.Goals.returns-clause-ok
returns-clause-ok c =
    on_ok_weaker c.push_commits.result (λ added. whole_text c.args.parts.now c.push_all_told.new.out.items _ c.in_ok-commits.commits.items (c.in_ok-push_all_told.ensures.ok ∙ ap (λ v. v ++ concat (flat_map told_lines c.args.parts.now)) c.requires) c.in_ok-commits.ensures (subst (λ v. c.push_commits.new.out.items ≡ c.push_all_told.new.out.items ++ concat (map commit_line v)) c.as_slice.ensures.value added)) c.push_commits.ensures.ok

pub returns-clause-err : Rattle.par_script.proofs.text.push_all.Goals.returns-clause-err
returns-clause-err c = on_err_weaker c.push_commits.result (λ first. front_with_commits c.args.parts.now c.push_all_told.new.out.items _ c.in_ok-commits.commits.items (c.in_ok-push_all_told.ensures.ok ∙ ap (λ v. v ++ concat (flat_map told_lines c.args.parts.now)) c.requires) c.in_ok-commits.ensures (subst (λ v. AreFirst (map commit_line v) c.push_all_told.new.out.items c.push_commits.new.out.items) c.as_slice.ensures.value first)) c.push_commits.ensures.err
