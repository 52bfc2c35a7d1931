-- Worked examples of groups, by their answers and as lines.
use Rattle.script_model.proofs.{Words.{◌≡◌, [], ◌∷◌, ◌++◌, refl, codes, Ok, Err, Some, None, digits, Geometry, Group, put, clash, runs, group_arguments, group_step, begin_step, commit_step, end_step, operation_of, other_operation, step, put_step, read_step, words_of, number_of, hex_of, label_text, replicate, reply_text}, Small.{small, made, text, answers, after_lines, zero_text}}
use Rattle.std.specs.Prelude.{ℕ, List, length}
use Rattle.iso_model.specs.declared.access.GroupReply.TheVariants as member

-- Each member is answered, and a label under which nothing is has no member.
pub two_commits_and_no_member :
    (group_step (after_lines (made small) (codes "1 begin" ∷ codes "1 put 0 0 aa" ∷ codes "1 release a" ∷ codes "2 begin" ∷ codes "2 put 0 1 bb" ∷ codes "2 release b" ∷ [])) (codes "a" ∷ codes "b" ∷ codes "zz" ∷ [])).0
    ≡ Some (member.Committed 1) ∷ Some (member.Committed 2) ∷ None ∷ []
unfolding put clash runs operation_of other_operation step begin_step put_step commit_step end_step words_of number_of hex_of group_step digits
two_commits_and_no_member = refl

-- A member meets the commits of those before it.
pub a_conflict_with_an_earlier_member :
    (group_step (after_lines (made small) (codes "1 begin" ∷ codes "1 put 0 0 aa" ∷ codes "1 release a" ∷ codes "2 begin" ∷ codes "2 read 0" ∷ codes "2 put 1 0 bb" ∷ codes "2 release b" ∷ [])) (codes "a" ∷ codes "b" ∷ [])).0
    ≡ Some (member.Committed 1) ∷ Some (member.Conflict (record { commit = 1; block = 0; at = 0 })) ∷ []
unfolding put clash runs operation_of other_operation step begin_step put_step read_step commit_step end_step words_of number_of hex_of group_step digits
a_conflict_with_an_earlier_member = refl

-- A label that is named twice holds nothing at the second look.
pub a_label_twice :
    (group_step (after_lines (made small) (codes "1 begin" ∷ codes "1 put 0 0 aa" ∷ codes "1 release a" ∷ [])) (codes "a" ∷ codes "a" ∷ [])).0
    ≡ Some (member.Committed 1) ∷ None ∷ []
unfolding put clash runs operation_of other_operation step begin_step put_step commit_step end_step words_of number_of hex_of group_step digits
a_label_twice = refl

-- a log that has room for one record of one byte and for the gates, and for no second one
abbrev short_log : Geometry
short_log = record small { log = 58 }

-- A member for which the log has no room is aborted, and the next one is asked by what is left: 29 bytes are, of which
-- 31 and 30 are needed, and a member that writes nothing needs none.
pub members_that_do_not_fit :
    (group_step (after_lines (made short_log) (codes "1 begin" ∷ codes "1 put 0 0 aa" ∷ codes "1 release a" ∷ codes "2 begin" ∷ codes "2 put 1 0 bbbb" ∷ codes "2 release b" ∷ codes "3 begin" ∷ codes "3 put 2 0 cc" ∷ codes "3 release c" ∷ codes "4 begin" ∷ codes "4 read 3" ∷ codes "4 release d" ∷ [])) (codes "a" ∷ codes "b" ∷ codes "c" ∷ codes "d" ∷ [])).0
    ≡ Some (member.Committed 1) ∷ Some (member.Full 31 29) ∷ Some (member.Full 30 29) ∷ Some member.ReadOnly ∷ []
unfolding put clash runs operation_of other_operation step begin_step put_step read_step commit_step end_step words_of number_of hex_of group_step digits
members_that_do_not_fit = refl

-- and none of them is live afterwards
pub no_member_is_live :
    length (group_step (after_lines (made short_log) (codes "1 begin" ∷ codes "1 put 0 0 aa" ∷ codes "1 release a" ∷ codes "2 begin" ∷ codes "2 put 1 0 bbbb" ∷ codes "2 release b" ∷ codes "3 begin" ∷ [])) (codes "a" ∷ codes "b" ∷ [])).1.live
    ≡ 1
unfolding put clash runs operation_of other_operation step begin_step put_step read_step commit_step end_step words_of number_of hex_of group_step digits
no_member_is_live = refl

-- The line of a group, and its reply.
pub a_group_of_three_labels :
    answers (made small) (codes "1 begin" ∷ codes "1 put 0 0 aa" ∷ codes "1 release a" ∷ codes "2 begin" ∷ codes "2 put 0 1 bb" ∷ codes "2 release b" ∷ codes "3 group a b zz" ∷ [])
    ≡ text (codes "1 ok begin 0" ∷ codes "1 ok" ∷ codes "1 ok" ∷ codes "2 ok begin 0" ∷ codes "2 ok" ∷ codes "2 ok" ∷ codes "3 ok commit 1; commit 2; none" ∷ [])
unfolding put clash runs operation_of other_operation step begin_step put_step commit_step end_step words_of number_of hex_of group_step label_text reply_text digits
a_group_of_three_labels = refl

pub a_group_with_a_conflict :
    answers (made small) (codes "1 begin" ∷ codes "1 put 0 0 aa" ∷ codes "1 release a" ∷ codes "2 begin" ∷ codes "2 read 0" ∷ codes "2 put 1 0 bb" ∷ codes "2 release b" ∷ codes "3 group a b" ∷ [])
    ≡ text (codes "1 ok begin 0" ∷ codes "1 ok" ∷ codes "1 ok" ∷ codes "2 ok begin 0" ∷ (codes "2 ok " ++ zero_text 64) ∷ codes "2 ok" ∷ codes "2 ok" ∷ codes "3 ok commit 1; conflict with 1 block 0 at 0" ∷ [])
unfolding put clash runs operation_of other_operation step begin_step put_step read_step commit_step end_step words_of number_of hex_of group_step label_text reply_text digits
a_group_with_a_conflict = refl

-- A member that has no room is gone, unlike one that ends alone; and the client of the group keeps its own transaction.
pub a_group_asked_in_a_transaction :
    answers (made short_log) (codes "1 begin" ∷ codes "1 put 0 0 aa" ∷ codes "1 release a" ∷ codes "2 begin" ∷ codes "2 put 1 0 bbbb" ∷ codes "2 release b" ∷ codes "3 begin" ∷ codes "3 read 3" ∷ codes "3 release c" ∷ codes "3 begin" ∷ codes "3 group c b a a" ∷ codes "3 takeover b" ∷ codes "3 end" ∷ codes "3 takeover b" ∷ [])
    ≡ text (codes "1 ok begin 0" ∷ codes "1 ok" ∷ codes "1 ok" ∷ codes "2 ok begin 0" ∷ codes "2 ok" ∷ codes "2 ok" ∷ codes "3 ok begin 0" ∷ (codes "3 ok " ++ zero_text 64) ∷ codes "3 ok" ∷ codes "3 ok begin 0" ∷ codes "3 ok read-only; commit 1; log full need 30 free 28; none" ∷ codes "3 in-tx" ∷ codes "3 ok read-only" ∷ codes "3 no-handle" ∷ [])
unfolding put clash runs operation_of other_operation step begin_step put_step read_step commit_step end_step words_of number_of hex_of group_step label_text reply_text digits
a_group_asked_in_a_transaction = refl

-- n labels, each spelled `a`
abbrev labels : ℕ → List (List ℕ)
labels n = replicate n (codes "a")

-- No label is too few, and a seventeenth one too many, whatever they are; then the first that is no label counts.
pub groups_that_are_bad :
    group_arguments [] ∷ group_arguments (replicate 17 (codes "A")) ∷ group_arguments (codes "a" ∷ codes "B" ∷ []) ∷ []
    ≡ Err 3 ∷ Err 3 ∷ Err 6 ∷ []
groups_that_are_bad = refl

pub groups_that_are_good :
    group_arguments (labels 1) ∷ group_arguments (labels 16) ∷ [] ≡ Ok (Group (labels 1)) ∷ Ok (Group (labels 16)) ∷ []
groups_that_are_good = refl
