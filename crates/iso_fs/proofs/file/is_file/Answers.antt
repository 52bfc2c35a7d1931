use Rattle.iso_fs.proofs.{Words.{◌≡◌, ◌∙◌, ◌==◌, sym, ap, ℕ, true, false, arith, nat_le, nat_tests, slice_index, leb-true, bytes_of, most_bytes}, Files.{file_is, file_not_kind, file_not_small}}
use Rattle.iso_fs.proofs.file.is_file.Goals as goal

pub data_count-count-requires-clause-small : goal.data_count-count-requires-clause-small
data_count-count-requires-clause-small c =
    leb-true (bytes_of c.args.file.now) (most_bytes c.args.area.size) (ap (λ (n : ℕ). nat_le n (most_bytes c.args.area.size)) (sym c.bytes_of.ensures) ∙ sym c.is_fit.ensures ∙ c.if-not-is_fit.false)

pub returns-then-file-ne3 : goal.returns-then-file-ne3
returns-then-file-ne3 c =
    let other = c.if-file-ne3.true in
    let kind : (slice_index c.args.file.now 0 == 3) ≡ false = grind (arith, nat_tests) in
    sym (file_not_kind c.args.area c.args.file.now kind)

pub returns-then-not-is_fit : goal.returns-then-not-is_fit
returns-then-not-is_fit c =
    let same = c.if-file-ne3.false in
    let kind : (slice_index c.args.file.now 0 == 3) ≡ true = grind (arith, nat_tests) in
    sym (file_not_small c.args.area c.args.file.now kind (ap (λ (n : ℕ). nat_le n (most_bytes c.args.area.size)) (sym c.bytes_of.ensures) ∙ sym c.is_fit.ensures ∙ c.if-not-is_fit.true))

pub returns-then-not-are_entries : goal.returns-then-not-are_entries
returns-then-not-are_entries c = grind (arith, file_is, nat_tests) steps 100000

pub returns : goal.returns
returns c = grind (arith, file_is, nat_tests) steps 100000
