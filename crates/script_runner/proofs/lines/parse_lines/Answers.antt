use Rattle.script_runner.proofs.{ScriptWords.{◌≡◌, ℕ, false, length, nat_le, subst, sym, ◌∙◌, arith, ap, nat_tests, MAX_INPUT, Script, IsWhyOf}, WholeScripts.{all_read, bad_in, bad_last, first_more, script_is}}
use Rattle.std.proofs.lemmas.List.{length-append}
use Rattle.script_runner.proofs.lines.parse_lines.Goals as goal

pub returns-in-Err-clause-bad : goal.returns-in-Err-clause-bad
returns-in-Err-clause-bad c =
    subst (λ (S : Script). IsWhyOf S c.in-Err.error) (sym (script_is c.args.bytes.now c.is_cut-cut.result c.requires (sym c.is_cut-cut.ensures)))
    (bad_in c.args.bytes.now c.loop-line.rest.now c.in-Some.line.now c.in-Some.next.now c.loop-line.number c.loop-line.lines.items c.is_cut-cut.result c.loop-line.invariant.first c.in-Some.ensures.split
    c.in-Some.ensures.no_feed c.parse_whole_line-parsed.result c.in-Err.error c.parse_whole_line-parsed.ensures c.in-Err.ensures.err)

pub loop-line-preserved : goal.loop-line-preserved
loop-line-preserved c =
    let count = c.loop-line.invariant.count in
    let split = ap length c.in-Some.ensures.split in
    record {
      count = omega (arith, count, split, length-append {A = ℕ});
      first = first_more c.args.bytes.now c.loop-line.rest.now c.in-Some.line.now c.in-Some.next.now c.loop-line.number c.loop-line.lines.items c.add.new.lines.items c.loop-line.invariant.first
          c.in-Some.ensures.split c.in-Some.ensures.no_feed c.parse_whole_line-parsed.result c.parse_whole_line-parsed.ensures c.in_default-add.ensures.ok;
    }

pub returns-in-Ok-clause-lines : goal.returns-in-Ok-clause-lines
returns-in-Ok-clause-lines c =
    let (added, more, last) = c.in-Ok.ensures.ok in
    script_is c.args.bytes.now c.is_cut-cut.result c.requires (sym c.is_cut-cut.ensures)
    ∙ all_read c.args.bytes.now c.loop-line.rest.now c.loop-line.number c.loop-line.lines.items c.add_last.new.lines.items added c.is_cut-cut.result c.loop-line.invariant.first c.in_default.ensures more last

pub returns-in-Ok-clause-whole : goal.returns-in-Ok-clause-whole
returns-in-Ok-clause-whole c =
    let uncut : nat_le MAX_INPUT (length c.args.bytes.now) ≡ false = sym c.is_cut-cut.ensures ∙ c.in-Ok.ensures.uncut in
    grind (arith, nat_tests)

pub returns-in-Err-add_last-clause-bad : goal.returns-in-Err-add_last-clause-bad
returns-in-Err-add_last-clause-bad c =
    subst (λ (S : Script). IsWhyOf S c.in-Err-add_last.error) (sym (script_is c.args.bytes.now c.is_cut-cut.result c.requires (sym c.is_cut-cut.ensures)))
    (bad_last c.args.bytes.now c.loop-line.rest.now c.loop-line.number c.loop-line.lines.items c.is_cut-cut.result c.loop-line.invariant.first c.in_default.ensures c.in-Err-add_last.error
    c.in-Err-add_last.ensures.err)
