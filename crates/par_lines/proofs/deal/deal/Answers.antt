use Rattle.std.proofs.Common.{rules}
use Rattle.par_lines.proofs.{Words.{◌≡◌, ◌+◌, ◌-◌, ◌<◌, ◌==◌, ◌≤◌, ap, arith, length, length-set, reverse, slice_get, ◌∙◌, filter, range_with_len, has_line, lines_of}, Dealing.{after_set, all_more, ids_more, length_more, some_at, some_too}}

pub loop-client-init : Rattle.par_lines.proofs.deal.deal.Goals.loop-client-init
loop-client-init c = record {
  all = c.in_ok-lists.ensures.all;
  own = λ k. some_too (λ own. reverse own.items ≡ lines_of k c.args.lines.items) (λ own. 1 ≤ k → reverse own.items ≡ lines_of k c.args.lines.items) (slice_get c.in_ok-lists.lists.items k) (λ own is some. is) (c.in_ok-lists.ensures.own k);
  clients = search rules;
  few = search rules;
  lines = search rules;
}

pub loop-client-preserved : Rattle.par_lines.proofs.deal.deal.Goals.loop-client-preserved
loop-client-preserved c =
    let lists = c.loop-client.lists.items in
    let client = c.loop-client.client in
    let within : client < length lists = omega (arith, c.loop-client.invariant.all, c.loop-client-test.true) in
    let own : c.turned.result.items ≡ lines_of client c.args.lines.items =
    c.turned.ensures ∙ ap (λ v. reverse v.items) (c.replace-own.ensures.value ∙ c.index_mut.ensures.value)
    ∙ some_at (λ v. client ≤ client → reverse v.items ≡ lines_of client c.args.lines.items) lists client c.index_mut.result.now within (c.loop-client.invariant.own client) (omega arith) in
    record {
      all = length-set lists client c.replace-own.new.dest ∙ c.loop-client.invariant.all;
      own = after_set (λ k v. client + 1 ≤ k → reverse v.items ≡ lines_of k c.args.lines.items) lists client c.replace-own.new.dest (λ lt above. absurd (omega (arith, above)))
          (λ k apart. some_too (λ v. client ≤ k → reverse v.items ≡ lines_of k c.args.lines.items) (λ v. client + 1 ≤ k → reverse v.items ≡ lines_of k c.args.lines.items) (slice_get lists k) (λ v was above. was (omega (arith, above))) (c.loop-client.invariant.own k));
      clients = ids_more (λ v. length v.items) c.args.lines.items client c.turned.result c.loop-client.dealt.items c.keep.new.dealt.items (omega (arith, c.loop-client.auto.client)) c.in_ok-keep.ensures (ap length own) c.loop-client.invariant.clients;
      few = omega (arith, c.loop-client.invariant.few, length_more (length c.turned.result.items == 0) c.loop-client.dealt.items c.keep.new.dealt.items (client, c.turned.result) c.in_ok-keep.ensures, c.loop-client.auto.client);
      lines = all_more (λ a. a.1.items ≡ lines_of a.0 c.args.lines.items) (length c.turned.result.items == 0) c.loop-client.dealt.items c.keep.new.dealt.items (client, c.turned.result) c.in_ok-keep.ensures own c.loop-client.invariant.lines;
    }

pub returns-clause-clients : Rattle.par_lines.proofs.deal.deal.Goals.returns-clause-clients
returns-clause-clients c =
    let last : c.loop-client.client - 1 ≡ 64 = omega (arith, c.loop-client-test.false, c.loop-client.auto.client-end) in
    c.loop-client.invariant.clients ∙ ap (λ n. filter (has_line c.args.lines.items) (range_with_len 1 n)) last
