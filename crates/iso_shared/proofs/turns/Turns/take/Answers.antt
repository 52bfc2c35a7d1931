use Rattle.iso_shared.proofs.{Words.{ap, sym, ◌∙◌, places}, Stamping.{entries_many, entries_prefix, is_out_shown, moments_prefix, rests_raw}}
use Rattle.iso_shared.proofs.turns.Turns.take.Goals as goal

pub take-requires-clause-free : goal.take-requires-clause-free
take-requires-clause-free g c = (rests_raw c.args.pass.now c.requires.1, c.requires.2)

pub returns : goal.returns
returns g c = record {
  lock = c.take.ensures.lock;
  turn = c.take.ensures.turn;
  same = c.take.ensures.same;
  value = c.take.ensures.value;
  seen = entries_prefix _ _ c.take.ensures.seen;
  past = moments_prefix _ _ c.take.ensures.seen;
  out = λ n held. is_out_shown n c.take.new.pass.me.0.seen (c.take.ensures.out n held);
  all = λ units. c.take.ensures.all units ∙ ap places (sym (entries_many _));
}
