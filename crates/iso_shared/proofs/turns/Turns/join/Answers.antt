use Rattle.iso_shared.proofs.{Words.{ap, ◌∙◌, shown}, Stamping.{both_shown, entries_prefix, moments_prefix, rests_raw, rests_shown}}
use Rattle.iso_shared.proofs.turns.Turns.join.Goals as goal

pub join-requires-clause-free : goal.join-requires-clause-free
join-requires-clause-free g c = rests_raw c.args.other c.requires.other.1

pub returns : goal.returns
returns g c = record {
  lock = c.join.ensures.lock;
  stays = λ rests. rests_shown c.join.new.pass (c.join.ensures.stays.0 (rests_raw c.args.pass.now rests));
  view_is = ap shown c.join.ensures.both ∙ both_shown c.args.pass.now.me.0 c.args.other.me.0;
  seen = (entries_prefix _ _ c.join.ensures.seen.0, entries_prefix _ _ c.join.ensures.seen.1);
  past = (moments_prefix _ _ c.join.ensures.seen.0, moments_prefix _ _ c.join.ensures.seen.1);
  places = c.join.ensures.places;
  alone = c.join.ensures.alone;
  units = c.join.ensures.units;
}
