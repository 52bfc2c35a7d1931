use Rattle.iso_shared.proofs.{Words.{ap, Stamped, View, moments_in, shown}, Stamping.{rests_raw, rests_shown}}

pub returns : Rattle.iso_shared.proofs.turns.Turns.split.Goals.returns
returns g c = record {
  lock = c.split.ensures.lock;
  stays = λ rests. rests_shown c.split.new.pass (c.split.ensures.stays.0 (rests_raw c.args.pass.now rests));
  kept = ap shown c.split.ensures.kept;
  new = (c.split.ensures.new.0, rests_shown c.split.result c.split.ensures.new.1);
  given = ap shown c.split.ensures.given;
  past = (ap (λ (v : View Stamped). moments_in v.seen) c.split.ensures.kept, ap (λ (v : View Stamped). moments_in v.seen) c.split.ensures.given);
}
