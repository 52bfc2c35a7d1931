use Rattle.mirror_disk.proofs.{Words.{inl, inr, refl, joined_unwritten, starts_unwritten, stays_settled}, Adopted.shows_behind, Done.rose_behind, Handed.{later_twice, on_err, stands_still, synced}}
use Rattle.mirror_disk.proofs.adopt.read_headers.Goals as goal
use Rattle.std.proofs.Common.{rules}

pub returns-in_err-sync : goal.returns-in_err-sync
returns-in_err-sync g c = record {
  first_unwritten = synced (g.met.A.Disk.lawful c.args.first.now) c.sync.ensures.contents c.sync.ensures.crash;
  second_unwritten = starts_unwritten (g.met.B.Disk.lawful c.args.second.now);
  settled = search rules;
  first_header = search rules;
  second_header = search rules;
  cause = on_err c.from_residual.result (inl (c.in_err-sync.ensures.cause.failed refl));
  later = (c.sync.ensures.cause.later, stands_still _);
}

pub returns-in_err-sync-2 : goal.returns-in_err-sync-2
returns-in_err-sync-2 g c = record {
  first_unwritten = synced (g.met.A.Disk.lawful c.args.first.now) c.sync.ensures.contents c.sync.ensures.crash;
  second_unwritten = synced (g.met.B.Disk.lawful c.args.second.now) c.sync-2.ensures.contents c.sync-2.ensures.crash;
  settled = search rules;
  first_header = search rules;
  second_header = search rules;
  cause = on_err c.from_residual-in_err-sync-2.result (inr (c.in_err-sync-2.ensures.cause.failed refl));
  later = (c.sync.ensures.cause.later, c.sync-2.ensures.cause.later);
}

pub returns-in_err-one : goal.returns-in_err-one
returns-in_err-one g c = record {
  first_unwritten = joined_unwritten (g.met.A.Disk.lawful c.sync.new.self) (synced (g.met.A.Disk.lawful c.args.first.now) c.sync.ensures.contents c.sync.ensures.crash) c.read_header.ensures.unwritten;
  second_unwritten = synced (g.met.B.Disk.lawful c.args.second.now) c.sync-2.ensures.contents c.sync-2.ensures.crash;
  settled = search rules;
  first_header = search rules;
  second_header = search rules;
  cause = on_err c.from_residual-in_err-one.result (inl (rose_behind _ _ _ c.sync.ensures.cause.later (c.in_err-one.ensures.cause.failed refl)));
  later = (later_twice _ _ _ c.sync.ensures.cause.later c.read_header.ensures.cause.later, c.sync-2.ensures.cause.later);
}

pub returns-in_err-two : goal.returns-in_err-two
returns-in_err-two g c = record {
  first_unwritten = joined_unwritten (g.met.A.Disk.lawful c.sync.new.self) (synced (g.met.A.Disk.lawful c.args.first.now) c.sync.ensures.contents c.sync.ensures.crash) c.read_header.ensures.unwritten;
  second_unwritten = joined_unwritten (g.met.B.Disk.lawful c.sync-2.new.self) (synced (g.met.B.Disk.lawful c.args.second.now) c.sync-2.ensures.contents c.sync-2.ensures.crash) c.read_header-2.ensures.unwritten;
  settled = search rules;
  first_header = search rules;
  second_header = search rules;
  cause = on_err c.from_residual-in_err-two.result (inr (rose_behind _ _ _ c.sync-2.ensures.cause.later (c.in_err-two.ensures.cause.failed refl)));
  later = (later_twice _ _ _ c.sync.ensures.cause.later c.read_header.ensures.cause.later, later_twice _ _ _ c.sync-2.ensures.cause.later c.read_header-2.ensures.cause.later);
}

pub returns : goal.returns
returns g c = record {
  first_unwritten = joined_unwritten (g.met.A.Disk.lawful c.sync.new.self) (synced (g.met.A.Disk.lawful c.args.first.now) c.sync.ensures.contents c.sync.ensures.crash) c.read_header.ensures.unwritten;
  second_unwritten = joined_unwritten (g.met.B.Disk.lawful c.sync-2.new.self) (synced (g.met.B.Disk.lawful c.args.second.now) c.sync-2.ensures.contents c.sync-2.ensures.crash) c.read_header-2.ensures.unwritten;
  settled = (
    stays_settled (g.met.A.Disk.lawful c.read_header.new.disk) c.read_header.ensures.unwritten c.in_ok-sync.ensures.settled,
    stays_settled (g.met.B.Disk.lawful c.read_header-2.new.disk) c.read_header-2.ensures.unwritten c.in_ok-sync-2.ensures.settled,
  );
  first_header = shows_behind (g.met.A.Disk.lawful c.read_header.new.disk) c.read_header.ensures.unwritten _ c.in_ok-one.ensures.header;
  second_header = shows_behind (g.met.B.Disk.lawful c.read_header-2.new.disk) c.read_header-2.ensures.unwritten _ c.in_ok-two.ensures.header;
  cause = tt;
  later = (later_twice _ _ _ c.sync.ensures.cause.later c.read_header.ensures.cause.later, later_twice _ _ _ c.sync-2.ensures.cause.later c.read_header-2.ensures.cause.later);
}
