use Rattle.iso_machine.proofs.Words.{◌+◌, ap, arith, disk_of, drop, length}
use Rattle.std.proofs.lemmas.List.{drop_all, drop_more}
use Rattle.device_desk.proofs.Waitings.{gone_all, gone_none, gone_one, gone_until}
use Rattle.device_desk.proofs.table.Table.end_each.Goals as goal

pub loop-number-init : goal.loop-number-init
loop-number-init g c = (c.requires.room, λ W of. gone_none of)

pub end-requires : goal.end-requires
end-requires g c =
    let (W, of) = c.requires.stands in
    let gone = c.loop-number.invariant.1 W of in
    (gone.world, gone.is)

pub returns-in-Err : goal.returns-in-Err
returns-in-Err g c W of =
    let numbers = c.args.numbers.now in
    let i = c.loop-number.number-index in
    let gone = c.loop-number.invariant.1 W of in
    gone_until c.end.new.self _ (drop (i + 1) numbers) (drop i numbers) c.in-Err.why gone (drop_more numbers i _ c.loop-number-test.true) (g.met.D.Disk.lawful (disk_of c.end.new.self.core)) (c.in-Err.ensures gone.world gone.is)

pub loop-number-preserved : goal.loop-number-preserved
loop-number-preserved g c =
    let numbers = c.args.numbers.now in
    let i = c.loop-number.number-index in (
      omega (arith, c.loop-number.invariant.0, c.push_reserved.ensures.len, c.push_reserved.ensures.capacity, ap length (drop_more numbers i 0 c.loop-number-test.true)),
      λ W of.
          let gone = c.loop-number.invariant.1 W of in
          gone_one _ (drop (i + 1) numbers) (drop i numbers) c.in-Ok.reply gone (drop_more numbers i _ c.loop-number-test.true) (c.in-Ok.ensures gone.world gone.is) c.push_reserved.ensures.items,
    )

pub returns : goal.returns
returns g c W of =
    let numbers = c.args.numbers.now in
    let i = c.loop-number.number-index in
    gone_all (drop i numbers) (c.loop-number.invariant.1 W of) (ap length (drop_all i numbers (omega (arith, c.loop-number-test.false)))) (g.met.D.Disk.lawful (disk_of c.loop-number.self.core))
