use Rattle.iso_fs.proofs.{Words.{arith, take, length-take-le, map_mark, bytes_in, with_taken, write_sized, used_same}, Parts.{map_read, map_stops, part_as, part_refused}, WriteSteps.{few_is, new_are, new_as}}
use Rattle.store_model.specs.declared.stores.StoreError.TheVariants as store
use Rattle.store_model.specs.declared.files.FsError.TheVariants as fs
use Rattle.iso_fs.proofs.writing.write_new.Goals as goal

pub returns-in-Err : goal.returns-in-Err
returns-in-Err g c =
    let w = c.args.writing.now in
    let next = write_sized w.file.area w.off w.bytes.now w.file.number w.file.bytes.now in
    part_as (new_as w.file.area c.args.need next c.requires.need.some) (map_stops w.file.area (with_taken w.file.area c.args.need next) c.in-Err.ensures.kept (omega arith) c.in-Err.ensures.cause c.in-Err.ensures.later)

pub returns-then-free-need : goal.returns-then-free-need
returns-then-free-need g c =
    let w = c.args.writing.now in
    let next = write_sized w.file.area w.off w.bytes.now w.file.number w.file.bytes.now in
    part_as (new_as w.file.area c.args.need next c.requires.need.some)
    (map_read w.file.area (with_taken w.file.area c.args.need next) c.look.new.into c.map_mark.ensures c.in_default.ensures.bytes (g.met.T.TxBlocks.limits c.look.new.tx) c.in_default.ensures.read c.in_default.ensures.later c.in_default.ensures.passed
    (part_as (few_is w.file.area w.file.kind c.look.new.into c.args.need c.free_blocks-free.result c.region_of-region.result c.region_of-region.ensures c.free_blocks-free.ensures next c.if-free-need.true)
    (part_refused (fs.Store (store.NoBlocks c.args.need c.free_blocks-free.result)) (λ x. cc) tt)))

pub write_news-requires-clause-news : goal.write_news-requires-clause-news
write_news-requires-clause-news g c =
    let w = c.args.writing.now in
    let next = write_sized w.file.area w.off w.bytes.now w.file.number w.file.bytes.now in
    let news = take c.args.need c.take_blocks.new.news in
    let new = new_are w.file.area w.file.kind c.look.new.into c.args.need c.free_blocks-free.result c.region_of-region.result c.region_of-region.ensures c.free_blocks-free.ensures next news c.region_of-region.result c.region_of-region.ensures (let many = c.if-free-need.false in omega arith) c.take_blocks.ensures.taken in
    record { some = omega (arith, length-take-le c.args.need c.take_blocks.new.news (omega (arith, c.take_blocks.auto.news, c.requires.need.few)), c.requires.need.some); rising = new.up; inside = new.blocks }

pub returns : goal.returns
returns g c =
    let w = c.args.writing.now in
    let next = write_sized w.file.area w.off w.bytes.now w.file.number w.file.bytes.now in
    let news = take c.args.need c.take_blocks.new.news in
    let new = new_are w.file.area w.file.kind c.look.new.into c.args.need c.free_blocks-free.result c.region_of-region.result c.region_of-region.ensures c.free_blocks-free.ensures next news c.region_of-region.result c.region_of-region.ensures (let many = c.if-free-need.false in omega arith) c.take_blocks.ensures.taken in
    part_as (new_as w.file.area c.args.need next c.requires.need.some)
    (map_read w.file.area (with_taken w.file.area c.args.need next) c.look.new.into c.map_mark.ensures c.in_default.ensures.bytes (g.met.T.TxBlocks.limits c.look.new.tx) c.in_default.ensures.read c.in_default.ensures.later c.in_default.ensures.passed
    (part_as new.is (c.write_news.ensures.part (bytes_in (map_mark w.file.area.blocks) c.look.new.into) (used_same w.file.area w.file.kind c.look.new.into c.take_blocks.new.map news new.blocks c.take_blocks.ensures.used))))
