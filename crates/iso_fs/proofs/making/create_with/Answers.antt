use Rattle.iso_fs.proofs.{Words.{◌≡◌, ◌∙◌, ◌-◌, ap, refl, ℕ, arith, Region, create_new, get_program, lowest_free}, CreateSteps.{create_as, none_free, one_free, with_map}, Finding.get_has, Parts.{map_read, map_stops, part_as, part_refused, tree_read, tree_stops}}
use Rattle.store_model.specs.declared.stores.StoreError.TheVariants as store
use Rattle.store_model.specs.declared.files.FsError.TheVariants as fs
use Rattle.iso_fs.proofs.making.create_with.Goals as goal

pub returns-in-Ok-Some : goal.returns-in-Ok-Some
returns-in-Ok-Some g c =
    part_as (create_as c.args.name.now.areas c.args.name.now.bytes.now c.args.name.now.good)
    (tree_read (get_program c.args.name.now.areas.tree c.args.name.now.bytes.now) (create_new c.args.name.now.areas c.args.name.now.bytes.now) c.in-Ok-Some.ensures.ended c.value_of.ensures.reads c.value_of.ensures.leaves.later c.in-Ok-Some.ensures.leaves.passed (rw c.in-Ok-Some.field-0-is (part_refused fs.Exists (λ x. cc) tt)))

pub returns-in-Err : goal.returns-in-Err
returns-in-Err g c =
    part_as (create_as c.args.name.now.areas c.args.name.now.bytes.now c.args.name.now.good)
    (tree_stops (get_program c.args.name.now.areas.tree c.args.name.now.bytes.now) (create_new c.args.name.now.areas c.args.name.now.bytes.now) (get_has c.args.name.now.areas.tree c.args.name.now.bytes.now c.args.name.now.good) c.in-Err.ensures.ended c.value_of.ensures.reads (omega arith) c.in-Err.ensures.leaves.cause c.value_of.ensures.leaves.later)

pub returns-in-Err-look : goal.returns-in-Err-look
returns-in-Err-look g c =
    part_as (create_as c.args.name.now.areas c.args.name.now.bytes.now c.args.name.now.good)
    (tree_read (get_program c.args.name.now.areas.tree c.args.name.now.bytes.now) (create_new c.args.name.now.areas c.args.name.now.bytes.now) c.in-Ok-None.ensures.ended c.value_of.ensures.reads c.value_of.ensures.leaves.later c.in-Ok-None.ensures.leaves.passed
    (rw c.in-Ok-None.field-0-is (map_stops c.args.name.now.areas.files (with_map c.args.name.now.areas c.args.name.now.bytes.now) c.in-Err-look.ensures.kept (omega arith) c.in-Err-look.ensures.cause c.in-Err-look.ensures.later)))

pub returns-in-Some : goal.returns-in-Some
returns-in-Some g c =
    let size : c.region_of.result.size ≡ c.args.name.now.areas.files.blocks = ap (λ (r : Region). r.size) c.region_of.ensures in
    let free = ap (λ (n : ℕ). lowest_free c.look.new.into 1 (n - 1)) size in
    part_as (create_as c.args.name.now.areas c.args.name.now.bytes.now c.args.name.now.good)
    (tree_read (get_program c.args.name.now.areas.tree c.args.name.now.bytes.now) (create_new c.args.name.now.areas c.args.name.now.bytes.now) c.in-Ok-None.ensures.ended c.value_of.ensures.reads c.value_of.ensures.leaves.later c.in-Ok-None.ensures.leaves.passed
    (rw c.in-Ok-None.field-0-is (map_read c.args.name.now.areas.files (with_map c.args.name.now.areas c.args.name.now.bytes.now) c.look.new.into c.map_mark.ensures c.in_default.ensures.bytes (g.met.T.TxBlocks.limits c.look.new.tx) c.in_default.ensures.read c.in_default.ensures.later c.in_default.ensures.passed
    (part_as (one_free c.args.name.now.areas c.args.name.now.kind c.args.name.now.bytes.now c.look.new.into c.in-Some.block _ c.take_lowest.new.map (c.in-Some.ensures.lowest ∙ free) (let below = c.in-Some.ensures.inside.1 in omega (arith, below, size)) (c.look.auto.into ∙ c.requires.long) c.requires.holds.least c.in-Some.ensures.taken refl) c.name_file.ensures))))

pub returns-in-None : goal.returns-in-None
returns-in-None g c =
    part_as (create_as c.args.name.now.areas c.args.name.now.bytes.now c.args.name.now.good)
    (tree_read (get_program c.args.name.now.areas.tree c.args.name.now.bytes.now) (create_new c.args.name.now.areas c.args.name.now.bytes.now) c.in-Ok-None.ensures.ended c.value_of.ensures.reads c.value_of.ensures.leaves.later c.in-Ok-None.ensures.leaves.passed
    (rw c.in-Ok-None.field-0-is (map_read c.args.name.now.areas.files (with_map c.args.name.now.areas c.args.name.now.bytes.now) c.look.new.into c.map_mark.ensures c.in_default.ensures.bytes (g.met.T.TxBlocks.limits c.look.new.tx) c.in_default.ensures.read c.in_default.ensures.later c.in_default.ensures.passed
    (part_as (none_free c.args.name.now.areas c.args.name.now.kind c.args.name.now.bytes.now c.look.new.into (c.in-None.ensures.lowest ∙ (ap (λ (r : Region). lowest_free c.look.new.into 1 (r.size - 1)) c.region_of.ensures))) (part_refused (fs.Store (store.NoBlocks 1 0)) (λ x. cc) tt)))))
