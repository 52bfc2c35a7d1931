use Rattle.iso_tree.proofs.{Words.{◌≡◌, ◌∙◌, sym, refl, ap, ◌+◌, ◌==◌, ℕ, Bool, List, [], ◌∷◌, true, false, not, cond, Some, None, Ok, Err, arith, list_all, Span, cell_count, count_of, keys_mark, keys_of, bytes_in, with_further, look_access, first_in, many_in, parts_of, is_part_at, Device, IsLater, Passed, Ran, with_accesses, looked_as, may_mark, values_mark, node_read, visit_program}, Fits.area_block, Looking.{broken_read, later_as, ok_read}, Visiting.{HasKeys, keys_read, marked_so, one_more, visit_end, visit_refused}, visit.read_node.Goals.{After-is_node, After-are_parts}}
use Rattle.store_model.specs.declared.stores.StoreError.TheVariants as store
use Rattle.iso_tree.proofs.visit.read_node.Goals as goal

-- the key parts, once they have passed their test
keys_at : (g : Rattle.iso_tree.proofs.visit.read_node.Given.Over) (c : After-is_node g) → c.is_node.result ≡ true → HasKeys c.args.range.now.area c.args.level c.look.new.into
keys_at g c good = keys_read c.args.range.now.area c.args.level c.look.new.into c.piece-bytes.result.now c.cell_count.result c.is_node.result c.piece-bytes.ensures.value c.cell_count.ensures c.is_node.ensures good

pub of-keys-requires : goal.of-keys-requires
of-keys-requires g c =
    let keys = keys_at g (goal.at.of-keys-requires g c).After-is_node c.if-not-is_node.false in
    record { least = c.requires.block.within.area.least_size; long = c.look.auto.into ∙ c.requires.block.long; parts = keys.parts; few = keys.few }

pub cells_between-visit-requires : goal.cells_between-visit-requires
cells_between-visit-requires g c = λ high. omega (arith, (keys_at g (goal.at.cells_between-visit-requires g c).After-is_node c.if-not-is_node.false).some high, ap count_of c.of-keys.ensures.bytes)

pub mark_values-requires-clause-visit : goal.mark_values-requires-clause-visit
mark_values-requires-clause-visit g c =
    let keys = keys_at g (goal.at.mark_values-requires-clause-visit g c).After-is_node c.if-not-is_node.false in
    record {
      size = record { least = c.requires.block.within.area.least_size; most = (area_block c.args.range.now.area c.requires.block.within.area).most };
      inside = omega (arith, c.cells_between-visit.ensures.inside, keys.few, ap count_of c.of-keys.ensures.bytes);
    }

pub mark_values-requires-clause-open : goal.mark_values-requires-clause-open
mark_values-requires-clause-open g c =
    let a = c.args.range.now.area in
    let keys = keys_at g (goal.at.mark_values-requires-clause-open g c).After-is_node c.if-not-is_node.false in
    λ some. may_mark (g.T.TxBlocks.state c.args.tx.now) (g.T.TxBlocks.state c.look.new.tx) (look_access (a.start + c.args.block) (c.keys_mark.result ∷ [])) (values_mark a.size c.cells_between-visit.result.first c.cells_between-visit.result.many)
    c.in_default.ensures.read c.in_default.ensures.is_open (record { some = omega arith; fits = omega (arith, c.requires.block.within.size, c.cells_between-visit.ensures.inside, keys.few, ap count_of c.of-keys.ensures.bytes, c.requires.block.within.area.least_size) }) (omega arith)

pub values-requires : goal.values-requires
values-requires g c =
    let keys = keys_at g (goal.at.values-requires g c).After-is_node c.if-not-is_node.false in
    let long = c.look.auto.into ∙ c.requires.block.long in
    let least = c.requires.block.within.area.least_size in
    let most = (area_block c.args.range.now.area c.requires.block.within.area).most in
    record {
      size = record { least = omega (arith, least, long); most = omega (arith, most, long) };
      inside = omega (arith, c.cells_between-visit.ensures.inside, keys.few, ap count_of c.of-keys.ensures.bytes, ap cell_count long);
    }

-- what the exits after the test of the value parts share
module _ (g : Rattle.iso_tree.proofs.visit.read_node.Given.Over) (c : After-are_parts g) where
  abbrev first : ℕ
  first = c.cells_between-visit.result.first

  abbrev many : ℕ
  many = c.cells_between-visit.result.many

  abbrev spans : List Span
  spans = keys_mark c.args.range.now.area.size ∷ with_further (cond (not (many == 0)) (Some (values_mark c.args.range.now.area.size first many)) None)

  access : g.T.TxBlocks.state c.mark_values.new.tx ≡ with_accesses (g.T.TxBlocks.state c.args.tx.now) (look_access (c.args.range.now.area.start + c.args.block) spans ∷ [])
  access =
      let state = g.T.TxBlocks.state in
      marked_so (state c.args.tx.now) (state c.look.new.tx) (state c.mark_values.new.tx) (c.args.range.now.area.start + c.args.block) (keys_mark c.args.range.now.area.size) (values_mark c.args.range.now.area.size first many) many
      (looked_as (state c.args.tx.now) (state c.look.new.tx) (c.args.range.now.area.start + c.args.block) _ _ c.in_default.ensures.read c.keys_mark.ensures) c.mark_values.ensures.none c.mark_values.ensures.some

  later : IsLater (g.T.TxBlocks.device c.args.tx.now) (g.T.TxBlocks.device c.mark_values.new.tx)
  later = later_as (g.T.TxBlocks.device c.args.tx.now) (g.T.TxBlocks.device c.look.new.tx) (g.T.TxBlocks.device c.mark_values.new.tx) c.in_default.ensures.later c.mark_values.ensures.device

  passed : Passed (g.T.TxBlocks.device c.args.tx.now) (g.T.TxBlocks.device c.mark_values.new.tx)
  passed = ap (λ (d : Device). d.faults) c.mark_values.ensures.device ∙ c.in_default.ensures.passed

  values_are : c.values.result.now ≡ bytes_in (values_mark c.args.range.now.area.size first many) c.look.new.into
  values_are = c.values.ensures.value ∙ ap (λ (n : ℕ). bytes_in (values_mark n first many) c.look.new.into) (c.look.auto.into ∙ c.requires.block.long)

  first_is : first ≡ first_in c.args.level c.args.range.now.from.now (keys_of c.args.range.now.area c.look.new.into)
  first_is = c.cells_between-visit.ensures.first ∙ ap (first_in c.args.level c.args.range.now.from.now) c.of-keys.ensures.bytes

  many_is : many ≡ many_in c.args.level c.args.range.now.from.now c.args.range.now.to.now (keys_of c.args.range.now.area c.look.new.into)
  many_is = c.cells_between-visit.ensures.many ∙ ap (many_in c.args.level c.args.range.now.from.now c.args.range.now.to.now) c.of-keys.ensures.bytes

  ended : (good : Bool) → c.are_parts.result ≡ good → HasKeys c.args.range.now.area c.args.level c.look.new.into
      → Ran (visit_program c.args.range.now.area c.args.range.now.from.now c.args.range.now.to.now c.args.level c.args.block) (g.T.TxBlocks.state c.args.tx.now) (g.T.TxBlocks.state c.mark_values.new.tx)
      (cond good (Ok (node_read c.args.range.now.area c.args.range.now.from.now c.args.range.now.to.now c.args.level c.look.new.into)) (Err (store.Broken (c.args.range.now.area.start + c.args.block))))
  ended good is keys =
      let a = c.args.range.now.area in
      visit_end a c.args.range.now.from.now c.args.range.now.to.now c.args.level c.args.block (g.T.TxBlocks.state c.args.tx.now) (g.T.TxBlocks.state c.mark_values.new.tx) c.look.new.into c.in_default.ensures.bytes (g.met.T.TxBlocks.limits c.mark_values.new.tx).count first many good keys.node
      first_is many_is access
      (ap (λ (v : List ℕ). list_all (is_part_at a c.args.level) (parts_of v many)) (sym values_are) ∙ sym c.are_parts.ensures ∙ is)

pub returns-then-not-are_parts-clause-run : goal.returns-then-not-are_parts-clause-run
returns-then-not-are_parts-clause-run g c =
    ended g (goal.at.returns-then-not-are_parts-clause-run g c).After-are_parts false c.if-not-are_parts.true (keys_at g (goal.at.returns-then-not-are_parts-clause-run g c).After-is_node c.if-not-is_node.false)

pub returns-then-not-are_parts-clause-reads : goal.returns-then-not-are_parts-clause-reads
returns-then-not-are_parts-clause-reads g c =
    let s = (goal.at.returns-then-not-are_parts-clause-reads g c).After-are_parts in
    broken_read (g.T.TxBlocks.state c.args.tx.now) (g.T.TxBlocks.state c.mark_values.new.tx) _ (g.T.TxBlocks.device c.args.tx.now) (g.T.TxBlocks.device c.mark_values.new.tx) (c.args.range.now.area.start + c.args.block) (access g s) refl (later g s) (passed g s)

pub returns-clause-run : goal.returns-clause-run
returns-clause-run g c = ended g (goal.at.returns-clause-run g c).After-are_parts true c.if-not-are_parts.false (keys_at g (goal.at.returns-clause-run g c).After-is_node c.if-not-is_node.false)

pub returns-clause-visited : goal.returns-clause-visited
returns-clause-visited g c =
    let s = (goal.at.returns-clause-visited g c).After-are_parts in
    let keys = keys_at g (goal.at.returns-clause-visited g c).After-is_node c.if-not-is_node.false in
    record {
      node = keys.node;
      first = first_is g s;
      many = many_is g s;
      parts = ap (λ (v : List ℕ). list_all (is_part_at c.args.range.now.area c.args.level) (parts_of v (many g s))) (sym (values_are g s)) ∙ sym c.are_parts.ensures ∙ c.if-not-are_parts.false;
      inside = omega (arith, c.cells_between-visit.ensures.inside, keys.few, ap count_of c.of-keys.ensures.bytes);
    }

pub returns-clause-more : goal.returns-clause-more
returns-clause-more g c = one_more (g.T.TxBlocks.state c.args.tx.now) (g.T.TxBlocks.state c.mark_values.new.tx) _ (access g (goal.at.returns-clause-more g c).After-are_parts)

pub returns-clause-reads : goal.returns-clause-reads
returns-clause-reads g c =
    let s = (goal.at.returns-clause-reads g c).After-are_parts in
    ok_read (g.T.TxBlocks.state c.args.tx.now) (g.T.TxBlocks.state c.mark_values.new.tx) _ (g.T.TxBlocks.device c.args.tx.now) (g.T.TxBlocks.device c.mark_values.new.tx) c.cells_between-visit.result (access g s) refl c.in_default.ensures.is_open (later g s) (passed g s)

pub returns-in-Err-clause-run : goal.returns-in-Err-clause-run
returns-in-Err-clause-run g c = grind (arith, visit_refused) steps 100000
