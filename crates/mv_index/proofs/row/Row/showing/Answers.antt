-- The pieces of a row.
use Rattle.mv_index.proofs.{Words.{arith, ArePieces, no_version}, Few.pieces_few, Layers.same_place, Orders.{once, some_at}, Showing.pieces_lie}
use Rattle.mv_index.proofs.row.Row.showing.Goals as goal

are : (c : goal.After-as_slice) → ArePieces c.as_slice.result.now c.args.self.now.versions
are c = grind arith

pub returns : goal.returns
returns c = record {
  order = (are c).order;
  same = same_place c.as_slice.result.now c.args.self.now.versions (are c).place;
  once = λ p. once 0 p c.as_slice.result.now (are c).order;
  some = λ i below. (some_at 0 i no_version c.as_slice.result.now (are c).order below).1;
  few = pieces_few c.as_slice.result.now c.args.self.now.versions (are c);
  within = λ block size. pieces_lie c.as_slice.result.now c.args.self.now.versions block size (are c);
}
