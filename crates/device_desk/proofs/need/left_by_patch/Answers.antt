use Rattle.std.proofs.Common.{◌∙◌, ◌+◌, ℕ, ap, sym}
use Rattle.device_desk.proofs.Needs.{bytes_of_pieces, taken_by}

pub loop-bytes-init : Rattle.device_desk.proofs.need.left_by_patch.Goals.loop-bytes-init
loop-bytes-init c = (
  tt,
  tt,
  λ b. ap (λ (n : ℕ). c.args.room + n) (sym (ap bytes_of_pieces (c.into_iter-bytes-iterator.ensures.into_iter_gives ∙ c.spans-bytes-items.ensures) ∙ taken_by b c.args.patch.now)),
)
