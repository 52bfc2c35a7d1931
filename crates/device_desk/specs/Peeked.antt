-- What a read is answered that is no access.
use Rattle.std.specs.Prelude.{ℕ, if◌then◌else◌, drop, nat_le, take}
use Rattle.iso_model.specs.{Marks.is_outside, Step.shown_to, World.{Live, World, attached}}
use Rattle.script_model.specs.{declared.script.Reply.Reply, Step.in_transaction}
use Rattle.script_model.specs.declared.script.Reply.TheVariants as reply

-- the bytes that a get shows the transaction, however many accesses it has made
abbrev pub peek_reply : World → Live → (block off len : ℕ) → Reply
peek_reply W t block off len =
    if nat_le W.geometry.blocks block then reply.BadBlock
    else if is_outside W.geometry.block off len then reply.BadRange
    else reply.Shown (take len (drop off (shown_to W t block)))

-- and the world stays
abbrev pub peeked : World → (number block off len : ℕ) → Reply × World
peeked W number block off len = in_transaction W (attached W number) (λ t. (peek_reply W t block off len, W))
