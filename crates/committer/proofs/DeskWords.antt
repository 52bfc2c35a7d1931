-- The words that the proofs of this crate cite from elsewhere.
pub use Rattle.std.proofs.Common.{ap, rules, subst, sym, ◌∙◌, ◌∷◌, ◌≡◌}
pub use Rattle.atomic_table.specs.Table.{Me, rest}
pub use mathlib.Core.Option.{some-injective}
pub use Rattle.committer.specs.{declared.protocol.Message.Message, declared.protocol.Message.TheVariants.{Empty, Request, Response}, declared.protocol.Side.Side, declared.protocol.Side.TheVariants.{Left, Resting, Serving}}
