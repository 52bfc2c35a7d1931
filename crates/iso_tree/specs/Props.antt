-- The recursive words of a way up have one proof at most, so a ghost field may cite them.
use Rattle.std.{specs.Prelude.{ℕ, List, [], ◌∷◌}, proofs.Props.props, specs.Coded.{×_prop, Unit-prop}}
use Rattle.store_model.specs.declared.stores.Area.{Area}
use Rattle.iso_tree.specs.Rows.{AreBlocks, AreInside, AreUsable}

pub AreInside-prop : (a : Area) (path : List (ℕ × ℕ)) → IsProp (AreInside a path)
AreInside-prop a [] = Unit-prop
AreInside-prop a (p ∷ path) = ×_prop (Prim.hlevel props) (AreInside-prop a path)

pub AreBlocks-prop : (a : Area) (blocks : List ℕ) → IsProp (AreBlocks a blocks)
AreBlocks-prop a [] = Unit-prop
AreBlocks-prop a (b ∷ blocks) = ×_prop (Prim.hlevel props) (AreBlocks-prop a blocks)

pub AreUsable-prop : (size : ℕ) (nodes : List ℕ) (path : List (ℕ × ℕ)) → IsProp (AreUsable size nodes path)
AreUsable-prop size nodes [] = Unit-prop
AreUsable-prop size nodes (p ∷ path) = ×_prop (Prim.hlevel props) (AreUsable-prop size _ path)

-- for `by { Prim.hlevel row_props }` after a ghost field
pub ruleset row_props = (props, AreInside-prop, AreBlocks-prop, AreUsable-prop)
