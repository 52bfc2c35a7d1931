use Rattle.iso_fs.proofs.{Words.{◌≡◌, subst, [], ◌∷◌, OnOk, Access, with_accesses}, RemoveSteps.left_access}

pub returns : Rattle.iso_fs.proofs.left.store_left.Goals.returns
returns g c = record {
  stored = subst (λ (x : Access). OnOk c.store.result (g.T.TxBlocks.state c.store.new.tx ≡ with_accesses (g.T.TxBlocks.state c.args.tx.now) (x ∷ [])))
      (left_access c.args.file.now.area c.args.file.now.kind c.args.file.now.number c.args.file.now.bytes.now c.args.file.now.inside c.args.file.now.good c.ends-low.result c.ends-low.ensures.places
      c.args.map.now c.give_back.new.map c.give_data.new.map c.piece.result.now c.args.into.now c.lay_alone.new.into c.give_back.ensures.given c.give_data.ensures c.piece.ensures.value c.requires.other c.lay_alone.ensures) c.store.ensures.stored;
  kept = c.store.ensures.kept;
  cause = c.store.ensures.cause;
  room = c.store.ensures.room;
  device = c.store.ensures.device;
}
