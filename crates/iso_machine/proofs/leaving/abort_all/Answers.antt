use Rattle.iso_machine.proofs.{Words.{◌≡◌, ◌∙◌, inl, sym, refl, subst, List, ◌∷◌, map, eq-eqb, with_live, World, Live, without, AreDistinct, IsTx, StandsFor, up, Attached, live_of}, Lists.without_others}

first_is_tx : (W : World) (a : Attached) (others rest : List Attached) → rest ≡ a ∷ others → IsTx (with_live W (map live_of rest)) a.tx (live_of a)
first_is_tx W a others rest is = subst (λ (l : List Attached). IsTx (with_live W (map live_of l)) a.tx (live_of a)) (sym is) (record { number = refl; among = inl refl })

others_stay : (a : Attached) (others rest : List Attached) → rest ≡ a ∷ others → AreDistinct (map live_of rest) → without a.tx (map live_of rest) ≡ map live_of others
others_stay a others rest is =
    subst (λ (l : List Attached). AreDistinct (map live_of l) → without a.tx (map live_of l) ≡ map live_of others) (sym is)
    (λ distinct. rw (eq-eqb a.tx a.tx refl) (without_others (live_of a) a.tx (map live_of others) distinct.0 refl))

pub abort-requires : Rattle.iso_machine.proofs.leaving.abort_all.Goals.abort-requires
abort-requires g c =
    let (W, of) = c.requires in (
      with_live W (map live_of c.loop-first.rest.now),
      up,
      live_of c.in-Some.first.now,
      c.loop-first.invariant.stands W of,
      first_is_tx W c.in-Some.first.now c.in-Some.others.now c.loop-first.rest.now c.in-Some.ensures.cases.0,
    )

pub loop-first-preserved : Rattle.iso_machine.proofs.leaving.abort_all.Goals.loop-first-preserved
loop-first-preserved g c =
    let rest = c.loop-first.rest.now in
    let first = c.in-Some.first.now in
    let others = c.in-Some.others.now in
    record {
      stands = λ W of.
          let was = c.loop-first.invariant.stands W of in
          subst (λ (l : List Live). StandsFor g.D.Disk.state c.abort.new.self (with_live W l) up) (others_stay first others rest c.in-Some.ensures.cases.0 was.kept_of.world.distinct)
          (c.abort.ensures.left (with_live W (map live_of rest)) up (live_of first) was (first_is_tx W first others rest c.in-Some.ensures.cases.0));
      disk = c.abort.ensures.disk ∙ c.loop-first.invariant.disk;
    }
