use Rattle.iso_core.proofs.{Words.{◌≡◌, ◌∙◌, inl, inr, sym, ap, subst, ℕ, ◌+◌, ◌*◌, ◌<◌, Option, arith, transport, unwrap_or, HalfPlace, Geometry, base_place, image_size, limits, AllLie, IsOverIn}, Fetches.{range_is, versions_lie}, Leaves.begins_at, Standings.stands_still}

pub versions_at-versions-requires-clause-within : Rattle.iso_core.proofs.core_itself.Core.fetch_range.Goals.versions_at-versions-requires-clause-within
versions_at-versions-requires-clause-within g c =
    let (W, standing, t, of, here, below, long) = c.requires.stands in
    omega (arith, long, (limits W.geometry of.kept_of.world.valid).largest_block, c.requires.fits)

pub read_by-requires-clause-size : Rattle.iso_core.proofs.core_itself.Core.fetch_range.Goals.read_by-requires-clause-size
read_by-requires-clause-size g c =
    let (W, standing, t, of, here, below, long) = c.requires.stands in
    omega (arith, long, (limits W.geometry of.kept_of.world.valid).largest_block)

pub read_by-requires-clause-versions : Rattle.iso_core.proofs.core_itself.Core.fetch_range.Goals.read_by-requires-clause-versions
read_by-requires-clause-versions g c =
    let (W, standing, t, of, here, below, long) = c.requires.stands in
    transport (λ i. AllLie (sym long i) (sym of.size i) c.versions_at-versions.result.now)
    (c.versions_at-versions.ensures.lie W.geometry.block (image_size W.geometry) (versions_lie c.args.self.now.kept W of.kept_of c.args.block))

pub returns-in-Ok-clause-range : Rattle.iso_core.proofs.core_itself.Core.fetch_range.Goals.returns-in-Ok-clause-range
returns-in-Ok-clause-range g c W t of here = λ image told.
    let (V, standing, u, stands, live, low, size_is) = c.requires.stands in
    let same : V.geometry ≡ W.geometry = sym stands.kept_of.keeps.geometry ∙ of.kept_of.keeps.geometry in
    let below = subst (λ (h : Geometry). c.args.block < h.blocks) same low in
    let long = size_is ∙ ap (λ (h : Geometry). h.block) same in
    let kept = c.args.self.now.kept in
    let begin = c.unwrap_or-at.ensures ∙ ap (λ (o : Option ℕ). unwrap_or o c.last-last.result) (c.at.ensures ∙ begins_at kept W c.args.tx t of.kept_of here) in
    let place : c.half_place-place.result.base ≡ base_place W.geometry kept.half = ap (λ (p : HalfPlace). p.base) c.half_place-place.ensures ∙ ap (λ (h : Geometry). base_place h kept.half) of.kept_of.keeps.geometry in
    let size = ap (λ (h : Geometry). h.block) of.kept_of.keeps.geometry in
    let base : c.half_place-place.result.base + c.from.result * c.from-2.result ≡ base_place W.geometry kept.half + c.args.block * W.geometry.block =
    λ i. place i + c.from.ensures i * (c.from-2.ensures ∙ size) i in
    range_is kept W of.kept_of t c.args.tx c.args.block c.unwrap_or-at.result c.args.off c.args.len c.versions_at-versions.result.now image c.read_by.new.into here begin
    (of.images.each image ((g.met.D.Disk.lawful c.args.self.now.disk).reads_as_image image told)) below (omega (arith, c.requires.fits, long)) (omega (arith, c.requires.fits, c.read_by.auto.into))
    (subst (λ (n : ℕ). IsOverIn c.args.off (c.args.off + c.args.len) image n c.versions_at-versions.result.now c.read_by.new.into) base (c.in-Ok.ensures.bytes image told))
    (elim c.versions_at-versions.ensures.chosen [ inl same ↦ inl same | inr shows ↦ inr (shows.0 ∙ c.last-last.ensures, shows.1) ])

pub returns-in-Ok-clause-same : Rattle.iso_core.proofs.core_itself.Core.fetch_range.Goals.returns-in-Ok-clause-same
returns-in-Ok-clause-same g c W standing of =
    stands_still (g.D.Disk.state c.args.self.now.disk) (g.D.Disk.state c.read_by.new.disk) c.args.self.now.kept W standing (g.met.D.Disk.lawful c.read_by.new.disk) of c.read_by.ensures.unwritten

pub returns-in-Err-clause-same : Rattle.iso_core.proofs.core_itself.Core.fetch_range.Goals.returns-in-Err-clause-same
returns-in-Err-clause-same g c W standing of =
    stands_still (g.D.Disk.state c.args.self.now.disk) (g.D.Disk.state c.read_by.new.disk) c.args.self.now.kept W standing (g.met.D.Disk.lawful c.read_by.new.disk) of c.read_by.ensures.unwritten
