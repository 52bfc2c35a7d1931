use Rattle.iso_fs.proofs.{Words.{◌≡◌, ◌∙◌, sym, ap, subst, ℕ, List, entries_of, high_place, low_place, ArePlaces}, RemoveSteps.{entries_all, places_are}}

pub returns-clause-places : Rattle.iso_fs.proofs.left.ends.Goals.returns-clause-places
returns-clause-places c = c.places.ensures ∙ ap (λ (es : List ℕ). (low_place c.args.file.now.number es, high_place c.args.file.now.number es)) (entries_all c.args.file.now.area c.args.file.now.bytes.now c.args.file.now.count c.args.file.now.counted)

pub returns-clause-within : Rattle.iso_fs.proofs.left.ends.Goals.returns-clause-within
returns-clause-within c =
    let is : ◌≡◌ {A = ℕ × ℕ} c.places.result (low_place c.args.file.now.number (entries_of c.args.file.now.area.size c.args.file.now.bytes.now), high_place c.args.file.now.number (entries_of c.args.file.now.area.size c.args.file.now.bytes.now)) =
    c.places.ensures ∙ ap (λ (es : List ℕ). (low_place c.args.file.now.number es, high_place c.args.file.now.number es)) (entries_all c.args.file.now.area c.args.file.now.bytes.now c.args.file.now.count c.args.file.now.counted) in
    subst (λ (x : ℕ × ℕ). ArePlaces c.args.file.now.area x.0 x.1) (sym is) (places_are c.args.file.now.area c.args.file.now.number c.args.file.now.bytes.now c.args.file.now.kind.least c.args.file.now.kind.most c.args.file.now.inside c.args.file.now.good)
