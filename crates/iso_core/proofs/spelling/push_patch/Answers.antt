use Rattle.iso_core.proofs.{Words.{◌≡◌, ◌∙◌, ◌++◌, sym, refl, ap, ℕ, List, map, subst, AllByRecursion, Run, Span, runs_from, piece, run_of, pieces_of_any_block, runs_back, part_of}, Spellings.{IsWhole, pieces_whole}}

pub loop-span-init : Rattle.iso_core.proofs.spelling.push_patch.Goals.loop-span-init
loop-span-init c =
    let b : ℕ = c.args.block in
    let is : c.into_iter-span-iterator.result ≡ map piece (runs_from 0 0 c.args.patch.now) = c.into_iter-span-iterator.ensures.into_iter_gives ∙ c.spans-span-items.ensures in
    let back : map (run_of b) c.into_iter-span-iterator.result ≡ runs_from b 0 c.args.patch.now =
    ap (map (run_of b)) (is ∙ pieces_of_any_block 0 b 0 c.args.patch.now) ∙ runs_back b 0 c.args.patch.now in (
      tt,
      tt,
      refl,
      ap (λ (l : List Run). c.args.buffer.now.parts ++ l) back,
      ap (λ (l : List Run). c.args.parts.now.items ++ map part_of l) back,
      subst (λ (l : List (Span × List ℕ)). AllByRecursion IsWhole l) (sym is) (pieces_whole (runs_from 0 0 c.args.patch.now)),
    )
