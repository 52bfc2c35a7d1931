-- An index without versions may take in a few parts.
use Rattle.std.{proofs.Common.{◌≡◌, sym, ℕ, ◌+◌, ◌*◌, ◌^◌, ◌<◌, ◌≤◌, List, [], ◌∷◌, length, map, arith, subst}, specs.List.AllByRecursion, proofs.lemmas.List.Sums.sum_by-cons}
use Rattle.iso_model.specs.{declared.access.Run.Run, Image.AreRuns}
use Rattle.mv_index.specs.Versions.{AreAtMost, BlockVersions, count_of, versions_in}
use Rattle.version_read.{specs.declared.part_span.PartSpan.PartSpan, specs.Parts.{IsPart, MayTake, part_of, parts_length}, proofs.Lying.runs_all, proofs.Taking.parts_all}
use Rattle.test_cores.specs.Small.{small}

short : (n : ℕ) (parts : List PartSpan) → AllByRecursion (IsPart n) parts → parts_length parts ≤ length parts * 4104
short n [] all = omega arith
short n (part ∷ parts) all = omega (arith, sum_by-cons (λ (p : PartSpan). 8 + p.len) part parts, short n parts all.1, all.0.fits)

pub few_parts : (parts : List PartSpan) (runs : List Run) (number gate : ℕ) (index : List BlockVersions) → parts ≡ map part_of runs → AreRuns small runs → length index ≡ 4 → ((b : ℕ) → versions_in index b ≡ []) → count_of index ≡ 0
    → length parts ≤ 100 → gate < 2 ^ 32 → MayTake number gate parts index
few_parts parts runs number gate index is are blocks none count few low =
    let fit : AllByRecursion (IsPart 4) parts = subst (AllByRecursion (IsPart 4)) (sym is) (parts_all small runs (omega arith) (runs_all small runs are)) in
    record {
      parts_fit = subst (λ (n : ℕ). AllByRecursion (IsPart n) parts) (sym blocks) fit;
      rising = λ b. subst (AreAtMost number) (sym (none b)) (λ i below. absurd (omega (arith, below)));
      place = omega (arith, short 4 parts fit, few, low);
      count = omega (arith, count, few);
    }
