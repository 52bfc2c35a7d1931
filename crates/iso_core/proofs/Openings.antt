-- A core that was just opened.
use Rattle.iso_core.proofs.Words.{◌≡◌, ◌∙◌, sym, ap, ℕ, ◌+◌, ◌-◌, ◌<◌, List, [], map, arith, subst, AreNotesAfter, Note, none_after, transport, extent_of, half_of_world, log_place, History, last, IsIndexOf, at_work, Begun, Kept, Opened, IsOf, IsOpenedTo, opened_world}

pub opens_so : (H : History) (opened : Opened) (kept : Kept) → IsOpenedTo H opened → kept.geometry ≡ opened.geometry → kept.half ≡ opened.half → kept.generation ≡ opened.generation
    → kept.base ≡ opened.base → kept.trim ≡ opened.base → kept.next ≡ 1 → kept.log ≡ opened.log → kept.index ≡ opened.index → kept.notes.notes ≡ [] → kept.live ≡ []
    → IsOf kept (opened_world H opened)
opens_so H opened kept is geometry half generation base trim next log index notes live =
    let first : 0 < H.first = is.world.history.first in
    let base_is : opened.base ≡ H.first - 1 = omega (arith, is.base, first) in
    record {
      world = is.world;
      keeps = record {
        geometry = geometry;
        half = omega (arith, half, is.half);
        generation = generation;
        base = base ∙ base_is;
        trim = trim ∙ base_is;
        next = next;
        log = log ∙ is.log ∙ (λ i. extent_of opened.geometry (half_of_world (opened_world H opened) (sym half i)));
        index = transport (λ i. IsIndexOf opened.geometry (base_is i + 1) (log_place opened.geometry (sym half i)) (base_is i) (half_of_world (opened_world H opened) (sym half i)).told (sym index i)) is.index;
        notes = record {
          from = last H;
          before = omega arith;
          notes = subst (λ (l : List Note). AreNotesAfter opened.geometry H (last H) l) (sym notes) (none_after opened.geometry H (last H) (omega (arith, first)));
        };
        live = ap (λ (l : List (ℕ × Begun)). map at_work l) live;
      };
    }
