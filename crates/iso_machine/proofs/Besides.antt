-- A core that represents a world represents each that differs from it in accesses and places alone.
use Rattle.iso_machine.proofs.Words.{◌≡◌, ◌∙◌, refl, sym, ap, subst, ℕ, ◌≤◌, List, map, DiskState, last, with_live, World, Live, floor_of, IsWorld, Core, StandsFor, bare, up, stands_on, kept_floor}

pub stands_besides : {D : Type 0} (state : D → DiskState) (core : Core D) (W : World) (live : List Live) → StandsFor state core W up
    → IsWorld (with_live W live) → map bare live ≡ map bare W.live → StandsFor state core (with_live W live) up
stands_besides state core W live of is same =
    let floors : floor_of (last W.history) W.live ≡ floor_of (last W.history) live =
    sym (kept_floor (last W.history) W.live) ∙ ap (floor_of (last W.history)) (sym same) ∙ kept_floor (last W.history) live in
    stands_on (state core.disk) core.kept core.kept W up live W.next W.trim of refl refl (record {
      world = is;
      keeps = record {
        geometry = of.kept_of.keeps.geometry;
        half = of.kept_of.keeps.half;
        generation = of.kept_of.keeps.generation;
        base = of.kept_of.keeps.base;
        trim = of.kept_of.keeps.trim;
        next = of.kept_of.keeps.next;
        log = of.kept_of.keeps.log;
        index = of.kept_of.keeps.index;
        notes = record {
          from = of.kept_of.keeps.notes.from;
          before = subst (λ (n : ℕ). of.kept_of.keeps.notes.from ≤ n) floors of.kept_of.keeps.notes.before;
          notes = of.kept_of.keeps.notes.notes;
        };
        live = of.kept_of.keeps.live ∙ sym same;
      };
    })
