-- A list over the image of the tests may begin where a core represents it.
use Rattle.iso_shared.proofs.{Words.{◌≡◌, Some, Result, Ok, Err, IfOk, refl, sym, subst, same_Some, result_ok, Core, StandsFor, disk_of, up, DiskState, IsLawful, empty_history, fresh, start_at, MayStart, small}, Standings.{came_first, holds_first}}

-- what holds of an answer, once it was taken out of its result
pub ok_has : {A E : Type 0} (P : A → Type 0) (r : Result A E) (x : A) → Some x ≡ result_ok r → IfOk r P → P x
ok_has P (Ok y) x same has = subst P (sym (same_Some x y same)) has
ok_has P (Err e) x same has = cc same

pub may_start : {D : Type 0} (disk : D → DiskState) (core : Core D) → IsLawful (disk (disk_of core)) → StandsFor disk core (fresh small 1 (empty_history small)) up
    → MayStart disk (start_at (fresh small 1 (empty_history small)) (disk (disk_of core))) (disk (disk_of core)) core
may_start disk core laws stands = record {
  holds = holds_first disk core (fresh small 1 (empty_history small)) stands;
  live = refl;
  came = came_first disk core (fresh small 1 (empty_history small)) laws stands;
  geometry = refl;
}
