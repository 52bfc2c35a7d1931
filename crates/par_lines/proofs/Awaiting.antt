-- Looks for a label that is not held.
use Rattle.par_lines.proofs.Words.{◌≡◌, ℕ, zero, suc, ◌+◌, ◌-◌, ◌<◌, ◌≤◌, List, [], ◌∷◌, ◌++◌, Option, Some, None, ap, inl, refl, replicate, sym, subst, ◌∙◌, arith, IsSome, Result, Ok, Err, is_some, option_map, append-nil, HasLooked, Moves, moves_made, moves_none, moves_on, Mode, InTx, Reply, step, Entry, Start, Stop, MAX_LOOKS, Own, Did, Does, LooksFor, Answered, SessionState}
use Rattle.std.specs.Prelude.{true, false}
use Rattle.script_model.specs.declared.script.Op.TheVariants as op
use Rattle.script_model.specs.declared.script.Reply.TheVariants as reply
use Rattle.iso_shared.specs.declared.entry.Entry.TheVariants as entry

-- n looks in a row that find nothing, and what comes after them
looks : (label : List ℕ) (most n : ℕ) → n ≤ most → (es : List Entry) (r : Result Reply Stop) (own' : Option Own) → LooksFor label (most - n) es r own'
    → LooksFor label most (replicate n (entry.Look label None) ++ es) r own'
looks label most zero few es r own' rest = let same : most - 0 ≡ most = omega arith in subst (λ m. LooksFor label m es r own') same rest
looks label most (suc n) few es r own' rest =
    let same : most - suc n ≡ most - 1 - n = omega arith in
    (omega arith, refl, looks label (most - 1) n (omega arith) es r own' (subst (λ m. LooksFor label m es r own') same rest))

one_behind : {X : Type 0} (n : ℕ) (x : X) → replicate n x ++ x ∷ [] ≡ replicate (n + 1) x
one_behind zero x = refl
one_behind (suc n) x =
    let more : replicate (n + 1) x ≡ replicate n x ++ x ∷ [] = sym (one_behind n x) in
    let next : suc n + 1 ≡ suc (n + 1) = omega arith in
    ap (λ l. x ∷ l) (one_behind n x) ∙ ap (λ m. replicate m x) (sym next)

in_tx : (g : Start) (o : Own) (label : List ℕ) → Does g.world.geometry g.tells (Some o) (op.Await label) [] (Ok reply.InTx) (Some o)
unfolding step
in_tx g o label = (refl, refl, refl)

-- a session has looked so often, and found nothing
pub record Looking (s : SessionState) (label : List ℕ) (number : ℕ) (t : SessionState) : Type 0 where
  pub none : s.own ≡ None
  pub still : t.own ≡ None
  pub moves : Moves s t (replicate number (entry.Look label None))
  pub of : t.device ≡ s.device
  pub units : t.units ≡ s.units

pub not_yet : (s : SessionState) (label : List ℕ) → s.own ≡ None → Looking s label 0 s
not_yet s label none = record { none = none; still = none; moves = moves_none s; of = refl; units = refl }

pub not_now : (A : Start) (s t u : SessionState) (label : List ℕ) (n : ℕ) → Looking s label n t → HasLooked A t label (Ok None) u → Looking s label (n + 1) u
not_now A s t u label n l h = record {
  none = l.none;
  still = h.1;
  moves = subst (λ es. Moves s u es) (one_behind n (entry.Look label None)) (moves_on s t u (replicate n (entry.Look label None)) (entry.Look label None ∷ []) l.moves (moves_made A t u (entry.Look label None) h.2));
  of = h.2.of ∙ l.of;
  units = h.2.units ∙ l.units;
}

awaits : (A : Start) (s t : SessionState) (label : List ℕ) (es : List Entry) (r : Result Reply Stop) → s.own ≡ None → Moves s t es → t.device ≡ s.device
    → LooksFor label MAX_LOOKS es r t.own → Answered A s (op.Await label) r t
awaits A s t label es r none moves of does = record {
  entries = es;
  moves = moves;
  did = inl (subst (λ w. Does A.world.geometry A.tells w (op.Await label) es r t.own) (sym none) does);
  of = of;
}

pub found : (A : Start) (s t u : SessionState) (label : List ℕ) (n at : ℕ) → n < MAX_LOOKS → Looking s label n t → HasLooked A t label (Ok (Some at)) u
    → Answered A s (op.Await label) (Ok (reply.Began at)) u
found A s t u label n at few l h =
    awaits A s u label (replicate n (entry.Look label None) ++ entry.Look label (Some h.1) ∷ []) (Ok (reply.Began at)) l.none
    (moves_on s t u (replicate n (entry.Look label None)) (entry.Look label (Some h.1) ∷ []) l.moves (moves_made A t u (entry.Look label (Some h.1)) h.4)) (h.4.of ∙ l.of)
    (looks label MAX_LOOKS n (omega arith) (entry.Look label (Some h.1) ∷ []) (Ok (reply.Began at)) u.own (omega arith, refl, ap (λ k. Ok (reply.Began k)) h.3, h.2))

pub never_found : (A : Start) (s t : SessionState) (label : List ℕ) (n : ℕ) → n ≡ MAX_LOOKS → Looking s label n t → Answered A s (op.Await label) (Ok reply.NoHandle) t
never_found A s t label n all l =
    awaits A s t label (replicate n (entry.Look label None)) (Ok reply.NoHandle) l.none l.moves l.of
    (subst (λ es. LooksFor label MAX_LOOKS es (Ok reply.NoHandle) t.own) (append-nil (replicate n (entry.Look label None)))
    (looks label MAX_LOOKS n (omega arith) [] (Ok reply.NoHandle) t.own (omega arith, refl, l.still)))

-- a session that has found nothing is in no transaction
pub not_in_tx : (A : Start) (s t u : SessionState) (label : List ℕ) (n : ℕ) (e : InTx) (P : Type 0) → Looking s label n t → HasLooked A t label (Err e) u → P
not_in_tx A s t u label n e P l h = absurd (cc (subst IsSome l.still h.0))

pub answers_in_tx : (A : Start) (s : SessionState) (label : List ℕ) (mode : Option Mode) → mode ≡ option_map (λ (o : Own). o.mode) s.own → is_some mode ≡ true → Answered A s (op.Await label) (Ok reply.InTx) s
answers_in_tx A s label mode is some = by s.own refl
  where
    by : (was : Option Own) → s.own ≡ was → Answered A s (op.Await label) (Ok reply.InTx) s
    by None e = absurd (cc (sym some ∙ ap is_some is ∙ ap (λ w. is_some (option_map (λ (o : Own). o.mode) w)) e))
    by (Some o) e = record { entries = []; moves = moves_none s; did = subst (λ w. Did A.world.geometry A.tells w (op.Await label) [] (Ok reply.InTx) w) (sym e) (inl (in_tx A o label)); of = refl }

pub is_none : (s : SessionState) (mode : Option Mode) → mode ≡ option_map (λ (o : Own). o.mode) s.own → is_some mode ≡ false → s.own ≡ None
is_none s mode is none = by s.own refl
  where
    by : (was : Option Own) → s.own ≡ was → s.own ≡ None
    by None e = e
    by (Some o) e = absurd (cc (sym none ∙ ap is_some is ∙ ap (λ w. is_some (option_map (λ (o : Own). o.mode) w)) e))
