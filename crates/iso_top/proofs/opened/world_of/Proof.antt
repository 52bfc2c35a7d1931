-- A value of no bytes, whose ghost field is a world that the core represents: one that the caller has shown to be there.
use mathlib.Core.{Path.{refl, sym, subst}, List.{List, [], ◌∷◌, ◌++◌}}
use Prim.Native.Nat.{ℕ}
use Rattle.iso_top.proofs.Words.{Ghosts, World, BeginsWith, the_row, ended, clauses, Ura, Fn, Dict, dcons, dnil, a_type, Val, vptr, vstruct, vnil, inst_fn, SProp, ent, via, fst∗, snd∗, Fml, Memory, Routine, Calls, Loops, WpFn, Tables, Logic, sem, ◌⊑◌, lft_at, Fun, fact, fact_use, tables, tables_of, WpFn-mono, ‵, raw, ◌⊛◌, ◌$◌, ◌∵◌, !, qed, move, keep, split, join, fjoin, use0, suffices, done, no_more, returns, enter, agg, alloc_all, pass_all, free_all, look_at, sets, RattleType, owns, yes, Are, Ises, owns_show, showss, param, bounded, Laws, makes_shadow, RefOf, types_at, type_at, plain, nothing, heard, Clauses, closing, on_entry, alive, Meets, triple_of, entered, says, Stays, stay_dropped, walk_of, ends_at, Goes-dropped, walk_Meets, #self}
use Rattle.iso_top.proofs.opened.world_of.Statement as stated
use Rattle.iso_top.proofs.opened.world_of.Code as code

module _ (Y : RattleType) (E : Ghosts Y.Denot) (d : Dict) where
  abbrev R : RattleType
  R = param 0 Y

  abbrev function : Fn
  function = inst_fn (bounded (a_type ∷ []) (Y, tt) (dcons d dnil)) code.function

  abbrev stayed : Stays (ended Y E d).signature.params (ended Y E d).kept
  stayed = (stay_dropped (RefOf (0 ∷ []) tt (plain (λ _. the_row R)) (λ _. tt)) yes, tt)

module _ (Y : RattleType) (L : Laws Y) (E : Ghosts Y.Denot) (d : Dict) {M : Type 1} {𝓤 : Ura M} (𝓛 : Logic 𝓤) (at_mem : Memory → SProp 𝓤) (run : Routine → Fun 𝓤) where
  open 𝓛 use {H}

  abbrev held : Clauses 𝓤 (ended Y E d)
  held = clauses Y E d 𝓛 at_mem run

  module _ (C : Calls 𝓤 H) (Λ : Loops 𝓤 H) (z : (walk_of 𝓛 (ended Y E d) (stayed Y E d) held).Ghost) where
    abbrev At : List Val → (walk_of 𝓛 (ended Y E d) (stayed Y E d) held).Ghost
    At us = ((z.0.0, z.0.1, z.0.2, z.0.3, (us, tt)), z.1)

    abbrev Post : List Val → Val → SProp 𝓤
    Post us = (walk_of 𝓛 (ended Y E d) (stayed Y E d) held).post (At us)

    abbrev Goes : List Val → Type 1
    Goes us = ent 𝓤 ((walk_of 𝓛 (ended Y E d) (stayed Y E d) held).pre (At us)) (WpFn 𝓤 H C Λ (function Y E d) (us ++ []) (Post us))

    abbrev b : ℕ
    b = z.0.3.0.ref_ptr.0

    abbrev o : ℕ
    o = z.0.3.0.ref_ptr.1

    abbrev toks : SProp 𝓤
    toks = alive 𝓛 (ended Y E d).signature z.0.0 z.0.1

    abbrev passed : Fml
    passed = owns (types_at (ended Y E d).signature.params z.0.0) z.0.3 (vptr b o ∷ [], tt)

    -- there is a world that the core represents
    abbrev Given : Type 0
    Given = (W : World) × BeginsWith E.state z.0.3.0.now W

    walks : Goes (vptr b o ∷ [])
    walks =
        let v : Val = vstruct vnil in
        qed 𝓛 ((raw toks ⊛ ‵ passed) ∷ (raw (fact 𝓤 (lft_at 2 1 tt z.0.0 ⊑ Y.lives)) ⊛ raw (fact 𝓤 Given)) ∷ []) ∵ split ! $ move ! (2 ∷ []) $ split ! $ keep ! (1 ∷ 2 ∷ []) $
        heard ! _ (λ some.
        let r : denote.Triple.Entry.Res (ended Y E d).signature z.0.0 = record { world = some.0 } in
        let O : Fml = (type_at (ended Y E d).signature.result z.0.0).own_val r (v ∷ []) in
        enter ! C Λ (function Y E d) (vptr b o ∷ []) _ $ alloc_all ! (λ l. pass_all ! refl ((tt, tt), tt) $
        sets ! (agg ! (no_more !)) refl (tt, tt) $
        returns ! (look_at ! 0 refl) $ free_all ! refl $
        use0 𝓛 (‵ O) (makes_shadow 𝓛 O ((λ vss. (tt, tt)), tt) ((tt, (refl, tt)), tt)) $
        suffices ! _ (ends_at 𝓛 (ended Y E d) (stayed Y E d) held (At (vptr b o ∷ [])) v r (tt, tt) (tt, tt)) $ says ! some.1 $
        nothing ! $ nothing ! $ fjoin ! $ join ! $ move ! (1 ∷ 0 ∷ []) $ join ! $ done !))

  meets : (𝓣 : Tables 𝓤 H) → Meets 𝓛 (ended Y E d).signature (WpFn 𝓤 H 𝓣.C 𝓣.Λ (function Y E d)) (closing 𝓛 (ended Y E d) held)
  meets 𝓣 =
      walk_Meets 𝓛 (ended Y E d) (stayed Y E d) (Goes-dropped 𝓛 2 (RefOf (0 ∷ []) tt (plain (λ _. the_row (R Y E d))) (λ _. tt)) yes (λ κs x f. refl), tt) held
      (WpFn 𝓤 H 𝓣.C 𝓣.Λ (function Y E d)) (WpFn-mono 𝓤 H 𝓛.laws 𝓣 (function Y E d))
      (λ z. let a = z.0.3 in let vss = z.0.4 in let Rs : List RattleType = types_at (ended Y E d).signature.params z.0.0 in
      fact_use 𝓤 (Are Rs (Ises Rs) a vss) (via 𝓤 (sem 𝓛 (owns Rs a vss)) (via 𝓤 (on_entry 𝓛 (ended Y E d).signature z.0.0 z.0.1 a vss) (fst∗ 𝓤 (on_entry 𝓛 (ended Y E d).signature z.0.0 z.0.1 a vss) ((held z.0.0 a).requires z.1)) (snd∗ 𝓤 (alive 𝓛 (ended Y E d).signature z.0.0 z.0.1) (sem 𝓛 (owns Rs a vss)))) (owns_show 𝓛 Rs (Ises Rs) (showss 𝓛 Rs) a vss)) (λ are.
      subst (Goes 𝓣.C 𝓣.Λ z) (sym are.0.0) (walks 𝓣.C 𝓣.Λ z)))

pub world_of_spec : {M : Type 1} → stated.statement M
unfolding tables_of
world_of_spec 𝓤 𝓛 𝓜 𝓡 wired Y laws E d met =
    let 𝓣 : Tables 𝓤 𝓛.H = tables_of 𝓤 𝓛.H 𝓜 (tables 𝓤 𝓛.H 𝓜 𝓡 𝓡.env) in
    entered 𝓤 𝓛.H (triple_of 𝓛 (ended Y E d).signature (closing 𝓛 (ended Y E d) (clauses Y E d 𝓛 𝓜.mem 𝓡.returns))) 𝓣.C 𝓣.Λ (#self (bounded (a_type ∷ []) (Y, tt) (dcons d dnil))) (function Y E d) (code.unfolded 𝓤 𝓛.H 𝓜 𝓡 wired (Y, tt) d)
    (meets Y laws E d 𝓛 𝓜.mem 𝓡.returns 𝓣)
