use Rattle.store_calls.proofs.{Words.{◌≡◌, [], sym, refl, ap, ◌&&◌, ◌==◌, Bool, true, false, cond, ℕ, List, Err, eq-eqb, arith, Area, BadKey, Array, is_key, pairs_reply, Done, Program, outcome, Scanned, scan_below, scan_program, with_head, area_of, stored}, Called.{no_more, scan_refused}}
use Rattle.script_model.specs.declared.script.Reply.TheVariants as reply

not_both : (x y z : Bool) → (x && y && z) ≡ false → z ≡ true → (x && y) ≡ false
not_both true true true e t = e
not_both true true false e t = sym t
not_both true false z e t = refl
not_both false y z e t = refl

-- a scan of which one key is none
no_key : (a : Area) (from to : List ℕ) (most room : ℕ) (A : Array) → (is_key from && is_key to) ≡ false → stored pairs_reply (outcome room (scan_program a from to most) A) ≡ ([], reply.BadKey)
unfolding scan_program
no_key a from to most room A bad =
    let call : Bool → Program Scanned = λ t. cond t (with_head a (scan_below a from to most)) (Done (Err BadKey)) in
    ap (λ t. stored pairs_reply (outcome room (call t) A)) bad

pub returns-then-most-eq0-clause-called : Rattle.store_calls.proofs.range.scan.Goals.returns-then-most-eq0-clause-called
returns-then-most-eq0-clause-called g c =
    let t = g.T.TxBlocks.state c.args.tx.now in
    let none : (c.args.most == 0) ≡ true = eq-eqb c.args.most 0 (omega (arith, c.if-most-eq0.true)) in
    record {
      done = [];
      is = no_more t;
      told = λ A told. no_key (area_of t c.args.region) c.args.from.now c.args.to.now c.args.most _ _ (not_both (is_key c.args.from.now) (is_key c.args.to.now) (c.args.most == 0) c.requires.some none);
      stopped = tt;
    }

pub returns-in-Err : Rattle.store_calls.proofs.range.scan.Goals.returns-in-Err
returns-in-Err g c =
    let t = g.T.TxBlocks.state c.args.tx.now in
    let both = scan_refused t (g.T.TxBlocks.state c.scan.new.tx) pairs_reply (g.T.TxBlocks.device c.args.tx.now) (g.T.TxBlocks.device c.scan.new.tx) 1 c.requires.is_open c.refusal.result
    (scan_program (area_of t c.args.region) c.args.from.now c.args.to.now c.args.most) c.in-Err.error c.refusal.ensures c.in-Err.ensures.ended c.in-Err.ensures.cause in
    record { called = both.0; stops = both.1 }
