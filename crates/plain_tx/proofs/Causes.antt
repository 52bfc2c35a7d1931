-- Why the calls of a transaction are refused.
use Rattle.std.proofs.{Common.{◌≡◌, ◌∙◌, sym, refl, ap, ℕ, ◌+◌, ◌-◌, ◌*◌, ◌<◌, true, false, List, [], length, Some, None, Result, Ok, Err, take, drop, arith, OnOk}, lemmas.List.FromFn.get_or-map-range_with_len}
use Rattle.iso_model.{specs.declared.access.MarkError.MarkError, specs.Marks.{mark_fault, marked}, specs.Premises.block_at, proofs.Accesses.length-marked}
use Rattle.store_model.specs.declared.stores.TxError.{TxError}
use Rattle.tx_table.specs.Work.{Doing, span_at}
use Rattle.tx_blocks.specs.Tx.{Tx, mark_refusal, marking, IsRefused}
use Rattle.plain_tx.specs.Plain.{blocks_of}

pub mark_refused : (t : Tx) (off len : ℕ) (fault : MarkError) (e : TxError) → t.is_open ≡ true → mark_fault t.size off len t.accesses ≡ Some fault → marking fault ≡ e → IsRefused {T = Unit {0}} (mark_refusal t off len) (λ x. ⊥) (Err e)
mark_refused t off len fault e is_open is same = rw (is_open, is, same) refl

-- a block of the array
pub block_of : (size count : ℕ) (bytes : List ℕ) (b : ℕ) → b < count → block_at (blocks_of size count bytes) b ≡ take size (drop (b * size) bytes)
block_of size count bytes b inside = get_or-map-range_with_len (λ k. take size (drop (k * size) bytes)) 0 count b b [] inside (omega arith)

pub same_some : {X : Type 0} (x y : X) → Some x ≡ Some y → x ≡ y
same_some x y e = cc

-- a work that has as many accesses as before
pub record Keeps (old new : Doing) : Type 0 where
  pub size : new.size ≡ old.size
  pub many : new.blocks ≡ old.blocks
  pub count : length new.accesses ≡ length old.accesses

-- a mark, taken or refused
pub kept : (old new : Doing) (off len : ℕ) (result : Result (Unit {0}) MarkError)
    → OnOk result ((mark_fault old.size off len old.accesses ≡ None) × (new ≡ record old { accesses = marked (span_at off len) old.accesses; settled = false }))
    → ((fault : MarkError) → result ≡ Err fault → (mark_fault old.size off len old.accesses ≡ Some fault) × (new ≡ old)) → Keeps old new
kept old new off len (Ok x) ok err = record {
  size = ap (λ (w : Doing). w.size) ok.1;
  many = ap (λ (w : Doing). w.blocks) ok.1;
  count = ap (λ (w : Doing). length w.accesses) ok.1 ∙ length-marked (span_at off len) old.accesses;
}
kept old new off len (Err fault) ok err = let same = (err fault refl).1 in record {
  size = ap (λ (w : Doing). w.size) same;
  many = ap (λ (w : Doing). w.blocks) same;
  count = ap (λ (w : Doing). length w.accesses) same;
}

-- the bytes that the code copies are the block
pub copied : (size n count b : ℕ) (bytes slice copy : List ℕ) → n ≡ size → b < count → copy ≡ take (b * n + n - b * n) (drop (b * n) slice) → slice ≡ bytes → copy ≡ block_at (blocks_of size count bytes) b
copied size n count b bytes slice copy same inside is slice_is =
    is ∙ ap (λ (x : List ℕ). take (b * n + n - b * n) (drop (b * n) x)) slice_is ∙ ap (λ (m : ℕ). take m (drop (b * n) bytes)) (omega arith)
    ∙ ap (λ (m : ℕ). take m (drop (b * m) bytes)) same ∙ sym (block_of size count bytes b inside)
