use Rattle.std.{proofs.Common.{List, ◌++◌, ◌≡◌, ◌+◌, length, take, drop, refl, sym, ◌∙◌, ap, subst, arith, rules}, proofs.lemmas.List.with_items_is}
use Rattle.iso_disk.{specs.Disk.spliced}
use Rattle.iso_model.{proofs.ByteLists.{bytes_append, bytes_drop, bytes_take}, specs.Premises.AreBytes}
use Rattle.iso_memdisk.specs.{declared.record.Call.Call, Record.{AllFit, written}}
use Rattle.queued_disk.{proofs.Standing.{fits_write, holds_write}, specs.Queued.{given, handed_on, tape_of, bytes_of}}
use Rattle.queued_disk.proofs.queued.QueuedDisk.try_write.Goals as goal

pub invariant_of-self-2-clause-same_size : goal.invariant_of-self-2-clause-same_size
invariant_of-self-2-clause-same_size c =
    let d = c.args.self.now in
    let len : length c.lay.new.image ≡ d.bytes.len = c.lay.auto.image ∙ c.deref_mut.ensures.len in
    d.same_size ∙ sym (d.bytes.ok.0) ∙ sym len ∙ ap length (sym (with_items_is d.bytes c.lay.new.image len))

pub invariant_of-self-2-clause-writes_fit : goal.invariant_of-self-2-clause-writes_fit
invariant_of-self-2-clause-writes_fit c =
    let d = c.args.self.now in
    let n = length (given d) in
    let put : c.in_ok-put.put.items ≡ c.args.bytes.now = search rules in
    subst (λ (l : List Call). AllFit n (handed_on d ++ l)) (sym c.in_ok-push.ensures.items) (fits_write (handed_on d) (tape_of d) n c.args.at c.in_ok-put.put d.writes_fit (omega (arith, ap length put, d.same_size)))

pub invariant_of-self-2-clause-holds : goal.invariant_of-self-2-clause-holds
invariant_of-self-2-clause-holds c =
    let d = c.args.self.now in
    let put : c.in_ok-put.put.items ≡ c.args.bytes.now = search rules in
    let len : length c.lay.new.image ≡ d.bytes.len = c.lay.auto.image ∙ c.deref_mut.ensures.len in
    let new : c.lay.new.image ≡ spliced (bytes_of d) c.args.at c.in_ok-put.put.items = c.lay.ensures ∙ (λ i. spliced (c.deref_mut.ensures.value i) c.args.at (sym put i)) in
    let all = holds_write (handed_on d) (tape_of d) (given d) (bytes_of d) c.lay.new.image c.args.at c.in_ok-put.put d.holds new in
    with_items_is d.bytes c.lay.new.image len ∙ all ∙ ap (λ (l : List Call). written (handed_on d ++ l) (given d)) (sym c.in_ok-push.ensures.items)

pub invariant_of-self-2-clause-told_bytes : goal.invariant_of-self-2-clause-told_bytes
invariant_of-self-2-clause-told_bytes c =
    let d = c.args.self.now in
    let old = c.deref_mut.result.now in
    let len : length c.lay.new.image ≡ d.bytes.len = c.lay.auto.image ∙ c.deref_mut.ensures.len in
    let were : AreBytes old = subst AreBytes (sym c.deref_mut.ensures.value) d.told_bytes in
    let put : AreBytes c.args.bytes.now = λ i. omega (arith, c.type_inv.bytes i) in
    let end = c.args.at + length c.args.bytes.now in
    let all : AreBytes (spliced old c.args.at c.args.bytes.now) =
    bytes_append (take c.args.at old ++ c.args.bytes.now) (drop end old) (bytes_append (take c.args.at old) c.args.bytes.now (bytes_take c.args.at old were) put) (bytes_drop end old were) in
    subst AreBytes (sym (with_items_is d.bytes c.lay.new.image len ∙ c.lay.ensures)) all

pub returns-clause-ok : goal.returns-clause-ok
returns-clause-ok c =
    let put : c.in_ok-put.put.items ≡ c.args.bytes.now = search rules in
    (c.in_ok-put.put, put, record { given = refl; past = refl; tape = c.in_ok-push.ensures.items })
