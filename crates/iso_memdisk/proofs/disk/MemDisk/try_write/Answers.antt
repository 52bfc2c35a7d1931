use Rattle.iso_memdisk.proofs.{Words.{Vec, ℕ, Option, List, [], ◌∷◌, ◌++◌, ◌≡◌, ◌+◌, length, take, drop, sym, ◌∙◌, ap, subst, arith, rules, with_items_is, Global, AreBytes, bytes_append, bytes_drop, bytes_take, spliced, Call, Write, held, written, AllFit}, Calls.{AllFit-push, written-append, length-written}}
use Rattle.iso_memdisk.proofs.disk.MemDisk.try_write.Goals as goal

pub lay-requires : goal.lay-requires
lay-requires c =
    let d = c.make_copy.new.self in
    let is = ap (λ (o : Option (Vec ℕ Global)). held o d.first.items) c.in-Some.is in
    let size = ap length (c.deref_mut.ensures.value ∙ sym is ∙ d.holds) ∙ length-written d.history.items d.first.items d.writes_fit in
    omega (arith, size, ap length c.make_copy.ensures.untouched.first)

pub invariant_of-self-in-Some-clause-writes_fit : goal.invariant_of-self-in-Some-clause-writes_fit
invariant_of-self-in-Some-clause-writes_fit c =
    let d = c.make_copy.new.self in
    let n = length d.first.items in
    let put : c.in_ok-put.put.items ≡ c.args.bytes.now = search rules in
    subst (AllFit n) (sym c.in_ok-push.ensures.items) (AllFit-push n d.history.items c.args.at c.in_ok-put.put d.writes_fit (omega (arith, ap length put, ap length c.make_copy.ensures.untouched.first)))

pub invariant_of-self-in-Some-clause-holds : goal.invariant_of-self-in-Some-clause-holds
invariant_of-self-in-Some-clause-holds c =
    let d = c.make_copy.new.self in
    let first = d.first.items in
    let calls = d.history.items in
    let put : c.in_ok-put.put.items ≡ c.args.bytes.now = search rules in
    let is = ap (λ (o : Option (Vec ℕ Global)). held o first) c.in-Some.is in
    let old : c.deref_mut.result.now ≡ written calls first = c.deref_mut.ensures.value ∙ sym is ∙ d.holds in
    let len : length c.lay.new.image ≡ c.in-Some.copy.len = c.lay.auto.image ∙ c.deref_mut.ensures.len in
    let new : c.lay.new.image ≡ spliced (written calls first) c.args.at c.in_ok-put.put.items = c.lay.ensures ∙ (λ i. spliced (old i) c.args.at (sym put i)) in
    with_items_is c.in-Some.copy c.lay.new.image len ∙ new ∙ sym (written-append calls (Write c.args.at c.in_ok-put.put ∷ []) first)
    ∙ ap (λ (l : List Call). written l first) (sym c.in_ok-push.ensures.items)

pub invariant_of-self-in-Some-clause-told_bytes : goal.invariant_of-self-in-Some-clause-told_bytes
invariant_of-self-in-Some-clause-told_bytes c =
    let d = c.make_copy.new.self in
    let is = ap (λ (o : Option (Vec ℕ Global)). held o d.first.items) c.in-Some.is in
    let old : c.deref_mut.result.now ≡ held d.copy d.first.items = c.deref_mut.ensures.value ∙ sym is in
    let len : length c.lay.new.image ≡ c.in-Some.copy.len = c.lay.auto.image ∙ c.deref_mut.ensures.len in
    let were : AreBytes c.deref_mut.result.now = subst AreBytes (sym old) d.told_bytes in
    let put : AreBytes c.args.bytes.now = λ i. omega (arith, c.type_inv.bytes i) in
    let all : AreBytes (spliced c.deref_mut.result.now c.args.at c.args.bytes.now) =
    bytes_append (take c.args.at c.deref_mut.result.now ++ c.args.bytes.now) (drop (c.args.at + length c.args.bytes.now) c.deref_mut.result.now)
    (bytes_append (take c.args.at c.deref_mut.result.now) c.args.bytes.now (bytes_take c.args.at c.deref_mut.result.now were) put)
    (bytes_drop (c.args.at + length c.args.bytes.now) c.deref_mut.result.now were) in
    subst AreBytes (sym (with_items_is c.in-Some.copy c.lay.new.image len ∙ c.lay.ensures)) all

pub returns-in-Some-clause-ok : goal.returns-in-Some-clause-ok
returns-in-Some-clause-ok c =
    let put : c.in_ok-put.put.items ≡ c.args.bytes.now = search rules in
    (c.in_ok-put.put, put, record { first = c.make_copy.ensures.untouched.first; history = c.in_ok-push.ensures.items ∙ ap (λ (l : List Call). l ++ Write c.args.at c.in_ok-put.put ∷ []) c.make_copy.ensures.untouched.history })
