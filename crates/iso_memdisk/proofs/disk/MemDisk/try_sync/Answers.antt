use Rattle.iso_memdisk.proofs.{Words.{List, [], ◌∷◌, ◌++◌, ◌≡◌, length, is_ok, sym, ◌∙◌, ap, subst, Call, Sync, held, written, AllFit}, Calls.{AllFit-if, AllFit-sync, written-if, written-append}}

pub invariant_of-self-clause-writes_fit : Rattle.iso_memdisk.proofs.disk.MemDisk.try_sync.Goals.invariant_of-self-clause-writes_fit
invariant_of-self-clause-writes_fit c =
    let d = c.args.self.now in
    let n = length d.first.items in
    let calls = d.history.items in
    subst (AllFit n) (sym c.push.ensures.items) (AllFit-if n (is_ok c.push.result) (calls ++ Sync ∷ []) calls (AllFit-sync n calls d.writes_fit) d.writes_fit)

pub invariant_of-self-clause-holds : Rattle.iso_memdisk.proofs.disk.MemDisk.try_sync.Goals.invariant_of-self-clause-holds
invariant_of-self-clause-holds c =
    let d = c.args.self.now in
    let calls = d.history.items in
    let same : held d.copy d.first.items ≡ written (calls ++ Sync ∷ []) d.first.items = d.holds ∙ sym (written-append calls (Sync ∷ []) d.first.items) in
    written-if (is_ok c.push.result) (calls ++ Sync ∷ []) calls d.first.items (held d.copy d.first.items) same d.holds ∙ ap (λ (l : List Call). written l d.first.items) (sym c.push.ensures.items)
