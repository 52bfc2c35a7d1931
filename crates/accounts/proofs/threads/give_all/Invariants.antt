use Rattle.accounts.proofs.Words.{◌≡◌, ◌≤◌, None, length, vec_capacity, Gives, opening_of}

abbrev pub invariant-loop-transfer : Rattle.accounts.proofs.threads.give_all.Given.invariant-loop-transfer
invariant-loop-transfer g l = record {
  count : length l.members.items ≡ l.transfer-index;
  room : length l.transfers ≤ vec_capacity l.members;
  given : Gives (opening_of l.accounts) g.O.Origin.start l.transfer-index l.fn.session l.session l.members.items None;
}
