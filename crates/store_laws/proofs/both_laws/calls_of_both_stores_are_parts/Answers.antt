use Rattle.store_model.specs.HashCalls as hash
use Rattle.store_laws.proofs.{Words.{IsHashRegion, hash_map, IsTreeRegion, tree_map, Del, Found, Get, Got, Put, WasPut, WasThere, OnKey, Scan}, BothCalls.{hash_part, tree_part}, KeyCalls.{del_local, got_local, put_local, scan_local}}
use Rattle.store_model.specs.TreeCalls as tree
use Rattle.store_laws.proofs.HashWrites as hash_writes
use Rattle.store_laws.proofs.TreeWrites as tree_writes

pub returns : Rattle.store_laws.proofs.both_laws.calls_of_both_stores_are_parts.Goals.returns
returns _ = record {
  hash_got = λ a b key area apart t u r ended local A parts is.
      hash_part a b (hash.get_program a key) A t u parts (Get key) (Got r) r apart is ended (hash_writes.get_within a key A t u r area is.base ended) (got_local (IsHashRegion a) (hash_map a) key t u r local);
  hash_was_put = λ a b key value area apart t u r ended local A parts is.
      hash_part a b (hash.put_program a key value) A t u parts (Put key value) WasPut r apart is ended (hash_writes.put_within a key value A t u r area is.base ended) (put_local (IsHashRegion a) (hash_map a) key value t u r local);
  hash_was_there = λ a b key area apart t u r ended local A parts is.
      hash_part a b (hash.del_program a key) A t u parts (Del key) (WasThere r) r apart is ended (hash_writes.del_within a key A t u r area is.base ended) (del_local (IsHashRegion a) (hash_map a) key t u r local);
  tree_got = λ a b key apart t u r ended local A parts is.
      tree_part a b (tree.get_program b key) A t u parts (OnKey (Get key)) (Got r) r apart is ended (tree_writes.get_within b key A t u r is.base ended) (got_local (IsTreeRegion b) (tree_map b) key t u r local);
  tree_was_put = λ a b key value area apart t u r ended local A parts is.
      tree_part a b (tree.put_program b key value) A t u parts (OnKey (Put key value)) WasPut r apart is ended (tree_writes.put_within b key value A t u r area is.base ended) (put_local (IsTreeRegion b) (tree_map b) key value t u r local);
  tree_was_there = λ a b key apart t u r ended local A parts is.
      tree_part a b (tree.del_program b key) A t u parts (OnKey (Del key)) (WasThere r) r apart is ended (tree_writes.del_within b key A t u r is.base ended) (del_local (IsTreeRegion b) (tree_map b) key t u r local);
  tree_found = λ a b from to most apart t u r ended local A parts is.
      tree_part a b (tree.scan_program b from to most) A t u parts (Scan from to most) (Found r) r apart is ended (tree_writes.scan_within b from to most A t u r is.base ended) (scan_local (IsTreeRegion b) (tree_map b) from to most t u r local);
}
