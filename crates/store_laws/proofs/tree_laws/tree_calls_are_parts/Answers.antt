use Rattle.store_laws.proofs.{Words.{IsTreeRegion, tree_map, Del, Found, Get, Got, Put, WasPut, WasThere, OnKey, Scan, tree_store}, Growth.called, KeyCalls.{del_local, got_local, put_local, scan_local}}

pub returns : Rattle.store_laws.proofs.tree_laws.tree_calls_are_parts.Goals.returns
returns _ = record {
  got = λ a key t u r ended local A parts is. called (tree_store a) A t u parts (OnKey (Get key)) (Got r) ended.done is ended.is (got_local (IsTreeRegion a) (tree_map a) key t u r local);
  was_put = λ a key value t u r ended local A parts is. called (tree_store a) A t u parts (OnKey (Put key value)) WasPut ended.done is ended.is (put_local (IsTreeRegion a) (tree_map a) key value t u r local);
  was_there = λ a key t u r ended local A parts is. called (tree_store a) A t u parts (OnKey (Del key)) (WasThere r) ended.done is ended.is (del_local (IsTreeRegion a) (tree_map a) key t u r local);
  found = λ a from to most t u r ended local A parts is. called (tree_store a) A t u parts (Scan from to most) (Found r) ended.done is ended.is (scan_local (IsTreeRegion a) (tree_map a) from to most t u r local);
}
