use Rattle.store_laws.proofs.{Words.{IsHashRegion, hash_map, Del, Get, Got, Put, WasPut, WasThere, hash_store}, Growth.called, KeyCalls.{del_local, got_local, put_local}}

pub returns : Rattle.store_laws.proofs.hash_laws.hash_calls_are_parts.Goals.returns
returns _ = record {
  got = λ a key t u r ended local A parts is. called (hash_store a) A t u parts (Get key) (Got r) ended.done is ended.is (got_local (IsHashRegion a) (hash_map a) key t u r local);
  was_put = λ a key value t u r ended local A parts is. called (hash_store a) A t u parts (Put key value) WasPut ended.done is ended.is (put_local (IsHashRegion a) (hash_map a) key value t u r local);
  was_there = λ a key t u r ended local A parts is. called (hash_store a) A t u parts (Del key) (WasThere r) ended.done is ended.is (del_local (IsHashRegion a) (hash_map a) key t u r local);
}
