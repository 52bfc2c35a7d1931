-- Two versions of 64 bytes at most take few bytes.
use Rattle.index_tests.proofs.Weights.{two_small}

pub bytes_above-requires : Rattle.index_tests.proofs.versions_tests.parts_take_their_bytes_and_eight.Goals.bytes_above-requires
bytes_above-requires g c = two_small 0 c.in_ok-index.index c.in_ok-index.ensures.blocks c.in_ok-index.ensures.lie c.in_ok-index.ensures.count

pub bytes_above-requires-2 : Rattle.index_tests.proofs.versions_tests.parts_take_their_bytes_and_eight.Goals.bytes_above-requires-2
bytes_above-requires-2 g c = two_small 1 c.in_ok-index.index c.in_ok-index.ensures.blocks c.in_ok-index.ensures.lie c.in_ok-index.ensures.count

pub bytes_above-requires-3 : Rattle.index_tests.proofs.versions_tests.parts_take_their_bytes_and_eight.Goals.bytes_above-requires-3
bytes_above-requires-3 g c = two_small 2 c.in_ok-index.index c.in_ok-index.ensures.blocks c.in_ok-index.ensures.lie c.in_ok-index.ensures.count
