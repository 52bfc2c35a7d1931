-- With no row nothing is touched.
use Rattle.tx_table.proofs.Applied.{none_touched}

pub returns-clause-reads : Rattle.tx_table.proofs.fold.reopen_touched.Goals.returns-clause-reads
returns-clause-reads c size blocks kind accesses before = none_touched size blocks kind _ c.clear.ensures

pub returns-clause-writes : Rattle.tx_table.proofs.fold.reopen_touched.Goals.returns-clause-writes
returns-clause-writes c size blocks kind accesses before = none_touched size blocks kind _ c.clear-2.ensures
