-- What a handle owns: what a box owns, or nothing.
use Rattle.std.specs.{Prelude.{Option, None, Some}, Coded.{Coded, coded_option}}
use base.Fml.{Fml, ftrue}
use denote.RawPtr.{Ptr}
use Rattle.std.specs.Box.Ownership.{box_owns}
use Rattle.std.specs.Global.{Global}
use Rattle.std_heap.specs.contracts.GlobalAllocator.TheImpl.{ghosts}
use Rattle.isotope_c.specs.contracts.instance.Instance.{the_row}

abbrev pub handle_owns : Global → Ptr → Option the_row.Denot → Fml
handle_owns alloc p None = ftrue
handle_owns alloc p (Some x) = box_owns (ghosts.dealloc_token alloc) the_row p x

abbrev pub instance_coded : Coded (Option the_row.Denot)
instance_coded = coded_option the_row.coded
