-- A part as a caller sees it.
use Rattle.iso_model.specs.declared.access.Run.{Run}
use Rattle.iso_format.specs.declared.record_view.Part.{Part}

-- its run
abbrev pub part_run : Part → Run
part_run p = record { block = p.block; off = p.off; bytes = p.bytes.now }
