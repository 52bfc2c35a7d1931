use Rattle.store_laws.proofs.FileBlank.{blank_files, blank_regions, made_files}

pub returns-clause-blank : Rattle.store_laws.proofs.file_laws.blank_file_regions_are_empty.Goals.returns-clause-blank
returns-clause-blank _ = λ a A areas tree files. (blank_regions a A areas tree files, blank_files a A areas tree files)

pub returns-clause-made : Rattle.store_laws.proofs.file_laws.blank_file_regions_are_empty.Goals.returns-clause-made
returns-clause-made _ = made_files
