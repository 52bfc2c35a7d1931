use Rattle.store_scripts.proofs.{Words.{after, no_notes, notes_after, the_files, the_tree}, Blocks.{files_second, tree_second}, FileGoes.file_goes, Lines.{noted_after, noted_alone}, Order.told_is, TreeGoes.tree_goes}

pub returns-clause-stores : Rattle.store_scripts.proofs.laws.told_calls_are_parts.Goals.returns-clause-stores
returns-clause-stores _ = λ W lines is none good client t found kept.
    told_is the_tree tree_second ⊥ 0 (after W lines) (notes_after the_tree W (no_notes the_tree) lines)
    (noted_after the_tree tree_second tree_goes ⊥ 0 W (no_notes the_tree) lines (noted_alone the_tree tree_second tree_goes W is none) good (λ q. absurd q)) client t found kept

pub returns-clause-files : Rattle.store_scripts.proofs.laws.told_calls_are_parts.Goals.returns-clause-files
returns-clause-files _ = λ W lines is none good client t found kept.
    told_is the_files files_second ⊥ 0 (after W lines) (notes_after the_files W (no_notes the_files) lines)
    (noted_after the_files files_second file_goes ⊥ 0 W (no_notes the_files) lines (noted_alone the_files files_second file_goes W is none) good (λ q. absurd q)) client t found kept
