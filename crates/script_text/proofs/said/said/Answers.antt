use Rattle.script_text.proofs.{Words.{◌∙◌, ◌∷◌, ap, codes, sym, Op, arguments_of, name_of, spaced}, Spaces.spaced_each}

pub returns-in-Group : Rattle.script_text.proofs.said.said.Goals.returns-in-Group
returns-in-Group c = sym (spaced_each (codes "group") c.in-Group.labels) ∙ ap (λ (op : Op). spaced (name_of op ∷ arguments_of op)) (sym c.in-Group.is)
