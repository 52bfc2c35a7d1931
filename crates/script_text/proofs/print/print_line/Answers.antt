use Rattle.script_text.proofs.{Words.{◌≡◌, ◌∙◌, ◌≤◌, [], ◌∷◌, ◌++◌, List, ℕ, Ok, ap, append_assoc, decimal, length, subst, sym, MAX_LINE, parse, arguments_of, line_text, name_of, spaced, Says}, Readings.parse-printed}

-- the parts of a line, pushed one after the other
parts : (client op none first mid all : List ℕ) → none ≡ [] → first ≡ none ++ client → mid ≡ first ++ 32 ∷ [] → all ≡ mid ++ op → all ≡ client ++ 32 ∷ op
parts client op none first mid all start one two three =
    three ∙ ap (λ (text : List ℕ). text ++ op) (two ∙ ap (λ (text : List ℕ). text ++ 32 ∷ []) (one ∙ ap (λ (text : List ℕ). text ++ client) start)) ∙ append_assoc client (32 ∷ []) op

pub returns-clause-read : Rattle.script_text.proofs.print.print_line.Goals.returns-clause-read
unfolding line_text
returns-clause-read c = λ is short.
    let line = c.args.line.now in
    let text : c.push_operation.new.out.items ≡ line_text line = parts (decimal line.client) (spaced (name_of line.op ∷ arguments_of line.op))
    c.new-text.result.items c.push_number.new.out.items c.push_bytes.new.out.items c.push_operation.new.out.items
    c.new-text.ensures.items (rw c.from.ensures at c.in_ok-push_number.ensures.ok) c.in_ok-push_bytes.ensures.ok c.in_ok-push_operation.ensures in
    subst (λ (printed : List ℕ). length printed ≤ MAX_LINE → parse printed ≡ Ok (Says line)) (sym text) (parse-printed line is) short
