use Rattle.script_text.proofs.Words.{◌≡◌, ◌∙◌, arith, common_steps, rules, ap, ℕ, List, ◌++◌, append_assoc, codes, decimal, reply_text}

-- six texts with their numbers, put two by two from the last
six : (a m b n c o d p e q f r rest last mid all : List ℕ) → last ≡ e ++ q ++ f ++ r ++ rest → mid ≡ c ++ o ++ d ++ p ++ last → all ≡ a ++ m ++ b ++ n ++ mid
    → all ≡ (a ++ m ++ b ++ n ++ c ++ o ++ d ++ p ++ e ++ q ++ f ++ r) ++ rest
six a m b n c o d p e q f r rest last mid all third second first =
    first ∙ ap (λ (t : List ℕ). a ++ m ++ b ++ n ++ t) (second ∙ ap (λ (t : List ℕ). c ++ o ++ d ++ p ++ t) third) ∙ simp append_assoc

pub returns-in-Numbers : Rattle.script_text.proofs.reply.put_text.Goals.returns-in-Numbers
unfolding reply_text
returns-in-Numbers c =
    let is = c.in-Numbers.is in
    let n = c.in-Numbers in
    record {
      text = rw is (six (codes "ok last ") (decimal n.last) (codes " base ") (decimal n.base) (codes " trim ") (decimal n.trim) (codes " live ") (decimal n.live)
          (codes " used ") (decimal n.used) (codes " versions ") (decimal n.versions) c.args.line.now.text c.put_two.new.line.text c.put_two-in-Numbers.new.line.text c.put_two-in-Numbers-2.new.line.text
          (rw c.from-in-Numbers.ensures at c.put_two.ensures.text) (rw c.from-in-Numbers-2.ensures at c.put_two-in-Numbers.ensures.text) c.put_two-in-Numbers-2.ensures.text);
      room = first_of (search rules, grind (arith, common_steps));
    }
