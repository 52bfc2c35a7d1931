use Rattle.script_text.proofs.Words.{◌≡◌, ◌∙◌, ◌*◌, ap, sym, ℕ, List, [], ◌∷◌, ◌++◌, append_assoc, codes, decimal, hex_text, WithFront}
use Rattle.std.proofs.Common.{append-nil}

-- the lines of a round are their words, one after the other
one_behind_the_other : (b d get put fetch lay e f s four end p i q j v w : List ℕ)
    → (((((((b ++ []) ++ end) ++ ((d ++ []) ++ end)) ++ ((get ++ (p ++ (s ++ (i ++ (four ++ []))))) ++ end)) ++ ((put ++ (q ++ (s ++ (j ++ (s ++ (v ++ [])))))) ++ end))
    ++ ((fetch ++ (q ++ (s ++ (i ++ (four ++ []))))) ++ end)) ++ ((lay ++ (p ++ (s ++ (i ++ (s ++ (w ++ [])))))) ++ end)) ++ ((e ++ []) ++ end) ++ ((f ++ []) ++ end)
    ≡ b ++ (end ++ (d ++ (end ++ (get ++ (p ++ (s ++ (i ++ (four ++ (end ++ (put ++ (q ++ (s ++ (j ++ (s ++ (v ++ (end
    ++ (fetch ++ (q ++ (s ++ (i ++ (four ++ (end ++ (lay ++ (p ++ (s ++ (i ++ (s ++ (w ++ (end ++ (e ++ (end ++ (f ++ end))))))))))))))))))))))))))))))))
one_behind_the_other b d get put fetch lay e f s four end p i q j v w = simp (append_assoc, append-nil)

-- the lines from the last part to the first, as they are put
put_in_turn : (b d get put fetch lay e f s four end p i q j v w none t1 t2 t3 t4 t5 t6 t7 t8 t9 t10 t11 t12 t13 : List ℕ)
    → none ≡ [] → t1 ≡ end ++ (e ++ (end ++ (f ++ (end ++ none)))) → t2 ≡ w ++ t1 → t3 ≡ s ++ t2 → t4 ≡ p ++ (s ++ (i ++ t3)) → t5 ≡ four ++ (end ++ (lay ++ t4))
    → t6 ≡ q ++ (s ++ (i ++ t5)) → t7 ≡ end ++ (fetch ++ t6) → t8 ≡ v ++ t7 → t9 ≡ s ++ t8 → t10 ≡ q ++ (s ++ (j ++ t9)) → t11 ≡ four ++ (end ++ (put ++ t10))
    → t12 ≡ p ++ (s ++ (i ++ t11)) → t13 ≡ b ++ (end ++ (d ++ (end ++ (get ++ t12))))
    → t13
    ≡ (((((((b ++ []) ++ end) ++ ((d ++ []) ++ end)) ++ ((get ++ (p ++ (s ++ (i ++ (four ++ []))))) ++ end)) ++ ((put ++ (q ++ (s ++ (j ++ (s ++ (v ++ [])))))) ++ end))
    ++ ((fetch ++ (q ++ (s ++ (i ++ (four ++ []))))) ++ end)) ++ ((lay ++ (p ++ (s ++ (i ++ (s ++ (w ++ [])))))) ++ end)) ++ ((e ++ []) ++ end) ++ ((f ++ []) ++ end)
put_in_turn b d get put fetch lay e f s four end p i q j v w none t1 t2 t3 t4 t5 t6 t7 t8 t9 t10 t11 t12 t13 e0 e1 e2 e3 e4 e5 e6 e7 e8 e9 e10 e11 e12 e13 =
    rw (e13, e12, e11, e10, e9, e8, e7, e6, e5, e4, e3, e2, e1, e0) (ap (λ (last : List ℕ). b ++ (end ++ (d ++ (end ++ (get ++ (p ++ (s ++ (i ++ (four ++ (end ++ (put ++ (q ++ (s ++ (j ++ (s ++ (v ++ (end
    ++ (fetch ++ (q ++ (s ++ (i ++ (four ++ (end ++ (lay ++ (p ++ (s ++ (i ++ (s ++ (w ++ (end ++ (e ++ (end ++ (f ++ last))))))))))))))))))))))))))))))))) (append-nil end)
    ∙ sym (one_behind_the_other b d get put fetch lay e f s four end p i q j v w))

pub returns : Rattle.script_text.proofs.round.put_round.Goals.returns
returns c =
    let cleared = ap (λ (w : WithFront). w.text) c.clear.ensures in
    put_in_turn (codes "1 begin") (codes "2 begin") (codes "1 get ") (codes "1 put ") (codes "2 get ") (codes "2 put ") (codes "1 end") (codes "2 end")
    (codes " ") (codes " 4") (10 ∷ []) (decimal c.args.p) (decimal (4 * c.args.i)) (decimal c.args.q) (decimal (4 * c.args.j)) (hex_text (c.args.v ∷ [])) (hex_text (c.args.w ∷ []))
    c.clear.new.self.text c.put.new.self.text c.put_hex.new.self.text c.put-2.new.self.text c.put_two.new.lines.text c.put-3.new.self.text c.put_two-2.new.lines.text
    c.put-4.new.self.text c.put_hex-2.new.self.text c.put-5.new.self.text c.put_two-3.new.lines.text c.put-6.new.self.text c.put_two-4.new.lines.text c.put-7.new.self.text
    cleared c.put.ensures.text c.put_hex.ensures.text c.put-2.ensures.text c.put_two.ensures.text c.put-3.ensures.text c.put_two-2.ensures.text
    c.put-4.ensures.text c.put_hex-2.ensures.text c.put-5.ensures.text c.put_two-3.ensures.text c.put-6.ensures.text c.put_two-4.ensures.text c.put-7.ensures.text
