-- The bits of one word more are set.
use Rattle.merge_write.proofs.{Words.{rules, ◌≡◌, ◌∙◌, refl, sym, ap, ℕ, ◌+◌, ◌-◌, ◌*◌, ◌/◌, ◌^◌, ◌<◌, ◌≤◌, ◌&&◌, ◌||◌, bit_or, get_or, length, nat_le, nat_lt, arith, List, length-set, is_set}, Bits.{with_word, with_stretch, stretch_more}}

-- the bits of a word, as a stretch of the row
stretch_word : (masks : List ℕ) (word at end k bits : ℕ) → word < length masks → 64 * word ≤ at → at < end → end ≤ 64 * word + 64
    → bits ≡ 2 ^ (end - 64 * word) - 2 ^ (at - 64 * word) → is_set (with_word masks word bits) k ≡ ((nat_le at k && nat_lt k end) || is_set masks k)
stretch_word masks word at end k bits inside from some within is = search (rules, arith, with_stretch)

pub returns-then-first-last : Rattle.merge_write.proofs.masks.set_bits.Goals.returns-then-first-last
returns-then-first-last c k =
    stretch_word c.args.masks.now (c.args.from / 64) c.args.from c.args.to k c.ones.result (omega arith) (omega arith) (omega arith) (omega arith) c.ones.ensures

pub loop-word-init : Rattle.merge_write.proofs.masks.set_bits.Goals.loop-word-init
loop-word-init c k =
    let word = c.args.from / 64 in
    let end : 64 * (word + 1) - 64 * word ≡ 64 = omega arith in
    stretch_word c.args.masks.now word c.args.from (64 * (word + 1)) k c.ones-2.result (omega arith) (omega arith) (omega arith) (omega arith)
    (c.ones-2.ensures ∙ sym (ap (λ n. 2 ^ n - 2 ^ (c.args.from - 64 * word)) end))

pub loop-word-preserved : Rattle.merge_write.proofs.masks.set_bits.Goals.loop-word-preserved
loop-word-preserved c k =
    let word = c.loop-word.word in
    let masks = c.loop-word.masks in
    let end : 64 * (word + 1) - 64 * word ≡ 64 = omega arith in
    let start : 64 * word - 64 * word ≡ 0 = omega arith in
    let all : 18446744073709551615 ≡ 2 ^ (64 * (word + 1) - 64 * word) - 2 ^ (64 * word - 64 * word) = rw (end, start) refl in
    let inside : word < length masks = omega (arith, c.loop-word.auto.masks, length-set c.args.masks.now (c.args.from / 64) (bit_or (get_or c.args.masks.now (c.args.from / 64) 0) c.ones-2.result)) in
    let step = stretch_word masks word (64 * word) (64 * (word + 1)) k 18446744073709551615 inside (omega arith) (omega arith) (omega arith) all in
    stretch_more c.args.from (64 * word) (64 * (word + 1)) k (is_set masks k) _ (is_set c.args.masks.now k) (omega arith) (omega arith) step (c.loop-word.invariant k)

pub returns : Rattle.merge_write.proofs.masks.set_bits.Goals.returns
returns c k =
    let word = (c.args.to - 1) / 64 in
    let masks = c.loop-word.masks in
    let same : c.loop-word.word ≡ word = omega arith in
    let start : 64 * word - 64 * word ≡ 0 = omega arith in
    let inside : word < length masks = omega (arith, c.loop-word.auto.masks, length-set c.args.masks.now (c.args.from / 64) (bit_or (get_or c.args.masks.now (c.args.from / 64) 0) c.ones-2.result)) in
    let step = stretch_word masks word (64 * word) c.args.to k c.ones-3.result inside (omega arith) (omega arith) (omega arith)
    (c.ones-3.ensures ∙ sym (ap (λ n. 2 ^ (c.args.to - 64 * word) - 2 ^ n) start)) in
    stretch_more c.args.from (64 * word) c.args.to k (is_set masks k) _ (is_set c.args.masks.now k) (omega arith) (omega arith) step
    (rw same at (c.loop-word.invariant k))
