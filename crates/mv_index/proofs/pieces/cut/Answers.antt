-- The pieces before the first place and those from the last one on are cut one after the other.
use Rattle.mv_index.proofs.Words.{◌≡◌, ◌∙◌, sym, ap, subst, ℕ, ◌+◌, ◌<◌, ◌≤◌, List, ◌++◌, drop, length, get_or, drop-append-drop, drop-append_seam, ArePlaced, Version, begun, no_version}

behind : (xs ys rest back : List Version) (first last : ℕ) → first ≤ last → length ys ≡ first → rest ≡ drop first xs → back ≡ drop last (ys ++ rest) → back ≡ drop last xs
behind xs ys rest back first last le long rest_is back_is = back_is ∙ ap (λ (l : List Version). drop last (ys ++ l)) rest_is ∙ drop-append-drop first xs ys last le long

pub cut_first-requires-clause-inside : Rattle.mv_index.proofs.pieces.cut.Goals.cut_first-requires-clause-inside
cut_first-requires-clause-inside c =
    let is = behind c.args.pieces.now c.cut_last.new.pieces c.split_at_mut-front.result.1.now c.split_at_mut-back.result.1.now c.args.first c.args.last c.requires.range.order (c.cut_last.auto.pieces ∙ c.split_at_mut-front.ensures.front_len)
    c.split_at_mut-front.ensures.back c.split_at_mut-back.ensures.back in
    subst (λ (l : List Version). (k : ℕ) → k < length l → c.args.to < (get_or l k no_version).off + (get_or l k no_version).len) (sym is) c.requires.above

pub cut_first-requires-clause-placed : Rattle.mv_index.proofs.pieces.cut.Goals.cut_first-requires-clause-placed
cut_first-requires-clause-placed c =
    let is = behind c.args.pieces.now c.cut_last.new.pieces c.split_at_mut-front.result.1.now c.split_at_mut-back.result.1.now c.args.first c.args.last c.requires.range.order (c.cut_last.auto.pieces ∙ c.split_at_mut-front.ensures.front_len)
    c.split_at_mut-front.ensures.back c.split_at_mut-back.ensures.back in
    subst ArePlaced (sym is) c.requires.placed

pub returns-clause-back : Rattle.mv_index.proofs.pieces.cut.Goals.returns-clause-back
returns-clause-back c =
    let is = behind c.args.pieces.now c.cut_last.new.pieces c.split_at_mut-front.result.1.now c.split_at_mut-back.result.1.now c.args.first c.args.last c.requires.range.order (c.cut_last.auto.pieces ∙ c.split_at_mut-front.ensures.front_len)
    c.split_at_mut-front.ensures.back c.split_at_mut-back.ensures.back in
    ap (λ (n : ℕ). drop n (c.split_at_mut-back.result.0.now ++ c.cut_first.new.pieces)) (sym c.split_at_mut-back.ensures.front_len)
    ∙ drop-append_seam c.split_at_mut-back.result.0.now c.cut_first.new.pieces ∙ c.cut_first.ensures ∙ ap (begun c.args.to) is
