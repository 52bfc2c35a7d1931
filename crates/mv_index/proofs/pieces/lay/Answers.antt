-- The version is laid over the pieces.
use Rattle.mv_index.proofs.{Words.{◌≡◌, ◌≤◌, get_or, length, no_version, ◌∙◌, sym, ap, subst, arith, ℕ, ◌+◌, List, [], ◌∷◌, ◌++◌, drop, take, with_items_is, ArePieces, Version, backs, begun, ended, fronts, laid}, Laid.{laid_none, laid_over, pieces_laid}}

pub returns-then-version-eq0-clause-laid : Rattle.mv_index.proofs.pieces.lay.Goals.returns-then-version-eq0-clause-laid
returns-then-version-eq0-clause-laid c versions = laid_none c.args.version.now c.args.pieces.now.items versions c.if-version-eq0.true

pub returns-then-is_over-clause-laid : Rattle.mv_index.proofs.pieces.lay.Goals.returns-then-is_over-clause-laid
returns-then-is_over-clause-laid c versions were =
    let v : Version = c.args.version.now in
    let first : ℕ = c.find-first.result.0 in
    let off = subst (λ (l : List Version). (get_or l first no_version).off ≡ v.off) c.deref-2.ensures.value (c.is_over.ensures.off c.if-is_over.true) in
    let len = subst (λ (l : List Version). (get_or l first no_version).len ≡ v.len) c.deref-2.ensures.value (c.is_over.ensures.len c.if-is_over.true) in
    let within = subst (λ (l : List Version). c.find-first.result.1 ≤ length l) c.deref.ensures.value c.find-first.ensures.cuts.last in
    let front = subst (λ (l : List Version). fronts v.off l ≡ ended v.off (take first l)) c.deref.ensures.value c.find-first.ensures.front in
    let back = subst (λ (l : List Version). backs (v.off + v.len) l ≡ begun (v.off + v.len) (drop c.find-first.result.1 l)) c.deref.ensures.value c.find-first.ensures.back in
    let is = laid_over v first c.find-first.result.1 c.args.pieces.now.items were.order within (c.is_over.ensures.one c.if-is_over.true) off len front back in
    subst (λ (l : List Version). ArePieces l (versions ++ v ∷ [])) (sym is) (pieces_laid v versions (omega (arith, c.if-version-eq0.false)) c.args.pieces.now.items were)

pub returns-clause-laid : Rattle.mv_index.proofs.pieces.lay.Goals.returns-clause-laid
returns-clause-laid c versions were =
    let v : Version = c.args.version.now in
    let end : ℕ = v.off + v.len in
    let first : ℕ = c.find-first.result.0 in
    let whole = with_items_is c.part-behind.new.pieces c.cut.new.pieces (c.cut.auto.pieces ∙ c.as_mut_slice.ensures.len) in
    let front = c.cut.ensures.front ∙ ap (λ (l : List Version). ended v.off (take first l)) c.as_mut_slice.ensures.value ∙ ap (ended v.off) c.part-behind.ensures.front
    ∙ sym (subst (λ (l : List Version). fronts v.off l ≡ ended v.off (take first l)) c.deref.ensures.value c.find-first.ensures.front) in
    let back = c.cut.ensures.back ∙ ap (λ (l : List Version). begun end (drop c.part-behind.result l)) c.as_mut_slice.ensures.value ∙ ap (begun end) c.part-behind.ensures.back
    ∙ sym (subst (λ (l : List Version). backs end l ≡ begun end (drop c.find-first.result.1 l)) c.deref.ensures.value c.find-first.ensures.back) in
    let is : c.replace.new.pieces.items ≡ laid v c.args.pieces.now.items = c.replace.ensures.items ∙ (λ i. take first (whole i) ++ v ∷ drop c.part-behind.result (whole i)) ∙ (λ i. front i ++ v ∷ back i) in
    subst (λ (l : List Version). ArePieces l (versions ++ v ∷ [])) (sym is) (pieces_laid v versions (omega (arith, c.if-version-eq0.false)) c.args.pieces.now.items were)
