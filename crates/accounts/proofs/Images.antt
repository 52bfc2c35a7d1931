-- An image that shows the list's history opens to accounts that have their sum.
use Rattle.accounts.proofs.SumWords.{◌≡◌, ◌∙◌, sym, ap, subst, ℕ, List, Some, arith, Array, Geometry, array_at, last, World, Entry, IsLegal, Start, state_at, Accounts, KeepsSumAt, KeepsSumIn, OpensWithSum, image_opens, Opened, recovered, grows_all, ShowsSince, whole}

same_opened : (x y : Opened) → Some x ≡ Some y → x ≡ y
same_opened x y e = cc e

-- the form of an image changes nothing of where its stores are
in_form : (accounts : Accounts) (g h : Geometry) (form : ℕ) (B : Array) → h ≡ record g { form = h.form } → KeepsSumIn accounts g B → KeepsSumIn accounts (record h { form = form }) B
in_form accounts g h form B same is = subst (λ (f : Geometry). KeepsSumIn accounts (record f { form = form }) B) (sym same) is

pub opens_with_sum : (accounts : Accounts) (A : Start) (es : List Entry) (image : List ℕ) → IsLegal A es → KeepsSumAt accounts A es → ShowsSince A es image → OpensWithSum accounts image
opens_with_sum accounts A es image legal keeps shown = λ o is.
    let V : World = whole (state_at A es) in
    let shows = shown.shows in
    let held : Opened = record { geometry = record V.geometry { form = shows.form }; generation = shows.generation; history = shows.held } in
    let same : held ≡ o = same_opened held o (sym (image_opens image (record V.geometry { form = shows.form }) shows.generation shows.held shows.image).opens ∙ is) in
    let ends = shows.last in
    let at : array_at shows.held (last shows.held) ≡ array_at V.history shown.at = ap (array_at shows.held) ends ∙ shows.arrays shown.at (omega arith) (omega arith) in
    subst (λ (p : Opened). KeepsSumIn accounts p.geometry (recovered p)) same
    (subst (KeepsSumIn accounts (record V.geometry { form = shows.form })) (sym at)
    (in_form accounts A.world.geometry V.geometry shows.form (array_at V.history shown.at) (grows_all A es legal).geometry (keeps shown.at shown.from shown.to)))
