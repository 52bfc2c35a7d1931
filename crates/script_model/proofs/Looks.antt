-- The transactions that a group finds under its labels, and the world in which they have left these.
use Rattle.script_model.proofs.Words.{all_apart_nowhere, ◌≡◌, ◌∙◌, refl, ℕ, List, [], ◌∷◌, Option, Some, None, arith, IsWorld, IsLive, LeadsTo, AllByRecursion, World, Live, held, is_under_label, unattached, all_find, leads_on, live_on, places, stays, after_look, found_ones, looks, placed}

-- what is found under a label is live
pub held_live : (W : World) (text : List ℕ) (t : Live) → IsWorld W → held W text ≡ Some t → IsLive W t
held_live W text t is found = all_find (IsLive W) (λ u. is_under_label text u.place) W.live t is.live found

-- a look keeps a world sound
pub look_leads : (W : World) (o : Option Live) → IsWorld W → ((t : Live) → o ≡ Some t → IsLive W t) → LeadsTo W (after_look W o)
look_leads W None is live = stays W is
look_leads W (Some t) is live = places W t unattached is (live t refl) tt (all_apart_nowhere W.live)

pub looks_lead : (texts : List (List ℕ)) (W : World) → IsWorld W → LeadsTo W (looks W texts).1
looks_lead [] W is = stays W is
looks_lead (text ∷ texts) W is =
    let V : World = after_look W (held W text) in
    let one = look_leads W (held W text) is (λ t found. held_live W text t is found) in
    leads_on W V (looks V texts).1 one (looks_lead texts V one.world)

-- and changes nothing but the places
pub looks_keep : {A : Type 0} (part : World → A) → ((W : World) (t : Live) → part (placed W t unattached) ≡ part W) → (texts : List (List ℕ)) (W : World) → part (looks W texts).1 ≡ part W
looks_keep part keeps [] W = refl
looks_keep part keeps (text ∷ texts) W = looks_keep part keeps texts (after_look W (held W text)) ∙ look (held W text)
  where
    look : (o : Option Live) → part (after_look W o) ≡ part W
    look None = refl
    look (Some t) = keeps W t

pub looks_history : (texts : List (List ℕ)) (W : World) → (looks W texts).1.history ≡ W.history
looks_history = looks_keep (λ (V : World). V.history) (λ W t. refl)

pub looks_geometry : (texts : List (List ℕ)) (W : World) → (looks W texts).1.geometry ≡ W.geometry
looks_geometry = looks_keep (λ (V : World). V.geometry) (λ W t. refl)

-- what holds of each that is found holds of the members
pub first_found : (P : Live → Type 0) (o : Option Live) (found : List (Option Live)) → ((t : Live) → o ≡ Some t → P t) → AllByRecursion P (found_ones found) → AllByRecursion P (found_ones (o ∷ found))
first_found P None found first all = all
first_found P (Some t) found first all = (first t refl, all)

live_looked : (W : World) (o : Option Live) (t : Live) → IsLive W t → IsLive (after_look W o) t
live_looked W None t is = is
live_looked W (Some u) t is = live_on W (placed W u unattached) t refl (omega arith) (omega arith) (omega arith) is

live_after_looks : (texts : List (List ℕ)) (W : World) (t : Live) → IsLive W t → IsLive (looks W texts).1 t
live_after_looks [] W t is = is
live_after_looks (text ∷ texts) W t is = live_after_looks texts (after_look W (held W text)) t (live_looked W (held W text) t is)

-- what the looks find is live after them
pub found_are_live : (texts : List (List ℕ)) (W : World) → IsWorld W → AllByRecursion (IsLive (looks W texts).1) (found_ones (looks W texts).0)
found_are_live [] W is = tt
found_are_live (text ∷ texts) W is =
    let V : World = after_look W (held W text) in
    first_found (IsLive (looks V texts).1) (held W text) (looks V texts).0
    (λ t found. live_after_looks texts V t (live_looked W (held W text) t (held_live W text t is found)))
    (found_are_live texts V (look_leads W (held W text) is (λ t found. held_live W text t is found)).world)
