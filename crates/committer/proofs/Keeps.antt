-- Each step at a desk keeps the rule, and tells what it is to tell.
use Rattle.std.proofs.Common.{◌≡◌, ◌≢◌, ◌⊎◌, ℕ, List, [], ◌∷◌, ◌++◌, inl, inr, ⊎_elim, sym, refl, ap, ◌∙◌, subst, arith, set, get_or, zero, suc}
use Rattle.atomic_table.specs.Table.{Final, Seen, State, Me, step, Act, keeps, takes, gives, stepped, Valid, Allows, Splits, carried_after, opening, rest}
use Rattle.atomic_table.proofs.Lists.{set_again}
use mathlib.Core.Option.{none, some, some-injective, some-ne-none}
use lib.ListN.{get_elem?}
use Rattle.committer.specs.{declared.protocol.Message.Message, declared.protocol.Message.TheVariants.{Empty, Request, Response}, declared.protocol.Side.Side, declared.protocol.Side.TheVariants.{New, Opened, Resting, Waiting, Left, Idle, Serving}, Rule.{Rule, new, opened, resting, requested, serving, responded, left}, Views.stage_of}
use Rattle.committer.specs.Steps as step_told

module _ {Q : Type 0} where
  -- the request of a view
  abbrev about : Q → Side Q → Q
  about d New = d
  about d Opened = d
  about d Resting = d
  about d (Waiting q) = q
  about d Left = d
  about d Idle = d
  about d (Serving q) = q

  at_one : (v x : Side Q) (id : ℕ) → get_elem? (v ∷ []) id ≡ some x → (id ≡ 0) × (v ≡ x)
  at_one v x zero e = (refl, some-injective v x e)
  at_one v x (suc id) e = absurd (some-ne-none x (sym e))

  at_two : (v w x : Side Q) (id : ℕ) → get_elem? (v ∷ w ∷ []) id ≡ some x → ((id ≡ 0) × (v ≡ x)) ⊎ ((id ≡ 1) × (w ≡ x))
  at_two v w x zero e = inl (refl, some-injective v x e)
  at_two v w x (suc zero) e = inr (refl, some-injective w x e)
  at_two v w x (suc (suc id)) e = absurd (some-ne-none x (sym e))

  -- which of these views it is, by its stage
  lone_at : (vs : List (Side Q)) (v x : Side Q) (id : ℕ) → vs ≡ v ∷ [] → get_elem? vs id ≡ some x → id ≡ 0
  lone_at vs v x id are at = (at_one v x id (subst (λ (l : List (Side Q)). get_elem? l id ≡ some x) are at)).0

  first : (vs : List (Side Q)) (v w x : Side Q) (id : ℕ) → vs ≡ v ∷ w ∷ [] → get_elem? vs id ≡ some x → stage_of w ≢ stage_of x → (id ≡ 0) × (v ≡ x)
  first vs v w x id are at other = ⊎_elim (λ p. p) (λ p. absurd (other (ap stage_of p.1))) (at_two v w x id (subst (λ (l : List (Side Q)). get_elem? l id ≡ some x) are at))

  second : (vs : List (Side Q)) (v w x : Side Q) (id : ℕ) → vs ≡ v ∷ w ∷ [] → get_elem? vs id ≡ some x → stage_of v ≢ stage_of x → (id ≡ 1) × (w ≡ x)
  second vs v w x id are at other = ⊎_elim (λ p. absurd (other (ap stage_of p.1))) (λ p. p) (at_two v w x id (subst (λ (l : List (Side Q)). get_elem? l id ≡ some x) are at))

  -- a view at another stage is none of these
  not_one : (vs : List (Side Q)) (v x : Side Q) (id : ℕ) → vs ≡ v ∷ [] → get_elem? vs id ≡ some x → stage_of v ≢ stage_of x → ⊥
  not_one vs v x id are at other = other (ap stage_of (at_one v x id (subst (λ (l : List (Side Q)). get_elem? l id ≡ some x) are at)).1)

  not_two : (vs : List (Side Q)) (v w x : Side Q) (id : ℕ) → vs ≡ v ∷ w ∷ [] → get_elem? vs id ≡ some x → stage_of v ≢ stage_of x → stage_of w ≢ stage_of x → ⊥
  not_two vs v w x id are at one two = two (ap stage_of (second vs v w x id are at one).1)

  -- a view at the stage of an idle server
  pub is_idle : (v : Side Q) → stage_of v ≡ 5 → v ≡ Idle
  is_idle New e = absurd (omega (arith, e))
  is_idle Opened e = absurd (omega (arith, e))
  is_idle Resting e = absurd (omega (arith, e))
  is_idle (Waiting q) e = absurd (omega (arith, e))
  is_idle Left e = absurd (omega (arith, e))
  is_idle Idle e = refl
  is_idle (Serving q) e = absurd (omega (arith, e))

module _ {Q A : Type 0} where
  abbrev request_of : Q → Message Q A → Q
  request_of d Empty = d
  request_of d (Request q) = q
  request_of d (Response a) = d

  abbrev request_in : Q → List (ℕ × Message Q A) → Q
  request_in d [] = d
  request_in d (x ∷ xs) = request_of d x.1

  abbrev response_of : A → Message Q A → A
  response_of d Empty = d
  response_of d (Request q) = d
  response_of d (Response a) = a

  abbrev head_or : Message Q A → List (ℕ × Message Q A) → Message Q A
  head_or d [] = d
  head_or d (x ∷ xs) = x.1

  -- ---- a side that has taken the slot with this in it

  pub has_slot : (m : Me (Message Q A) (Side Q)) (v : Side Q) (x : Message Q A) → m ≡ (v, (0, x) ∷ []) → m.1 ≡ (0, x) ∷ rest m.1
  has_slot m v x is = ap (λ (z : Me (Message Q A) (Side Q)). z.1) is ∙ ap (λ (l : List (ℕ × Message Q A)). (0, x) ∷ l) (sym (ap (λ (z : Me (Message Q A) (Side Q)). rest z.1) is))

  pub got : (m : Me (Message Q A) (Side Q)) (v : Side Q) (x y : Message Q A) → m ≡ (v, (0, x) ∷ []) → m.1 ≡ (0, y) ∷ rest m.1 → y ≡ x
  got m v x y is found = ap (head_or x) (sym found ∙ ap (λ (z : Me (Message Q A) (Side Q)). z.1) is)

  pub exchanged : (m m' : Me (Message Q A) (Side Q)) (v : Side Q) (x y : Message Q A) → m ≡ (v, (0, x) ∷ []) → m' ≡ (m.0, (0, y) ∷ rest m.1) → m' ≡ (v, (0, y) ∷ [])
  exchanged m m' v x y is after = after ∙ ap (λ (z : Me (Message Q A) (Side Q)). (z.0, (0, y) ∷ rest z.1)) is

  pub same_response : (a b : A) (x : Message Q A) → x ≡ Response a → x ≡ Response b → a ≡ b
  same_response a b x one two = ap (response_of a) (sym one ∙ two)

  pub same_request : (a b : Q) (x : Message Q A) → x ≡ Request a → x ≡ Request b → a ≡ b
  same_request a b x one two = ap (request_of a) (sym one ∙ two)

  module _ (allows : Q → Type 0) (answers : Q → A → Type 0) where
    abbrev Desk : Type 0
    Desk = State (Message Q A) (Side Q)

    abbrev Sat : Type 0
    Sat = Me (Message Q A) (Side Q)

    -- what a step has to give, where the word becomes n
    abbrev Gives : Desk → (id n : ℕ) → Sat → (Sat → Type 0) → Type 0
    Gives s id n m then = (w : Side Q) × (a : Act (Message Q A)) × Valid s.homes m.1 a × Rule allows answers (stepped s 0 n id m.1 w a) × then (w, carried_after m.1 a)

    -- ---- a desk is made, and its sides are parted

    pub starts : Rule allows answers (opening (0 ∷ []) (Empty ∷ []) New)
    starts = new record { views_are = refl; homes_are = refl; words_are = refl }

    opens_in : (slots id : ℕ) (s : Desk) → Rule allows answers s → get_elem? s.views id ≡ some New
        → Gives s id (get_or s.words 0 0) (New, []) (step_told.opened allows answers (step slots 0 0 0 none) (New, []) (get_or s.words 0 0))
    opens_in slots id s (new r) at =
        let here = lone_at s.views New New id r.views_are at in (
          Opened,
          takes 0 Empty,
          (λ i. get_elem? (r.homes_are i) 0),
          opened record {
            views_are = λ i. set (r.views_are i) (here i) Opened;
            homes_are = λ i. set (r.homes_are i) 0 none;
            word = 0;
            words_are = λ i. set (r.words_are i) 0 (get_or (r.words_are i) 0 0);
            not_requested = λ (k : 0 ≡ 1). omega (arith, k);
          },
          (λ is. refl),
        )
    opens_in slots id s (opened r) at = absurd (not_one s.views Opened New id r.views_are at (λ (k : 1 ≡ 0). omega (arith, k)))
    opens_in slots id s (resting r) at = absurd (not_two s.views Resting Idle New id r.views_are at (λ (k : 2 ≡ 0). omega (arith, k)) (λ (k : 5 ≡ 0). omega (arith, k)))
    opens_in slots id s (requested r) at = absurd (not_two s.views (Waiting r.request) Idle New id r.views_are at (λ (k : 3 ≡ 0). omega (arith, k)) (λ (k : 5 ≡ 0). omega (arith, k)))
    opens_in slots id s (serving r) at = absurd (not_two s.views (Waiting r.request) (Serving r.request) New id r.views_are at (λ (k : 3 ≡ 0). omega (arith, k)) (λ (k : 6 ≡ 0). omega (arith, k)))
    opens_in slots id s (responded r) at = absurd (not_two s.views (Waiting r.request) Idle New id r.views_are at (λ (k : 3 ≡ 0). omega (arith, k)) (λ (k : 5 ≡ 0). omega (arith, k)))
    opens_in slots id s (left r) at = absurd (not_two s.views Left Idle New id r.views_are at (λ (k : 4 ≡ 0). omega (arith, k)) (λ (k : 5 ≡ 0). omega (arith, k)))

    pub opens : (slots id : ℕ) (m : Sat) → m ≡ (New, []) → Allows (Rule allows answers) slots id m 0 (λ n. n) (step_told.opened allows answers (step slots 0 0 0 none) m)
    opens slots id m is = subst (λ (z : Sat). Allows (Rule allows answers) slots id z 0 (λ n. n) (step_told.opened allows answers (step slots 0 0 0 none) z)) (sym is) (λ s r deep at fits. opens_in slots id s r at)

    parts_in : (id : ℕ) (s : Desk) → Rule allows answers s → get_elem? s.views id ≡ some Opened → Rule allows answers record { words = s.words; homes = s.homes; views = set s.views id Resting ++ Idle ∷ [] }
    parts_in id s (new r) at = absurd (not_one s.views New Opened id r.views_are at (λ (k : 0 ≡ 1). omega (arith, k)))
    parts_in id s (opened r) at =
        let here = lone_at s.views Opened Opened id r.views_are at in
        resting record { views_are = λ i. set (r.views_are i) (here i) Resting ++ Idle ∷ []; homes_are = r.homes_are; word = r.word; words_are = r.words_are; not_requested = r.not_requested }
    parts_in id s (resting r) at = absurd (not_two s.views Resting Idle Opened id r.views_are at (λ (k : 2 ≡ 1). omega (arith, k)) (λ (k : 5 ≡ 1). omega (arith, k)))
    parts_in id s (requested r) at = absurd (not_two s.views (Waiting r.request) Idle Opened id r.views_are at (λ (k : 3 ≡ 1). omega (arith, k)) (λ (k : 5 ≡ 1). omega (arith, k)))
    parts_in id s (serving r) at = absurd (not_two s.views (Waiting r.request) (Serving r.request) Opened id r.views_are at (λ (k : 3 ≡ 1). omega (arith, k)) (λ (k : 6 ≡ 1). omega (arith, k)))
    parts_in id s (responded r) at = absurd (not_two s.views (Waiting r.request) Idle Opened id r.views_are at (λ (k : 3 ≡ 1). omega (arith, k)) (λ (k : 5 ≡ 1). omega (arith, k)))
    parts_in id s (left r) at = absurd (not_two s.views Left Idle Opened id r.views_are at (λ (k : 4 ≡ 1). omega (arith, k)) (λ (k : 5 ≡ 1). omega (arith, k)))

    pub parts : (id : ℕ) (v : Side Q) → v ≡ Opened → Splits (Rule allows answers) id v Resting Idle
    parts id v is = subst (λ (z : Side Q). Splits (Rule allows answers) id z Resting Idle) (sym is) (λ s r at. parts_in id s r at)

    -- ---- a request is put

    puts_in : (slots id : ℕ) (q : Q) (s : Desk) → allows q → Rule allows answers s → get_elem? s.views id ≡ some Resting
        → Gives s id 1 (Resting, (0, Request q) ∷ []) (step_told.requested allows answers (step slots 0 1 0 none) (Resting, (0, Request q) ∷ []) 1)
    puts_in slots id q s ok (new r) at = absurd (not_one s.views New Resting id r.views_are at (λ (k : 0 ≡ 2). omega (arith, k)))
    puts_in slots id q s ok (opened r) at = absurd (not_one s.views Opened Resting id r.views_are at (λ (k : 1 ≡ 2). omega (arith, k)))
    puts_in slots id q s ok (resting r) at =
        let here = first s.views Resting Idle Resting id r.views_are at (λ (k : 5 ≡ 2). omega (arith, k)) in (
          Waiting q,
          gives,
          tt,
          requested record {
            request = q;
            allowed = ok;
            views_are = λ i. set (r.views_are i) (here.0 i) (Waiting q);
            homes_are = λ i. set (r.homes_are i) 0 (some (Request q));
            words_are = λ i. set (r.words_are i) 0 1;
          },
          (λ request is. let same : q ≡ request = ap (λ (m : Sat). request_in q m.1) is in λ i. (Waiting (same i), [])),
        )
    puts_in slots id q s ok (requested r) at = absurd (not_two s.views (Waiting r.request) Idle Resting id r.views_are at (λ (k : 3 ≡ 2). omega (arith, k)) (λ (k : 5 ≡ 2). omega (arith, k)))
    puts_in slots id q s ok (serving r) at = absurd (not_two s.views (Waiting r.request) (Serving r.request) Resting id r.views_are at (λ (k : 3 ≡ 2). omega (arith, k)) (λ (k : 6 ≡ 2). omega (arith, k)))
    puts_in slots id q s ok (responded r) at = absurd (not_two s.views (Waiting r.request) Idle Resting id r.views_are at (λ (k : 3 ≡ 2). omega (arith, k)) (λ (k : 5 ≡ 2). omega (arith, k)))
    puts_in slots id q s ok (left r) at = absurd (not_two s.views Left Idle Resting id r.views_are at (λ (k : 4 ≡ 2). omega (arith, k)) (λ (k : 5 ≡ 2). omega (arith, k)))

    pub puts : (slots id : ℕ) (m : Sat) (q : Q) → allows q → m ≡ (Resting, (0, Request q) ∷ []) → Allows (Rule allows answers) slots id m 0 (λ _. 1) (λ _. step_told.requested allows answers (step slots 0 1 0 none) m 1)
    puts slots id m q ok is = subst (λ (z : Sat). Allows (Rule allows answers) slots id z 0 (λ _. 1) (λ _. step_told.requested allows answers (step slots 0 1 0 none) z 1)) (sym is) (λ s r deep at fits. puts_in slots id q s ok r at)

    -- ---- a request is looked for

    sees_in : (slots id : ℕ) (s : Desk) → Rule allows answers s → get_elem? s.views id ≡ some Idle
        → Gives s id (get_or s.words 0 0) (Idle, []) (step_told.accepted allows answers (step slots 0 0 0 none) (Idle, []) (get_or s.words 0 0))
    sees_in slots id s (new r) at = absurd (not_one s.views New Idle id r.views_are at (λ (k : 0 ≡ 5). omega (arith, k)))
    sees_in slots id s (opened r) at = absurd (not_one s.views Opened Idle id r.views_are at (λ (k : 1 ≡ 5). omega (arith, k)))
    sees_in slots id s (resting r) at =
        let found : get_or s.words 0 0 ≡ r.word = λ i. get_or (r.words_are i) 0 0 in (
          Idle,
          keeps,
          tt,
          resting record {
            word = r.word;
            not_requested = r.not_requested;
            views_are = set_again s.views id Idle at ∙ r.views_are;
            homes_are = r.homes_are;
            words_are = λ i. set (r.words_are i) 0 (get_or (r.words_are i) 0 0);
          },
          (λ is. (λ one. absurd (r.not_requested (sym found ∙ one)), λ ne. refl)),
        )
    sees_in slots id s (requested r) at =
        let found : get_or s.words 0 0 ≡ 1 = λ i. get_or (r.words_are i) 0 0 in
        let here = second s.views (Waiting r.request) Idle Idle id r.views_are at (λ (k : 3 ≡ 5). omega (arith, k)) in (
          Serving r.request,
          takes 0 (Request r.request),
          (λ i. get_elem? (r.homes_are i) 0),
          serving record {
            request = r.request;
            views_are = λ i. set (r.views_are i) (here.0 i) (Serving r.request);
            homes_are = λ i. set (r.homes_are i) 0 none;
            words_are = λ i. set (r.words_are i) 0 (get_or (r.words_are i) 0 0);
          },
          (λ is. (λ one. (r.request, r.allowed, refl), λ ne. absurd (ne found))),
        )
    sees_in slots id s (serving r) at = absurd (not_two s.views (Waiting r.request) (Serving r.request) Idle id r.views_are at (λ (k : 3 ≡ 5). omega (arith, k)) (λ (k : 6 ≡ 5). omega (arith, k)))
    sees_in slots id s (responded r) at =
        let found : get_or s.words 0 0 ≡ 2 = λ i. get_or (r.words_are i) 0 0 in (
          Idle,
          keeps,
          tt,
          responded record {
            request = r.request;
            response = r.response;
            met = r.met;
            views_are = set_again s.views id Idle at ∙ r.views_are;
            homes_are = r.homes_are;
            words_are = λ i. set (r.words_are i) 0 (get_or (r.words_are i) 0 0);
          },
          (λ is. (λ one. absurd (omega (arith, one, found)), λ ne. refl)),
        )
    sees_in slots id s (left r) at =
        let found : get_or s.words 0 0 ≡ 0 = λ i. get_or (r.words_are i) 0 0 in (
          Idle,
          keeps,
          tt,
          left record {
            views_are = set_again s.views id Idle at ∙ r.views_are;
            homes_are = r.homes_are;
            words_are = λ i. set (r.words_are i) 0 (get_or (r.words_are i) 0 0);
          },
          (λ is. (λ one. absurd (omega (arith, one, found)), λ ne. refl)),
        )

    pub sees : (slots id : ℕ) (m : Sat) → m ≡ (Idle, []) → Allows (Rule allows answers) slots id m 0 (λ n. n) (step_told.accepted allows answers (step slots 0 0 0 none) m)
    sees slots id m is = subst (λ (z : Sat). Allows (Rule allows answers) slots id z 0 (λ n. n) (step_told.accepted allows answers (step slots 0 0 0 none) z)) (sym is) (λ s r deep at fits. sees_in slots id s r at)

    -- ---- a response is put

    responds_in : (slots id : ℕ) (q : Q) (x : A) (s : Desk) → answers q x → Rule allows answers s → get_elem? s.views id ≡ some (Serving q)
        → Gives s id 2 (Serving q, (0, Response x) ∷ []) (step_told.responded allows answers (step slots 0 2 0 none) (Serving q, (0, Response x) ∷ []) 2)
    responds_in slots id q x s met (new r) at = absurd (not_one s.views New (Serving q) id r.views_are at (λ (k : 0 ≡ 6). omega (arith, k)))
    responds_in slots id q x s met (opened r) at = absurd (not_one s.views Opened (Serving q) id r.views_are at (λ (k : 1 ≡ 6). omega (arith, k)))
    responds_in slots id q x s met (resting r) at = absurd (not_two s.views Resting Idle (Serving q) id r.views_are at (λ (k : 2 ≡ 6). omega (arith, k)) (λ (k : 5 ≡ 6). omega (arith, k)))
    responds_in slots id q x s met (requested r) at = absurd (not_two s.views (Waiting r.request) Idle (Serving q) id r.views_are at (λ (k : 3 ≡ 6). omega (arith, k)) (λ (k : 5 ≡ 6). omega (arith, k)))
    responds_in slots id q x s met (serving r) at =
        let here = second s.views (Waiting r.request) (Serving r.request) (Serving q) id r.views_are at (λ (k : 3 ≡ 6). omega (arith, k)) in
        let mine : r.request ≡ q = ap (about q) here.1 in (
          Idle,
          gives,
          tt,
          responded record {
            request = r.request;
            response = x;
            met = subst (λ (z : Q). answers z x) (sym mine) met;
            views_are = λ i. set (r.views_are i) (here.0 i) Idle;
            homes_are = λ i. set (r.homes_are i) 0 (some (Response x));
            words_are = λ i. set (r.words_are i) 0 2;
          },
          (λ request response is meet. refl),
        )
    responds_in slots id q x s met (responded r) at = absurd (not_two s.views (Waiting r.request) Idle (Serving q) id r.views_are at (λ (k : 3 ≡ 6). omega (arith, k)) (λ (k : 5 ≡ 6). omega (arith, k)))
    responds_in slots id q x s met (left r) at = absurd (not_two s.views Left Idle (Serving q) id r.views_are at (λ (k : 4 ≡ 6). omega (arith, k)) (λ (k : 5 ≡ 6). omega (arith, k)))

    pub responds : (slots id : ℕ) (m : Sat) (q : Q) (x : A) → m ≡ (Serving q, (0, Response x) ∷ []) → answers q x
        → Allows (Rule allows answers) slots id m 0 (λ _. 2) (λ _. step_told.responded allows answers (step slots 0 2 0 none) m 2)
    responds slots id m q x is met = subst (λ (z : Sat). Allows (Rule allows answers) slots id z 0 (λ _. 2) (λ _. step_told.responded allows answers (step slots 0 2 0 none) z 2)) (sym is) (λ s r deep at fits. responds_in slots id q x s met r at)

    -- ---- a response is looked for

    hears_in : (slots id : ℕ) (q : Q) (s : Desk) → Rule allows answers s → get_elem? s.views id ≡ some (Waiting q)
        → Gives s id (get_or s.words 0 0) (Waiting q, []) (step_told.received allows answers (step slots 0 0 0 none) (Waiting q, []) (get_or s.words 0 0))
    hears_in slots id q s (new r) at = absurd (not_one s.views New (Waiting q) id r.views_are at (λ (k : 0 ≡ 3). omega (arith, k)))
    hears_in slots id q s (opened r) at = absurd (not_one s.views Opened (Waiting q) id r.views_are at (λ (k : 1 ≡ 3). omega (arith, k)))
    hears_in slots id q s (resting r) at = absurd (not_two s.views Resting Idle (Waiting q) id r.views_are at (λ (k : 2 ≡ 3). omega (arith, k)) (λ (k : 5 ≡ 3). omega (arith, k)))
    hears_in slots id q s (requested r) at =
        let found : get_or s.words 0 0 ≡ 1 = λ i. get_or (r.words_are i) 0 0 in (
          Waiting q,
          keeps,
          tt,
          requested record {
            request = r.request;
            allowed = r.allowed;
            views_are = set_again s.views id (Waiting q) at ∙ r.views_are;
            homes_are = r.homes_are;
            words_are = λ i. set (r.words_are i) 0 (get_or (r.words_are i) 0 0);
          },
          (λ request is. (λ two. absurd (omega (arith, two, found)), λ ne. refl)),
        )
    hears_in slots id q s (serving r) at =
        let found : get_or s.words 0 0 ≡ 1 = λ i. get_or (r.words_are i) 0 0 in (
          Waiting q,
          keeps,
          tt,
          serving record {
            request = r.request;
            views_are = set_again s.views id (Waiting q) at ∙ r.views_are;
            homes_are = r.homes_are;
            words_are = λ i. set (r.words_are i) 0 (get_or (r.words_are i) 0 0);
          },
          (λ request is. (λ two. absurd (omega (arith, two, found)), λ ne. refl)),
        )
    hears_in slots id q s (responded r) at =
        let found : get_or s.words 0 0 ≡ 2 = λ i. get_or (r.words_are i) 0 0 in
        let here = first s.views (Waiting r.request) Idle (Waiting q) id r.views_are at (λ (k : 5 ≡ 3). omega (arith, k)) in
        let mine : r.request ≡ q = ap (about q) here.1 in (
          Resting,
          takes 0 (Response r.response),
          (λ i. get_elem? (r.homes_are i) 0),
          resting record {
            views_are = λ i. set (r.views_are i) (here.0 i) Resting;
            homes_are = λ i. set (r.homes_are i) 0 none;
            word = 2;
            words_are = λ i. set (r.words_are i) 0 (get_or (r.words_are i) 0 0);
            not_requested = λ (k : 2 ≡ 1). omega (arith, k);
          },
          (λ request is.
              let same : r.request ≡ request = mine ∙ ap (λ (m : Sat). about q m.0) is in
              (λ two. (r.response, subst (λ (z : Q). answers z r.response) same r.met, refl), λ ne. absurd (ne found))),
        )
    hears_in slots id q s (left r) at = absurd (not_two s.views Left Idle (Waiting q) id r.views_are at (λ (k : 4 ≡ 3). omega (arith, k)) (λ (k : 5 ≡ 3). omega (arith, k)))

    pub hears : (slots id : ℕ) (m : Sat) (q : Q) → m ≡ (Waiting q, []) → Allows (Rule allows answers) slots id m 0 (λ n. n) (step_told.received allows answers (step slots 0 0 0 none) m)
    hears slots id m q is = subst (λ (z : Sat). Allows (Rule allows answers) slots id z 0 (λ n. n) (step_told.received allows answers (step slots 0 0 0 none) z)) (sym is) (λ s r deep at fits. hears_in slots id q s r at)

    -- ---- the client leaves, and the slot is empty then

    leaves_in : (slots id : ℕ) (s : Desk) → Rule allows answers s → get_elem? s.views id ≡ some Resting
        → Gives s id 0 (Resting, (0, Empty) ∷ []) (step_told.left allows answers (step slots 0 0 0 none) (Resting, (0, Empty) ∷ []) 0)
    leaves_in slots id s (new r) at = absurd (not_one s.views New Resting id r.views_are at (λ (k : 0 ≡ 2). omega (arith, k)))
    leaves_in slots id s (opened r) at = absurd (not_one s.views Opened Resting id r.views_are at (λ (k : 1 ≡ 2). omega (arith, k)))
    leaves_in slots id s (resting r) at =
        let here = first s.views Resting Idle Resting id r.views_are at (λ (k : 5 ≡ 2). omega (arith, k)) in (
          Left,
          gives,
          tt,
          left record {
            views_are = λ i. set (r.views_are i) (here.0 i) Left;
            homes_are = λ i. set (r.homes_are i) 0 (some Empty);
            words_are = λ i. set (r.words_are i) 0 0;
          },
          (λ is. refl),
        )
    leaves_in slots id s (requested r) at = absurd (not_two s.views (Waiting r.request) Idle Resting id r.views_are at (λ (k : 3 ≡ 2). omega (arith, k)) (λ (k : 5 ≡ 2). omega (arith, k)))
    leaves_in slots id s (serving r) at = absurd (not_two s.views (Waiting r.request) (Serving r.request) Resting id r.views_are at (λ (k : 3 ≡ 2). omega (arith, k)) (λ (k : 6 ≡ 2). omega (arith, k)))
    leaves_in slots id s (responded r) at = absurd (not_two s.views (Waiting r.request) Idle Resting id r.views_are at (λ (k : 3 ≡ 2). omega (arith, k)) (λ (k : 5 ≡ 2). omega (arith, k)))
    leaves_in slots id s (left r) at = absurd (not_two s.views Left Idle Resting id r.views_are at (λ (k : 4 ≡ 2). omega (arith, k)) (λ (k : 5 ≡ 2). omega (arith, k)))

    pub leaves : (slots id : ℕ) (m : Sat) → m ≡ (Resting, (0, Empty) ∷ []) → Allows (Rule allows answers) slots id m 0 (λ _. 0) (λ _. step_told.left allows answers (step slots 0 0 0 none) m 0)
    leaves slots id m is = subst (λ (z : Sat). Allows (Rule allows answers) slots id z 0 (λ _. 0) (λ _. step_told.left allows answers (step slots 0 0 0 none) z 0)) (sym is) (λ s r deep at fits. leaves_in slots id s r at)

    empty_in : (id : ℕ) (s : Desk) → Rule allows answers s → get_elem? s.views id ≡ some Left → s.homes ≡ some Empty ∷ []
    empty_in id s (new r) at = absurd (not_one s.views New Left id r.views_are at (λ (k : 0 ≡ 4). omega (arith, k)))
    empty_in id s (opened r) at = absurd (not_one s.views Opened Left id r.views_are at (λ (k : 1 ≡ 4). omega (arith, k)))
    empty_in id s (resting r) at = absurd (not_two s.views Resting Idle Left id r.views_are at (λ (k : 2 ≡ 4). omega (arith, k)) (λ (k : 5 ≡ 4). omega (arith, k)))
    empty_in id s (requested r) at = absurd (not_two s.views (Waiting r.request) Idle Left id r.views_are at (λ (k : 3 ≡ 4). omega (arith, k)) (λ (k : 5 ≡ 4). omega (arith, k)))
    empty_in id s (serving r) at = absurd (not_two s.views (Waiting r.request) (Serving r.request) Left id r.views_are at (λ (k : 3 ≡ 4). omega (arith, k)) (λ (k : 6 ≡ 4). omega (arith, k)))
    empty_in id s (responded r) at = absurd (not_two s.views (Waiting r.request) Idle Left id r.views_are at (λ (k : 3 ≡ 4). omega (arith, k)) (λ (k : 5 ≡ 4). omega (arith, k)))
    empty_in id s (left r) at = r.homes_are

    pub ends_full : (id : ℕ) (v : Side Q) (ws : List ℕ) (xs : List (Message Q A)) → v ≡ Left → Final (Seen (Rule allows answers) id v) ws xs → get_elem? xs 0 ≡ some Empty
    ends_full id v ws xs is final =
        let s = final.0 in
        let at : get_elem? s.views id ≡ some Left = final.1.1 ∙ ap some is in
        let homes = empty_in id s final.1.0 at in
        final.4 0 Empty (ap (λ (l : _). get_elem? l 0) homes)
