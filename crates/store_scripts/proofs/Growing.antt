-- What is told of a transaction stays true as accesses come to it.
use Rattle.store_scripts.proofs.{Words.{◌≡◌, ◌⊎◌, ◌∙◌, sym, refl, ap, subst, ℕ, ◌<◌, Bool, List, [], ◌∷◌, ◌++◌, length, append_assoc, append-nil, arith, inl, inr, Access, Commit, Geometry, Mode, Serial, Span, Array, own, History, array_at, marked, own_append, AreMixed, First, IsOfBoth, Neither, Second, firsts, seconds, KeyCall, StoreAnswer, Part, Called, Other, accesses_in, answers_in, calls_in, MapStore, SpareRegion, made_append, mixed_append, IsToldOf, image_hash, Answered, OfHash, Told, nothing_told, with_call, OfSecond, SecondStore, second_store, Mixed}, Seconds.IsCall}

pub spare_append : (s : MapStore) (xs ys : List Access) → SpareRegion s xs → SpareRegion s ys → SpareRegion s (xs ++ ys)
spare_append s [] ys first second = second
spare_append s (x ∷ xs) ys first second = (first.0, spare_append s xs ys first.1 second)

calls_append : {C A : Type 0} (xs ys : List (Part C A)) → calls_in (xs ++ ys) ≡ calls_in xs ++ calls_in ys
calls_append [] ys = refl
calls_append (Called call accesses answer ∷ xs) ys = ap (λ rest. call ∷ rest) (calls_append xs ys)
calls_append (Other accesses ∷ xs) ys = calls_append xs ys

answers_append : {C A : Type 0} (xs ys : List (Part C A)) → answers_in (xs ++ ys) ≡ answers_in xs ++ answers_in ys
answers_append [] ys = refl
answers_append (Called call accesses answer ∷ xs) ys = ap (λ rest. answer ∷ rest) (answers_append xs ys)
answers_append (Other accesses ∷ xs) ys = answers_append xs ys

-- the marks since the last call
marked_append : (span : Span) (xs ys : List Access) → length xs < length (xs ++ ys) → marked span (xs ++ ys) ≡ xs ++ marked span ys
marked_append span [] ys some = refl
marked_append span (x ∷ []) [] some = absurd (omega arith)
marked_append span (x ∷ []) (y ∷ ys) some = refl
marked_append span (x ∷ z ∷ xs) ys some = ap (λ (rest : List Access). x ∷ rest) (marked_append span (z ∷ xs) ys (omega arith))

marked_spares : (s : MapStore) (span : Span) (accesses : List Access) → SpareRegion s accesses → SpareRegion s (marked span accesses)
marked_spares s span [] spare = tt
marked_spares s span (a ∷ []) spare = (spare.0, tt)
marked_spares s span (a ∷ b ∷ accesses) spare = (spare.0, marked_spares s span (b ∷ accesses) spare.1)

module _ (S : SecondStore) where
  -- a part of a transaction that calls the hash store and the second one
  abbrev pub StorePart : Type 0
  StorePart = Mixed KeyCall StoreAnswer S.Call S.Answer

  firsts_append : (xs ys : List StorePart) → firsts (xs ++ ys) ≡ firsts xs ++ firsts ys
  firsts_append [] ys = refl
  firsts_append (First call accesses answer ∷ xs) ys = ap (λ (rest : List (Part KeyCall StoreAnswer)). Called call accesses answer ∷ rest) (firsts_append xs ys)
  firsts_append (Second call accesses answer ∷ xs) ys = ap (λ (rest : List (Part KeyCall StoreAnswer)). Other accesses ∷ rest) (firsts_append xs ys)
  firsts_append (Neither accesses ∷ xs) ys = ap (λ (rest : List (Part KeyCall StoreAnswer)). Other accesses ∷ rest) (firsts_append xs ys)

  seconds_append : (xs ys : List StorePart) → seconds (xs ++ ys) ≡ seconds xs ++ seconds ys
  seconds_append [] ys = refl
  seconds_append (First call accesses answer ∷ xs) ys = ap (λ (rest : List (Part S.Call S.Answer)). Other accesses ∷ rest) (seconds_append xs ys)
  seconds_append (Second call accesses answer ∷ xs) ys = ap (λ (rest : List (Part S.Call S.Answer)). Called call accesses answer ∷ rest) (seconds_append xs ys)
  seconds_append (Neither accesses ∷ xs) ys = ap (λ (rest : List (Part S.Call S.Answer)). Other accesses ∷ rest) (seconds_append xs ys)

  -- what the parts are to each store, with further parts that make these calls of it
  pub more_first_calls : (parts more : List StorePart) (calls : List KeyCall) → calls_in (firsts parts) ≡ calls → calls_in (firsts (parts ++ more)) ≡ calls ++ calls_in (firsts more)
  more_first_calls parts more calls are = ap calls_in (firsts_append parts more) ∙ calls_append (firsts parts) (firsts more) ∙ ap (λ (xs : List KeyCall). xs ++ calls_in (firsts more)) are

  pub more_first_answers : (parts more : List StorePart) (answers : List StoreAnswer) → answers_in (firsts parts) ≡ answers → answers_in (firsts (parts ++ more)) ≡ answers ++ answers_in (firsts more)
  more_first_answers parts more answers are = ap answers_in (firsts_append parts more) ∙ answers_append (firsts parts) (firsts more) ∙ ap (λ (xs : List StoreAnswer). xs ++ answers_in (firsts more)) are

  pub more_second_calls : (parts more : List StorePart) (calls : List S.Call) → calls_in (seconds parts) ≡ calls → calls_in (seconds (parts ++ more)) ≡ calls ++ calls_in (seconds more)
  more_second_calls parts more calls are = ap calls_in (seconds_append parts more) ∙ calls_append (seconds parts) (seconds more) ∙ ap (λ (xs : List S.Call). xs ++ calls_in (seconds more)) are

  pub more_second_answers : (parts more : List StorePart) (answers : List S.Answer) → answers_in (seconds parts) ≡ answers → answers_in (seconds (parts ++ more)) ≡ answers ++ answers_in (seconds more)
  more_second_answers parts more answers are = ap answers_in (seconds_append parts more) ∙ answers_append (seconds parts) (seconds more) ∙ ap (λ (xs : List S.Answer). xs ++ answers_in (seconds more)) are

  -- a call says nothing of what is kept
  pub kept_with : (told : Told S) (call : Answered S.Call S.Answer) (over : ℕ) → (with_call S told call over).kept ≡ told.kept
  kept_with told (OfHash call answer) over = refl
  kept_with told (OfSecond call answer) over = refl

  pub begins_told : (g : Geometry) (A : Array) (mode : Mode) → IsToldOf S g A [] mode (nothing_told S)
  begins_told g A mode = grind arith

  module _ (g : Geometry) (A : Array) (accesses : List Access) (mode : Mode) (told : Told S) (is : IsToldOf S g A accesses mode told) where
    -- with the same calls, and other accesses since the last of them, in an image of any form
    with_rest : (form : ℕ) (kept : Bool) (rest now : List Access) → accesses_in (firsts is.parts) ++ rest ≡ now → SpareRegion (image_hash g) rest → SpareRegion (second_store S g) rest
        → IsToldOf S (record g { form = form }) A now mode (record told { kept = kept })
    with_rest form kept rest now are first second = grind arith

    -- with accesses that write neither region
    pub other_told : (done : List Access) (kept : Bool) → SpareRegion (image_hash g) done → SpareRegion (second_store S g) done → IsToldOf S g A (accesses ++ done) mode (record told { kept = kept })
    other_told done kept first second =
        with_rest g.form kept (is.rest ++ done) (accesses ++ done) (sym (append_assoc (accesses_in (firsts is.parts)) is.rest done) ∙ ap (λ (xs : List Access). xs ++ done) is.are)
        (spare_append (image_hash g) is.rest done is.spare_hash first) (spare_append (second_store S g) is.rest done is.spare_second second)

    -- with nothing new
    pub same_told : (kept : Bool) → IsToldOf S g A accesses mode (record told { kept = kept })
    same_told kept = with_rest g.form kept is.rest accesses is.are is.spare_hash is.spare_second

    -- the same in an image of another form
    pub in_form : (form : ℕ) → IsToldOf S (record g { form = form }) A accesses mode told
    in_form form = with_rest form told.kept is.rest accesses is.are is.spare_hash is.spare_second

    -- with a mark on an access since the last call
    pub mark_told : (span : Span) (kept : Bool) → told.over < length accesses → IsToldOf S g A (marked span accesses) mode (record told { kept = kept })
    mark_told span kept since = grind (arith, with_rest, marked_append, marked_spares)

    grown_are : (part : StorePart) (done : List Access) → accesses_in (firsts (part ∷ [])) ≡ done → accesses_in (firsts (is.parts ++ Neither is.rest ∷ part ∷ [])) ≡ accesses ++ done
    grown_are part done has =
        mixed_append (image_hash g) (second_store S g) is.parts (Neither is.rest ∷ part ∷ [])
        ∙ sym (append_assoc (accesses_in (firsts is.parts)) is.rest (accesses_in (firsts (part ∷ []))))
        ∙ ap (λ (xs : List Access). xs ++ accesses_in (firsts (part ∷ []))) is.are
        ∙ ap (λ (ys : List Access). accesses ++ ys) has

    shown_is : own (own A (accesses_in (firsts is.parts))) is.rest ≡ own A accesses
    shown_is = sym (own_append A (accesses_in (firsts is.parts)) is.rest) ∙ ap (own A) is.are

    grown_made : (part : StorePart) → AreMixed (image_hash g) (second_store S g) (own A accesses) (part ∷ [])
        → AreMixed (image_hash g) (second_store S g) A (is.parts ++ Neither is.rest ∷ part ∷ [])
    grown_made part made =
        made_append (image_hash g) (second_store S g) A is.parts (Neither is.rest ∷ part ∷ []) is.made
        (is.spare_hash, is.spare_second, subst (λ (B : Array). AreMixed (image_hash g) (second_store S g) B (part ∷ [])) (sym shown_is) made)

    -- with a call of one of the stores
    with_part : (part : StorePart) (done : List Access) (now : Told S) → mode ≡ Serial → accesses_in (firsts (part ∷ [])) ≡ done → now.over ≡ length (accesses ++ done)
        → AreMixed (image_hash g) (second_store S g) (own A accesses) (part ∷ []) → told.hash.calls ++ calls_in (firsts (part ∷ [])) ≡ now.hash.calls → told.hash.answers ++ answers_in (firsts (part ∷ [])) ≡ now.hash.answers
        → told.second.calls ++ calls_in (seconds (part ∷ [])) ≡ now.second.calls → told.second.answers ++ answers_in (seconds (part ∷ [])) ≡ now.second.answers → IsToldOf S g A (accesses ++ done) mode now
    with_part part done now serial has over made hash_calls hash_answers second_calls second_answers =
        let more : List StorePart = Neither is.rest ∷ part ∷ [] in
        let are = grown_are part done has in
        record {
          parts = is.parts ++ more;
          rest = [];
          are = append-nil (accesses_in (firsts (is.parts ++ more))) ∙ are;
          over = ap length are ∙ sym over;
          made = grown_made part made;
          spare_hash = tt;
          spare_second = tt;
          hash_calls = more_first_calls is.parts more told.hash.calls is.hash_calls ∙ hash_calls;
          hash_answers = more_first_answers is.parts more told.hash.answers is.hash_answers ∙ hash_answers;
          second_calls = more_second_calls is.parts more told.second.calls is.second_calls ∙ second_calls;
          second_answers = more_second_answers is.parts more told.second.answers is.second_answers ∙ second_answers;
          serial = inr serial;
        }

    pub call_told : (call : Answered S.Call S.Answer) (done : List Access) → mode ≡ Serial → IsCall S g call (own A accesses) done → IsToldOf S g A (accesses ++ done) mode (with_call S told call (length (accesses ++ done)))
    call_told (OfHash call answer) done serial is_call =
        with_part (First call done answer) done _ serial (append-nil done) refl (is_call.local, is_call.spare, tt) refl refl (append-nil told.second.calls) (append-nil told.second.answers)
    call_told (OfSecond call answer) done serial is_call =
        with_part (Second call done answer) done _ serial (append-nil done) refl (is_call.local, is_call.spare, tt) (append-nil told.hash.calls) (append-nil told.hash.answers) refl refl

  -- THE PARTS OF ALL ACCESSES, WITH WHAT CAME SINCE THE LAST CALL AS ONE MORE
  abbrev pub all_parts : (g : Geometry) (A : Array) (accesses : List Access) (mode : Mode) (told : Told S) → IsToldOf S g A accesses mode told → List StorePart
  all_parts g A accesses mode told is = is.parts ++ Neither is.rest ∷ []

  -- the parts are those that are told, and all accesses are theirs
  pub record AreAll (g : Geometry) (A : Array) (accesses : List Access) (mode : Mode) (told : Told S) (parts : List StorePart) : Type 0 where
    pub are : accesses_in (firsts parts) ≡ accesses
    pub made : AreMixed (image_hash g) (second_store S g) A parts
    pub hash_calls : calls_in (firsts parts) ≡ told.hash.calls
    pub hash_answers : answers_in (firsts parts) ≡ told.hash.answers
    pub second_calls : calls_in (seconds parts) ≡ told.second.calls
    pub second_answers : answers_in (seconds parts) ≡ told.second.answers
    pub serial : ((calls_in (firsts parts) ≡ []) × (calls_in (seconds parts) ≡ [])) ⊎ (mode ≡ Serial)

  pub all_are : (g : Geometry) (A : Array) (accesses : List Access) (mode : Mode) (told : Told S) (is : IsToldOf S g A accesses mode told)
      → AreAll g A accesses mode told (all_parts g A accesses mode told is)
  all_are g A accesses mode told is =
      let more : List StorePart = Neither is.rest ∷ [] in
      let hash_calls = more_first_calls is.parts more told.hash.calls is.hash_calls ∙ append-nil told.hash.calls in
      let second_calls = more_second_calls is.parts more told.second.calls is.second_calls ∙ append-nil told.second.calls in
      record {
        are = mixed_append (image_hash g) (second_store S g) is.parts more ∙ ap (λ (xs : List Access). accesses_in (firsts is.parts) ++ xs) (append-nil is.rest) ∙ is.are;
        made = made_append (image_hash g) (second_store S g) A is.parts more is.made (is.spare_hash, is.spare_second, tt);
        hash_calls = hash_calls;
        hash_answers = more_first_answers is.parts more told.hash.answers is.hash_answers ∙ append-nil told.hash.answers;
        second_calls = second_calls;
        second_answers = more_second_answers is.parts more told.second.answers is.second_answers ∙ append-nil told.second.answers;
        serial = elim is.serial [ inl none ↦ inl (hash_calls ∙ none.0, second_calls ∙ none.1) | inr serial ↦ inr serial ];
      }

  -- a commit of them is by calls
  pub of_both : (g : Geometry) (H : History) (c : Commit) (told : Told S) → IsToldOf S g (array_at H c.begin) c.accesses c.mode told → IsOfBoth (image_hash g) (second_store S g) H c
  of_both g H c told is =
      let all = all_are g (array_at H c.begin) c.accesses c.mode told is in
      record { parts = all_parts g (array_at H c.begin) c.accesses c.mode told is; are = all.are; made = all.made; mode = all.serial }
