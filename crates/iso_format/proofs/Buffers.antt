-- A buffer of records, as parts are pushed and the record is finished.
use Rattle.iso_format.proofs.{Words.{◌≡◌, ℕ, ◌+◌, ◌-◌, ◌<◌, ◌≤◌, List, [], ◌∷◌, ◌++◌, length, take, drop, replicate, flat_map, sym, ap, subst, ◌∙◌, arith, append-nil, append_assoc, take-append-le, drop-append-le, length-append, length-take, length-drop, get_or_append_left, take_at, flat_map-append, AllByRecursion, all_push, Run, part, body_length, spell, IsSmall, runs_of, HoldsParts, parts_behind, spelled, head}, PartLaws.{length-runs_of, small_again}, Parts.{count_bound, length-flat_map-part}}

-- how many bytes the parts have
pub parts_length : (start count : ℕ) (bytes : List ℕ) → HoldsParts start count bytes → body_length (parts_behind start count bytes) ≡ length bytes - start - 20
parts_length start count bytes h =
    omega (arith, length-flat_map-part (parts_behind start count bytes), ap length h.parts, length-drop (start + 20) bytes)

pub parts_count : (start count : ℕ) (bytes : List ℕ) → HoldsParts start count bytes → length (parts_behind start count bytes) ≡ count
parts_count start count bytes h = length-runs_of count (drop (start + 20) bytes)

-- there are not more parts than bytes
pub count_less : (start count : ℕ) (bytes : List ℕ) → HoldsParts start count bytes → count < length bytes
count_less start count bytes h =
    omega (arith, parts_length start count bytes h, parts_count start count bytes h, count_bound (parts_behind start count bytes), h.head)

-- one part more
pub record IsPushed (start count : ℕ) (bytes : List ℕ) (run : Run) : Type 0 where
  pub holds : HoldsParts start (count + 1) (bytes ++ part run)
  pub is : spelled start (count + 1) (bytes ++ part run) ≡ record { records = take start bytes; parts = parts_behind start count bytes ++ run ∷ [] }

pub pushed : (start count : ℕ) (bytes : List ℕ) (run : Run) → HoldsParts start count bytes → IsSmall run → IsPushed start count bytes run
pushed start count bytes run h small =
    let rs = parts_behind start count bytes in
    let all = rs ++ run ∷ [] in
    let smalls = all_push IsSmall rs run h.small small in
    let long : start + 20 ≤ length bytes = h.head in
    let behind : drop (start + 20) (bytes ++ part run) ≡ flat_map part all =
    drop-append-le (start + 20) bytes (part run) h.head ∙ ap (λ (x : List ℕ). x ++ part run) (sym h.parts)
    ∙ ap (λ (x : List ℕ). flat_map part rs ++ x) (sym (append-nil (part run))) ∙ sym (flat_map-append part rs (run ∷ [])) in
    let many : count + 1 ≡ length all = omega (arith, length-append rs (run ∷ []), parts_count start count bytes h) in
    let again : parts_behind start (count + 1) (bytes ++ part run) ≡ all =
    ap (λ (k : ℕ). runs_of k (drop (start + 20) (bytes ++ part run))) many ∙ ap (runs_of (length all)) behind ∙ small_again all smalls in
    record {
      holds = record {
        head = omega (arith, length-append bytes (part run), long);
        gate = get_or_append_left bytes (part run) 0 start (omega (arith, long)) ∙ h.gate;
        small = subst (AllByRecursion IsSmall) (sym again) smalls;
        parts = ap (flat_map part) again ∙ sym behind;
      };
      is = λ i. record { records = take-append-le start bytes (part run) (omega (arith, long)) i; parts = again i };
    }

-- the bytes with the head put in its place, and room for the next
abbrev pub finished : (start count kind number : ℕ) → List ℕ → List ℕ
finished start count kind number bytes =
    take start (bytes ++ replicate 20 0) ++ head 1 kind number count (length bytes - start - 20) ++ drop (start + 20) (bytes ++ replicate 20 0)

pub finished_is : (start count kind number : ℕ) (bytes : List ℕ) → HoldsParts start count bytes →
    spelled (length bytes) 0 (finished start count kind number bytes) ≡ record { records = take start bytes ++ spell 1 kind number (parts_behind start count bytes); parts = [] }
unfolding spell
finished_is start count kind number bytes h =
    let rs = parts_behind start count bytes in
    let zeros = replicate 20 0 in
    let long : start + 20 ≤ length bytes = h.head in
    let front : take start (bytes ++ zeros) ≡ take start bytes = take-append-le start bytes zeros (omega (arith, long)) in
    let back : drop (start + 20) (bytes ++ zeros) ≡ flat_map part rs ++ zeros = drop-append-le (start + 20) bytes zeros h.head ∙ ap (λ (x : List ℕ). x ++ zeros) (sym h.parts) in
    let record_bytes = head 1 kind number count (length bytes - start - 20) ++ flat_map part rs in
    let whole : finished start count kind number bytes ≡ (take start bytes ++ record_bytes) ++ zeros =
    (λ i. front i ++ head 1 kind number count (length bytes - start - 20) ++ back i)
    ∙ sym (append_assoc (take start bytes ++ head 1 kind number count (length bytes - start - 20)) (flat_map part rs) zeros)
    ∙ ap (λ (x : List ℕ). x ++ zeros) (append_assoc (take start bytes) (head 1 kind number count (length bytes - start - 20)) (flat_map part rs)) in
    let size : length (take start bytes ++ record_bytes) ≡ length bytes =
    omega (arith, length-append (take start bytes) record_bytes, length-take start bytes, long, length-flat_map-part rs, parts_length start count bytes h) in
    let told : record_bytes ≡ spell 1 kind number rs =
    (λ i. head 1 kind number (sym (parts_count start count bytes h) i) (sym (parts_length start count bytes h) i) ++ flat_map part rs) in
    let taken : take (length bytes) (finished start count kind number bytes) ≡ take start bytes ++ spell 1 kind number rs =
    ap (take (length bytes)) whole ∙ take_at (take start bytes ++ record_bytes) zeros (length bytes) size ∙ ap (λ (x : List ℕ). take start bytes ++ x) told in
    λ i. record { records = taken i; parts = [] }
