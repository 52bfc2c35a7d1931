-- A row more, and another last row.
use Rattle.tx_table.proofs.Words.{all_push, length-map, replicate, length_push, map_push, take-append-le, take_all, ◌≡◌, ◌≢◌, ◌∙◌, refl, sym, ap, subst, ℕ, zero, suc, ◌+◌, ◌-◌, ◌<◌, ◌≤◌, true, false, List, [], ◌∷◌, ◌++◌, length, get_or, set, map, take, arith, Option, Some, None, IsTrue, IsFalse, nat_le, common_steps, AllByRecursion, IfSome, Extent, AreTouched, Access, Kind, Read, Write, Span, is_write, TooManyMarks, is_outside, mark_fault, marked, marks_fault, AreBytes, HasBytes, IsAccess, IsSpan, Row, AreEffects, has_patch, HavePatches, access_of, AreWithin, IsRow}

have_more : (accesses : List Access) (a : Access) (entries : List (ℕ × List (Option ℕ))) → HavePatches accesses entries
    → (IsTrue (is_write a) → IsTrue (has_patch a.block entries)) → HavePatches (accesses ++ a ∷ []) entries
have_more [] a entries have here = (here, tt)
have_more (x ∷ accesses) a entries have here = (have.0, have_more accesses a entries have.1 here)

pub have_kept : (accesses : List Access) (old new : List (ℕ × List (Option ℕ))) → ((b : ℕ) → has_patch b old ≡ true → has_patch b new ≡ true)
    → HavePatches accesses old → HavePatches accesses new
have_kept [] old new kept have = tt
have_kept (x ∷ accesses) old new kept have = ((λ write. kept x.block (have.0 write)), have_kept accesses old new kept have.1)

-- what is kept of the rows before the first one more
pub appended : (size blocks applied folded : ℕ) (rows new : List Row) (row : Row) (entries : List (ℕ × List (Option ℕ))) (reads writes : List (ℕ × List Extent))
    → new ≡ rows ++ row ∷ [] → applied ≡ length rows → folded ≤ length rows → length rows < 4096
    → AllByRecursion (λ r. IsRow size r × (r.block < blocks)) rows → IsRow size row → row.block < blocks
    → AreEffects size (map access_of rows) entries → HavePatches (map access_of rows) entries
    → (IsTrue (is_write (access_of row)) → IsTrue (has_patch row.block entries))
    → AreTouched size blocks Read (take folded (map access_of rows)) reads → AreTouched size blocks Write (take folded (map access_of rows)) writes
    → AllByRecursion (λ r. IsRow size r × (r.block < blocks)) new × (applied ≤ length new) × (folded ≤ length new)
    × AreEffects size (take applied (map access_of new)) entries × HavePatches (map access_of new) entries
    × AreTouched size blocks Read (take folded (map access_of new)) reads × AreTouched size blocks Write (take folded (map access_of new)) writes
    × (length new ≤ 4096)
appended size blocks applied folded rows new row entries reads writes is done some few all here within effects have held are_read are_written =
    let more : map access_of new ≡ map access_of rows ++ access_of row ∷ [] = ap (map access_of) is ∙ map_push access_of rows row in
    let long : length new ≡ length rows + 1 = ap (length {A = Row}) is ∙ length_push rows row in
    let count = length-map rows access_of in
    let first : take applied (map access_of new) ≡ map access_of rows =
    ap (take {A = Access} applied) more ∙ take-append-le applied (map access_of rows) (access_of row ∷ []) (omega (arith, done, count)) ∙ take_all applied (map access_of rows) (omega (arith, done, count)) in
    let same : take folded (map access_of new) ≡ take folded (map access_of rows) =
    ap (take {A = Access} folded) more ∙ take-append-le folded (map access_of rows) (access_of row ∷ []) (omega (arith, some, count)) in (
      subst (λ (l : List Row). AllByRecursion (λ r. IsRow size r × (r.block < blocks)) l) (sym is) (all_push (λ r. IsRow size r × (r.block < blocks)) rows row all (here, within)),
      omega (arith, long, done),
      omega (arith, long, some),
      subst (λ (l : List Access). AreEffects size l entries) (sym first) effects,
      subst (λ (l : List Access). HavePatches l entries) (sym more) (have_more (map access_of rows) (access_of row) entries have held),
      subst (λ (l : List Access). AreTouched size blocks Read l reads) (sym same) are_read,
      subst (λ (l : List Access). AreTouched size blocks Write l writes) (sym same) are_written,
      omega (arith, long, few),
    )

-- a row that is not marked
pub unmarked_row : (size : ℕ) (row : Row) (a : Access) → access_of row ≡ a → row.count ≡ 0 → a.spans ≡ [] → HasBytes size a
    → (IsFalse (is_write a) → a.bytes ≡ []) → AreBytes a.bytes → IsRow size row
unmarked_row size row a is none bare bytes empty values = grind arith

-- a row with one mark
pub once_marked_row : (size : ℕ) (row : Row) (a : Access) (span : Span) → access_of row ≡ a → row.count ≡ 1 → a.spans ≡ span ∷ [] → IsSpan size span → HasBytes size a
    → (IsFalse (is_write a) → a.bytes ≡ []) → AreBytes a.bytes → IsRow size row
once_marked_row size row a span is one marks here bytes empty values =
    let P : Access → Type 0 = λ x. AllByRecursion (IsSpan size) x.spans × HasBytes size x × (IsFalse (is_write x) → x.bytes ≡ []) × AreBytes x.bytes × (length x.spans ≡ 1) in
    let there : P (access_of row) = subst P (sym is) (subst (λ (l : List Span). AllByRecursion (IsSpan size) l) (sym marks) (here, tt), bytes, empty, values, ap (length {A = Span}) marks) in
    record { few = omega (arith, one); marks = there.4 ∙ sym one; spans = there.0; bytes = there.1; none = there.2; values = there.3 }

-- a block with bytes in it and zeros round them
pub length_put : (size off : ℕ) (bytes : List ℕ) → off + length bytes ≤ size → length (replicate {A = ℕ} off 0 ++ bytes ++ replicate (size - (off + length bytes)) 0) ≡ size
length_put size off bytes fits = grind (arith, common_steps)

-- accesses to blocks of the image
take_few : (n : ℕ) (spans : List Span) → length (take n spans) ≤ n
take_few zero spans = omega arith
take_few (suc n) [] = omega arith
take_few (suc n) (x ∷ spans) = let rest = take_few n spans in omega (arith, rest)

pub rows_within : (size blocks : ℕ) (rows : List Row) → AllByRecursion (λ r. IsRow size r × (r.block < blocks)) rows → AreWithin size blocks (map access_of rows)
rows_within size blocks [] all g is_size is_blocks = tt
rows_within size blocks (row ∷ rows) all g is_size is_blocks =
    let few = take_few row.count row.spans in
    let here : IsAccess g (access_of row) = record {
      block = subst (λ (n : ℕ). row.block < n) (sym is_blocks) all.0.1;
      spans = subst (λ (n : ℕ). AllByRecursion (IsSpan n) (take row.count row.spans)) (sym is_size) all.0.0.spans;
      few = omega (arith, few, all.0.0.few);
      bytes = subst (λ (n : ℕ). HasBytes n (access_of row)) (sym is_size) all.0.0.bytes;
      none = all.0.0.none;
      values = all.0.0.values;
    } in
    (here, rows_within size blocks rows all.1 g is_size is_blocks)

-- another row in the place of the last
pub marked_set : (i : ℕ) (rows : List Row) (row d : Row) (span : Span) → i + 1 ≡ length rows
    → access_of row ≡ record (access_of (get_or rows i d)) { spans = (access_of (get_or rows i d)).spans ++ span ∷ [] }
    → map access_of (set rows i row) ≡ marked span (map access_of rows)
marked_set i [] row d span last is = absurd (omega arith)
marked_set zero (x ∷ []) row d span last is = ap (λ (a : Access). a ∷ []) is
marked_set zero (x ∷ y ∷ rows) row d span last is = absurd (omega arith)
marked_set (suc i) (x ∷ []) row d span last is = absurd (omega arith)
marked_set (suc i) (x ∷ y ∷ rows) row d span last is = ap (λ (l : List Access). access_of x ∷ l) (marked_set i (y ∷ rows) row d span (omega arith) is)

pub take_set : (n i : ℕ) (rows : List Row) (row : Row) → n ≤ i → take n (map access_of (set rows i row)) ≡ take n (map access_of rows)
take_set zero i rows row le = refl
take_set (suc n) i [] row le = refl
take_set (suc n) zero (x ∷ rows) row le = absurd (omega arith)
take_set (suc n) (suc i) (x ∷ rows) row le = ap (λ (l : List Access). access_of x ∷ l) (take_set n i rows row (omega arith))

pub all_set : (P : Row → Type 0) (i : ℕ) (rows : List Row) (row : Row) → AllByRecursion P rows → P row → AllByRecursion P (set rows i row)
all_set P i [] row all here = tt
all_set P zero (x ∷ rows) row all here = (here, all.1)
all_set P (suc i) (x ∷ rows) row all here = (all.0, all_set P i rows row all.1 here)

pub have_set : (i : ℕ) (rows : List Row) (row d : Row) (entries : List (ℕ × List (Option ℕ))) → row.kind ≡ (get_or rows i d).kind → row.block ≡ (get_or rows i d).block
    → HavePatches (map access_of rows) entries → HavePatches (map access_of (set rows i row)) entries
have_set i [] row d entries kind block have = tt
have_set zero (x ∷ rows) row d entries kind block have =
    let write : is_write (access_of row) ≡ is_write (access_of x) = ap (λ (k : Kind). is_write (record { kind = k; block = 0; spans = []; bytes = [] })) kind in
    ((λ is. subst (λ (n : ℕ). IsTrue (has_patch n entries)) (sym block) (have.0 (sym write ∙ is))), have.1)
have_set (suc i) (x ∷ rows) row d entries kind block have = (have.0, have_set i rows row d entries kind block have.1)

-- what the last row says of a further mark
pub fault_of_last : (i : ℕ) (rows : List Row) (d : Row) → i + 1 ≡ length rows → marks_fault (map access_of rows) ≡ marks_fault (access_of (get_or rows i d) ∷ [])
fault_of_last i [] d last = absurd (omega arith)
fault_of_last zero (x ∷ []) d last = refl
fault_of_last zero (x ∷ y ∷ rows) d last = absurd (omega arith)
fault_of_last (suc i) (x ∷ []) d last = absurd (omega arith)
fault_of_last (suc i) (x ∷ y ∷ rows) d last = fault_of_last i (y ∷ rows) d (omega arith)

-- the row with one mark more
pub marked_row : (size : ℕ) (row new : Row) (span : Span) → IsRow size row → access_of new ≡ record (access_of row) { spans = (access_of row).spans ++ span ∷ [] }
    → new.count ≡ row.count + 1 → row.count < 8 → IsSpan size span → IsRow size new
marked_row size row new span is access count few here =
    let P : Access → Type 0 = λ x. AllByRecursion (IsSpan size) x.spans × HasBytes size x × (IsFalse (is_write x) → x.bytes ≡ []) × AreBytes x.bytes × (length x.spans ≡ new.count) in
    let long = length_push (access_of row).spans span in
    let there : P (access_of new) = subst P (sym access) (all_push (IsSpan size) (access_of row).spans span is.spans here, is.bytes, is.none, is.values, omega (arith, long, is.marks, count)) in
    record { few = omega (arith, count, few); marks = there.4; spans = there.0; bytes = there.1; none = there.2; values = there.3 }

-- why the last row takes no further mark, or that it does
not_outside : (size off len : ℕ) → len ≢ 0 → off + len ≤ size → is_outside size off len ≡ false
not_outside size off len some fits = grind arith

fault_is : (size off len i : ℕ) (rows : List Row) (d : Row) → len ≢ 0 → off + len ≤ size → i + 1 ≡ length rows
    → mark_fault size off len (map access_of rows) ≡ marks_fault (access_of (get_or rows i d) ∷ [])
fault_is size off len i rows d some fits last = rw (not_outside size off len some fits) (fault_of_last i rows d last)

pub full_fault : (size off len i : ℕ) (rows : List Row) (d : Row) → len ≢ 0 → off + len ≤ size → i + 1 ≡ length rows → IsRow size (get_or rows i d) → 8 ≤ (get_or rows i d).count
    → mark_fault size off len (map access_of rows) ≡ Some TooManyMarks
full_fault size off len i rows d some fits last is full =
    let marks = is.marks in
    let test : nat_le 8 (length (access_of (get_or rows i d)).spans) ≡ true = grind (arith, common_steps, marks, full) in
    fault_is size off len i rows d some fits last ∙ rw test refl

pub no_fault : (size off len i : ℕ) (rows : List Row) (d : Row) → len ≢ 0 → off + len ≤ size → i + 1 ≡ length rows → IsRow size (get_or rows i d) → (get_or rows i d).count < 8
    → mark_fault size off len (map access_of rows) ≡ None
no_fault size off len i rows d some fits last is few =
    let marks = is.marks in
    let test : nat_le 8 (length (access_of (get_or rows i d)).spans) ≡ false = grind (arith, common_steps, marks, few) in
    fault_is size off len i rows d some fits last ∙ rw test refl

pub if_some : {A : Type 0} {P Q : A → Type 0} (o : Option A) → ((x : A) → P x → Q x) → IfSome o P → IfSome o Q
if_some None step all = tt
if_some (Some x) step all = step x all
