-- A log is tested and told record by record, and a bound that is not below its length cuts nothing off.
use Rattle.iso_image.proofs.RefusalWords.{◌≡◌, ◌≢◌, ◌∙◌, refl, ap, ℕ, zero, suc, ◌+◌, ◌≤◌, ◌==◌, cond, List, Option, Some, None, length, get_or, drop, option_map, arith, eq-eqb, length-drop, Geometry, or_else, Written, FormatError, fault_of, OpenError, damaged, log_refusal, record_bytes, told_by, told_first}
use Rattle.std.proofs.Common.{[], ◌∷◌}

-- two bounds that are not below the length say the same
same_refusal : (g : Geometry) (place n most more : ℕ) (log : List ℕ) → length log ≤ most → length log ≤ more → log_refusal g place n most log ≡ log_refusal g place n more log
same_refusal g place n zero zero log a b = refl
same_refusal g place n zero (suc more) [] a b = refl
same_refusal g place n zero (suc more) (x ∷ log) a b = absurd (omega arith)
same_refusal g place n (suc most) zero [] a b = refl
same_refusal g place n (suc most) zero (x ∷ log) a b = absurd (omega arith)
same_refusal g place n (suc most) (suc more) log a b =
    let size = length-drop (record_bytes log) log in
    ap (λ (o : Option OpenError). cond (get_or log 0 0 == 1) (or_else (option_map (damaged place) (fault_of g n log)) o) None)
    (same_refusal g (place + record_bytes log) (n + 1) most more (drop (record_bytes log) log) (omega arith) (omega arith))

same_told : (g : Geometry) (most more : ℕ) (log : List ℕ) → length log ≤ most → length log ≤ more → told_by g most log ≡ told_by g more log
same_told g zero zero log a b = refl
same_told g zero (suc more) [] a b = refl
same_told g zero (suc more) (x ∷ log) a b = absurd (omega arith)
same_told g (suc most) zero [] a b = refl
same_told g (suc most) zero (x ∷ log) a b = absurd (omega arith)
same_told g (suc most) (suc more) log a b =
    let size = length-drop (record_bytes log) log in
    ap (λ (told : List Written). cond (get_or log 0 0 == 1) (told_first g log ∷ told) [])
    (same_told g most more (drop (record_bytes log) log) (omega arith) (omega arith))

-- a closed gate ends the log
pub closed : (g : Geometry) (place n most : ℕ) (log : List ℕ) → get_or log 0 0 ≢ 1 → (log_refusal g place n most log ≡ None) × (told_by g most log ≡ [])
closed g place n most log shut = grind arith

-- an open gate, and the first test that the record after it fails
pub failed : (g : Geometry) (place n most : ℕ) (log : List ℕ) (fault : FormatError) → get_or log 0 0 ≡ 1 → length log ≤ most → fault_of g n log ≡ Some fault
    → log_refusal g place n most log ≡ Some (damaged place fault)
failed g place n zero [] fault opens short fails = absurd (omega arith)
failed g place n zero (x ∷ log) fault opens short fails = absurd (omega arith)
failed g place n (suc most) log fault opens short fails = grind arith

-- a record that passes each test, and the rest of the log
pub passed : (g : Geometry) (place n most : ℕ) (log : List ℕ) → get_or log 0 0 ≡ 1 → length log ≤ most → fault_of g n log ≡ None
    → log_refusal g place n most log ≡ log_refusal g (place + record_bytes log) (n + 1) most (drop (record_bytes log) log)
passed g place n zero [] opens short free = absurd (omega arith)
passed g place n zero (x ∷ log) opens short free = absurd (omega arith)
passed g place n (suc most) log opens short free =
    let size = length-drop (record_bytes log) log in
    let gate = eq-eqb (get_or log 0 0) 1 opens in
    (λ i. cond (gate i) (or_else (option_map (damaged place) (free i)) (log_refusal g (place + record_bytes log) (n + 1) most (drop (record_bytes log) log))) None)
    ∙ same_refusal g (place + record_bytes log) (n + 1) most (suc most) (drop (record_bytes log) log) (omega arith) (omega arith)

-- a record that is told, and the rest of the log
pub told : (g : Geometry) (most : ℕ) (log : List ℕ) → get_or log 0 0 ≡ 1 → length log ≤ most → told_by g most log ≡ told_first g log ∷ told_by g most (drop (record_bytes log) log)
told g zero [] opens short = absurd (omega arith)
told g zero (x ∷ log) opens short = absurd (omega arith)
told g (suc most) log opens short =
    let size = length-drop (record_bytes log) log in
    let gate = eq-eqb (get_or log 0 0) 1 opens in
    (λ i. cond (gate i) (told_first g log ∷ told_by g most (drop (record_bytes log) log)) [])
    ∙ ap (λ (rest : List Written). told_first g log ∷ rest) (same_told g most (suc most) (drop (record_bytes log) log) (omega arith) (omega arith))
