-- The last start not above a place tells how many starts the definition counts from the front, in a rising list. No
-- proof cites these: the contracts need only `Starts`. They stand for whoever reasons of a last start.
use Rattle.std.specs.Prelude.{◌≡◌, ℕ, ◌+◌, ◌-◌, ◌<◌, ◌≤◌, true, if◌then◌else◌, nat_lt, List, [], ◌∷◌, length}
use Rattle.std.proofs.Common.{zero, suc, get_or, refl, ap, ◌∙◌, ⊎_elim, le_of_eq, arith}
use Rattle.std.proofs.lemmas.Bool.{ltb-true, le-leb, lt-leb, and_parts, cases_lt}
use Rattle.locks.specs.ObjectMap.{rising, lawful, begun, object_guard, LastStart}
use Rattle.locks.proofs.Starts.{lawful_parts}

-- in a rising list an earlier start is the smaller
pub rising_apart : (xs : List ℕ) → rising xs ≡ true → (i j : ℕ) → i < j → j < length xs
    → get_or xs i 0 < get_or xs j 0
rising_apart [] up i j less within = absurd (omega arith)
rising_apart (x ∷ []) up i j less within = absurd (omega arith)
rising_apart (x ∷ y ∷ xs) up i zero less within = absurd (omega arith)
rising_apart (x ∷ y ∷ xs) up zero (suc zero) less within =
    ltb-true x y (and_parts (nat_lt x y) (rising (y ∷ xs)) up).0
rising_apart (x ∷ y ∷ xs) up zero (suc (suc j)) less within =
    let parts = and_parts (nat_lt x y) (rising (y ∷ xs)) up in
    let far : y < get_or (y ∷ xs) (suc j) 0 = rising_apart (y ∷ xs) parts.1 0 (suc j) (omega arith) (omega arith) in
    omega (arith, ltb-true x y parts.0)
rising_apart (x ∷ y ∷ xs) up (suc i) (suc j) less within =
    rising_apart (y ∷ xs) (and_parts (nat_lt x y) (rising (y ∷ xs)) up).1 i j (omega arith) (omega arith)

pub rising_le : (xs : List ℕ) → rising xs ≡ true → (i j : ℕ) → i ≤ j → j < length xs → get_or xs i 0 ≤ get_or xs j 0
rising_le xs up i j le within =
    ⊎_elim (λ less. let apart = rising_apart xs up i j less within in omega arith)
    (λ ge. let e : i ≡ j = omega arith in le_of_eq (ap (λ k. get_or xs k 0) e)) (cases_lt i j)

rising_rest : (x : ℕ) (xs : List ℕ) → rising (x ∷ xs) ≡ true → rising xs ≡ true
rising_rest x [] up = refl
rising_rest x (y ∷ xs) up = (and_parts (nat_lt x y) (rising (y ∷ xs)) up).1

-- none of the starts is begun where the first is above the place
pub begun_none : (xs : List ℕ) (p : ℕ) → (0 < length xs → p < get_or xs 0 0) → begun p xs ≡ 0
begun_none [] p above = refl
begun_none (x ∷ xs) p above = ap (λ b. if b then 1 + begun p xs else 0) (lt-leb x p (above (omega arith)))

-- the starts not above a place are those up to the last one
pub begun_last : (xs : List ℕ) (p i : ℕ) → rising xs ≡ true → LastStart xs p i → begun p xs ≡ i + 1
begun_last [] p i up last = absurd (omega arith)
begun_last (x ∷ xs) p zero up last =
    let none : begun p xs ≡ 0 = begun_none xs p (λ some. last.later 1 (omega arith) (omega arith)) in
    ap (λ b. if b then 1 + begun p xs else 0) (le-leb x p last.begins) ∙ ap (λ n. 1 + n) none
begun_last (x ∷ xs) p (suc i) up last =
    let first : x < get_or xs i 0 = rising_apart (x ∷ xs) up 0 (suc i) (omega arith) last.within in
    let rest : begun p xs ≡ i + 1 = begun_last xs p i (rising_rest x xs up) (record {
      within = omega (arith, last.within);
      begins = last.begins;
      later = λ k after within. last.later (suc k) (omega arith) (omega arith);
    }) in
    ap (λ b. if b then 1 + begun p xs else 0) (le-leb x p (omega (arith, last.begins)))
    ∙ omega (arith, rest)

-- so its index is the answer by the definition of the map
pub last_guarded : (xs : List ℕ) (p i : ℕ) → lawful xs ≡ true → LastStart xs p i → i ≡ object_guard xs p
last_guarded xs p i fit last =
    let reached : begun p xs ≡ i + 1 = begun_last xs p i (lawful_parts xs fit).up last in
    let answer : object_guard xs p ≡ begun p xs - 1 = ap (λ b. if b then begun p xs - 1 else 0) fit in
    omega arith
