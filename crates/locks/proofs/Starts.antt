-- What the starts of a lawful list give: the check of neighbours, and the last start not above a place.
-- The proofs of `object_map` cite these, but for `counts_none`.
use Rattle.std.specs.Prelude.{◌≡◌, ℕ, ◌+◌, ◌-◌, ◌<◌, ◌≤◌, Bool, true, false, if◌then◌else◌, ◌&&◌, nat_le, nat_lt, List, [], ◌∷◌, length, Some, slice_get, slice_index}
use Rattle.std.specs.List.{IsAllAdjacentAnswer}
use Rattle.std.specs.List.Sorted.{IsPartitionedBy, IsPartitionPoint}
use Rattle.std.proofs.Common.{zero, suc, get_or, sym, refl, ap, ◌∙◌, ⊎_elim, add-one, arith}
use Rattle.std.proofs.lemmas.Bool.{leb-true, leb-false, and_parts, cases_Bool}
use Rattle.std.proofs.lemmas.Bool.Decides.{nat_tests}
use Rattle.std.proofs.lemmas.List.Sorted.{IsNonDecreasingBy-from_all_adjacent, IsPartitionedBy-leb}
use Rattle.locks.specs.ObjectMap.{most_objects, rising, lawful, object_locks, begun, object_guard, LastStart}

-- in a rising list each start is below the next
rising_next : (xs : List ℕ) → rising xs ≡ true → (k d : ℕ) → k + 1 < length xs → get_or xs k d < get_or xs (k + 1) d
rising_next [] up k d within = omega arith
rising_next (x ∷ []) up k d within = omega arith
rising_next (x ∷ y ∷ xs) up zero d within = grind (arith, nat_tests)
rising_next (x ∷ y ∷ xs) up (suc k) d within =
    let rest = rising_next (y ∷ xs) (and_parts (nat_lt x y) (rising (y ∷ xs)) up).1 k d (omega arith) in
    simp add-one (simp add-one at rest)

-- what the check of neighbours answers
pub rising_answer : (xs : List ℕ) (r : Bool) → IsAllAdjacentAnswer (λ x y b. b ≡ nat_lt x y) xs r → r ≡ rising xs
rising_answer [] true up = refl
rising_answer (x ∷ []) true up = refl
rising_answer (x ∷ y ∷ xs) true up =
    rising_answer (y ∷ xs) true (λ k d within. simp add-one (simp add-one at (up (suc k) d (omega arith))))
    ∙ ap (λ b. b && rising (y ∷ xs)) (up 0 0 (omega arith))
rising_answer xs false (k, within, down) =
    ⊎_elim (λ up. let less = rising_next xs up k 0 within in grind (arith, nat_tests, down 0)) sym
    (cases_Bool (rising xs))

-- a list that begins with 0 and is not too long is lawful if it rises
pub lawful_rising : (xs : List ℕ) → slice_get xs 0 ≡ Some 0 → length xs ≤ most_objects → rising xs ≡ lawful xs
lawful_rising [] first few = cc
lawful_rising (x ∷ xs) first few = grind (arith, nat_tests)

-- what lawful says
pub record Lawful (xs : List ℕ) : Type 0 where
  pub some : 0 < length xs
  pub few : length xs ≤ most_objects
  pub from_zero : slice_index xs 0 ≡ 0
  pub up : rising xs ≡ true

pub lawful_parts : (xs : List ℕ) → lawful xs ≡ true → Lawful xs
lawful_parts [] fit = cc
lawful_parts (x ∷ xs) fit = record {
  some = omega arith;
  few = grind (arith, nat_tests);
  from_zero = grind (arith, nat_tests);
  up = grind (arith, nat_tests);
}

-- so the starts not above a place come before those above it
pub lawful_parted : (xs : List ℕ) (p : ℕ) → lawful xs ≡ true → IsPartitionedBy (λ y. nat_le y p) xs
lawful_parted xs p fit = IsPartitionedBy-leb (λ y. y) xs p (IsNonDecreasingBy-from_all_adjacent (λ y. y) xs
    (λ k d within. let less = rising_next xs (lawful_parts xs fit).up k d within in omega arith))

-- a map counts locks exactly if its starts are lawful; with none its answer is 0
pub counts_lawful : (xs : List ℕ) → (object_locks xs ≡ 0 → ⊥) → lawful xs ≡ true
counts_lawful xs counts =
    ⊎_elim (λ fit. fit) (λ unfit. absurd (counts (ap (λ b. if b then length xs else 0) unfit))) (cases_Bool (lawful xs))

pub counts_none : (xs : List ℕ) → object_locks xs ≡ 0 → lawful xs ≡ false
counts_none xs none = ⊎_elim
    (λ fit. absurd (let some = (lawful_parts xs fit).some in
    omega (arith, none, ap (λ b. if b then length xs else 0) fit)))
    (λ unfit. unfit) (cases_Bool (lawful xs))

pub guard_none : (xs : List ℕ) (p : ℕ) → object_locks xs ≡ 0 → 0 ≡ object_guard xs p
guard_none [] p none = refl
guard_none (x ∷ xs) p none =
    ⊎_elim (λ fit. absurd (let all = ap (λ b. if b then length (x ∷ xs) else 0) fit in omega (arith, all, none)))
    (λ unfit. sym (ap (λ b. if b then begun p (x ∷ xs) - 1 else 0) unfit)) (cases_Bool (lawful (x ∷ xs)))

-- the first i starts are not above the place, and the rest are
abbrev pub Parts : List ℕ → ℕ → ℕ → Type 0
Parts xs p i = IsPartitionPoint (λ y. nat_le y p ≡ true) (λ y. nat_le y p ≡ false) xs i

begun_parts : (xs : List ℕ) (p i : ℕ) → i ≤ length xs → Parts xs p i → begun p xs ≡ i
begun_parts [] p i within parts = omega arith
begun_parts (x ∷ xs) p zero within (front, back) = rw (back 0 0 (omega arith) (omega arith)) refl
begun_parts (x ∷ xs) p (suc i) within (front, back) =
    let rest = begun_parts xs p i (omega arith) (
      λ k d low high. front (suc k) d (omega arith) (omega arith),
      λ k d low high. back (suc k) d (omega arith) (omega arith),
    ) in
    rw (front 0 0 (omega arith) (omega arith)) (omega (arith, rest))

module _ (xs : List ℕ) (p i : ℕ) (fit : lawful xs ≡ true) (within : i ≤ length xs) (parts : Parts xs p i) where
  -- the first start is not above the place
  pub some_begun : 1 ≤ i
  some_begun = let first = (lawful_parts xs fit).from_zero in grind (arith, nat_tests, parts.1 0 0)

  -- the start before that point is the last one not above the place
  pub last_start : LastStart xs p (i - 1)
  last_start =
      let some = some_begun in
      record {
        within = omega arith;
        begins = leb-true _ _ (parts.0 (i - 1) 0 (omega arith) (omega arith));
        later = λ k after within. omega (arith, leb-false _ _ (parts.1 k 0 (omega arith) within));
      }

  -- its index is the answer by the definition of the map
  pub guarded : i - 1 ≡ object_guard xs p
  guarded = sym (ap (λ b. if b then begun p xs - 1 else 0) fit ∙ ap (λ n. n - 1) (begun_parts xs p i within parts))
