-- Tables with one value changed, tests, and look-ups. The proofs of the law cite these.
use Rattle.std.proofs.Common.{◌≡◌, ℕ, suc, ◌<◌, true, false, eqb, ◌⊎◌, List, [], ◌∷◌, ◌++◌, length, set, slice_get, Option, refl, ⊎_elim, arith, rules}
use Rattle.std.proofs.lemmas.Grind.{common_steps}
use Rattle.std.proofs.lemmas.Option.{slice_get_cases, gets}
use Rattle.std.proofs.lemmas.Bool.{eqb-true, or_cases}
use Rattle.model.specs.Engine.{Entry, updated, has_lock}

module _ {A : Type 0} (f : ℕ → A) (k : ℕ) (a : A) where
  -- what holds of the value put in, and of every other, holds of all
  pub updated_each : (P : ℕ → A → Type 0) → P k a → ((q : ℕ) → (q ≡ k → ⊥) → P q (f q))
      → (q : ℕ) → P q (updated f k a q)
  updated_each P here there q = search rules

-- an element of a list with one more behind it
pub slice_get_push : {A : Type 0} (xs : List A) (x : A) (i : ℕ) (y : A) → slice_get (xs ++ (x ∷ [])) i ≡ Option.Some y
    → (slice_get xs i ≡ Option.Some y) ⊎ ((i ≡ length xs) × (x ≡ y))
slice_get_push xs x i y e = grind (arith, common_steps, gets, slice_get_cases xs i, slice_get_cases (xs ++ (x ∷ [])) i)

-- a cell of a list of which one cell is replaced
module _ {A : Type 0} where
  pub slice_get-set_there : (xs : List A) (q p : ℕ) (x : A) → (q ≡ p → ⊥) → slice_get (set xs q x) p ≡ slice_get xs p
  slice_get-set_there xs q p x apart = grind (arith, common_steps, gets)

  pub slice_get-set_here : (xs : List A) (p : ℕ) (x : A) → p < length xs → slice_get (set xs p x) p ≡ Option.Some x
  slice_get-set_here xs p x within = grind (arith, common_steps, gets)

-- where a list has a lock, some entry is of it; and a list with one more entry
pub lock_found : (xs : List Entry) (l : ℕ) → has_lock xs l ≡ true
    → (i : ℕ) × (x : Entry) × (slice_get xs i ≡ Option.Some x) × (x.lock ≡ l)
lock_found [] l e = cc
lock_found (x ∷ xs) l e =
    ⊎_elim (λ here. (0, x, refl, eqb-true x.lock l here))
    (λ there. let f = lock_found xs l there in (suc f.0, f.1, f.2, f.3))
    (or_cases (eqb x.lock l) (has_lock xs l) e)

pub lock_pushed : (xs : List Entry) (x : Entry) (l : ℕ) → has_lock (xs ++ (x ∷ [])) l ≡ false
    → (has_lock xs l ≡ false) × (x.lock ≡ l → ⊥)
lock_pushed [] x l e = search rules
lock_pushed (y ∷ xs) x l e = search (rules, lock_pushed xs x l)
