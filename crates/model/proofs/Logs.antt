-- Undo records, and the base at a place: what stays as it is when records are added, put back or dropped.
use Rattle.std.proofs.Common.{◌≡◌, ℕ, ◌<◌, ◌≤◌, if◌then◌else◌, eqb, ◌⊎◌, List, [], ◌∷◌, length, set, slice_get, Option, refl, rules}
use Rattle.std.proofs.lemmas.Bool.{cases_eq}
use Rattle.model.specs.Limits.{least_undo, undo_place}
use Rattle.model.specs.Engine.{Parts, unfit}
use Rattle.model.proofs.Tables.{slice_get-set_here, slice_get-set_there}
use Rattle.model.proofs.Locks.{Status, unheld, taken, Owner}
use Rattle.model.proofs.Invariant.{Saved, unwound, Logged}

-- whether a slot has taken a lock
pub owner_or_not : (s : ℕ) (k : Status) → Owner s k ⊎ (Owner s k → ⊥)
owner_or_not s (unheld v) = search rules
owner_or_not s (taken t v) = search (rules, cases_eq t s)

-- an engine of fit parts has room for all records
pub fit_undo : (parts : Parts) (cells undo : ℕ) → unfit parts cells undo ≡ Option.None → least_undo ≤ undo
fit_undo parts cells undo fit = search rules

module _ {V : Type 0} where
  -- a cell with an old value put back, at its place and elsewhere
  pub put_back : (cells : List V) (q p : ℕ) (old : V) → q < length cells
      → slice_get (set cells q old) p ≡ (if eqb q p then Option.Some old else slice_get cells p)
  put_back cells q p old within = search (rules, slice_get-set_here, slice_get-set_there)

  module _ (parts : Parts) where
    -- no record is of a place whose lock the slot does not own
    pub unwound_apart : (count : ℕ) (undo : List V) (status : ℕ → Status) (s p : ℕ) (log : List (Saved V))
        (changed : List ℕ) (x : Option V)
        → Logged parts count undo status s log changed → (Owner s (status (parts.guard p))
        → ⊥) → unwound log p x ≡ x
    unwound_apart count undo status s p [] changed x logged none = refl
    unwound_apart count undo status s p (r ∷ log) [] x logged none = absurd logged
    unwound_apart count undo status s p (r ∷ log) (q ∷ changed) x logged none =
        search (rules, unwound_apart count undo status s p log changed x)

    -- records stay in place while their cells of the undo memory, their owner and the count of cells do
    pub logged_kept : (count count' : ℕ) (undo undo' : List V) (status status' : ℕ → Status) (s : ℕ)
        (log : List (Saved V)) (changed : List ℕ)
        → count' ≡ count
        → ((k : ℕ) → k < length changed → slice_get undo' (undo_place s k) ≡ slice_get undo (undo_place s k))
        → ((l : ℕ) → Owner s (status l) → Owner s (status' l))
        → Logged parts count undo status s log changed → Logged parts count' undo' status' s log changed
    logged_kept count count' undo undo' status status' s [] [] same values owners logged = tt
    logged_kept count count' undo undo' status status' s [] (q ∷ changed) same values owners logged = logged
    logged_kept count count' undo undo' status status' s (r ∷ log) [] same values owners logged = logged
    logged_kept count count' undo undo' status status' s (r ∷ log) (q ∷ changed) same values owners logged =
        search (rules, logged_kept count count' undo undo' status status' s log changed)

    -- no places, no records
    pub logged_none : (count : ℕ) (undo : List V) (status : ℕ → Status) (s : ℕ) (log : List (Saved V))
        → Logged parts count undo status s log [] → log ≡ []
    logged_none count undo status s [] logged = refl
    logged_none count undo status s (r ∷ log) logged = absurd logged
