-- The object map, by the places at which objects start. Assumes nothing.
--   most_objects             no lawful list has more starts
--   rising starts            each start is above the one before it
--   lawful starts            1 to 256 starts, the first 0, rising
--   object_locks starts      how many locks the map counts
--   begun p starts           how many of the starts, from the first on, are not above p
--   object_guard starts p    the lock of place p
--   LastStart starts p i     i is the index of the last start not above p
use Rattle.std.specs.Prelude.{ℕ, ◌+◌, ◌-◌, ◌<◌, ◌≤◌, Bool, true, false, if◌then◌else◌, ◌&&◌, List, [], ◌∷◌, length, ◌==◌, nat_le, nat_lt, slice_index}

-- no lawful list has more starts
abbrev pub most_objects : ℕ
most_objects = 256

-- each start is above the one before it
abbrev pub rising : List ℕ → Bool
rising [] = true
rising (a ∷ []) = true
rising (a ∷ b ∷ rest) = nat_lt a b && rising (b ∷ rest)

-- 1 to 256 starts, the first of them 0, rising strictly
abbrev pub lawful : List ℕ → Bool
lawful [] = false
lawful (a ∷ rest) = a == 0 && nat_le (length (a ∷ rest)) most_objects && rising (a ∷ rest)

-- a lock for each object of a lawful list, and none otherwise
abbrev pub object_locks : List ℕ → ℕ
object_locks starts = if lawful starts then length starts else 0

-- how many starts, from the first on, are not above the place
abbrev pub begun : ℕ → List ℕ → ℕ
begun place [] = 0
begun place (a ∷ rest) = if nat_le a place then 1 + begun place rest else 0

-- the index of the last start not above the place; with no locks the answer is 0
abbrev pub object_guard : List ℕ → ℕ → ℕ
object_guard starts place = if lawful starts then begun place starts - 1 else 0

-- i is the index of the last start not above the place
pub record LastStart (starts : List ℕ) (place i : ℕ) : Type 0 where
  pub within : i < length starts
  pub begins : slice_index starts i ≤ place
  pub later : (k : ℕ) → i < k → k < length starts → place < slice_index starts k
