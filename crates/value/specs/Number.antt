-- The number: a value of one part of 64 bits. Assumes nothing.
--   number_parts x   its one part
--   number_of ps     the number with these parts
use Rattle.std.specs.Prelude.{ℕ, if◌then◌else◌, List, [], ◌∷◌, Some, None, Option, nat_le}
use Rattle.value.specs.Kind.{widest}
use Rattle.value.specs.declared.number.Number.{Number}

-- its one part is its amount
abbrev pub number_parts : Number → List ℕ
number_parts x = x.amount ∷ []

-- one part of at most 64 bits makes a number, and nothing else does
abbrev pub number_of : List ℕ → Option Number
number_of [] = None
number_of (a ∷ []) = if nat_le a (widest 64) then Some (record { amount = a }) else None
number_of (a ∷ b ∷ rest) = None
