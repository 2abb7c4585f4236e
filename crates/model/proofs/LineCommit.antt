-- A job that is committed, in the line at one place: it is marked where it stands. Where it does not own the lock
-- of the place, no value moves; where it does, all behind it are quiet there, and what it leaves is the new base.
use Rattle.std.proofs.Common.{◌≡◌, ℕ, ◌⊎◌, List, [], ◌∷◌, Option, refl, rules}
use Rattle.model.specs.History.{Turn, marked}
use Rattle.model.proofs.Place.{Fits, Gets, then_gets}
use Rattle.model.proofs.Line.{View, Each, Absent, Present, Quiet, Along}
use Rattle.model.proofs.LineMoves.{but, joined, absent_marked, marked_absent, along_narrow}

module _ {V : Type 0} where
  -- at a place whose lock it does not own
  module _ (v : View V) (p s : ℕ) (checks : v.Checks s) (reading : Gets (v.acts s))
      (known : v.Passes s ⊎ (v.acts s ≡ [])) where
    quiet_marked : (x : Option V) (rest : List (Turn V)) → Along v p x rest → Each (Quiet v p) rest
        → Each (Quiet v p) (marked s rest)
    quiet_marked x [] along each = tt
    quiet_marked x (t ∷ rest) along each = search (rules, λ (y : Option V). quiet_marked y rest)

    pub along_marked : (x : Option V) (line : List (Turn V)) → Along v p x line
        → Along (but s v) p x (marked s line)
    along_marked x [] along = along
    along_marked x (t ∷ rest) along =
        search (
          rules,
          λ (y : Option V). along_marked y rest,
          absent_marked,
          quiet_marked,
          then_gets,
          marked_absent,
          along_narrow,
        )

  -- at a place whose lock it owns
  module _ (v : View V) (p s : ℕ) (checks : v.Checks s) (owns : v.Owns s)
      (alone : (u : ℕ) → (u ≡ s → ⊥) → v.Owns u → ⊥) (stale : (u : ℕ) → (u ≡ s → ⊥) → v.Sounds u → ⊥)
      (known : v.Passes s ⊎ Fits (v.acts s) v.base) where
    -- behind it nothing moves the value
    quiet_base : (x : Option V) (rest : List (Turn V)) → Each (Quiet v p) rest → Along v p x rest → v.base ≡ x
    quiet_base x [] each along = along
    quiet_base x (t ∷ rest) each along = search (rules, λ (y : Option V). quiet_base y rest each.1)

    abbrev after : Option V
    after = (joined s v).base

    along_quiet : (x : Option V) (rest : List (Turn V)) → Each (Quiet v p) rest → Absent s rest → Along v p x rest
        → Along (joined s v) p after rest
    along_quiet x [] each absent along = refl
    along_quiet x (t ∷ rest) each absent along = search (rules, λ (y : Option V). along_quiet y rest each.1 absent.1)

    pub along_joined : (x : Option V) (line : List (Turn V)) → Present s line → Along v p x line
        → Along (joined s v) p x (marked s line)
    along_joined x [] present along = absurd present
    along_joined x (t ∷ rest) present along =
        search (rules, λ (y : Option V). along_joined y rest, quiet_base, marked_absent, along_quiet, absent_marked)
