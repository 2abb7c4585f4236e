-- The line of jobs at one place, with no engine in sight: only who waits, who is checking, who owns
-- the place's lock, who has passed it, whose entry of it is sound, what each job did there, and the
-- base, which is the value that the committed jobs leave. The steps of the engine change this view;
-- here is what each kind of change does to the line.
use Rattle.std.proofs.Common.{◌≡◌, ℕ, true, false, cond, ◌⊎◌, List, [], ◌∷◌, Option, rules}
use Rattle.model.specs.History.{Turn, waits, in_turn}
use Rattle.model.proofs.Place.{Act, then, Fits, here, then-append, fits_append, here-append}

pub record View (V : Type 0) : Type 1 where
  -- the value at the place after the committed jobs
  pub base : Option V
  -- what the job of a slot did there
  pub acts : ℕ → List (Act V)
  -- the slot's job may stand in the line without being committed
  pub Waits : ℕ → Type 0
  -- it is checking
  pub Checks : ℕ → Type 0
  -- it owns the lock of the place
  pub Owns : ℕ → Type 0
  -- it is checking, and has passed that lock
  pub Passes : ℕ → Type 0
  -- its read set has a sound entry of that lock
  pub Sounds : ℕ → Type 0

module _ {V : Type 0} where
  -- of each turn
  abbrev pub Each : (Turn V → Type 0) → List (Turn V) → Type 0
  Each P [] = Unit {0}
  Each P (t ∷ line) = P t × Each P line

  -- no job of the slot waits in the line, and one does
  abbrev pub Absent : ℕ → List (Turn V) → Type 0
  Absent s line = Each (λ t. waits s t ≡ false) line

  abbrev pub Present : ℕ → List (Turn V) → Type 0
  Present s [] = ⊥
  Present s (t ∷ line) = (waits s t ≡ true) ⊎ Present s line

  -- a job that is not committed waits for its own slot
  pub waits_own : (t : Turn V) → t.committed ≡ false → waits t.slot t ≡ true
  waits_own t waiting = search rules

  module _ (v : View V) (p : ℕ) where
    -- what a waiting job that owns the lock asks of those behind it: the committed do nothing at the place, and
    -- none that is checking has passed the lock
    abbrev pub Quiet : Turn V → Type 0
    Quiet t = cond t.committed (here p t.ops ≡ []) (v.Checks t.slot → v.Passes t.slot → ⊥)

    -- a waiting job, with x the value that the committed jobs before it leave
    pub record Waiting (x : Option V) (t : Turn V) (rest : List (Turn V)) : Type 0 where
      pub waiting : v.Waits t.slot
      pub same : here p t.ops ≡ v.acts t.slot
      pub only : Absent t.slot rest
      pub quiet : v.Checks t.slot → v.Owns t.slot → Each Quiet rest
      pub passed : v.Checks t.slot → v.Passes t.slot → Fits (here p t.ops) x
      pub sound : v.Checks t.slot → v.Sounds t.slot → x ≡ v.base

    -- the line from the value x on: a committed job fits, and goes on from what it leaves; at the end is the base
    abbrev pub Along : Option V → List (Turn V) → Type 0
    Along x [] = v.base ≡ x
    Along x (t ∷ rest) =
        cond t.committed (Fits (here p t.ops) x × Along (then (here p t.ops) x) rest)
        (Waiting x t rest × Along x rest)

  -- the committed jobs fit, one after the other, and leave the base
  pub along_fits : (v : View V) (p : ℕ) (x : Option V) (line : List (Turn V)) → Along v p x line
      → Fits (here p (in_turn line)) x × (v.base ≡ then (here p (in_turn line)) x)
  along_fits v p x [] along = (tt, along)
  along_fits v p x (t ∷ rest) along =
      search (rules, λ (y : Option V). along_fits v p y rest, here-append, fits_append, then-append)
