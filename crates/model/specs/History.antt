-- What a history tells of the line of jobs, and of the locks that are held. Assumes nothing.
--   Turn         a job in the line: its slot, its operations, and whether it is committed
--   line h       jobs in the order in which their commits were granted
--   in_turn l    the operations of the committed jobs, one job after the other
--   held h l     the lock l is held
use Rattle.std.specs.Prelude.{ℕ, Bool, true, false, not, ◌&&◌, ◌||◌, List, [], ◌∷◌, ◌++◌, map, filter, if◌then◌else◌, ◌==◌}
use Rattle.std.specs.List.{flat_map}
use Rattle.model.specs.Event.{Op, Deed, takes, asks, commits, frees, ends, History}
use Rattle.model.specs.Job.{job}

-- a job in the line
pub record Turn (V : Type 0) : Type 0 where
  pub slot : ℕ
  pub ops : List (Op V)
  pub committed : Bool

module _ {V : Type 0} where
  -- the turn is a job of this slot that is not committed
  abbrev pub waits : ℕ → Turn V → Bool
  waits s t = t.slot == s && not t.committed

  -- the jobs of the slot are committed
  abbrev pub marked : ℕ → List (Turn V) → List (Turn V)
  marked s line = map (λ t. if waits s t then record t { committed = true } else t) line

  -- a job of the slot that is not committed leaves the line
  abbrev pub without : ℕ → List (Turn V) → List (Turn V)
  without s line = filter (λ t. not (waits s t)) line

  -- the line after a deed of slot s, whose job has these operations
  abbrev pub line_after : Deed V → ℕ → List (Op V) → List (Turn V) → List (Turn V)
  line_after asks s ops line = line ++ (record { slot = s; ops = ops; committed = false } ∷ [])
  line_after commits s ops line = marked s line
  line_after ends s ops line = without s line
  line_after deed s ops line = line

  -- jobs in the order in which their commits were granted
  abbrev pub line : History V → List (Turn V)
  line [] = []
  line (e ∷ h) = line_after e.deed e.slot (job e.slot h).ops (line h)

  -- the operations of the committed jobs, one job after the other
  abbrev pub in_turn : List (Turn V) → List (Op V)
  in_turn line = flat_map (λ t. if t.committed then t.ops else []) line

  -- the locks held after a deed
  abbrev pub held_after : Deed V → Bool → ℕ → Bool
  held_after (takes k) was l = k == l || was
  held_after (frees k) was l = not (k == l) && was
  held_after deed was l = was

  -- a lock is held from the acquire that took it to the advance that released it
  abbrev pub held : History V → ℕ → Bool
  held [] l = false
  held (e ∷ h) l = held_after e.deed (held h l) l
