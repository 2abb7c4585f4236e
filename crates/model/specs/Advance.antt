-- The six rows of advance, two for each state of a closing slot. Assumes nothing.
--   check_next i x       checking, with the entry x left at i, or none
--   undo_next ps         undoing, with the records of the places ps left
--   unlock_next i o x    unlocking with outcome o, with the held entry x left at i, or none
use Rattle.std.specs.Prelude.{ℕ, ◌+◌, List, [], ◌∷◌, length, Option, if◌then◌else◌, slice_get, slice_set}
use Rattle.locks.specs.declared.lock_word.Lock.{Lock}
use Rattle.model.specs.declared.outcome.Outcome.{Outcome}
use Rattle.model.specs.declared.slot_state.SlotState.{SlotState}
use Rattle.model.specs.declared.answer.Answer.{Answer}
use Rattle.model.specs.Limits.{undo_place}
use Rattle.model.specs.Engine.{Entry, Engine, good}
use Rattle.model.specs.Step.{Reply, in_state, recording, where_cell, own, moves, locks, writes}

module _ {V : Type 0} (engine : Engine V) (s : ℕ) where
  -- a good entry is passed, a stale one has the job undone; with none left the job is committed
  abbrev pub check_next : ℕ → Option Entry → Reply V
  check_next i (Option.Some x) =
      if good engine s x
      then moves engine s (in_state (SlotState.Checking (i + 1)) (own engine s)) (Answer.Passed x.lock)
      else moves engine s (in_state SlotState.Undoing (own engine s)) (Answer.Stale x.lock)
  check_next i Option.None =
      moves engine s (in_state (SlotState.Unlocking 0 Outcome.Committed) (own engine s)) Answer.Committed

  -- the newest record is put back and dropped; with none left the locks are to be released
  abbrev pub undo_next : List ℕ → Reply V
  undo_next (p ∷ older) =
      let k = undo_place s (length older) in
      where_cell engine k (slice_get engine.undo k) λ old.
      where_cell engine p (slice_get engine.cells p) λ _.
      writes engine s (slice_set engine.cells p old) engine.undo
      (recording older (own engine s)) (Answer.Restored p)
  undo_next [] = moves engine s (in_state (SlotState.Unlocking 0 Outcome.Undone) (own engine s)) Answer.Unlocking

  -- a held lock becomes free at the next version; with none left the job has ended
  abbrev pub unlock_next : ℕ → Outcome → Option Entry → Reply V
  unlock_next i outcome (Option.Some x) =
      locks engine s x.lock (Lock.Free (x.version + 1))
      (in_state (SlotState.Unlocking (i + 1) outcome) (own engine s)) (Answer.Released x.lock)
  unlock_next i outcome Option.None = moves engine s (in_state SlotState.Free (own engine s)) (Answer.Ended outcome)
