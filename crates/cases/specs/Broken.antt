-- Seven broken engines: the plain step, but for one or two rows of its table. Assumes nothing.
--   EngineStep             a step over numbers
--   Rows, with_rows        a table by the slot's state and the step that is asked, and the step that it makes
--   lenient good_too       entries of which good_too says so count as good, in check and in advance while checking
--   unlocking_rows next    an unlocking slot advances by next
--   undoing_rows next      an undoing slot advances by next
--   never_looks            every entry counts as good
--   own_is_good            an entry whose lock the slot holds counts as good, whatever its version
--   old_version            after an undo a lock is free at the version at which it was taken
--   never_ends             with no lock left to release the job does not end
--   keeps_stores           an undo drops its records and puts nothing back
--   refuses_advance        an undoing job is refused its advances
--   stores_late            a checking job may still store
use Rattle.std.specs.Prelude.{ℕ, ◌+◌, Bool, true, not, if◌then◌else◌, List, [], Option, filter}
use Rattle.std.specs.List.{slice_get}
use Rattle.locks.specs.declared.lock_word.Lock.{Lock}
use Rattle.model.specs.declared.outcome.Outcome.{Outcome}
use Rattle.model.specs.declared.slot_state.SlotState.{SlotState}
use Rattle.model.specs.declared.step.Step.{Step}
use Rattle.model.specs.declared.step.Call.{Call}
use Rattle.model.specs.declared.answer.Answer.{Answer}
use Rattle.model.specs.Engine.{Parts, Entry, Engine, holds, first_stale}
use Rattle.model.specs.Step.{Reply, in_state, answers, moves, locks, store}
use Rattle.model.specs.Advance.{check_next, undo_next, unlock_next}
use Rattle.model.specs.Table.{verdict, wrong, open_row, closing_row, step}

-- a step over numbers
abbrev pub EngineStep : Type 0
EngineStep = Parts → Engine ℕ → Call ℕ → Reply ℕ

-- a table: what a call comes to, by the state of its slot and the step that is asked
abbrev pub Rows : Type 0
Rows = Parts → Engine ℕ → Call ℕ → SlotState → Step ℕ → Reply ℕ

-- the step that the table makes
abbrev pub with_rows : Rows → EngineStep
with_rows rows parts engine call = rows parts engine call (engine.slots call.slot).state call.step

module _ (good_too : Engine ℕ → ℕ → Entry → Bool) where
  -- the entries that are looked at
  abbrev pub looked_at : Engine ℕ → ℕ → List Entry
  looked_at engine s = filter (λ x. not (good_too engine s x)) (engine.slots s).reads

  -- advance while checking
  abbrev pub lenient_next : Engine ℕ → ℕ → ℕ → Option Entry → Reply ℕ
  lenient_next engine s i (Option.Some x) =
      if good_too engine s x
      then moves engine s (in_state (SlotState.Checking (i + 1)) (engine.slots s)) (Answer.Passed x.lock)
      else check_next engine s i (Option.Some x)
  lenient_next engine s i Option.None = check_next engine s i Option.None

  -- check of an open slot and the row of a checking slot are not the plain ones
  abbrev pub lenient_rows : Rows
  lenient_rows parts engine call SlotState.Open Step.Check =
      answers engine (verdict (first_stale engine call.slot (looked_at engine call.slot)))
  lenient_rows parts engine call SlotState.Open asked = open_row parts engine call.slot asked
  lenient_rows parts engine call (SlotState.Checking i) asked =
      closing_row engine call.slot (lenient_next engine call.slot i (slice_get (engine.slots call.slot).reads i)) asked
  lenient_rows parts engine call state asked = step parts engine call

  -- the plain step, but more entries count as good
  abbrev pub lenient : EngineStep
  lenient = with_rows lenient_rows

-- its check never looks: every entry counts as good
abbrev pub never_looks : EngineStep
never_looks = lenient λ engine s x. true

-- an own lock is taken as good, and versions are not compared
abbrev pub own_is_good : EngineStep
own_is_good = lenient λ engine s x. holds engine s x.lock

-- the row of an unlocking slot is not the plain one
abbrev pub unlocking_rows : (Engine ℕ → ℕ → ℕ → Outcome → Option Entry → Reply ℕ) → Rows
unlocking_rows next parts engine call (SlotState.Unlocking i outcome) asked =
    closing_row engine call.slot (next engine call.slot i outcome (slice_get (engine.slots call.slot).held i)) asked
unlocking_rows next parts engine call state asked = step parts engine call

-- advance while unlocking: after an undo the lock gets its old version back
abbrev pub old_version_next : Engine ℕ → ℕ → ℕ → Outcome → Option Entry → Reply ℕ
old_version_next engine s i Outcome.Undone (Option.Some x) =
    locks engine s x.lock (Lock.Free x.version)
    (in_state (SlotState.Unlocking (i + 1) Outcome.Undone) (engine.slots s)) (Answer.Released x.lock)
old_version_next engine s i outcome entry = unlock_next engine s i outcome entry

-- advance while unlocking: with no lock left it changes nothing
abbrev pub never_ends_next : Engine ℕ → ℕ → ℕ → Outcome → Option Entry → Reply ℕ
never_ends_next engine s i outcome Option.None = answers engine Answer.Unlocking
never_ends_next engine s i outcome entry = unlock_next engine s i outcome entry

-- an undo gives the lock its old version back
abbrev pub old_version : EngineStep
old_version = with_rows (unlocking_rows old_version_next)

-- a job that has released its locks goes on unlocking
abbrev pub never_ends : EngineStep
never_ends = with_rows (unlocking_rows never_ends_next)

-- the row of an undoing slot is not the plain one
abbrev pub undoing_rows : (Engine ℕ → ℕ → Reply ℕ) → Rows
undoing_rows next parts engine call SlotState.Undoing asked = closing_row engine call.slot (next engine call.slot) asked
undoing_rows next parts engine call state asked = step parts engine call

-- an undo leaves what was stored: there is never a record to put back
abbrev pub keeps_stores : EngineStep
keeps_stores = with_rows (undoing_rows λ engine s. undo_next engine s [])

-- an undo cannot advance: no step is granted
abbrev pub refuses_advance : EngineStep
refuses_advance = with_rows (undoing_rows λ engine s. wrong engine s)

-- store of a checking slot is as in an open one
abbrev pub late_rows : Rows
late_rows parts engine call (SlotState.Checking i) (Step.Store p x) = store parts engine call.slot p x
late_rows parts engine call state asked = step parts engine call

-- a job that has asked to commit may still store
abbrev pub stores_late : EngineStep
stores_late = with_rows late_rows
