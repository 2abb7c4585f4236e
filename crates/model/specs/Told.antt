-- What the engine tells its caller: refusals as number, detail and layer; answers as a listing prints them, a word
-- and behind it a number or a value, where there is one. Assumes nothing.
--   state_number st    the number of a slot's state
--   told f             number, detail and layer of the fault f
--   shown a            the word of the answer a, and what stands behind it, if anything
use Rattle.std.specs.Prelude.{ℕ, List, Option, codes}
use Rattle.refusal.specs.declared.refusal.Refusal.{Refusal}
use Rattle.refusal.specs.declared.layer.Layer.{Layer}
use Rattle.memory.specs.Fault as memory
use Rattle.model.specs.declared.outcome.Outcome.{Outcome}
use Rattle.model.specs.declared.slot_state.SlotState.{SlotState}
use Rattle.model.specs.declared.answer.Answer.{Answer}
use Rattle.model.specs.declared.answer.Detail.{Detail}
use Rattle.model.specs.declared.fault.EngineFault.{EngineFault}
use Rattle.model.specs.Limits.{most_reads, most_held, most_records}

-- the number of a slot's state
abbrev pub state_number : SlotState → ℕ
state_number SlotState.Free = 0
state_number SlotState.Open = 1
state_number (SlotState.Checking next) = 2
state_number (SlotState.Unlocking next outcome) = 3
state_number SlotState.Undoing = 4

-- a refusal that begins in the engine: layer 2
abbrev pub told_here : ℕ → ℕ → Refusal
told_here number detail = record { number = number; detail = detail; layer = Layer.Engine }

-- the number of each fault, and what it names; the memory's is told as the memory tells it
abbrev pub told : EngineFault → Refusal
told (EngineFault.MemoryTooLarge count) = told_here 11 count
told (EngineFault.UndoTooSmall count) = told_here 12 count
told (EngineFault.LocksOutOfRange count) = told_here 13 count
told (EngineFault.LimitOutOfRange limit) = told_here 14 limit
told (EngineFault.NoSlot slot) = told_here 21 slot
told (EngineFault.WrongState state) = told_here 22 (state_number state)
told (EngineFault.Memory fault) = memory.told fault
told (EngineFault.NotNoted lock) = told_here 24 lock
told (EngineFault.NotHeld lock) = told_here 25 lock
told EngineFault.ReadSetFull = told_here 26 most_reads
told EngineFault.HeldListFull = told_here 27 most_held
told EngineFault.UndoLogFull = told_here 28 most_records
told (EngineFault.LastVersion lock) = told_here 29 lock
told (EngineFault.HeldByOther slot) = told_here 31 slot

-- the word of each answer, and what stands behind it, if anything
abbrev pub shown : {V : Type 0} → Answer V → List ℕ × Option (Detail V)
shown Answer.Begun = (codes "begun", Option.None)
shown Answer.Own = (codes "own", Option.None)
shown Answer.Known = (codes "known", Option.None)
shown (Answer.Noted version) = (codes "noted", Option.Some (Detail.Number version))
shown (Answer.Value value) = (codes "value", Option.Some (Detail.Value value))
shown (Answer.Acquired version) = (codes "acquired", Option.Some (Detail.Number version))
shown Answer.Stored = (codes "stored", Option.None)
shown Answer.Good = (codes "good", Option.None)
shown (Answer.Stale lock) = (codes "stale", Option.Some (Detail.Number lock))
shown Answer.Checking = (codes "checking", Option.None)
shown Answer.Undoing = (codes "undoing", Option.None)
shown (Answer.Passed lock) = (codes "passed", Option.Some (Detail.Number lock))
shown Answer.Committed = (codes "committed", Option.None)
shown (Answer.Restored place) = (codes "restored", Option.Some (Detail.Number place))
shown Answer.Unlocking = (codes "unlocking", Option.None)
shown (Answer.Released lock) = (codes "released", Option.Some (Detail.Number lock))
shown (Answer.Ended Outcome.Committed) = (codes "ended committed", Option.None)
shown (Answer.Ended Outcome.Undone) = (codes "ended undone", Option.None)
