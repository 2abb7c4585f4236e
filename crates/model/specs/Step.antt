-- What each step of an open slot does. Assumes nothing.
--   Reply                     what a call answers, and the engine after it
--   refused, answers, moves   replies that change nothing, nothing, and the slot
--   where_cell, where_free    what follows where there is a cell, and where the lock is free
--   note, load, acquire, store    of an open slot
use Rattle.std.specs.Prelude.{ℕ, ◌||◌, List, [], ◌∷◌, ◌++◌, length, Option, Result, if◌then◌else◌, nat_le, slice_get, slice_set}
use Rattle.locks.specs.LockWord.{word_of}
use Rattle.locks.specs.declared.lock_word.Lock.{Lock}
use Rattle.memory.specs.declared.fault.MemoryFault.{MemoryFault}
use Rattle.model.specs.declared.slot_state.SlotState.{SlotState}
use Rattle.model.specs.declared.answer.Answer.{Answer}
use Rattle.model.specs.declared.fault.EngineFault.{EngineFault}
use Rattle.model.specs.Limits.{most_reads, most_held, most_records, undo_place}
use Rattle.model.specs.Engine.{Parts, Entry, Slot, Engine, updated, read_word, has_lock, holds}

-- what a call answers, and the engine after it
abbrev pub Reply : Type 0 → Type 0
Reply V = Result (Answer V) EngineFault × Engine V

-- the slot in another state, with one more entry noted or held, with other undo records
abbrev pub in_state : SlotState → Slot → Slot
in_state state slot = record slot { state = state }

abbrev pub noting : Entry → Slot → Slot
noting x slot = record slot { reads = slot.reads ++ (x ∷ []) }

abbrev pub holding : Entry → Slot → Slot
holding x slot = record slot { held = slot.held ++ (x ∷ []) }

abbrev pub recording : List ℕ → Slot → Slot
recording places slot = record slot { changed = places }

module _ {V : Type 0} (engine : Engine V) where
  -- a refusal changes nothing
  abbrev pub refused : EngineFault → Reply V
  refused fault = (Result.Err fault, engine)

  -- an answer that changes nothing
  abbrev pub answers : Answer V → Reply V
  answers answer = (Result.Ok answer, engine)

  -- what follows where there is a cell at the place, else the memory's refusal
  abbrev pub where_cell : ℕ → Option V → (V → Reply V) → Reply V
  where_cell p Option.None next = refused (EngineFault.Memory (MemoryFault.PastEnd p))
  where_cell p (Option.Some x) next = next x

  -- what follows where the lock is free, with its version, else the refusal that names its holder
  abbrev pub where_free : Lock → (ℕ → Reply V) → Reply V
  where_free (Lock.Free v) next = next v
  where_free (Lock.Held t) next = refused (EngineFault.HeldByOther t)

module _ {V : Type 0} (engine : Engine V) (s : ℕ) where
  -- the slot as it is
  abbrev pub own : Slot
  own = engine.slots s

  -- an answer, with only the slot changed; with a lock word changed too; with cells and undo cells changed too
  abbrev pub moves : Slot → Answer V → Reply V
  moves slot answer = (Result.Ok answer, record engine { slots = updated engine.slots s slot })

  abbrev pub locks : ℕ → Lock → Slot → Answer V → Reply V
  locks l lock slot answer =
      let words = updated engine.words l (word_of lock) in
      (Result.Ok answer, record engine { words = words; slots = updated engine.slots s slot })

  abbrev pub writes : List V → List V → Slot → Answer V → Reply V
  writes cells undo slot answer =
      (Result.Ok answer, record engine { cells = cells; undo = undo; slots = updated engine.slots s slot })

module _ {V : Type 0} (parts : Parts) (engine : Engine V) (s : ℕ) where
  -- own, known, else the lock and its version are noted
  abbrev pub note : ℕ → Reply V
  note p = where_cell engine p (slice_get engine.cells p) λ _.
      let l = parts.guard p in
      if holds engine s l then answers engine Answer.Own
      else if has_lock (own engine s).reads l then answers engine Answer.Known
      else where_free engine (read_word (engine.words l)) λ v.
      if nat_le most_reads (length (own engine s).reads) then refused engine EngineFault.ReadSetFull
      else moves engine s (noting (record { lock = l; version = v }) (own engine s)) (Answer.Noted v)

  -- the cell as it is now, if its lock is noted or held
  abbrev pub load : ℕ → Reply V
  load p = where_cell engine p (slice_get engine.cells p) λ x.
      let l = parts.guard p in
      if holds engine s l || has_lock (own engine s).reads l then answers engine (Answer.Value x)
      else refused engine (EngineFault.NotNoted l)

  -- own, else the lock is taken at its version, which has to be below the limit
  abbrev pub acquire : ℕ → Reply V
  acquire p = where_cell engine p (slice_get engine.cells p) λ _.
      let l = parts.guard p in
      if holds engine s l then answers engine Answer.Own
      else where_free engine (read_word (engine.words l)) λ v.
      if nat_le most_held (length (own engine s).held) then refused engine EngineFault.HeldListFull
      else if nat_le parts.limit v then refused engine (EngineFault.LastVersion l)
      else locks engine s l (Lock.Held s) (holding (record { lock = l; version = v }) (own engine s))
      (Answer.Acquired v)

  -- under a held lock: the old value goes into the undo memory, then the new one into the cell
  abbrev pub store : ℕ → V → Reply V
  store p new = where_cell engine p (slice_get engine.cells p) λ old.
      let l = parts.guard p in
      if holds engine s l
      then (if nat_le most_records (length (own engine s).changed) then refused engine EngineFault.UndoLogFull
      else writes engine s (slice_set engine.cells p new)
      (slice_set engine.undo (undo_place s (length (own engine s).changed)) old)
      (recording (p ∷ (own engine s).changed) (own engine s)) Answer.Stored)
      else refused engine (EngineFault.NotHeld l)
