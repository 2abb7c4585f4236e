-- The state of the plain engine, what its lock words tell, and which parts make an engine. Assumes nothing.
--   Parts               the lock map and the version limit
--   Entry               a lock, with a version
--   Slot, slot_of       state, read set, held list, undo records
--   Engine, engine_of   cells, undo cells, lock words, slots
--   updated f k a       f, but a at k
--   fresh cs us         a new engine over these cells and undo cells
--   read_word w         the lock that has the word w
--   holds e s l         slot s holds the lock l
--   good e s x          the entry x of slot s is good
--   first_stale e s xs  the lock of the first entry that is not
--   unfit p n m         the refusal of parts that make no engine, of n cells and m undo cells
use Rattle.std.specs.Prelude.{ℕ, ◌-◌, ◌/◌, ◌%◌, Bool, ◌&&◌, ◌||◌, List, [], Option, if◌then◌else◌, ◌==◌, nat_lt, find, not, option_map}
use Rattle.std.specs.List.{list_any}
use Rattle.locks.specs.LockWord.{word_of}
use Rattle.locks.specs.declared.lock_word.Lock.{Lock}
use Rattle.model.specs.declared.slot_state.SlotState.{SlotState}
use Rattle.model.specs.declared.fault.EngineFault.{EngineFault}
use Rattle.model.specs.Limits.{most_cells, least_undo, most_locks, last_limit}

-- what the engine is made of besides its memories; none of it ever changes
pub record Parts : Type 0 where
  -- how many locks the map counts
  pub locks : ℕ
  -- the lock of a place
  pub guard : ℕ → ℕ
  -- no version passes it
  pub limit : ℕ

-- a lock with the version at which it was noted or taken
pub record Entry : Type 0 where
  pub lock : ℕ
  pub version : ℕ

-- where a job runs
pub record Slot : Type 0 where
  pub state : SlotState
  -- the read set, in the order of the notes
  pub reads : List Entry
  -- the held list, in the order of the acquires
  pub held : List Entry
  -- the places of the undo records, the newest first
  pub changed : List ℕ

-- the whole state
pub record Engine (V : Type 0) : Type 0 where
  pub cells : List V
  pub undo : List V
  pub words : ℕ → ℕ
  pub slots : ℕ → Slot

-- a slot, by its fields in order
abbrev pub slot_of : SlotState → List Entry → List Entry → List ℕ → Slot
slot_of state reads held changed = record { state = state; reads = reads; held = held; changed = changed }

-- the same for an engine
abbrev pub engine_of : {V : Type 0} → List V → List V → (ℕ → ℕ) → (ℕ → Slot) → Engine V
engine_of cells undo words slots = record { cells = cells; undo = undo; words = words; slots = slots }

-- the function f, but with the value a at k
abbrev pub updated : {A : Type 0} → (ℕ → A) → ℕ → A → ℕ → A
updated f k a q = if q == k then a else f q

-- a new engine: all locks free at version 0, which is the word 4, and all slots free
abbrev pub fresh : {V : Type 0} → List V → List V → Engine V
fresh cells undo = engine_of cells undo (λ _. word_of (Lock.Free 0)) (λ _. slot_of SlotState.Free [] [] [])

-- the lock that has this word
abbrev pub read_word : ℕ → Lock
read_word word = if word % 8 == 4 then Lock.Free (word / 8) else Lock.Held (word / 8 - 1)

-- the list has an entry of this lock
abbrev pub has_lock : List Entry → ℕ → Bool
has_lock entries l = list_any (λ e. e.lock == l) entries

-- the list has this very entry
abbrev pub has_entry : List Entry → Entry → Bool
has_entry entries x = list_any (λ e. e.lock == x.lock && e.version == x.version) entries

module _ {V : Type 0} (engine : Engine V) (s : ℕ) where
  -- the lock's word says that the slot holds it
  abbrev pub holds : ℕ → Bool
  holds l = engine.words l == word_of (Lock.Held s)

  -- an entry is good if its lock is free at its version, or held by this very slot and taken at its version
  abbrev pub good : Entry → Bool
  good x = engine.words x.lock == word_of (Lock.Free x.version)
      || (holds x.lock && has_entry (engine.slots s).held x)

  -- the lock of the first entry that is stale, which is to say not good
  abbrev pub first_stale : List Entry → Option ℕ
  first_stale entries = option_map (λ x. x.lock) (find (λ x. not (good x)) entries)

-- not from 1 to this
abbrev pub outside : ℕ → ℕ → Bool
outside most n = nat_lt n 1 || nat_lt most n

-- the first of the parts that makes no engine, of so many cells and undo cells
abbrev pub unfit : Parts → ℕ → ℕ → Option EngineFault
unfit parts cells undo =
    if nat_lt most_cells cells then Option.Some (EngineFault.MemoryTooLarge cells)
    else if nat_lt undo least_undo then Option.Some (EngineFault.UndoTooSmall undo)
    else if outside most_locks parts.locks then Option.Some (EngineFault.LocksOutOfRange parts.locks)
    else if outside last_limit parts.limit then Option.Some (EngineFault.LimitOutOfRange parts.limit)
    else Option.None
