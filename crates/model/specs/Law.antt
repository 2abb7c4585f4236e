-- The law over whole runs, in terms of calls and answers, cells and the lock map alone. Assumes nothing.
--   left ops cs       the cells that operations leave
--   Alone ops cs      run alone on the cells cs, every load finds the value that it answered
--   At h past         past is what had happened at some time in the history h
--   Law g first last h         the law, of a history
--   Lawful g first last trace  the law, of calls with their answers
--   EveryRunLawful V           every run of the plain engine keeps it
--   WordsInRange V             versions stay within the limit, after every run
--   RefusalsChangeNothing V    a call that the plain engine refuses leaves it as it was
use Rattle.std.specs.Prelude.{◌≡◌, ℕ, ◌<◌, ◌≤◌, true, false, List, [], ◌∷◌, ◌++◌, Option, Result, slice_get, slice_set}
use Rattle.locks.specs.LockWord.{word_of}
use Rattle.locks.specs.declared.lock_word.Lock.{Lock}
use Rattle.model.specs.declared.step.Call.{Call}
use Rattle.model.specs.declared.fault.EngineFault.{EngineFault}
use Rattle.model.specs.Limits.{slot_count}
use Rattle.model.specs.Engine.{Parts, Engine, fresh}
use Rattle.model.specs.Table.{step, Done, run}
use Rattle.model.specs.Event.{Op, loads, stores, validates, Event, History, history}
use Rattle.model.specs.Job.{Closing, job}
use Rattle.model.specs.History.{line, in_turn, held}

-- a closing job has not used up the advances it is allowed
abbrev pub Within : Option Closing → Type 0
Within Option.None = Unit {0}
Within (Option.Some c) = c.made < c.allowed

module _ {V : Type 0} where
  -- a store replaces its cell
  abbrev pub left : List (Op V) → List V → List V
  left [] cells = cells
  left (loads p x ∷ ops) cells = left ops cells
  left (stores p x ∷ ops) cells = left ops (slice_set cells p x)

  -- each load finds the value that it answered, on the cells that the operations before it left
  abbrev pub Alone : List (Op V) → List V → Type 0
  Alone [] cells = Unit {0}
  Alone (loads p x ∷ ops) cells = (slice_get cells p ≡ Option.Some x) × Alone ops cells
  Alone (stores p x ∷ ops) cells = Alone ops (slice_set cells p x)

  -- the past had happened at some time, and then what came later
  abbrev pub At : History V → History V → Type 0
  At h past = (later : History V) × (h ≡ later ++ past)

  -- the law, of a history, the first cells, the last cells and the lock of each place
  pub record Law (guard : ℕ → ℕ) (first last : List V) (h : History V) : Type 0 where
    -- serial order: the committed jobs, run alone one after the other in the order of their granted commits, from
    -- the first cells, answer every load as the engine did ..
    pub serial_loads : Alone (in_turn (line h)) first
    -- .. and leave every cell whose lock is free as the engine has it
    pub serial_cells : (p : ℕ) → held h (guard p) ≡ false
        → slice_get (left (in_turn (line h)) first) p ≡ slice_get last p
    -- consistent check: a job whose check answered good, run alone up to that check directly behind the jobs
    -- committed by then, answers every load as the engine did
    pub consistent : (e : Event V) (past : History V) → At h (e ∷ past) → e.deed ≡ validates
        → Alone (in_turn (line past) ++ (job e.slot past).ops) first
    -- bounded end: a job that is closing has advances left, at any time; so it ends with the last of them ..
    pub bounded : (s : ℕ) (past : History V) → At h past → Within (job s past).closing
    -- .. and none of its advances is refused
    pub unrefused : (e : Event V) (past : History V) → At h (e ∷ past) → e.advance ≡ true → e.granted ≡ false
        → (job e.slot past).closing ≡ Option.None
    -- from its granted commit or abort on a job is granted nothing but advances: its loads and stores are complete
    pub settled : (e : Event V) (past : History V) → At h (e ∷ past) → e.advance ≡ false → e.granted ≡ true
        → (job e.slot past).closing ≡ Option.None

-- the law, of calls with their answers
abbrev pub Lawful : {V : Type 0} → (ℕ → ℕ) → List V → List V → List (Done V) → Type 0
Lawful guard first last trace = Law guard first last (history guard trace)

-- every run of a new engine over values of V keeps the law, whatever its parts, cells and undo
-- cells and whatever is called
abbrev pub EveryRunLawful : Type 0 → Type 0
EveryRunLawful V = (parts : Parts) (cells undo : List V) (calls : List (Call V))
    → let ran = run parts (fresh cells undo) calls in
    Lawful parts.guard cells ran.last.cells ran.trace

-- the lock's version is within the limit, or its holder is one of the slots
abbrev pub InRange : Parts → Lock → Type 0
InRange parts (Lock.Free v) = v ≤ parts.limit
InRange parts (Lock.Held s) = s < slot_count

-- after every run each lock word is that of a lock in range
abbrev pub WordsInRange : Type 0 → Type 0
WordsInRange V = (parts : Parts) (cells undo : List V) (calls : List (Call V)) (l : ℕ)
    → (lock : Lock) × ((run parts (fresh cells undo) calls).last.words l ≡ word_of lock) × InRange parts lock

-- whatever is refused, cells, undo cells, lock words and slots stay as they were
abbrev pub RefusalsChangeNothing : Type 0 → Type 0
RefusalsChangeNothing V = (parts : Parts) (engine : Engine V) (call : Call V) (fault : EngineFault)
    → (step parts engine call).0 ≡ Result.Err fault → (step parts engine call).1 ≡ engine
