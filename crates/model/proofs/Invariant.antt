-- What holds after every list of calls. The plain engine's state is kept together with what its tables do not show:
-- the status of each lock, the undo records with their old values, and the history.
use Rattle.std.proofs.Common.{◌≡◌, ℕ, ◌<◌, ◌≤◌, Bool, true, false, cond, eqb, List, [], ◌∷◌, ◌++◌, length, slice_get, Option}
use Rattle.model.specs.Limits.{slot_count, most_records, undo_place}
use Rattle.model.specs.Engine.{Parts, Entry, Slot, Engine, has_lock, unfit}
use Rattle.model.specs.Event.{Op, Deed, begins, notes, does, takes, validates, asks, quits, commits, frees, ends, nothing, History}
use Rattle.model.specs.Job.{Job, job}
use Rattle.model.specs.History.{line, in_turn, held}
use Rattle.model.specs.Law.{Alone, At, Within}
use Rattle.model.proofs.Place.{Act, then, Fits, Gets, here}
use Rattle.model.proofs.Line.{View, Present, Along}
use Rattle.model.proofs.States.{Busy, Live, Logs, WaitsIn, ChecksIn, passed_count, Kept, Ends}
use Rattle.model.proofs.Locks.{Status, unheld, taken, word, version, is_taken, Owner, Current}

-- an undo record: a place, and the value that it had
pub record Saved (V : Type 0) : Type 0 where
  pub place : ℕ
  pub old : V

pub record World (V : Type 0) : Type 0 where
  pub engine : Engine V
  -- of each lock
  pub status : ℕ → Status
  -- of each slot whose job is neither committed nor undone yet: its undo records, the newest first
  pub logs : ℕ → List (Saved V)
  pub past : History V

-- a sound entry of the lock l, whose status is k
pub record Sound (s : ℕ) (reads : List Entry) (l : ℕ) (k : Status) : Type 0 where
  pub index : ℕ
  pub entry : Entry
  pub found : slice_get reads index ≡ Option.Some entry
  pub names : entry.lock ≡ l
  pub current : Current s k entry

-- an entry of the lock l among the first n
pub record Passed (reads : List Entry) (n l : ℕ) : Type 0 where
  pub index : ℕ
  pub entry : Entry
  pub found : slice_get reads index ≡ Option.Some entry
  pub names : entry.lock ≡ l
  pub before : index < n

module _ {V : Type 0} where
  -- the value at a place before the stores that these records undo
  abbrev pub unwound : List (Saved V) → ℕ → Option V → Option V
  unwound [] p x = x
  unwound (r ∷ older) p x = unwound older p (cond (eqb r.place p) (Option.Some r.old) x)

  -- the records of the job that has taken the lock
  abbrev pub log_of : (ℕ → List (Saved V)) → Status → List (Saved V)
  log_of logs (unheld v) = []
  log_of logs (taken s v) = logs s

  -- at one place, a job that can still commit: what it did there, with what is there before and after
  pub record Fair (s l : ℕ) (reads : List Entry) (k : Status) (acts : List (Act V)) (base cell : Option V) : Type 0
    where
      pub sound : Sound s reads l k → Fits acts base
      pub unnoted : has_lock reads l ≡ false → Fits acts base
      pub owned : Owner s k → then acts base ≡ cell
      pub unowned : (Owner s k → ⊥) → Gets acts
      pub untouched : has_lock reads l ≡ false → (Owner s k → ⊥) → acts ≡ []

  -- what a check that answers good says, and no other event
  abbrev pub ByDeed : Deed V → Type 0 → Type 0
  ByDeed validates check = check
  ByDeed begins check = Unit {0}
  ByDeed notes check = Unit {0}
  ByDeed (does op) check = Unit {0}
  ByDeed (takes l) check = Unit {0}
  ByDeed asks check = Unit {0}
  ByDeed quits check = Unit {0}
  ByDeed commits check = Unit {0}
  ByDeed (frees l) check = Unit {0}
  ByDeed ends check = Unit {0}
  ByDeed nothing check = Unit {0}

-- what an advance says that is refused, and any other call that is granted
abbrev pub ByCall : Bool → Bool → Type 0 → Type 0
ByCall true true unclosed = Unit {0}
ByCall true false unclosed = unclosed
ByCall false true unclosed = unclosed
ByCall false false unclosed = Unit {0}

module _ {V : Type 0} (w : World V) where
  abbrev pub slot_at : ℕ → Slot
  slot_at s = w.engine.slots s

  abbrev pub cell_at : ℕ → Option V
  cell_at p = slice_get w.engine.cells p

  -- what the job of slot s did at place p
  abbrev pub acts_at : ℕ → ℕ → List (Act V)
  acts_at s p = here p (job s w.past).ops

module _ {V : Type 0} (parts : Parts) where
  -- the undo records of slot s, in its table and in the undo memory, under locks that it owns
  abbrev pub Logged : ℕ → List V → (ℕ → Status) → ℕ → List (Saved V) → List ℕ → Type 0
  Logged count undo status s [] [] = Unit {0}
  Logged count undo status s [] (p ∷ changed) = ⊥
  Logged count undo status s (r ∷ log) [] = ⊥
  Logged count undo status s (r ∷ log) (p ∷ changed) =
      (r.place ≡ p) × (slice_get undo (undo_place s (length changed)) ≡ Option.Some r.old)
      × Owner s (status (parts.guard p)) × (p < count)
      × Logged count undo status s log changed

  -- a slot, of an engine with so many cells, this undo memory and these locks
  pub record Table (count : ℕ) (undo : List V) (status : ℕ → Status) (s : ℕ) (slot : Slot) (log : List (Saved V))
      (j : Job V) : Type 0 where
    -- it has a job only in an engine of fit parts, and is one of its slots
    pub fit : Busy slot.state → (unfit parts count (length undo) ≡ Option.None) × (s < slot_count)
    -- a held entry that is not released: its lock is taken by this slot at its version ..
    pub owns : (i : ℕ) (x : Entry) → slice_get slot.held i ≡ Option.Some x → Kept slot.state i
        → status x.lock ≡ taken s x.version
    -- .. and no lock is held twice
    pub once : (i j : ℕ) (x y : Entry) → slice_get slot.held i ≡ Option.Some x
        → slice_get slot.held j ≡ Option.Some y → Kept slot.state i
        → Kept slot.state j → x.lock ≡ y.lock → i ≡ j
    -- no entry of the read set is newer than its lock
    pub old : Live slot.state → (i : ℕ) (x : Entry) → slice_get slot.reads i ≡ Option.Some x
        → x.version ≤ version (status x.lock)
    -- its undo records, while they count, and none after
    pub logged : Logs slot.state → Logged count undo status s log slot.changed
        × (length slot.changed ≤ most_records)
    pub unlogged : (Logs slot.state → ⊥) → log ≡ []
    -- the advances made, allowed and still needed
    pub ending : Ends slot.state (length slot.reads) (length slot.changed)
        (length slot.held) j.work j.closing

  module _ (w : World V) where
    -- the status of the lock of a place
    abbrev pub status_at : ℕ → Status
    status_at p = w.status (parts.guard p)

    -- the value at a place without the stores of the job that owns its lock, if that job is not committed
    abbrev pub base_at : ℕ → Option V
    base_at p = unwound (log_of w.logs (status_at p)) p (cell_at w p)

    -- the records, the table and the job at a place of slot s in this world, if the slot had these
    abbrev pub logged_with : ℕ → List (Saved V) → List ℕ → Type 0
    logged_with s log changed = Logged (length w.engine.cells) w.engine.undo w.status s log changed

    abbrev pub table_with : ℕ → Slot → List (Saved V) → Job V → Type 0
    table_with s slot log j = Table (length w.engine.cells) w.engine.undo w.status s slot log j

    abbrev pub fair_with : ℕ → ℕ → List Entry → List (Op V) → Type 0
    fair_with s p reads ops = Fair s (parts.guard p) reads (status_at p) (here p ops) (base_at p) (cell_at w p)

    -- the table and the job that it has
    abbrev pub table_at : ℕ → Type 0
    table_at s = table_with s (slot_at w s) (w.logs s) (job s w.past)

    abbrev pub fair_at : ℕ → ℕ → Type 0
    fair_at s p = fair_with s p (slot_at w s).reads (job s w.past).ops

    -- how the line sees a place
    abbrev pub view_at : ℕ → View V
    view_at p = record {
      base = base_at p;
      acts = λ s. acts_at w s p;
      Waits = λ s. WaitsIn (slot_at w s).state;
      Checks = λ s. ChecksIn (slot_at w s).state;
      Owns = λ s. Owner s (status_at p);
      Passes = λ s. Passed (slot_at w s).reads (passed_count (slot_at w s).state) (parts.guard p);
      Sounds = λ s. Sound s (slot_at w s).reads (parts.guard p) (status_at p);
    }

module _ {V : Type 0} (first : List V) where
  -- the law of the newest event
  abbrev pub Clean : History V → Type 0
  Clean [] = Unit {0}
  Clean (e ∷ past) =
      ByDeed e.deed (Alone (in_turn (line past) ++ (job e.slot past).ops) first)
      × ByCall e.advance e.granted ((job e.slot past).closing ≡ Option.None)

  -- the law of every time so far
  abbrev pub Told : History V → Type 0
  Told past = ((s : ℕ) → Within (job s past).closing) × Clean past

-- a lock that is free within the limit, or taken below it by one of the slots
abbrev pub Ranged : Parts → Status → Type 0
Ranged parts (unheld v) = v ≤ parts.limit
Ranged parts (taken s v) = (v < parts.limit) × (s < slot_count)

module _ {V : Type 0} (parts : Parts) (first : List V) (w : World V) where
  pub record Invariant : Type 0 where
    -- the lock words tell the status of the locks, all in range
    pub words : (l : ℕ) → w.engine.words l ≡ word (w.status l)
    pub ranged : (l : ℕ) → Ranged parts (w.status l)
    -- every slot's table, and at every place every job that can still commit
    pub tables : (s : ℕ) → table_at parts w s
    pub jobs : (s p : ℕ) → Live (slot_at w s).state → fair_at parts w s p
    -- at every place the line, in which a checking job stands
    pub along : (p : ℕ) → Along (view_at parts w p) p (slice_get first p) (line w.past)
    pub present : (s : ℕ) → ChecksIn (slot_at w s).state → Present s (line w.past)
    -- the locks that the history tells as held are those taken
    pub tied : (l : ℕ) → held w.past l ≡ is_taken (w.status l)
    -- the law of every time so far
    pub told : (h : History V) → At w.past h → Told first h
