-- What a trace tells, call by call, with nothing of the engine's tables. Assumes nothing.
--   Op               a granted load, with the value it answered, or a granted store, with its value
--   Deed             what a call came to, as its answer tells
--   Event            the slot, whether advance was called and granted, and the deed
--   event g d        the event of a call with its answer, where g tells the lock of a place
--   History          events, the newest first
--   history g t      the history that a trace tells
use Rattle.std.specs.Prelude.{ℕ, Bool, true, false, List, [], ◌∷◌, Result}
use Rattle.model.specs.declared.step.Step.{Step}
use Rattle.model.specs.declared.answer.Answer.{Answer}
use Rattle.model.specs.declared.fault.EngineFault.{EngineFault}
use Rattle.model.specs.Table.{is_advance, Done}

-- an operation of a job on the cells: a place, and the value that was loaded or stored there
pub data Op (V : Type 0) : Type 0 where
  loads : ℕ → V → Op V
  stores : ℕ → V → Op V

-- what a call came to, by its answer: begun; noted; a value or stored; acquired, with the lock; good; checking;
-- undoing; committed; released, with the lock; ended; any other, and every refusal
pub data Deed (V : Type 0) : Type 0 where
  begins : Deed V
  notes : Deed V
  does : Op V → Deed V
  takes : ℕ → Deed V
  validates : Deed V
  asks : Deed V
  quits : Deed V
  commits : Deed V
  frees : ℕ → Deed V
  ends : Deed V
  nothing : Deed V

-- a call of a slot, and what it came to
pub record Event (V : Type 0) : Type 0 where
  pub slot : ℕ
  -- the call was advance
  pub advance : Bool
  -- it was not refused
  pub granted : Bool
  pub deed : Deed V

module _ {V : Type 0} where
  -- the place of a step, 0 where it has none
  abbrev pub place_of : Step V → ℕ
  place_of (Step.Note p) = p
  place_of (Step.Load p) = p
  place_of (Step.Acquire p) = p
  place_of (Step.Store p x) = p
  place_of step = 0

  -- what a step that answers stored did
  abbrev pub store_of : Step V → Deed V
  store_of (Step.Store p x) = does (stores p x)
  store_of step = nothing

  module _ (guard : ℕ → ℕ) where
    -- what a granted step did
    abbrev pub deed : Step V → Answer V → Deed V
    deed step Answer.Begun = begins
    deed step (Answer.Noted v) = notes
    deed step (Answer.Value x) = does (loads (place_of step) x)
    deed step (Answer.Acquired v) = takes (guard (place_of step))
    deed step Answer.Stored = store_of step
    deed step Answer.Good = validates
    deed step Answer.Checking = asks
    deed step Answer.Undoing = quits
    deed step Answer.Committed = commits
    deed step (Answer.Released l) = frees l
    deed step (Answer.Ended outcome) = ends
    deed step answer = nothing

    -- the event of a step of slot s with its answer
    abbrev pub answered : ℕ → Step V → Result (Answer V) EngineFault → Event V
    answered s step (Result.Ok answer) =
        record { slot = s; advance = is_advance step; granted = true; deed = deed step answer }
    answered s step (Result.Err fault) =
        record { slot = s; advance = is_advance step; granted = false; deed = nothing }

    -- the event of a call with its answer
    abbrev pub event : Done V → Event V
    event done = answered done.call.slot done.call.step done.answer

-- events, the newest first
abbrev pub History : Type 0 → Type 0
History V = List (Event V)

module _ {V : Type 0} (guard : ℕ → ℕ) where
  -- a history with the events of a trace behind it
  abbrev pub continued : History V → List (Done V) → History V
  continued past [] = past
  continued past (done ∷ trace) = continued (event guard done ∷ past) trace

  -- what a trace tells
  abbrev pub history : List (Done V) → History V
  history trace = continued [] trace
