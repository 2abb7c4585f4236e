-- The plain engine's step, as a table by the slot's state and the step, with every refusal in its order; and a run
-- of calls. Assumes nothing.
--   free_row, open_row, closing_row    the steps by the slot's state
--   row p e s state step    the table
--   step p e call           a whole call
--   Done                    a call with its answer
--   run_by f e calls        each call at the engine that the one before it left, where f is the step
--   run p e calls           a run of the plain engine
use Rattle.std.specs.Prelude.{ℕ, Bool, true, false, List, [], ◌∷◌, length, Option, Result, if◌then◌else◌, nat_lt, slice_get}
use Rattle.model.specs.declared.slot_state.SlotState.{SlotState}
use Rattle.model.specs.declared.step.Step.{Step}
use Rattle.model.specs.declared.step.Call.{Call}
use Rattle.model.specs.declared.answer.Answer.{Answer}
use Rattle.model.specs.declared.fault.EngineFault.{EngineFault}
use Rattle.model.specs.Limits.{slot_count}
use Rattle.model.specs.Engine.{Parts, slot_of, Engine, first_stale, unfit}
use Rattle.model.specs.Step.{Reply, in_state, refused, answers, own, moves, note, load, acquire, store}
use Rattle.model.specs.Advance.{check_next, undo_next, unlock_next}

-- the answer of a check, where the first stale entry is of this lock, if any is stale
abbrev pub verdict : {V : Type 0} → Option ℕ → Answer V
verdict Option.None = Answer.Good
verdict (Option.Some l) = Answer.Stale l

-- the step is advance
abbrev pub is_advance : {V : Type 0} → Step V → Bool
is_advance Step.Advance = true
is_advance step = false

module _ {V : Type 0} (engine : Engine V) (s : ℕ) where
  -- the state does not grant the step
  abbrev pub wrong : Reply V
  wrong = refused engine (EngineFault.WrongState (own engine s).state)

  -- a free slot begins
  abbrev pub free_row : Step V → Reply V
  free_row Step.Begin = moves engine s (slot_of SlotState.Open [] [] []) Answer.Begun
  free_row step = wrong

  -- a closing slot advances
  abbrev pub closing_row : Reply V → Step V → Reply V
  closing_row next called = if is_advance called then next else wrong

module _ {V : Type 0} (parts : Parts) (engine : Engine V) (s : ℕ) where
  -- an open slot takes all steps but begin and advance
  abbrev pub open_row : Step V → Reply V
  open_row Step.Begin = wrong engine s
  open_row (Step.Note p) = note parts engine s p
  open_row (Step.Load p) = load parts engine s p
  open_row (Step.Acquire p) = acquire parts engine s p
  open_row (Step.Store p x) = store parts engine s p x
  open_row Step.Check = answers engine (verdict (first_stale engine s (own engine s).reads))
  open_row Step.Commit = moves engine s (in_state (SlotState.Checking 0) (own engine s)) Answer.Checking
  open_row Step.Advance = wrong engine s
  open_row Step.Abort = moves engine s (in_state SlotState.Undoing (own engine s)) Answer.Undoing

  -- the table
  abbrev pub row : SlotState → Step V → Reply V
  row SlotState.Free = free_row engine s
  row SlotState.Open = open_row
  row (SlotState.Checking i) = closing_row engine s (check_next engine s i (slice_get (own engine s).reads i))
  row (SlotState.Unlocking i outcome) = closing_row engine s (unlock_next engine s i outcome
      (slice_get (own engine s).held i))
  row SlotState.Undoing = closing_row engine s (undo_next engine s (own engine s).changed)

module _ {V : Type 0} (parts : Parts) (engine : Engine V) where
  -- what follows where all parts fit
  abbrev pub where_fit : Option EngineFault → Reply V → Reply V
  where_fit (Option.Some fault) next = refused engine fault
  where_fit Option.None next = next

  -- unfit parts, then a slot that there is not, then the table
  abbrev pub step : Call V → Reply V
  step call =
      where_fit (unfit parts (length engine.cells) (length engine.undo))
      (if nat_lt call.slot slot_count then row parts engine call.slot (engine.slots call.slot).state call.step
      else refused engine (EngineFault.NoSlot call.slot))

-- a call with its answer
pub record Done (V : Type 0) : Type 0 where
  pub call : Call V
  pub answer : Result (Answer V) EngineFault

-- calls with their answers, and the engine after them
pub record Ran (V : Type 0) : Type 0 where
  pub trace : List (Done V)
  pub last : Engine V

-- each call at the engine that the one before it left
abbrev pub run_by : {V : Type 0} → (Engine V → Call V → Reply V) → Engine V → List (Call V) → Ran V
run_by one engine [] = record { trace = []; last = engine }
run_by one engine (call ∷ calls) =
    let reply = one engine call in
    let rest = run_by one reply.1 calls in
    record { trace = record { call = call; answer = reply.0 } ∷ rest.trace; last = rest.last }

-- a run of the plain engine
abbrev pub run : {V : Type 0} → Parts → Engine V → List (Call V) → Ran V
run parts = run_by (step parts)
