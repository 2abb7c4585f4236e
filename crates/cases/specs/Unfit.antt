-- Parts that make no engine: numbers 11 to 14, in this order, and before 21 and 22. Assumes nothing.
--   Build          parts and how many cells and undo cells, with the refusal that they draw, if any
--   told_first b   what a new engine of these answers to a slot that there is not, and to a wrong step
--   called f       what it should answer
--   builds         each of the parts at the edges of its range, with the later ones unfit too
--   UnfitTold      each comes to what it should
use Rattle.std.specs.Prelude.{◌≡◌, ℕ, List, [], ◌∷◌, ◌++◌, map, replicate, Option, Result}
use Rattle.model.specs.declared.slot_state.SlotState.{SlotState}
use Rattle.model.specs.declared.step.Step.TheVariants.{Begin, Advance}
use Rattle.model.specs.declared.answer.Answer.{Answer}
use Rattle.model.specs.declared.fault.EngineFault.{EngineFault}
use Rattle.model.specs.declared.fault.EngineFault.TheVariants.{MemoryTooLarge, UndoTooSmall, LocksOutOfRange, LimitOutOfRange, NoSlot, WrongState}
use Rattle.model.specs.Engine.{Parts, fresh}
use Rattle.model.specs.Table.{run}
use Rattle.cases.specs.Edges.{lines, by, refusals}

pub record Build : Type 0 where
  pub parts : Parts
  pub cells : ℕ
  pub undo : ℕ
  pub fault : Option EngineFault

-- parts that draw this refusal
abbrev pub draws : Parts → ℕ → ℕ → EngineFault → Build
draws parts cells undo fault = record { parts = parts; cells = cells; undo = undo; fault = Option.Some fault }

-- parts that make an engine
abbrev pub fits : Parts → ℕ → ℕ → Build
fits parts cells undo = record { parts = parts; cells = cells; undo = undo; fault = Option.None }

-- what a new engine answers to slot 8, and to an advance of a free slot
abbrev pub told_first : Build → List (Result (Answer ℕ) EngineFault)
told_first build =
    let first = fresh (replicate build.cells 0) (replicate build.undo 0) in
    map (λ done. done.answer) (run build.parts first (by 8 (Begin ∷ []) ++ by 0 (Advance ∷ []))).trace

-- unfit parts answer every call with their refusal
abbrev pub called : Option EngineFault → List (Result (Answer ℕ) EngineFault)
called (Option.Some fault) = refusals (fault ∷ fault ∷ [])
called Option.None = refusals (NoSlot 8 ∷ WrongState SlotState.Free ∷ [])

-- the first of the parts that is unfit is told
abbrev pub builds : List Build
builds =
    draws (lines 0 3 0) 65537 511 (MemoryTooLarge 65537)
    ∷ draws (lines 0 3 0) 65536 511 (UndoTooSmall 511)
    ∷ draws (lines 1 257 536870912) 1 0 (UndoTooSmall 0)
    ∷ draws (lines 1 0 0) 1 512 (LocksOutOfRange 0)
    ∷ draws (lines 0 3 0) 1 512 (LocksOutOfRange 0)
    ∷ draws (lines 1 257 536870912) 1 513 (LocksOutOfRange 257)
    ∷ draws (lines 1 256 0) 1 512 (LimitOutOfRange 0)
    ∷ draws (lines 1 1 536870912) 1 512 (LimitOutOfRange 536870912)
    ∷ fits (lines 1 256 536870911) 65536 512
    ∷ fits (lines 1 1 1) 0 512
    ∷ []

-- every build is told what it should be
abbrev pub UnfitTold : Type 0
UnfitTold = map told_first builds ≡ map (λ build. called build.fault) builds
