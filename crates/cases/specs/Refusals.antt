-- The refusals of the plain engine, in their order, with the number each names. Assumes nothing.
--   steps_but_begin, steps_but_advance    steps of a place past the end, which the state refuses first
--   all_wrong st          the refusals of these in the state st
--   taking, taken v       the steps of a job that takes the lock of place 9, and its answers, at the version v
--   ten_cells             cells in which place p has the value p
--   refusal_cases         four runs
use Rattle.std.specs.Prelude.{ℕ, List, [], ◌∷◌, ◌++◌, replicate, Result}
use Rattle.model.specs.declared.outcome.Outcome.{Outcome}
use Rattle.model.specs.declared.slot_state.SlotState.{SlotState}
use Rattle.model.specs.declared.step.Step.{Step}
use Rattle.model.specs.declared.step.Step.TheVariants.{Begin, Note, Load, Acquire, Store, Check, Commit, Advance, Abort}
use Rattle.model.specs.declared.answer.Answer.{Answer}
use Rattle.model.specs.declared.answer.Answer.TheVariants.{Begun, Own, Known, Noted, Value, Acquired, Stored, Good, Stale, Checking, Undoing, Passed, Restored, Unlocking, Released, Ended}
use Rattle.model.specs.declared.fault.EngineFault.{EngineFault}
use Rattle.model.specs.declared.fault.EngineFault.TheVariants.{WrongState, NotNoted, NotHeld, ReadSetFull, HeldListFull, UndoLogFull, LastVersion, HeldByOther}
use Rattle.cases.specs.Edges.{Edge, edge, lines, counted, by, granted, refusals, past_end}

-- of these a free slot grants none
abbrev pub steps_but_begin : List (Step ℕ)
steps_but_begin = Note 99 ∷ Load 99 ∷ Acquire 99 ∷ Store 99 0 ∷ Check ∷ Commit ∷ Advance ∷ Abort ∷ []

-- and of these no closing slot
abbrev pub steps_but_advance : List (Step ℕ)
steps_but_advance = Begin ∷ Note 99 ∷ Load 99 ∷ Acquire 99 ∷ Store 99 0 ∷ Check ∷ Commit ∷ Abort ∷ []

-- all eight are refused
abbrev pub all_wrong : SlotState → List (Result (Answer ℕ) EngineFault)
all_wrong state = refusals (replicate 8 (WrongState state))

-- a job that takes the lock of place 9, and commits
abbrev pub taking : List (Step ℕ)
taking = Begin ∷ Acquire 9 ∷ Commit ∷ replicate 3 Advance

-- what it is answered where that is lock 1, at this version
abbrev pub taken : ℕ → List (Result (Answer ℕ) EngineFault)
taken version =
    granted (Begun ∷ Acquired version ∷ Checking ∷ Answer.Committed ∷ Released 1 ∷ Ended Outcome.Committed ∷ [])

-- place p has the value p; of three locks with lines of two its lock is p / 2 % 3
abbrev pub ten_cells : List ℕ
ten_cells = counted 10 (λ p. p)

-- each with what it shows
abbrev pub refusal_cases : List Edge
refusal_cases =
    -- 1. number 22, before 23: every step in every state that does not grant it; a second job has empty lists
    edge (lines 2 3 5) ten_cells
    (by 6 (steps_but_begin ++ (Begin ∷ Begin ∷ Advance ∷ Note 5 ∷ Acquire 8 ∷ Store 9 70 ∷ Commit ∷ [])
    ++ steps_but_advance ++ (Advance ∷ steps_but_advance) ++ (Advance ∷ steps_but_advance)
    ++ (Advance ∷ steps_but_advance) ++ (Advance ∷ steps_but_begin)
    ++ (Begin ∷ Load 5 ∷ Store 9 0 ∷ Acquire 4 ∷ Store 4 80 ∷ Abort ∷ steps_but_advance)
    ++ (Advance ∷ steps_but_advance) ++ (Advance ∷ steps_but_advance) ++ (Advance ∷ Advance ∷ [])))
    (all_wrong SlotState.Free ++ granted (Begun ∷ []) ++ refusals (replicate 2 (WrongState SlotState.Open))
    ++ granted (Noted 0 ∷ Acquired 0 ∷ Stored ∷ Checking ∷ []) ++ all_wrong (SlotState.Checking 0)
    ++ granted (Passed 2 ∷ []) ++ all_wrong (SlotState.Checking 1)
    ++ granted (Answer.Committed ∷ []) ++ all_wrong (SlotState.Unlocking 0 Outcome.Committed)
    ++ granted (Released 1 ∷ []) ++ all_wrong (SlotState.Unlocking 1 Outcome.Committed)
    ++ granted (Ended Outcome.Committed ∷ []) ++ all_wrong SlotState.Free
    ++ granted (Begun ∷ []) ++ refusals (NotNoted 2 ∷ NotHeld 1 ∷ [])
    ++ granted (Acquired 0 ∷ Stored ∷ Undoing ∷ []) ++ all_wrong SlotState.Undoing
    ++ granted (Restored 4 ∷ []) ++ all_wrong SlotState.Undoing
    ++ granted (Unlocking ∷ []) ++ all_wrong (SlotState.Unlocking 0 Outcome.Undone)
    ++ granted (Released 2 ∷ Ended Outcome.Undone ∷ [])) (counted 9 (λ p. p) ++ (70 ∷ [])) (4 ∷ 12 ∷ 12 ∷ [])
    -- 2. numbers 24, 25 and 31 name the lock, the lock and its holder; own and known come before 31; the first stale
    -- entry is the second
    ∷ edge (lines 2 3 5) ten_cells
    (by 2 (Begin ∷ Acquire 7 ∷ []) ++ by 5 (Begin ∷ Load 5 ∷ Store 5 0 ∷ Note 5 ∷ Load 4 ∷ Store 4 0 ∷ Load 9
    ∷ Note 9 ∷ Load 0 ∷ Store 0 0 ∷ Note 0 ∷ Acquire 1 ∷ [])
    ++ by 2 (Note 2 ∷ Acquire 3 ∷ Note 8 ∷ Acquire 8 ∷ Check ∷ [])
    ++ by 5 (Note 2 ∷ Acquire 2 ∷ Load 3 ∷ Store 3 0 ∷ Acquire 4 ∷ Note 5 ∷ Store 5 50 ∷ Check ∷ Commit
    ∷ replicate 6 Advance))
    (granted (Begun ∷ Acquired 0 ∷ Begun ∷ []) ++ refusals (NotNoted 2 ∷ NotHeld 2 ∷ [])
    ++ granted (Noted 0 ∷ Value 4 ∷ []) ++ refusals (NotHeld 2 ∷ NotNoted 1 ∷ []) ++ granted (Noted 0 ∷ [])
    ++ refusals (NotNoted 0 ∷ NotHeld 0 ∷ HeldByOther 2 ∷ HeldByOther 2 ∷ [])
    ++ granted (Noted 0 ∷ Acquired 0 ∷ Own ∷ Own ∷ Good ∷ Known ∷ []) ++ refusals (HeldByOther 2 ∷ [])
    ++ granted (Value 3 ∷ []) ++ refusals (NotHeld 1 ∷ [])
    ++ granted (Acquired 0 ∷ Own ∷ Stored ∷ Stale 1 ∷ Checking ∷ Passed 2 ∷ Stale 1 ∷ Restored 5 ∷ Unlocking
    ∷ Released 2 ∷ Ended Outcome.Undone ∷ [])) ten_cells (24 ∷ 24 ∷ 12 ∷ [])
    -- 3. at full lists: 23 first, then own and known, then 31, then 26 and 27, then 29; and 25 before 28; the undo
    -- records of slots 1, 2 and 7 lie apart
    ∷ edge (lines 1 67 1) (replicate 67 0)
    (by 3 (Begin ∷ Acquire 64 ∷ Abort ∷ replicate 3 Advance)
    ++ by 2 (Begin ∷ Acquire 65 ∷ Store 65 9 ∷ Acquire 64 ∷ Note 64 ∷ [])
    ++ by 1 (Begin ∷ counted 64 Note ++ counted 31 Acquire ++ (Acquire 66 ∷ replicate 64 (Store 66 7))
    ++ (Note 67 ∷ Acquire 67 ∷ Store 67 0 ∷ Note 0 ∷ Note 63 ∷ Note 66 ∷ Acquire 66 ∷ Note 65 ∷ Acquire 65
    ∷ Store 65 0 ∷ Note 64 ∷ Acquire 64 ∷ Store 64 0 ∷ Store 66 0 ∷ []))
    ++ by 7 (Begin ∷ Acquire 63 ∷ replicate 64 (Store 63 5) ++ (Abort ∷ Advance ∷ []))
    ++ by 2 (Abort ∷ Advance ∷ []))
    (granted (Begun ∷ Acquired 0 ∷ Undoing ∷ Unlocking ∷ Released 64 ∷ Ended Outcome.Undone ∷ [])
    ++ granted (Begun ∷ Acquired 0 ∷ Stored ∷ []) ++ refusals (LastVersion 64 ∷ [])
    ++ granted (Noted 1 ∷ Begun ∷ replicate 64 (Noted 0) ++ replicate 32 (Acquired 0) ++ replicate 64 Stored)
    ++ refusals (replicate 3 (past_end 67)) ++ granted (Own ∷ Known ∷ Own ∷ Own ∷ [])
    ++ refusals (HeldByOther 2 ∷ HeldByOther 2 ∷ NotHeld 65 ∷ ReadSetFull ∷ HeldListFull ∷ NotHeld 64 ∷ [])
    ++ refusals (UndoLogFull ∷ []) ++ granted (Begun ∷ Acquired 0 ∷ replicate 64 Stored)
    ++ granted (Undoing ∷ Restored 63 ∷ Undoing ∷ Restored 65 ∷ []))
    (replicate 63 0 ++ (5 ∷ 0 ∷ 0 ∷ 7 ∷ [])) (replicate 31 16 ++ replicate 32 4 ++ (64 ∷ 12 ∷ 24 ∷ 16 ∷ []))
    -- 4. versions rise to the limit, after commits and an undo: then number 29, but a note is granted and passed; an
    -- entry is stale although another lock is held at its version
    ∷ edge (lines 2 3 3) ten_cells
    (by 4 (Begin ∷ Note 8 ∷ Acquire 6 ∷ []) ++ by 6 (taking ++ taking)
    ++ by 4 (Acquire 3 ∷ Check ∷ Commit ∷ replicate 5 Advance)
    ++ by 6 (Begin ∷ Acquire 8 ∷ Note 8 ∷ Load 2 ∷ Check ∷ Commit ∷ replicate 3 Advance))
    (granted (Begun ∷ Noted 0 ∷ Acquired 0 ∷ []) ++ taken 0 ++ taken 1
    ++ granted (Acquired 2 ∷ Stale 1 ∷ Checking ∷ Stale 1 ∷ Unlocking ∷ Released 0 ∷ Released 1 ∷ [])
    ++ granted (Ended Outcome.Undone ∷ Begun ∷ []) ++ refusals (LastVersion 1 ∷ [])
    ++ granted (Noted 3 ∷ Value 2 ∷ Good ∷ Checking ∷ Passed 1 ∷ Answer.Committed ∷ Ended Outcome.Committed ∷ []))
    ten_cells (12 ∷ 28 ∷ 4 ∷ [])
    ∷ []
