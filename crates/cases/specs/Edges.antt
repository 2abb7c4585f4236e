-- Ten edges of the plain engine: calls, with what they answer and what they leave. Assumes nothing.
--   Edge               parts, cells and calls, with the answers, the last cells and the last lock words
--   lines S L W        parts with the line map of span S and L locks, and the version limit W
--   counted n f        f 0, f 1 and so on, n of them
--   by s steps         these steps, all asked of slot s
--   granted, refusals  answers that are no refusals, and answers that are
--   seen, wanted       what the calls of an edge come to, and what they should come to
--   edges              the ten
--   EdgesHold table    each edge of the table comes to what it should
use Rattle.std.specs.Prelude.{◌≡◌, ℕ, zero, suc, ◌+◌, List, [], ◌∷◌, ◌++◌, map, replicate, Result}
use Rattle.locks.specs.LineMap.{line_locks, line_guard}
use Rattle.memory.specs.declared.fault.MemoryFault.{MemoryFault}
use Rattle.model.specs.declared.outcome.Outcome.{Outcome}
use Rattle.model.specs.declared.slot_state.SlotState.TheVariants.{Free}
use Rattle.model.specs.declared.step.Step.{Step}
use Rattle.model.specs.declared.step.Step.TheVariants.{Begin, Note, Load, Acquire, Store, Check, Commit, Advance, Abort}
use Rattle.model.specs.declared.step.Call.{Call}
use Rattle.model.specs.declared.answer.Answer.{Answer}
use Rattle.model.specs.declared.answer.Answer.TheVariants.{Begun, Own, Known, Noted, Value, Acquired, Stored, Good, Stale, Checking, Undoing, Passed, Restored, Unlocking, Released, Ended}
use Rattle.model.specs.declared.fault.EngineFault.{EngineFault}
use Rattle.model.specs.declared.fault.EngineFault.TheVariants.{NoSlot, WrongState, Memory, ReadSetFull, HeldListFull, UndoLogFull, LastVersion}
use Rattle.model.specs.Engine.{Parts, fresh}
use Rattle.model.specs.Table.{run}

pub record Edge : Type 0 where
  pub parts : Parts
  pub cells : List ℕ
  pub calls : List (Call ℕ)
  pub answers : List (Result (Answer ℕ) EngineFault)
  -- the cells after the calls, and the words of all locks
  pub last : List ℕ
  pub words : List ℕ

-- the fields in their order
abbrev pub edge : Parts → List ℕ → List (Call ℕ) → List (Result (Answer ℕ) EngineFault) → List ℕ → List ℕ → Edge
edge parts cells calls answers last words =
    record { parts = parts; cells = cells; calls = calls; answers = answers; last = last; words = words }

-- parts with a line map
abbrev pub lines : ℕ → ℕ → ℕ → Parts
lines span locks limit = record { locks = line_locks span locks; guard = line_guard span locks; limit = limit }

-- what f gives for each number below n
abbrev pub counted : {A : Type 0} → ℕ → (ℕ → A) → List A
counted zero f = []
counted (suc n) f = counted n f ++ (f n ∷ [])

-- steps of one slot
abbrev pub by : ℕ → List (Step ℕ) → List (Call ℕ)
by s steps = map (λ step. record { slot = s; step = step }) steps

-- answers that are no refusals
abbrev pub granted : List (Answer ℕ) → List (Result (Answer ℕ) EngineFault)
granted answers = map Result.Ok answers

-- answers that are refusals
abbrev pub refusals : List EngineFault → List (Result (Answer ℕ) EngineFault)
refusals faults = map Result.Err faults

-- the memory's refusal
abbrev pub past_end : ℕ → EngineFault
past_end place = Memory (MemoryFault.PastEnd place)

-- the answers of a run on a new engine, its last cells, and the last words of its locks
abbrev pub seen : Edge → List (Result (Answer ℕ) EngineFault) × List ℕ × List ℕ
seen edge =
    let ran = run edge.parts (fresh edge.cells (replicate 512 0)) edge.calls in
    (map (λ done. done.answer) ran.trace, ran.last.cells, counted edge.parts.locks ran.last.words)

-- the same as the edge has them
abbrev pub wanted : Edge → List (Result (Answer ℕ) EngineFault) × List ℕ × List ℕ
wanted edge = (edge.answers, edge.last, edge.words)

-- each with what it shows
abbrev pub edges : List Edge
edges =
    -- 1. slot 7 is the last: slot 8 draws number 21
    edge (lines 1 1 5) (0 ∷ []) (by 7 (Begin ∷ []) ++ by 8 (Begin ∷ []))
    (granted (Begun ∷ []) ++ refusals (NoSlot 8 ∷ [])) (0 ∷ []) (4 ∷ [])
    -- 2. the last place is noted: the place after it draws number 23, whatever the step
    ∷ edge (lines 2 2 5) (5 ∷ 6 ∷ 7 ∷ [])
    (by 0 (Begin ∷ Note 2 ∷ Load 2 ∷ Note 3 ∷ Load 3 ∷ Acquire 3 ∷ Store 3 8 ∷ []))
    (granted (Begun ∷ Noted 0 ∷ Value 7 ∷ []) ++ refusals (replicate 4 (past_end 3))) (5 ∷ 6 ∷ 7 ∷ []) (4 ∷ 4 ∷ [])
    -- 3. of a memory with no cells every note draws number 23
    ∷ edge (lines 1 1 5) [] (by 0 (Begin ∷ Note 0 ∷ Note 1 ∷ Note 65535 ∷ []))
    (granted (Begun ∷ []) ++ refusals (past_end 0 ∷ past_end 1 ∷ past_end 65535 ∷ [])) [] (4 ∷ [])
    -- 4. 64 locks are noted: one more draws number 26, and a noted one is known
    ∷ edge (lines 1 65 5) (replicate 65 0) (by 1 (Begin ∷ counted 65 Note ++ (Note 0 ∷ [])))
    (granted (Begun ∷ replicate 64 (Noted 0)) ++ refusals (ReadSetFull ∷ []) ++ granted (Known ∷ []))
    (replicate 65 0) (replicate 65 4)
    -- 5. 32 locks are held: one more draws number 27, and a held one is own
    ∷ edge (lines 1 33 5) (replicate 33 0) (by 1 (Begin ∷ counted 33 Acquire ++ (Acquire 0 ∷ [])))
    (granted (Begun ∷ replicate 32 (Acquired 0)) ++ refusals (HeldListFull ∷ []) ++ granted (Own ∷ []))
    (replicate 33 0) (replicate 32 16 ++ (4 ∷ []))
    -- 6. 64 stores are recorded: one more draws number 28, and changes nothing
    ∷ edge (lines 1 1 5) (0 ∷ []) (by 7 (Begin ∷ Acquire 0 ∷ counted 65 (λ k. Store 0 (k + 1)) ++ (Load 0 ∷ [])))
    (granted (Begun ∷ Acquired 0 ∷ replicate 64 Stored) ++ refusals (UndoLogFull ∷ []) ++ granted (Value 64 ∷ []))
    (64 ∷ []) (64 ∷ [])
    -- 7. with limit 1 a lock is taken once: after its release it draws number 29
    ∷ edge (lines 1 2 1) (0 ∷ 0 ∷ []) (by 3 (Begin ∷ Note 0 ∷ Note 1 ∷ Acquire 1 ∷ Acquire 0 ∷ Note 0 ∷ Commit
    ∷ replicate 6 Advance ++ (Begin ∷ Acquire 1 ∷ [])))
    (granted (Begun ∷ Noted 0 ∷ Noted 0 ∷ Acquired 0 ∷ Acquired 0 ∷ Own ∷ Checking ∷ Passed 0 ∷ Passed 1
    ∷ Answer.Committed ∷ Released 1 ∷ Released 0 ∷ Ended Outcome.Committed ∷ Begun ∷ [])
    ++ refusals (LastVersion 1 ∷ [])) (0 ∷ 0 ∷ []) (12 ∷ 12 ∷ [])
    -- 8. an abort undoes two stores to a place, the newest first, which leaves the first old value
    ∷ edge (lines 2 2 5) (7 ∷ 8 ∷ 9 ∷ []) (by 3 (Begin ∷ Note 2 ∷ []) ++ by 1 (Begin ∷ Acquire 0 ∷ Store 0 5 ∷ [])
    ++ by 2 (Begin ∷ Acquire 2 ∷ Store 2 20 ∷ Store 2 30 ∷ Load 2 ∷ Abort ∷ replicate 5 Advance)
    ++ by 3 (Acquire 2 ∷ Check ∷ []) ++ by 1 (Abort ∷ Advance ∷ []))
    (granted (Begun ∷ Noted 0 ∷ Begun ∷ Acquired 0 ∷ Stored ∷ Begun ∷ Acquired 0 ∷ Stored ∷ Stored ∷ Value 30
    ∷ Undoing ∷ Restored 2 ∷ Restored 2 ∷ Unlocking ∷ Released 1 ∷ Ended Outcome.Undone ∷ Acquired 1 ∷ Stale 1
    ∷ Undoing ∷ Restored 0 ∷ [])) (7 ∷ 8 ∷ 9 ∷ []) (16 ∷ 32 ∷ [])
    -- 9. the worked listing: a job that loaded a place before another job stored there is undone
    ∷ edge (lines 1 2 5) (0 ∷ 0 ∷ [])
    (by 0 (Begin ∷ Note 0 ∷ Load 0 ∷ []) ++ by 1 (Begin ∷ Acquire 0 ∷ Store 0 250 ∷ []) ++ by 0 (Load 0 ∷ [])
    ++ by 1 (Commit ∷ replicate 3 Advance) ++ by 0 (Commit ∷ replicate 3 Advance))
    (granted (Begun ∷ Noted 0 ∷ Value 0 ∷ Begun ∷ Acquired 0 ∷ Stored ∷ Value 250 ∷ Checking ∷ Answer.Committed
    ∷ Released 0 ∷ Ended Outcome.Committed ∷ Checking ∷ Stale 0 ∷ Unlocking ∷ Ended Outcome.Undone ∷ []))
    (250 ∷ 0 ∷ []) (12 ∷ 4 ∷ [])
    -- 10. with nothing noted and nothing held a commit ends with its second advance: a third draws number 22
    ∷ edge (lines 1 1 5) (0 ∷ []) (by 0 (Begin ∷ Check ∷ Commit ∷ replicate 3 Advance))
    (granted (Begun ∷ Good ∷ Checking ∷ Answer.Committed ∷ Ended Outcome.Committed ∷ [])
    ++ refusals (WrongState Free ∷ [])) (0 ∷ []) (4 ∷ [])
    ∷ []

-- every edge of a table comes to what it should
abbrev pub EdgesHold : List Edge → Type 0
EdgesHold table = map seen table ≡ map wanted table
