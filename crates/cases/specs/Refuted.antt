-- Calls on which each broken engine breaks the law, all over one cell with the value 0. Assumes nothing.
--   plain                  the plain step
--   one_place              parts with one lock
--   last_answer t          what the last call of the trace t answers
--   ran one calls          the run of these calls on a new engine, where one makes the step
--   KeepsLaw one calls     that run keeps the law
--   Breach                 a broken step and calls, with what it and the plain step answer last
--   dirty_check, dirty_commit, undone_check, overtaken_check, undone_store, empty_commit, empty_abort, late_store
--                          the calls
--   breaches               each broken engine with its calls, never_looks with two lists of them
--   BreaksLaw b            the run of the breach b does not keep the law
--   seen_last, wanted_last     what the last answers of a breach come to, and what they should come to
--   BreachesRefuted, BreachesTold      each breaks the law, and each comes to what it should
use Rattle.std.specs.Prelude.{◌≡◌, ℕ, List, [], ◌∷◌, ◌++◌, map, replicate, Some, None, Ok, Err, Option, Result, All}
use Rattle.std.specs.List.{last_or}
use Rattle.model.specs.declared.outcome.Outcome.{Outcome}
use Rattle.model.specs.declared.slot_state.SlotState.{SlotState}
use Rattle.model.specs.declared.step.Step.TheVariants.{Begin, Note, Load, Acquire, Store, Check, Commit, Advance, Abort}
use Rattle.model.specs.declared.step.Call.{Call}
use Rattle.model.specs.declared.answer.Answer.{Answer}
use Rattle.model.specs.declared.answer.Answer.TheVariants.{Stored, Good, Stale, Unlocking, Released, Ended}
use Rattle.model.specs.declared.fault.EngineFault.{EngineFault}
use Rattle.model.specs.declared.fault.EngineFault.TheVariants.{WrongState}
use Rattle.model.specs.Engine.{Parts, fresh}
use Rattle.model.specs.Table.{step, Done, Ran, run_by}
use Rattle.model.specs.Law.{Lawful}
use Rattle.cases.specs.Edges.{lines, by}
use Rattle.cases.specs.Broken.{EngineStep, never_looks, own_is_good, old_version, keeps_stores, never_ends, refuses_advance, stores_late}

-- the plain step, over numbers
abbrev pub plain : EngineStep
plain = step

-- one lock guards every place
abbrev pub one_place : Parts
one_place = lines 1 1 5

-- the answer of the last call
abbrev pub last_answer : List (Done ℕ) → Option (Result (Answer ℕ) EngineFault)
last_answer trace = last_or None (map (λ done. done.answer) trace)

module _ (one : EngineStep) (calls : List (Call ℕ)) where
  -- a run over one cell
  abbrev pub ran : Ran ℕ
  ran = run_by (one one_place) (fresh (0 ∷ []) (replicate 512 0)) calls

  -- the run keeps the law
  abbrev pub KeepsLaw : Type 0
  KeepsLaw = Lawful one_place.guard (0 ∷ []) ran.last.cells ran.trace

-- a broken step, and calls on which it breaks the law
pub record Breach : Type 0 where
  pub one : EngineStep
  pub calls : List (Call ℕ)
  -- what it answers last, and what the plain step does
  pub answer : Result (Answer ℕ) EngineFault
  pub plain_answer : Result (Answer ℕ) EngineFault

-- the fields in their order
abbrev pub breach : EngineStep → List (Call ℕ) → Result (Answer ℕ) EngineFault → Result (Answer ℕ) EngineFault → Breach
breach one calls answer plain_answer =
    record { one = one; calls = calls; answer = answer; plain_answer = plain_answer }

-- job 0 loads what job 1 has stored and not committed, and checks
abbrev pub dirty_check : List (Call ℕ)
dirty_check = by 0 (Begin ∷ Note 0 ∷ []) ++ by 1 (Begin ∷ Acquire 0 ∷ Store 0 250 ∷ []) ++ by 0 (Load 0 ∷ Check ∷ [])

-- the same, but job 0 commits
abbrev pub dirty_commit : List (Call ℕ)
dirty_commit = by 0 (Begin ∷ Note 0 ∷ []) ++ by 1 (Begin ∷ Acquire 0 ∷ Store 0 250 ∷ [])
    ++ by 0 (Load 0 ∷ Commit ∷ Advance ∷ Advance ∷ [])

-- job 0 loads what job 1 has stored, and checks when job 1 has been undone
abbrev pub undone_check : List (Call ℕ)
undone_check = by 0 (Begin ∷ Note 0 ∷ []) ++ by 1 (Begin ∷ Acquire 0 ∷ Store 0 250 ∷ []) ++ by 0 (Load 0 ∷ [])
    ++ by 1 (Abort ∷ replicate 3 Advance) ++ by 0 (Check ∷ [])

-- job 0 loads, job 1 stores there and commits, and then job 0 takes the lock and checks
abbrev pub overtaken_check : List (Call ℕ)
overtaken_check = by 0 (Begin ∷ Note 0 ∷ Load 0 ∷ [])
    ++ by 1 (Begin ∷ Acquire 0 ∷ Store 0 250 ∷ Commit ∷ replicate 2 Advance) ++ by 0 (Acquire 0 ∷ Check ∷ [])

-- a job stores and aborts, and advances twice
abbrev pub undone_store : List (Call ℕ)
undone_store = by 0 (Begin ∷ Acquire 0 ∷ Store 0 250 ∷ Abort ∷ Advance ∷ Advance ∷ [])

-- a job that has done nothing commits, and makes both advances that it is allowed
abbrev pub empty_commit : List (Call ℕ)
empty_commit = by 0 (Begin ∷ Commit ∷ Advance ∷ Advance ∷ [])

-- a job that has done nothing aborts, and advances
abbrev pub empty_abort : List (Call ℕ)
empty_abort = by 0 (Begin ∷ Abort ∷ Advance ∷ [])

-- a job stores after its commit
abbrev pub late_store : List (Call ℕ)
late_store = by 0 (Begin ∷ Acquire 0 ∷ Commit ∷ Store 0 250 ∷ [])

-- each with what it shows
abbrev pub breaches : List Breach
breaches =
    -- its check never looks: it answers good where the plain engine answers stale ..
    breach never_looks dirty_check (Ok Good) (Ok (Stale 0))
    -- .. and job 0 is committed where it is undone
    ∷ breach never_looks dirty_commit (Ok Answer.Committed) (Ok Unlocking)
    -- a lock gets its old version back after an undo: good where the plain engine answers stale
    ∷ breach old_version undone_check (Ok Good) (Ok (Stale 0))
    -- an own lock is taken as good without comparing versions: good where the plain engine answers stale
    ∷ breach own_is_good overtaken_check (Ok Good) (Ok (Stale 0))
    -- an undo puts nothing back, which breaks the serial order of the cells: the lock is free, and the store is there;
    -- with the second advance it releases the lock where the plain engine has just put the old value back
    ∷ breach keeps_stores undone_store (Ok (Released 0)) (Ok Unlocking)
    -- no job ends, which breaks the bounded end: unlocking where the plain engine answers that the job has ended
    ∷ breach never_ends empty_commit (Ok Unlocking) (Ok (Ended Outcome.Committed))
    -- an undoing job is refused its advances: number 22 where the plain engine goes on to the locks
    ∷ breach refuses_advance empty_abort (Err (WrongState SlotState.Undoing)) (Ok Unlocking)
    -- a job that has asked to commit is granted a store: it stores where the plain engine draws number 22
    ∷ breach stores_late late_store (Ok Stored) (Err (WrongState (SlotState.Checking 0)))
    ∷ []

-- the run does not keep the law
abbrev pub BreaksLaw : Breach → Type 0
BreaksLaw row = KeepsLaw row.one row.calls → ⊥

-- every breach breaks the law
abbrev pub BreachesRefuted : Type 0
BreachesRefuted = All BreaksLaw breaches

-- what its step and the plain step answer last
abbrev pub seen_last : Breach → Option (Result (Answer ℕ) EngineFault) × Option (Result (Answer ℕ) EngineFault)
seen_last row = (last_answer (ran row.one row.calls).trace, last_answer (ran plain row.calls).trace)

-- the same as the breach has them
abbrev pub wanted_last : Breach → Option (Result (Answer ℕ) EngineFault) × Option (Result (Answer ℕ) EngineFault)
wanted_last row = (Some row.answer, Some row.plain_answer)

-- every breach answers last what it should
abbrev pub BreachesTold : Type 0
BreachesTold = map seen_last breaches ≡ map wanted_last breaches
