-- The order of the jobs' ends is no serial order. Assumes nothing.
--   has_committed s h     the job of slot s is committed
--   line_by_end h         committed jobs in the order of their ends
--   late_end              calls on which the two orders differ
--   ByEndRefuted          run alone in the order of their ends, the jobs do not answer the loads as the plain
--                         engine did, and in the order of their granted commits they do
use Rattle.std.specs.Prelude.{ℕ, Bool, true, false, if◌then◌else◌, List, [], ◌∷◌, ◌++◌, replicate, ◌==◌}
use Rattle.model.specs.declared.step.Step.TheVariants.{Begin, Note, Load, Acquire, Store, Commit, Advance}
use Rattle.model.specs.declared.step.Call.{Call}
use Rattle.model.specs.Event.{Deed, begins, commits, ends, History, history}
use Rattle.model.specs.Job.{job}
use Rattle.model.specs.History.{Turn, line, in_turn}
use Rattle.model.specs.Law.{Alone}
use Rattle.cases.specs.Edges.{by}
use Rattle.cases.specs.Refuted.{plain, one_place, ran}

module _ {V : Type 0} where
  -- whether a job is committed, after a deed of its slot
  abbrev pub committed_after : Deed V → Bool → Bool
  committed_after begins was = false
  committed_after commits was = true
  committed_after deed was = was

  -- the job of the slot is committed
  abbrev pub has_committed : ℕ → History V → Bool
  has_committed s [] = false
  has_committed s (e ∷ h) =
      if e.slot == s then committed_after e.deed (has_committed s h) else has_committed s h

  -- the line after a deed of the job: at its end the job takes its place
  abbrev pub placed_after : Deed V → Turn V → List (Turn V) → List (Turn V)
  placed_after ends turn line = line ++ (turn ∷ [])
  placed_after deed turn line = line

  -- jobs in the order of their ends
  abbrev pub line_by_end : History V → List (Turn V)
  line_by_end [] = []
  line_by_end (e ∷ h) = placed_after e.deed
      (record { slot = e.slot; ops = (job e.slot h).ops; committed = has_committed e.slot h }) (line_by_end h)

-- job 0 loads and its entry is passed; then job 1 takes the lock, stores, commits and ends; then job 0 ends
abbrev pub late_end : List (Call ℕ)
late_end = by 0 (Begin ∷ Note 0 ∷ Load 0 ∷ Commit ∷ Advance ∷ [])
    ++ by 1 (Begin ∷ Acquire 0 ∷ Store 0 250 ∷ Commit ∷ replicate 3 Advance) ++ by 0 (replicate 2 Advance)

-- what the plain engine's run of these calls tells
abbrev pub late_end_told : History ℕ
late_end_told = history one_place.guard (ran plain late_end).trace

-- one order fails, and the other holds
abbrev pub ByEndRefuted : Type 0
ByEndRefuted = (Alone (in_turn (line_by_end late_end_told)) (0 ∷ []) → ⊥)
    × Alone (in_turn (line late_end_told)) (0 ∷ [])
