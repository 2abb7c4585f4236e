-- The rows of advance for a job that is undoing or unlocking keep the invariant.
use Rattle.std.proofs.Common.{◌≡◌, ℕ, ◌+◌, true, List, [], ◌∷◌, length, set, slice_get, Option, refl, inl, rules}
use Rattle.std.proofs.iter.runs.Lists.{slice_get_within}
use Rattle.std.proofs.lemmas.Bool.{cases_eq}
use Rattle.model.specs.declared.outcome.Outcome.{Outcome}
use Rattle.model.specs.declared.slot_state.SlotState.{SlotState}
use Rattle.model.specs.Engine.{Parts, Entry, Slot, updated}
use Rattle.model.specs.Step.{in_state, recording}
use Rattle.model.specs.Event.{frees, ends, nothing}
use Rattle.model.specs.Job.{Job, job_after, counted, job}
use Rattle.model.specs.History.{line}
use Rattle.model.proofs.Tables.{slice_get-set_there}
use Rattle.model.proofs.LineMoves.{but, present_without, along_steady, along_without}
use Rattle.model.proofs.Locks.{Status, unheld, taken, word, Moves}
use Rattle.model.proofs.Invariant.{Saved, World, Table, slot_at, status_at, base_at, view_at, Invariant, logged_with}
use Rattle.model.proofs.Carry.{Goes, present_there, steady_left, carry, carry_steady}
use Rattle.model.proofs.Logs.{owner_or_not, put_back, logged_none}
use Rattle.model.proofs.Worlds.{by, slot_world, next_world, goes_slot, goes_lock, goes_cells}

module _ {V : Type 0} (parts : Parts) (first : List V) (w : World V) (s : ℕ) (inv : Invariant parts first w) where
  abbrev own : Slot
  own = slot_at w s

  abbrev j : Job V
  j = job s w.past

  -- advance while undoing
  module _ (is_undoing : own.state ≡ SlotState.Undoing) where
    -- with no record left the locks are to be released
    pub undone : own.changed ≡ []
        → Invariant parts first (slot_world w s (in_state (SlotState.Unlocking 0 Outcome.Undone) own)
        (by s true true nothing))
    undone none_left =
        carry_steady parts w _ s first inv
        (goes_slot parts first w s inv true true nothing (in_state (SlotState.Unlocking 0 Outcome.Undone) own))
        (λ _. refl) refl (search (rules, logged_none)) (search rules) (search rules) (search rules) inv.tied
        (search rules)

    -- the newest record is put back
    module _ (q : ℕ) (older : List ℕ) (newest : own.changed ≡ q ∷ older) (r : Saved V) (log : List (Saved V))
        (logs_are : w.logs s ≡ r ∷ log) where
      logged_all : logged_with parts w s (r ∷ log) (q ∷ older)
      logged_all = search rules

      abbrev cells' : List V
      cells' = set w.engine.cells q r.old

      abbrev restored_slot : Slot
      restored_slot = recording older own

      abbrev restored_world : World V
      restored_world =
          next_world w s cells' w.engine.undo w.engine.words restored_slot w.status
          (updated w.logs s log) (by s true true nothing)

      bases_restored : (p : ℕ) → base_at parts restored_world p ≡ base_at parts w p
      bases_restored p = search (rules, put_back w.engine.cells q p r.old, slice_get-set_there)

      pub restored : Invariant parts first restored_world
      restored =
          carry_steady parts w restored_world s first inv
          (goes_cells parts first w s inv true true nothing cells' w.engine.undo restored_slot log (search rules)
          (search rules) (search rules)
          (λ p. search (rules, owner_or_not s (status_at parts w p), slice_get-set_there, logged_all))
          (λ p. inl (bases_restored p)))
          bases_restored refl (search rules) (search rules) (search rules) (search rules) inv.tied (search rules)

  -- advance while unlocking
  module _ (i : ℕ) (outcome : Outcome) (is_unlocking : own.state ≡ SlotState.Unlocking i outcome) where
    -- a held lock becomes free
    module _ (x : Entry) (at : slice_get own.held i ≡ Option.Some x) where
      abbrev released_slot : Slot
      released_slot = in_state (SlotState.Unlocking (i + 1) outcome) own

      abbrev status' : ℕ → Status
      status' = updated w.status x.lock (unheld (x.version + 1))

      abbrev released_world : World V
      released_world =
          next_world w s w.engine.cells w.engine.undo (updated w.engine.words x.lock
          (word (unheld (x.version + 1)))) released_slot status'
          w.logs (by s true true (frees x.lock))

      was_taken : w.status x.lock ≡ taken s x.version
      was_taken = search rules

      table_released : Table parts (length w.engine.cells) w.engine.undo status' s released_slot
          (w.logs s) (counted true j)
      table_released = search (rules, slice_get_within own.held i x at)

      pub released : Invariant parts first released_world
      released =
          carry_steady parts w released_world s first inv
          (goes_lock parts first w s inv true true (frees x.lock) released_slot x.lock (unheld (x.version + 1))
          (Moves.frees x.version was_taken refl) (search (rules, was_taken, inv.ranged x.lock)) (search rules))
          (search rules) refl table_released (search rules) (search rules) (search rules) (search rules) (search rules)

    -- with none left the job has ended
    abbrev ended_slot : Slot
    ended_slot = in_state SlotState.Free own

    abbrev ended_world : World V
    ended_world = slot_world w s ended_slot (by s true true ends)

    goes_ended : Goes parts w ended_world s (by s true true ends) ended_slot (w.logs s)
        (job_after ends (counted true j))
    goes_ended = goes_slot parts first w s inv true true ends ended_slot

    pub ended : Invariant parts first ended_world
    ended =
        carry parts w ended_world s first inv goes_ended (search rules) (search rules)
        (λ p. search (
          rules,
          along_steady (but s (view_at parts w p)) (view_at parts ended_world p) p
              (steady_left parts w ended_world s first inv goes_ended p (base_at parts w p) refl (λ checks. checks)),
          along_without (view_at parts w p) p s,
        ))
        (λ t checks. search (
          rules,
          present_without t s (line w.past),
          present_there parts w ended_world s first inv goes_ended t,
          cases_eq t s,
        )) inv.tied (search rules)
