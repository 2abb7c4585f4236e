-- Commit and abort, as they are granted, and the rows of advance for a job that is checking keep the invariant.
use Rattle.std.proofs.Common.{◌≡◌, ℕ, ◌+◌, true, false, List, [], ◌∷◌, ◌++◌, slice_get, Option, refl, ⊎_elim, rules}
use Rattle.std.proofs.iter.runs.Lists.{slice_get_within}
use Rattle.std.proofs.lemmas.Option.{slice_get_cases}
use Rattle.std.proofs.lemmas.Bool.{cases_eq}
use Rattle.model.specs.declared.outcome.Outcome.{Outcome}
use Rattle.model.specs.declared.slot_state.SlotState.{SlotState}
use Rattle.model.specs.Engine.{Parts, Entry, Slot, updated, has_lock}
use Rattle.model.specs.Step.{in_state}
use Rattle.model.specs.Event.{asks, quits, commits, nothing}
use Rattle.model.specs.Job.{Job, job_after, counted, job}
use Rattle.model.specs.History.{Turn, marked, line}
use Rattle.model.proofs.Tables.{lock_found}
use Rattle.model.proofs.Place.{then}
use Rattle.model.proofs.Line.{Along, waits_own}
use Rattle.model.proofs.LineMoves.{Newly, but, joined, present_push, present_last, present_marked, absent_here, along_steady, along_push}
use Rattle.model.proofs.LineCommit.{along_marked, along_joined}
use Rattle.model.proofs.Locks.{Owner, Current}
use Rattle.model.proofs.States.{passed_count}
use Rattle.model.proofs.Invariant.{World, Passed, slot_at, status_at, base_at, view_at, Invariant}
use Rattle.model.proofs.Carry.{Goes, OwnSteady, present_there, steady_at, steady_left, carry, carry_steady}
use Rattle.model.proofs.Logs.{owner_or_not}
use Rattle.model.proofs.Worlds.{by, slot_world, next_world, goes_slot}

module _ {V : Type 0} (parts : Parts) (first : List V) (w : World V) (s : ℕ) (inv : Invariant parts first w) where
  abbrev own : Slot
  own = slot_at w s

  abbrev j : Job V
  j = job s w.past

  module _ (is_open : own.state ≡ SlotState.Open) where
    -- commit: the job joins the line, behind all committed jobs
    abbrev asked : Slot
    asked = in_state (SlotState.Checking 0) own

    abbrev asked_world : World V
    asked_world = slot_world w s asked (by s false true asks)

    abbrev turn : Turn V
    turn = record { slot = s; ops = j.ops; committed = false }

    goes_asked : Goes parts w asked_world s (by s false true asks) asked (w.logs s) (job_after asks j)
    goes_asked = goes_slot parts first w s inv false true asks asked

    along_asked : (p : ℕ) → Along (view_at parts asked_world p) p (slice_get first p) (line w.past ++ (turn ∷ []))
    along_asked p =
        search (
          rules,
          along_push (view_at parts asked_world p) p turn,
          absent_here (view_at parts w p) p s (slice_get first p) (line w.past),
          along_steady (view_at parts w p) (view_at parts asked_world p) p
              (steady_at parts w asked_world s first inv goes_asked p refl (search rules)),
        )

    pub commit_asked : Invariant parts first asked_world
    commit_asked =
        carry parts w asked_world s first inv goes_asked (search rules) (search rules) along_asked
        (λ t checks. search (
          rules,
          present_last s (line w.past) turn,
          waits_own,
          present_push t (line w.past) turn,
          present_there parts w asked_world s first inv goes_asked t,
          cases_eq t s,
        )) inv.tied (search rules)

    -- abort
    pub abort_asked : Invariant parts first
        (slot_world w s (in_state SlotState.Undoing own) (by s false true quits))
    abort_asked =
        carry_steady parts w _ s first inv
        (goes_slot parts first w s inv false true quits (in_state SlotState.Undoing own)) (λ _. refl) refl
        (search rules) (search rules) (search rules) (search rules) inv.tied (search rules)

  -- advance while checking
  module _ (i : ℕ) (is_checking : own.state ≡ SlotState.Checking i) where
    -- an entry that is good is passed
    module _ (x : Entry) (at : slice_get own.reads i ≡ Option.Some x) (current : Current s (w.status x.lock) x)
      where
        abbrev passed_slot : Slot
        passed_slot = in_state (SlotState.Checking (i + 1)) own

        abbrev passed_world : World V
        passed_world = slot_world w s passed_slot (by s true true nothing)

        newly : (p : ℕ) → x.lock ≡ parts.guard p → Newly (view_at parts w p) s
        newly p is = search rules

        own_passed : (p : ℕ) → OwnSteady parts w passed_world s p passed_slot (counted true j)
        own_passed p = search (rules, newly)

        pub entry_passed : Invariant parts first passed_world
        entry_passed =
            let below = slice_get_within own.reads i x at in
            carry_steady parts w passed_world s first inv (goes_slot parts first w s inv true true nothing passed_slot)
            (λ _. refl) refl (search rules) (search rules) own_passed (search rules) inv.tied (search rules)

    -- an entry that is stale has the job undone
    pub entry_stale : (x : Entry) → slice_get own.reads i ≡ Option.Some x
        → Invariant parts first (slot_world w s (in_state SlotState.Undoing own) (by s true true nothing))
    entry_stale x at =
        let below = slice_get_within own.reads i x at in
        carry_steady parts w _ s first inv
        (goes_slot parts first w s inv true true nothing (in_state SlotState.Undoing own)) (λ _. refl) refl
        (search rules) (search rules) (search rules) (search rules) inv.tied (search rules)

    -- with none left the job is committed
    module _ (end : slice_get own.reads i ≡ Option.None) where
      abbrev committed_slot : Slot
      committed_slot = in_state (SlotState.Unlocking 0 Outcome.Committed) own

      abbrev committed_world : World V
      committed_world =
          next_world w s w.engine.cells w.engine.undo w.engine.words committed_slot w.status
          (updated w.logs s []) (by s true true commits)

      kept_base : (p : ℕ) → (Owner s (status_at parts w p) → ⊥)
          → base_at parts committed_world p ≡ base_at parts w p
      kept_base p none = search rules

      goes_committed : Goes parts w committed_world s (by s true true commits) committed_slot [] (counted true j)
      goes_committed = search rules

      all_passed : (p : ℕ) → has_lock own.reads (parts.guard p) ≡ true
          → Passed own.reads (passed_count own.state) (parts.guard p)
      all_passed p has = search (rules, lock_found, slice_get_cases own.reads i, slice_get_within)

      along_committed : (p : ℕ) → Along (view_at parts committed_world p) p (slice_get first p)
          (marked s (line w.past))
      along_committed p =
          let v = view_at parts w p in
          ⊎_elim
          (λ o. along_steady (joined s v) (view_at parts committed_world p) p
          (search (rules, steady_left parts w committed_world s first inv goes_committed p (then (v.acts s) v.base)))
          (slice_get first p) (marked s (line w.past))
          (search (rules, along_joined v p s, all_passed p)))
          (λ none. along_steady (but s v) (view_at parts committed_world p) p
          (search (rules, steady_left parts w committed_world s first inv goes_committed p v.base (kept_base p none)))
          (slice_get first p) (marked s (line w.past)) (search (rules, along_marked v p s, all_passed p)))
          (owner_or_not s (status_at parts w p))

      pub committed : Invariant parts first committed_world
      committed =
          carry parts w committed_world s first inv goes_committed (search rules) (search rules) along_committed
          (λ t checks. search (
            rules,
            present_marked t s (line w.past),
            present_there parts w committed_world s first inv goes_committed t,
            cases_eq t s,
          )) inv.tied (search rules)
