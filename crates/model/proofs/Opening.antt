-- The steps that open a job, note and load keep the invariant, and so does a step that changes nothing.
use Rattle.std.proofs.Common.{◌≡◌, ℕ, ◌<◌, Bool, true, false, ◌&&◌, ◌⊎◌, List, [], ◌∷◌, ◌++◌, length, slice_get, Option, refl, ⊎_elim, length-append, rules}
use Rattle.std.proofs.lemmas.Bool.{cases_eq}
use Rattle.model.specs.declared.slot_state.SlotState.{SlotState}
use Rattle.model.specs.Limits.{slot_count}
use Rattle.model.specs.Engine.{Parts, Entry, Slot, slot_of, has_lock, unfit}
use Rattle.model.specs.Step.{noting}
use Rattle.model.specs.Event.{Op, loads, stores, Deed, begins, notes, does}
use Rattle.model.specs.Job.{Job, job_after, counted, job}
use Rattle.model.specs.History.{line, held}
use Rattle.model.proofs.Tables.{slice_get_push, lock_pushed}
use Rattle.model.proofs.Place.{gets, puts, then, here, then-append, fits_append, gets_append, then_gets, here-append}
use Rattle.model.proofs.Locks.{unheld, Owner}
use Rattle.model.proofs.Invariant.{World, Sound, slot_at, cell_at, acts_at, status_at, base_at, Clean, Invariant}
use Rattle.model.proofs.Carry.{carry_steady}
use Rattle.model.proofs.Worlds.{by, same_world, slot_world, goes_same, goes_slot}

-- one operation more, at its place and elsewhere
module _ {V : Type 0} (q : ℕ) (ops : List (Op V)) (x : V) where
  pub here_loaded : here q (ops ++ (loads q x ∷ [])) ≡ here q ops ++ (gets x ∷ [])
  here_loaded = search (rules, here-append)

  pub here_stored : here q (ops ++ (stores q x ∷ [])) ≡ here q ops ++ (puts x ∷ [])
  here_stored = search (rules, here-append)

  pub elsewhere_loaded : (p : ℕ) → (p ≡ q → ⊥) → here p (ops ++ (loads q x ∷ [])) ≡ here p ops
  elsewhere_loaded p ne = search (rules, here-append)

  pub elsewhere_stored : (p : ℕ) → (p ≡ q → ⊥) → here p (ops ++ (stores q x ∷ [])) ≡ here p ops
  elsewhere_stored p ne = search (rules, here-append)

module _ {V : Type 0} (parts : Parts) (first : List V) (w : World V) (s : ℕ) (inv : Invariant parts first w) where
  abbrev own : Slot
  own = slot_at w s

  abbrev j : Job V
  j = job s w.past

  -- nothing changes but the history, and nothing that is read in it
  pub stays_same : (advance granted : Bool) (deed : Deed V)
      → let e = by s advance granted deed in
      job_after deed (counted (advance && granted) j) ≡ j → line (e ∷ w.past) ≡ line w.past
      → ((l : ℕ) → held (e ∷ w.past) l ≡ held w.past l) → Clean first (e ∷ w.past)
      → Invariant parts first (same_world w s e)
  stays_same advance granted deed jobs lines helds clean =
      carry_steady parts w _ s first inv (goes_same parts first w s inv advance granted deed) (λ _. refl) lines
      (search rules) (search rules) (search rules) (λ checks. checks) (search rules) clean

  -- begin
  pub begun : own.state ≡ SlotState.Free → (unfit parts (length w.engine.cells) (length w.engine.undo)
      ≡ Option.None) × (s < slot_count)
      → Invariant parts first (slot_world w s (slot_of SlotState.Open [] [] []) (by s false true begins))
  begun free fit =
      search (
        rules,
        carry_steady parts w _ s first inv
            (goes_slot parts first w s inv false true begins (slot_of SlotState.Open [] [] [])),
      )

  -- the steps of an open slot
  module _ (is_open : own.state ≡ SlotState.Open) where
    -- note
    pub noted : (q v : ℕ) → has_lock own.reads (parts.guard q) ≡ false → w.status (parts.guard q) ≡ unheld v
        → Invariant parts first (slot_world w s (noting (record { lock = parts.guard q; version = v })
        own) (by s false true notes))
    noted q v none free =
        let x : Entry = record { lock = parts.guard q; version = v } in
        carry_steady parts w _ s first inv (goes_slot parts first w s inv false true notes (noting x own))
        (λ _. refl) refl (search (rules, slice_get_push own.reads x, length-append own.reads (x ∷ [])))
        (λ p l. search (rules, slice_get_push own.reads x, lock_pushed own.reads x))
        (search rules) (search rules) inv.tied (search rules)

    -- at a place whose entry is sound, the job sees the cell
    seen : (p : ℕ) → Sound s own.reads (parts.guard p) (status_at parts w p)
        → then (acts_at w s p) (base_at parts w p) ≡ cell_at w p
    seen p so = search (rules, then_gets)

    -- load
    pub loaded : (q : ℕ) (x : V) → slice_get w.engine.cells q ≡ Option.Some x
        → Owner s (status_at parts w q) ⊎ (has_lock own.reads (parts.guard q) ≡ true)
        → Invariant parts first (same_world w s (by s false true (does (loads q x))))
    loaded q x cell reach =
        carry_steady parts w _ s first inv (goes_same parts first w s inv false true (does (loads q x)))
        (λ _. refl) refl (search rules)
        (λ p l. ⊎_elim (λ is. search (rules, here_loaded, fits_append, then-append, gets_append, seen))
        (λ ne. search (rules, elsewhere_loaded)) (cases_eq p q))
        (search rules) (λ checks. checks) inv.tied (search rules)
