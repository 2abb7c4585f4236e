-- The world after an event of slot s, and what of the step is the same for every event.
use Rattle.std.proofs.Common.{◌≡◌, ℕ, ◌<◌, Bool, ◌&&◌, ◌⊎◌, List, ◌∷◌, length, slice_get, refl, rules}
use Rattle.model.specs.Limits.{most_records, undo_place}
use Rattle.model.specs.Engine.{Parts, Slot, updated}
use Rattle.model.specs.Event.{Deed, Event}
use Rattle.model.specs.Job.{Job, job_after, counted, job}
use Rattle.model.proofs.Tables.{updated_each}
use Rattle.model.proofs.Locks.{Status, word, Owner, Moves, stays}
use Rattle.model.proofs.Invariant.{Saved, World, slot_at, cell_at, status_at, base_at, Ranged, Invariant}
use Rattle.model.proofs.Carry.{Goes}

-- an event of slot s
abbrev pub by : {V : Type 0} → ℕ → Bool → Bool → Deed V → Event V
by s advance granted deed = record { slot = s; advance = advance; granted = granted; deed = deed }

module _ {V : Type 0} (w : World V) (s : ℕ) where
  -- the engine stays, with one event more
  abbrev pub same_world : Event V → World V
  same_world e = record { engine = w.engine; status = w.status; logs = w.logs; past = e ∷ w.past }

  -- the slot changes, and with it what is given
  abbrev pub next_world : List V → List V → (ℕ → ℕ) → Slot → (ℕ → Status) → (ℕ → List (Saved V)) → Event V → World V
  next_world cells undo words slot status logs e = record {
    engine = record { cells = cells; undo = undo; words = words; slots = updated w.engine.slots s slot };
    status = status;
    logs = logs;
    past = e ∷ w.past;
  }

  -- only the slot changes
  abbrev pub slot_world : Slot → Event V → World V
  slot_world slot e = next_world w.engine.cells w.engine.undo w.engine.words
      slot w.status w.logs e

module _ {V : Type 0} (parts : Parts) (first : List V) (w : World V) (s : ℕ) (inv : Invariant parts first w)
    (advance granted : Bool) (deed : Deed V) where
  abbrev after : Job V
  after = job_after deed (counted (advance && granted) (job s w.past))

  pub goes_same : Goes parts w (same_world w s (by s advance granted deed)) s (by s advance granted deed)
      (slot_at w s) (w.logs s) after
  goes_same = search rules

  pub goes_slot : (slot : Slot)
      → Goes parts w (slot_world w s slot (by s advance granted deed)) s
      (by s advance granted deed) slot (w.logs s) after
  goes_slot slot = search rules

  -- a lock changes too
  pub goes_lock : (slot : Slot) (l : ℕ) (k : Status) → Moves s (w.status l) k → Ranged parts k
      → let w' = next_world w s w.engine.cells w.engine.undo (updated w.engine.words l (word k)) slot
      (updated w.status l k)
      w.logs (by s advance granted deed) in
      ((p : ℕ) → base_at parts w' p ≡ base_at parts w p)
      → Goes parts w w' s (by s advance granted deed) slot (w.logs s) after
  goes_lock slot l k moved within bases =
      let moves : (q : ℕ) → Moves s (w.status q) (updated w.status l k q) =
      updated_each w.status l k (λ q a. Moves s (w.status q) a) moved (λ _ _. stays refl) in
      let ranged : (q : ℕ) → Ranged parts (updated w.status l k q) =
      updated_each w.status l k (λ _ a. Ranged parts a) within (λ q _. inv.ranged q) in search rules

  -- cells and records change
  pub goes_cells : (cells undo : List V) (slot : Slot) (log : List (Saved V))
      → let w' = next_world w s cells undo w.engine.words slot w.status (updated w.logs s log)
      (by s advance granted deed) in
      length cells ≡ length w.engine.cells → length undo ≡ length w.engine.undo
      → ((t k : ℕ) → (t ≡ s → ⊥) → k < most_records → slice_get undo (undo_place t k) ≡ slice_get
      w.engine.undo (undo_place t k))
      → ((p : ℕ) → (slice_get cells p ≡ cell_at w p) ⊎ Owner s (status_at parts w p))
      → ((p : ℕ) → (base_at parts w' p ≡ base_at parts w p) ⊎ Owner s (status_at parts w p))
      → Goes parts w w' s (by s advance granted deed) slot log after
  goes_cells cells undo slot log count undo_count undo_kept cells_kept bases = search rules
