-- What a step of slot s leaves of every other slot.
use Rattle.std.proofs.Common.{◌≡◌, ℕ, ◌<◌, ◌≤◌, ◌⊎◌, List, [], ◌∷◌, length, slice_get, rules}
use Rattle.model.specs.Limits.{most_records, undo_place}
use Rattle.model.specs.Engine.{Parts, Slot}
use Rattle.model.specs.Job.{Job, job}
use Rattle.model.proofs.Locks.{Owner, Moves}
use Rattle.model.proofs.States.{Live}
use Rattle.model.proofs.Invariant.{Saved, World, Sound, slot_at, cell_at, status_at, base_at, table_at, fair_at, logged_with, table_with, fair_with}

module _ {V : Type 0} (parts : Parts) (w w' : World V) (s : ℕ) where
  -- at a place whose lock slot s owns, before and after
  abbrev pub Under : ℕ → Type 0
  Under p = Owner s (status_at parts w p) × Owner s (status_at parts w' p)

  -- from w to w': other slots' tables, records and jobs stay; locks move as a step of s may move them; a cell
  -- changes only under a lock of s, and so does the base
  pub record Frame : Type 0 where
    pub slots : (t : ℕ) → (t ≡ s → ⊥) → slot_at w' t ≡ slot_at w t
    pub logs : (t : ℕ) → (t ≡ s → ⊥) → w'.logs t ≡ w.logs t
    pub jobs : (t : ℕ) → (t ≡ s → ⊥) → job t w'.past ≡ job t w.past
    pub moves : (l : ℕ) → Moves s (w.status l) (w'.status l)
    pub count : length w'.engine.cells ≡ length w.engine.cells
    pub undo_count : length w'.engine.undo ≡ length w.engine.undo
    pub undo : (t k : ℕ) → (t ≡ s → ⊥) → k < most_records
        → slice_get w'.engine.undo (undo_place t k) ≡ slice_get w.engine.undo (undo_place t k)
    pub cells : (p : ℕ) → (cell_at w' p ≡ cell_at w p) ⊎ Under p
    pub bases : (p : ℕ) → (base_at parts w' p ≡ base_at parts w p) ⊎ Under p

  module _ (frame : Frame) (t : ℕ) (ne : t ≡ s → ⊥) where
    logged_there : (log : List (Saved V)) (changed : List ℕ) → length changed ≤ most_records
        → logged_with parts w t log changed
        → logged_with parts w' t log changed
    logged_there [] [] few log = tt
    logged_there [] (p ∷ changed) few log = log
    logged_there (r ∷ log) [] few logged = logged
    logged_there (r ∷ log) (p ∷ changed) few logged = search (rules, logged_there log changed)

    table_kept : (slot : Slot) (log : List (Saved V)) (j : Job V)
        → table_with parts w t slot log j
        → table_with parts w' t slot log j
    table_kept slot log j table = record {
      fit = λ busy. search rules;
      owns = λ i x at kept. search rules;
      once = table.once;
      old = λ live i x at. search (rules, frame.moves x.lock, table.old live i x at);
      logged = λ logs. search (rules, logged_there);
      unlogged = table.unlogged;
      ending = table.ending;
    }

    pub table_there : table_at parts w t → table_at parts w' t
    table_there table =
        rw (frame.slots t ne, frame.logs t ne, frame.jobs t ne)
        (table_kept (slot_at w t) (w.logs t) (job t w.past) table)

    -- an entry that is sound now was sound before
    module _ (live : Live (slot_at w t).state) (table : table_at parts w t) (p : ℕ) where
      pub sound_there : Sound t (slot_at w t).reads (parts.guard p) (status_at parts w' p)
          → Sound t (slot_at w t).reads (parts.guard p) (status_at parts w p)
      sound_there sound =
          search (rules, frame.moves (parts.guard p), table.old live sound.index sound.entry sound.found)

      -- where s owns the lock, no entry of t is sound, and t does not own it
      fair_under : Under p → fair_at parts w t p
          → fair_with parts w' t p (slot_at w t).reads (job t w.past).ops
      fair_under under fair = search rules

      fair_same : base_at parts w' p ≡ base_at parts w p → cell_at w' p ≡ cell_at w p → fair_at parts w t p
          → fair_with parts w' t p (slot_at w t).reads (job t w.past).ops
      fair_same same_base same_cell fair =
          let moved = frame.moves (parts.guard p) in
          record {
            sound = search (rules, sound_there);
            unnoted = search rules;
            owned = search rules;
            unowned = search rules;
            untouched = search rules;
          }

      fair_kept : fair_at parts w t p
          → fair_with parts w' t p (slot_at w t).reads (job t w.past).ops
      fair_kept fair = search (rules, fair_same, fair_under, frame.cells, frame.bases)

      pub fair_there : fair_at parts w t p → fair_at parts w' t p
      fair_there fair = search (rules, fair_kept)
