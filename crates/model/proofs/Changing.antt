-- The steps that acquire and store keep the invariant.
use Rattle.std.proofs.Common.{◌≡◌, ℕ, ◌<◌, true, false, List, [], ◌∷◌, ◌++◌, length, set, slice_get, Option, refl, ⊎_elim, arith, length-append, rules}
use Rattle.std.proofs.iter.runs.Lists.{slice_get_within}
use Rattle.std.proofs.lemmas.Bool.{cases_eq}
use Rattle.model.specs.declared.slot_state.SlotState.{SlotState}
use Rattle.model.specs.Limits.{most_records, undo_place}
use Rattle.model.specs.Engine.{Parts, Entry, Slot, updated}
use Rattle.model.specs.Step.{holding, recording}
use Rattle.model.specs.Event.{stores, does, takes}
use Rattle.model.specs.Job.{Job, job_after, job}
use Rattle.model.proofs.Tables.{slice_get_push, slice_get-set_here, slice_get-set_there}
use Rattle.model.proofs.Place.{here, then-append, fits_append, then_gets}
use Rattle.model.proofs.Locks.{Status, unheld, taken, word, Owner, Moves, takes}
use Rattle.model.proofs.States.{Live}
use Rattle.model.proofs.Invariant.{Saved, World, Fair, Table, slot_at, cell_at, acts_at, status_at, base_at, Invariant}
use Rattle.model.proofs.Carry.{Goes, carry_steady}
use Rattle.model.proofs.Opening.{here_stored, elsewhere_stored}
use Rattle.model.proofs.Logs.{fit_undo, unwound_apart, logged_kept}
use Rattle.model.proofs.Worlds.{by, next_world, goes_lock, goes_cells}

module _ {V : Type 0} (parts : Parts) (first : List V) (w : World V) (s : ℕ) (inv : Invariant parts first w)
    (is_open : (slot_at w s).state ≡ SlotState.Open) where
  abbrev own : Slot
  own = slot_at w s

  abbrev j : Job V
  j = job s w.past

  -- acquire
  module _ (q v : ℕ) (free : w.status (parts.guard q) ≡ unheld v) (below : v < parts.limit) where
    abbrev lock : ℕ
    lock = parts.guard q

    abbrev entry : Entry
    entry = record { lock = lock; version = v }

    abbrev status' : ℕ → Status
    status' = updated w.status lock (taken s v)

    abbrev acquired_world : World V
    acquired_world =
        next_world w s w.engine.cells w.engine.undo (updated w.engine.words lock (word (taken s v)))
        (holding entry own) status' w.logs
        (by s false true (takes lock))

    -- no record lies under the lock that is taken
    bases_acquired : (p : ℕ) → base_at parts acquired_world p ≡ base_at parts w p
    bases_acquired p = search (rules, unwound_apart)

    table_acquired : Table parts (length w.engine.cells) w.engine.undo status' s (holding entry own)
        (w.logs s) (job_after (takes lock) j)
    table_acquired =
        let t = inv.tables s in
        record {
          fit = search rules;
          owns = λ i x at kept. search (rules, slice_get_push own.held entry i x at);
          once = λ i k x y at_i at_k kept_i kept_k same. search (
            rules,
            slice_get_push own.held entry i x at_i,
            slice_get_push own.held entry k y at_k,
            t.once i k x y,
          );
          old = λ l i x at. search (rules, t.old l i x at);
          logged = λ logs. search (
            rules,
            logged_kept parts (length w.engine.cells) (length w.engine.cells)
                w.engine.undo w.engine.undo w.status status' s (w.logs s) own.changed,
          );
          unlogged = search rules;
          ending = search (rules, length-append own.held (entry ∷ []));
        }

    -- at the places under the lock, the cell is the base, and the job has only loaded
    fair_acquired : (p : ℕ) → Live own.state
        → Fair s (parts.guard p) own.reads (status_at parts acquired_world p) (acts_at w s p)
        (base_at parts w p) (cell_at w p)
    fair_acquired p l =
        let f = inv.jobs s p l in
        ⊎_elim (λ is. search (rules, then_gets (acts_at w s p) (base_at parts w p))) (λ ne. search rules)
        (cases_eq lock (parts.guard p))

    pub acquired : Invariant parts first acquired_world
    acquired =
        carry_steady parts w acquired_world s first inv
        (goes_lock parts first w s inv false true (takes lock) (holding entry own) lock (taken s v)
        (Moves.takes v free refl) (search rules) bases_acquired) bases_acquired refl
        table_acquired (λ p l. rw (bases_acquired p) (fair_acquired p l)) (search rules) (λ checks. checks)
        (search rules) (search rules)

  -- store
  module _ (q : ℕ) (old new : V) (mine : Owner s (status_at parts w q))
      (cell : slice_get w.engine.cells q ≡ Option.Some old) (room : length own.changed < most_records) where
    abbrev n : ℕ
    n = length own.changed

    abbrev cells' : List V
    cells' = set w.engine.cells q new

    abbrev undo' : List V
    undo' = set w.engine.undo (undo_place s n) old

    abbrev log' : List (Saved V)
    log' = record { place = q; old = old } ∷ w.logs s

    abbrev stored_world : World V
    stored_world =
        next_world w s cells' undo' w.engine.words (recording (q ∷ own.changed) own) w.status
        (updated w.logs s log')
        (by s false true (does (stores q new)))

    within : q < length w.engine.cells
    within = slice_get_within w.engine.cells q old cell

    bases_stored : (p : ℕ) → base_at parts stored_world p ≡ base_at parts w p
    bases_stored p = search (rules, slice_get-set_there)

    goes_stored : Goes parts w stored_world s (by s false true (does (stores q new)))
        (recording (q ∷ own.changed) own) log' (job_after (does (stores q new)) j)
    goes_stored =
        search (
          rules,
          goes_cells parts first w s inv false true (does (stores q new)) cells' undo'
              (recording (q ∷ own.changed) own) log',
          slice_get-set_there,
          bases_stored,
        )

    table_stored : Table parts (length cells') undo' w.status s (recording (q ∷ own.changed) own) log'
        (job_after (does (stores q new)) j)
    table_stored =
        let t = inv.tables s in
        record {
          fit = λ busy. search rules;
          owns = t.owns;
          once = t.once;
          old = t.old;
          logged = λ logs.
              let fits = t.fit (rw is_open tt) in
              let room_for = fit_undo parts (length w.engine.cells) (length w.engine.undo) fits.0 in (
                (
                  refl,
                  slice_get-set_here w.engine.undo (undo_place s n) old (omega arith),
                  mine,
                  search (rules, within),
                  search (
                    rules,
                    slice_get-set_there,
                    logged_kept parts (length w.engine.cells) (length cells')
                        w.engine.undo undo' w.status w.status s (w.logs s) own.changed,
                  ),
                ),
                search rules,
              );
          unlogged = search rules;
          ending = search rules;
        }

    fair_stored : (p : ℕ) → Live own.state
        → Fair s (parts.guard p) own.reads (status_at parts w p) (here p (j.ops ++ (stores q new ∷ [])))
        (base_at parts w p) (slice_get cells' p)
    fair_stored p l =
        let f = inv.jobs s p l in
        let written = slice_get-set_here w.engine.cells q new within in
        ⊎_elim (λ is. search (rules, here_stored, fits_append, then-append))
        (λ ne. search (rules, elsewhere_stored, slice_get-set_there)) (cases_eq p q)

    pub stored : Invariant parts first stored_world
    stored =
        carry_steady parts w stored_world s first inv goes_stored bases_stored refl table_stored
        (λ p l. rw (bases_stored p) (fair_stored p l)) (search rules) (λ checks. checks) inv.tied (search rules)
