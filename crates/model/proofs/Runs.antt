-- The theorems: every run of the plain engine keeps the law, and keeps its lock words in range. A new engine has
-- the invariant, every call keeps it, and the law is read off it at the end.
use Rattle.std.proofs.Common.{◌≡◌, ℕ, List, [], ◌∷◌, ◌++◌, slice_get, sym, refl, subst, rules}
use Rattle.locks.specs.LockWord.{word_of}
use Rattle.locks.specs.declared.lock_word.Lock.{Lock}
use Rattle.model.specs.declared.step.Call.{Call}
use Rattle.model.specs.Engine.{Parts, Engine, fresh}
use Rattle.model.specs.Table.{run}
use Rattle.model.specs.Event.{History, continued}
use Rattle.model.specs.History.{line, in_turn}
use Rattle.model.specs.Law.{Law, EveryRunLawful, InRange, WordsInRange}
use Rattle.model.proofs.Place.{left_here, alone_here}
use Rattle.model.proofs.Line.{along_fits}
use Rattle.model.proofs.Locks.{Status, unheld, taken, word}
use Rattle.model.proofs.Invariant.{World, view_at, Ranged, Invariant}
use Rattle.model.proofs.Calls.{call_next}

module _ {V : Type 0} (parts : Parts) (first : List V) where
  -- a new engine
  abbrev start : List V → World V
  start undo = record { engine = fresh first undo; status = λ _. unheld 0; logs = λ _. []; past = [] }

  nothing_yet : (later h : History V) → [] ≡ later ++ h → h ≡ []
  nothing_yet [] h same = sym same
  nothing_yet (e ∷ later) h same = cc

  start_kept : (undo : List V) → Invariant parts first (start undo)
  start_kept undo = record {
    words = search rules;
    ranged = search rules;
    tables = search rules;
    jobs = search rules;
    along = search rules;
    present = search rules;
    tied = search rules;
    told = λ h at. search (rules, nothing_yet at.0 h at.1);
  }

  -- the law is in the invariant
  law_kept : (w : World V) → Invariant parts first w → Law parts.guard first w.engine.cells w.past
  law_kept w inv = record {
    serial_loads = alone_here (in_turn (line w.past)) first
        (λ p. (along_fits (view_at parts w p) p (slice_get first p) (line w.past) (inv.along p)).0);
    serial_cells = λ p free. search (
      rules,
      left_here p (in_turn (line w.past)) first,
      along_fits (view_at parts w p) p (slice_get first p) (line w.past) (inv.along p),
    );
    consistent = λ e past at is. let told = inv.told (e ∷ past) at in search rules;
    bounded = λ s past at. (inv.told past at).0 s;
    unrefused = λ e past at called refused. let told = inv.told (e ∷ past) at in search rules;
    settled = λ e past at other granted. let told = inv.told (e ∷ past) at in search rules;
  }

  -- the world after a run
  record Reached (w : World V) (calls : List (Call V)) : Type 0 where
    world : World V
    engine_is : world.engine ≡ (run parts w.engine calls).last
    past_is : world.past ≡ continued parts.guard w.past (run parts w.engine calls).trace
    kept : Invariant parts first world

  run_kept : (calls : List (Call V)) (w : World V) → Invariant parts first w → Reached w calls
  run_kept [] w inv = record { world = w; engine_is = refl; past_is = refl; kept = inv }
  run_kept (call ∷ calls) w inv =
      let next = call_next parts first w inv call.slot call.step in
      let rest = run_kept calls next.world next.kept in search rules

  -- from a new engine
  reached : (undo : List V) (calls : List (Call V)) → Reached (start undo) calls
  reached undo calls = run_kept calls (start undo) (start_kept undo)

pub every_run_lawful : (V : Type 0) → EveryRunLawful V
every_run_lawful V parts cells undo calls =
    let end = reached parts cells undo calls in
    search (rules, law_kept parts cells end.world end.kept)

pub words_in_range : (V : Type 0) → WordsInRange V
words_in_range V parts cells undo calls l =
    let end = reached parts cells undo calls in
    subst (λ (e : Engine V). (lock : Lock) × (e.words l ≡ word_of lock) × InRange parts lock) end.engine_is
    (go (end.world.status l) (end.kept.words l) (end.kept.ranged l))
  where
    go : {n : ℕ} (k : Status) → n ≡ word k → Ranged parts k → (lock : Lock)
        × (n ≡ word_of lock) × InRange parts lock
    go (unheld v) is within = (Lock.Free v, is, within)
    go (taken s v) is within = (Lock.Held s, is, within.1)
