-- Every call keeps the invariant, granted or refused: the rows of the table, each with its lemma.
use Rattle.std.proofs.Common.{◌≡◌, ℕ, suc, ◌<◌, true, false, if◌then◌else◌, ◌&&◌, eqb, ltb, leb, List, [], ◌∷◌, ◌++◌, length, slice_get, Option, Result, sym, refl, ◌∙◌, subst, ⊎_elim, arith, rules}
use Rattle.std.proofs.iter.runs.Lists.{none-some}
use Rattle.std.proofs.lemmas.Option.{slice_get_cases}
use Rattle.std.proofs.lemmas.Bool.{eqb-true, cond_both, or_cases, and_parts, ltb-true, ltb-false, leb-false}
use Rattle.memory.specs.declared.fault.MemoryFault.{MemoryFault}
use Rattle.model.specs.declared.outcome.Outcome.{Outcome}
use Rattle.model.specs.declared.slot_state.SlotState.{SlotState}
use Rattle.model.specs.declared.step.Step.{Step}
use Rattle.model.specs.declared.answer.Answer.{Answer}
use Rattle.model.specs.declared.fault.EngineFault.{EngineFault}
use Rattle.model.specs.Limits.{slot_count, most_reads, most_held, most_records, undo_place}
use Rattle.model.specs.Engine.{Parts, Entry, Slot, Engine, read_word, has_lock, has_entry, holds, good, first_stale, unfit}
use Rattle.model.specs.Step.{Reply, refused, answers, where_cell, where_free, note, load, acquire, store}
use Rattle.model.specs.Advance.{check_next, undo_next, unlock_next}
use Rattle.model.specs.Table.{is_advance, verdict, free_row, open_row, closing_row, row, where_fit, step}
use Rattle.model.specs.Event.{validates, nothing, answered}
use Rattle.model.specs.Job.{Closing, job}
use Rattle.model.specs.History.{line, in_turn}
use Rattle.model.specs.Law.{Alone}
use Rattle.model.proofs.Tables.{lock_found}
use Rattle.model.proofs.Place.{fits_append, here-append, alone_here}
use Rattle.model.proofs.Line.{along_fits}
use Rattle.model.proofs.Locks.{unheld, Owner, Current, owner_tested}
use Rattle.model.proofs.States.{Busy, Live, Logs}
use Rattle.model.proofs.Invariant.{Saved, World, Logged, slot_at, view_at, ByCall, Invariant}
use Rattle.model.proofs.Worlds.{by, same_world}
use Rattle.model.proofs.Opening.{stays_same, begun, noted, loaded}
use Rattle.model.proofs.Changing.{acquired, stored}
use Rattle.model.proofs.Checking.{commit_asked, abort_asked, entry_passed, entry_stale, committed}
use Rattle.model.proofs.Ending.{undone, restored, released, ended}

-- look-ups that succeed
slice_get_there : {A : Type 0} (xs : List A) (i : ℕ) → i < length xs → (x : A) × (slice_get xs i ≡ Option.Some x)
slice_get_there xs i below = grind (arith, slice_get_cases xs i)

entry_found : (xs : List Entry) (x : Entry) → has_entry xs x ≡ true → (i : ℕ) × (slice_get xs i ≡ Option.Some x)
entry_found [] x e = cc
entry_found (y ∷ xs) x e =
    ⊎_elim (λ here_is. (0, grind (arith, and_parts, eqb-true)))
    (λ there. let f = entry_found xs x there in (suc f.0, f.1))
    (or_cases (eqb y.lock x.lock && eqb y.version x.version) (has_entry xs x) e)

module _ {V : Type 0} (parts : Parts) (first : List V) (w : World V) (inv : Invariant parts first w) (s : ℕ) where
  abbrev engine : Engine V
  engine = w.engine

  abbrev own : Slot
  own = slot_at w s

  abbrev closing : Option Closing
  closing = (job s w.past).closing

  -- a world after the call, with the engine that the call leaves and the event that it tells
  pub record Next (called : Step V) (reply : Reply V) : Type 0 where
    pub world : World V
    pub engine_is : world.engine ≡ reply.1
    pub past_is : world.past ≡ answered parts.guard s called reply.0 ∷ w.past
    pub kept : Invariant parts first world

  -- a world that shows it all by itself
  shown : (called : Step V) (answer : Answer V) (world : World V)
      → world.past ≡ answered parts.guard s called (Result.Ok answer) ∷ w.past → Invariant parts first world
      → Next called (Result.Ok answer, world.engine)
  shown called answer world past kept = record { world = world; engine_is = refl; past_is = past; kept = kept }

  -- refused
  turned_down : (called : Step V) (fault : EngineFault) → ByCall (is_advance called) false (closing ≡ Option.None)
      → Next called (refused engine fault)
  turned_down called fault clean = record {
    world = same_world w s (by s (is_advance called) false nothing);
    engine_is = refl;
    past_is = refl;
    kept = stays_same parts first w s inv (is_advance called) false nothing (search rules) refl (λ _. refl)
        (tt, clean);
  }

  -- answered, and nothing changed
  told_nothing : (called : Step V) (answer : Answer V)
      → answered parts.guard s called (Result.Ok answer) ≡ by s false true nothing → closing ≡ Option.None
      → Next called (answers engine answer)
  told_nothing called answer event idle = record {
    world = same_world w s (by s false true nothing);
    engine_is = refl;
    past_is = search rules;
    kept = stays_same parts first w s inv false true nothing refl refl (λ _. refl) (tt, idle);
  }

  -- the cases of the look-ups that a step makes
  module _ (P : Reply V → Type 0) where
    by_cell : (p : ℕ) (found : Option V) (next : V → Reply V)
        → P (refused engine (EngineFault.Memory (MemoryFault.PastEnd p)))
        → ((x : V) → found ≡ Option.Some x → P (next x)) → P (where_cell engine p found next)
    by_cell p found next none some = search rules

    cell_there : (p : ℕ) (found : Option V) (next : V → Reply V) (x : V) → found ≡ Option.Some x → P (next x)
        → P (where_cell engine p found next)
    cell_there p found next x is then_so = search rules

    by_lock : (l : ℕ) (next : ℕ → Reply V) → ((t : ℕ) → P (refused engine (EngineFault.HeldByOther t)))
        → ((v : ℕ) → w.status l ≡ unheld v → P (next v)) → P (where_free engine (read_word (engine.words l)) next)
    by_lock l next other free = search rules

  owner_of : (l : ℕ) → holds engine s l ≡ true → Owner s (w.status l)
  owner_of l e = search (rules, owner_tested)

  -- a good entry is sound
  good_current : (x : Entry) → Live own.state → good engine s x ≡ true → Current s (w.status x.lock) x
  good_current x live e = search (rules, entry_found own.held x)

  -- a free slot
  pub free_next : own.state ≡ SlotState.Free → (unfit parts (length engine.cells) (length engine.undo)
      ≡ Option.None) × (s < slot_count)
      → (called : Step V) → Next called (free_row engine s called)
  free_next is fit Step.Begin = shown Step.Begin Answer.Begun _ refl (begun parts first w s inv is fit)
  free_next is fit (Step.Note p) = turned_down _ _ tt
  free_next is fit (Step.Load p) = turned_down _ _ tt
  free_next is fit (Step.Acquire p) = turned_down _ _ tt
  free_next is fit (Step.Store p x) = turned_down _ _ tt
  free_next is fit Step.Check = turned_down _ _ tt
  free_next is fit Step.Commit = turned_down _ _ tt
  free_next is fit Step.Advance = turned_down _ _ (search rules)
  free_next is fit Step.Abort = turned_down _ _ tt

  -- an open slot
  module _ (is_open : own.state ≡ SlotState.Open) where
    idle : closing ≡ Option.None
    idle = search rules

    note_next : (p : ℕ) → Next (Step.Note p) (note parts engine s p)
    note_next p =
        by_cell (Next (Step.Note p)) p (slice_get engine.cells p) _ (turned_down (Step.Note p) _ tt) λ x at.
        cond_both (holds engine s l) _ _ (Next (Step.Note p))
        (λ _. told_nothing (Step.Note p) Answer.Own refl idle) λ _.
        cond_both (has_lock own.reads l) _ _ (Next (Step.Note p))
        (λ _. told_nothing (Step.Note p) Answer.Known refl idle) λ none.
        by_lock (Next (Step.Note p)) l _ (λ t. turned_down (Step.Note p) _ tt) λ v free.
        cond_both (leb most_reads (length own.reads)) _ _ (Next (Step.Note p))
        (λ _. turned_down (Step.Note p) _ tt)
        (λ _. shown (Step.Note p) (Answer.Noted v) _ refl (noted parts first w s inv is_open p v none free))
      where
        l : ℕ
        l = parts.guard p

    load_next : (p : ℕ) → Next (Step.Load p) (load parts engine s p)
    load_next p =
        by_cell (Next (Step.Load p)) p (slice_get engine.cells p) _ (turned_down (Step.Load p) _ tt) λ x at.
        search (rules, turned_down, shown (Step.Load p), loaded parts first w s inv is_open p x at, owner_of)

    acquire_next : (p : ℕ) → Next (Step.Acquire p) (acquire parts engine s p)
    acquire_next p =
        by_cell (Next (Step.Acquire p)) p (slice_get engine.cells p) _ (turned_down (Step.Acquire p) _ tt) λ x at.
        cond_both (holds engine s l) _ _ (Next (Step.Acquire p)) (λ _. told_nothing (Step.Acquire p)
        Answer.Own refl idle) λ _.
        by_lock (Next (Step.Acquire p)) l _ (λ t. turned_down (Step.Acquire p) _ tt) λ v free.
        cond_both (leb most_held (length own.held)) _ _ (Next (Step.Acquire p))
        (λ _. turned_down (Step.Acquire p) _ tt) λ _.
        cond_both (leb parts.limit v) _ _ (Next (Step.Acquire p)) (λ _. turned_down (Step.Acquire p) _ tt)
        (λ below. shown (Step.Acquire p) (Answer.Acquired v) _ refl
        (acquired parts first w s inv is_open p v free (leb-false parts.limit v below)))
      where
        l : ℕ
        l = parts.guard p

    store_next : (p : ℕ) (new : V) → Next (Step.Store p new) (store parts engine s p new)
    store_next p new =
        by_cell (Next (Step.Store p new)) p (slice_get engine.cells p) _ (turned_down (Step.Store p new) _ tt) λ old at.
        cond_both (holds engine s (parts.guard p)) _ _ (Next (Step.Store p new))
        (λ mine. cond_both (leb most_records (length own.changed)) _ _ (Next (Step.Store p new))
        (λ _. turned_down (Step.Store p new) _ tt)
        (λ room. shown (Step.Store p new) Answer.Stored _ refl
        (stored parts first w s inv is_open p old new (owner_of (parts.guard p) mine) at (search rules))))
        (λ _. turned_down (Step.Store p new) _ tt)

    -- where no entry is stale, all are good
    all_good : (xs : List Entry) → first_stale engine s xs ≡ Option.None → (i : ℕ) (x : Entry)
        → slice_get xs i ≡ Option.Some x → good engine s x ≡ true
    all_good [] none i x at = absurd (none-some x at)
    all_good (y ∷ xs) none i x at = search (rules, all_good xs)

    -- a check that answers good saw one consistent book
    good_alone : first_stale engine s own.reads ≡ Option.None
        → Alone (in_turn (line w.past) ++ (job s w.past).ops) first
    good_alone none =
        alone_here (in_turn (line w.past) ++ (job s w.past).ops) first λ p.
        let so_far = along_fits (view_at parts w p) p (slice_get first p) (line w.past) (inv.along p) in
        search (rules, here-append, fits_append, lock_found, good_current, all_good)

    check_next_open : Next Step.Check (answers engine (verdict (first_stale engine s own.reads)))
    check_next_open = go (first_stale engine s own.reads) refl
      where
        go : (found : Option ℕ) → first_stale engine s own.reads ≡ found
            → Next Step.Check (answers engine (verdict found))
        go (Option.Some l) is = told_nothing Step.Check (Answer.Stale l) refl idle
        go Option.None is =
            shown Step.Check Answer.Good (same_world w s (by s false true validates)) refl
            (stays_same parts first w s inv false true validates refl refl (λ _. refl) (good_alone is, idle))

    pub open_next : (called : Step V) → Next called (open_row parts engine s called)
    open_next Step.Begin = turned_down _ _ tt
    open_next (Step.Note p) = note_next p
    open_next (Step.Load p) = load_next p
    open_next (Step.Acquire p) = acquire_next p
    open_next (Step.Store p x) = store_next p x
    open_next Step.Check = check_next_open
    open_next Step.Commit = shown Step.Commit Answer.Checking _ refl (commit_asked parts first w s inv is_open)
    open_next Step.Advance = turned_down _ _ idle
    open_next Step.Abort = shown Step.Abort Answer.Undoing _ refl (abort_asked parts first w s inv is_open)

  -- a closing slot takes no other step
  pub closing_next : (reply : Reply V) → Next Step.Advance reply → (called : Step V)
      → Next called (closing_row engine s reply called)
  closing_next reply next called = search (rules, turned_down)

  checking_next : (i : ℕ) → own.state ≡ SlotState.Checking i
      → Next Step.Advance (check_next engine s i (slice_get own.reads i))
  checking_next i is = go (slice_get own.reads i) refl
    where
      go : (found : Option Entry) → slice_get own.reads i ≡ found
          → Next Step.Advance (check_next engine s i found)
      go (Option.Some x) at =
          cond_both (good engine s x) _ _ (Next Step.Advance)
          (λ g. shown Step.Advance (Answer.Passed x.lock) _ refl
          (entry_passed parts first w s inv i is x at (good_current x (rw is tt) g)))
          (λ _. shown Step.Advance (Answer.Stale x.lock) _ refl (entry_stale parts first w s inv i is x at))
      go Option.None end = shown Step.Advance Answer.Committed _ refl (committed parts first w s inv i is end)

  unlocking_next : (i : ℕ) (o : Outcome) → own.state ≡ SlotState.Unlocking i o
      → Next Step.Advance (unlock_next engine s i o (slice_get own.held i))
  unlocking_next i o is = go (slice_get own.held i) refl
    where
      go : (found : Option Entry) → slice_get own.held i ≡ found
          → Next Step.Advance (unlock_next engine s i o found)
      go (Option.Some x) at = shown Step.Advance (Answer.Released x.lock) _ refl
          (released parts first w s inv i o is x at)
      go Option.None end = shown Step.Advance (Answer.Ended o) _ refl (ended parts first w s inv i o is)

  -- the undo memory and the memory have what is put back
  undoing_next : own.state ≡ SlotState.Undoing → Next Step.Advance (undo_next engine s own.changed)
  undoing_next is = go own.changed refl
    where
      logged : Logged parts (length engine.cells) engine.undo w.status s (w.logs s) own.changed
      logged = ((inv.tables s).logged (subst Logs (sym is) tt)).0

      put : (p : ℕ) (older : List ℕ) (log : List (Saved V)) → own.changed ≡ p ∷ older → w.logs s ≡ log
          → Logged parts (length engine.cells) engine.undo w.status s log (p ∷ older)
          → Next Step.Advance (undo_next engine s (p ∷ older))
      put p older [] newest logs all = absurd all
      put p older (r ∷ log) newest logs all =
          let cell = slice_get_there engine.cells p all.3 in
          cell_there (Next Step.Advance) (undo_place s (length older))
          (slice_get engine.undo (undo_place s (length older))) _ r.old all.1
          (cell_there (Next Step.Advance) p (slice_get engine.cells p) _ cell.0 cell.1
          (shown Step.Advance (Answer.Restored p) _ refl (restored parts first w s inv is p
          older newest r log logs)))

      go : (places : List ℕ) → own.changed ≡ places → Next Step.Advance (undo_next engine s places)
      go [] none = shown Step.Advance Answer.Unlocking _ refl (undone parts first w s inv is none)
      go (p ∷ older) newest = put p older (w.logs s) newest refl
          (subst (Logged parts (length engine.cells) engine.undo w.status s (w.logs s)) newest logged)

  row_next : (unfit parts (length engine.cells) (length engine.undo) ≡ Option.None) × (s < slot_count)
      → (state : SlotState) → own.state ≡ state → (called : Step V) → Next called (row parts engine s state called)
  row_next fit state is called =
      search (rules, free_next, open_next, closing_next, checking_next, unlocking_next, undoing_next)

  -- a slot that cannot have a job is not closing
  idle_clean : (Busy own.state → ⊥) → (called : Step V) → ByCall (is_advance called)
      false (closing ≡ Option.None)
  idle_clean none called = search rules

  pub call_next : (called : Step V) → Next called (step parts engine (record { slot = s; step = called }))
  call_next called = go (unfit parts (length engine.cells) (length engine.undo)) refl
    where
      table : Reply V
      table =
          if ltb s slot_count then row parts engine s own.state called else refused engine (EngineFault.NoSlot s)

      go : (found : Option EngineFault) → unfit parts (length engine.cells) (length engine.undo) ≡ found
          → Next called (where_fit parts engine found table)
      go (Option.Some fault) is =
          turned_down called fault
          (idle_clean (λ busy. none-some fault (sym ((inv.tables s).fit busy).0 ∙ is)) called)
      go Option.None fit =
          cond_both (ltb s slot_count) _ _ (Next called) (λ below. row_next (fit, ltb-true s slot_count below)
          own.state refl called)
          (λ above. turned_down called (EngineFault.NoSlot s)
          (idle_clean (λ busy. let below = ((inv.tables s).fit busy).1 in
          let most = ltb-false s slot_count above in omega arith) called))
