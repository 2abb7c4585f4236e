-- The invariant is carried over a step of slot s: what is owed of s itself, of the line and of the
-- locks; the rest follows.
use Rattle.std.proofs.Common.{◌≡◌, ℕ, ◌⊎◌, List, [], ◌∷◌, ◌++◌, slice_get, Option, sym, ◌∙◌, subst, inl, inr, ⊎_elim, rules}
use Rattle.std.proofs.lemmas.Bool.{cases_eq}
use Rattle.model.specs.declared.slot_state.SlotState.{SlotState}
use Rattle.model.specs.Engine.{Parts, Slot}
use Rattle.model.specs.Event.{Event, History}
use Rattle.model.specs.Job.{Closing, Job, job}
use Rattle.model.specs.History.{line, held}
use Rattle.model.specs.Law.{At, Within}
use Rattle.model.proofs.Place.{here}
use Rattle.model.proofs.Line.{Present, Along}
use Rattle.model.proofs.LineMoves.{Newly, Steady, rebased, along_steady}
use Rattle.model.proofs.Locks.{word, is_taken, Owner}
use Rattle.model.proofs.States.{Live, WaitsIn, ChecksIn, passed_count, Ends}
use Rattle.model.proofs.Invariant.{Saved, World, Sound, Passed, slot_at, status_at, base_at, acts_at, table_at, view_at, Clean, Told, Ranged, Invariant, table_with, fair_with}
use Rattle.model.proofs.Others.{Frame, table_there, sound_there, fair_there}

-- a closing job that has advances left is within what it is allowed
ends_within : (state : SlotState) (r u h work : ℕ) (c : Option Closing) → Ends state r u h work c → Within c
ends_within state r u h work c ends = search rules

-- a time in a history of one event more
at_last : {V : Type 0} (later h past : History V) (e : Event V) → e ∷ past ≡ later ++ h → (h ≡ e ∷ past) ⊎ At past h
at_last [] h past e same = inl (sym same)
at_last (x ∷ later) h past e same = inr (later, cc)

checks_live : (state : SlotState) → ChecksIn state → Live state
checks_live state checks = search rules

module _ {V : Type 0} (parts : Parts) (w w' : World V) (s : ℕ) where
  -- from w to w' by an event of slot s, which has this table, these records and this job after it
  pub record Goes (e : Event V) (slot : Slot) (log : List (Saved V)) (j : Job V) : Type 0 where
    pub frame : Frame parts w w' s
    pub words : (l : ℕ) → w'.engine.words l ≡ word (w'.status l)
    pub ranged : (l : ℕ) → Ranged parts (w'.status l)
    pub past_is : w'.past ≡ e ∷ w.past
    pub slot_is : slot_at w' s ≡ slot
    pub log_is : w'.logs s ≡ log
    pub job_is : job s w'.past ≡ j

  -- what the line asks of slot s itself
  pub record OwnSteady (p : ℕ) (slot : Slot) (j : Job V) : Type 0 where
    pub waiting : WaitsIn (slot_at w s).state → WaitsIn slot.state × (here p j.ops ≡ acts_at w s p)
    pub checks : WaitsIn (slot_at w s).state → ChecksIn slot.state
        → ChecksIn (slot_at w s).state × (Owner s (status_at parts w' p) → Owner s (status_at parts w p))
        × (Sound s slot.reads (parts.guard p) (status_at parts w' p)
        → Sound s (slot_at w s).reads (parts.guard p) (status_at parts w p))
    pub passes : ChecksIn slot.state → Passed slot.reads (passed_count slot.state) (parts.guard p)
        → (ChecksIn (slot_at w s).state × Passed (slot_at w s).reads (passed_count (slot_at w s).state)
        (parts.guard p)) ⊎ Newly (view_at parts w p) s

  module _ (first : List V) (inv : Invariant parts first w) {e : Event V} {slot : Slot} {log : List (Saved V)}
      {j : Job V} (goes : Goes e slot log j) where
    -- another slot, as the line sees it
    module _ (t : ℕ) (ne : t ≡ s → ⊥) where
      there : slot_at w' t ≡ slot_at w t
      there = goes.frame.slots t ne

      checks_there : ChecksIn (slot_at w' t).state → ChecksIn (slot_at w t).state
      checks_there = subst (λ (z : Slot). ChecksIn z.state) there

      waiting_there : (p : ℕ) → WaitsIn (slot_at w t).state
          → WaitsIn (slot_at w' t).state × (acts_at w' t p ≡ acts_at w t p)
      waiting_there p waiting = search rules

      asked_there : (p : ℕ) → ChecksIn (slot_at w' t).state
          → ChecksIn (slot_at w t).state × (Owner t (status_at parts w' p) → Owner t (status_at parts w p))
          × (Sound t (slot_at w' t).reads (parts.guard p) (status_at parts w' p)
          → Sound t (slot_at w t).reads (parts.guard p) (status_at parts w p))
      asked_there p checks =
          let before = checks_there checks in
          let live = checks_live (slot_at w t).state before in
          let moved = goes.frame.moves (parts.guard p) in
          search (rules, sound_there parts w w' s goes.frame t ne live (inv.tables t) p)

      passed_there : (p : ℕ) → ChecksIn (slot_at w' t).state → Passed (slot_at w' t).reads
          (passed_count (slot_at w' t).state) (parts.guard p)
          → ChecksIn (slot_at w t).state × Passed (slot_at w t).reads
          (passed_count (slot_at w t).state) (parts.guard p)
      passed_there p checks passed = search rules

      pub present_there : ChecksIn (slot_at w' t).state → Present t (line w.past)
      present_there checks = inv.present t (checks_there checks)

    -- the view moves steadily
    pub steady_at : (p : ℕ) → base_at parts w' p ≡ base_at parts w p → OwnSteady p slot j
        → Steady (view_at parts w p) (view_at parts w' p)
    steady_at p same own = record {
      base = same;
      waiting = λ t. ⊎_elim (λ is. search rules) (λ ne. waiting_there t ne p) (cases_eq t s);
      checks = λ t. ⊎_elim (λ is. search rules) (λ ne _. asked_there t ne p) (cases_eq t s);
      passes = λ t. ⊎_elim (λ is. search rules) (λ ne checks passed. inl (passed_there t ne p checks passed))
          (cases_eq t s);
    }

    -- where slot s no longer waits, its place in the line is settled already
    pub steady_left : (p : ℕ) (base : Option V) → base_at parts w' p ≡ base → (ChecksIn slot.state → ⊥)
        → Steady (rebased s base (view_at parts w p)) (view_at parts w' p)
    steady_left p base same idle = search (rules, waiting_there, asked_there, passed_there, cases_eq)

    -- what is owed
    pub carry : table_with parts w' s slot log j
        → ((p : ℕ) → Live slot.state
        → fair_with parts w' s p slot.reads j.ops)
        → ((p : ℕ) → Along (view_at parts w' p) p (slice_get first p) (line w'.past))
        → ((t : ℕ) → ChecksIn (slot_at w' t).state → Present t (line w'.past))
        → ((l : ℕ) → held w'.past l ≡ is_taken (w'.status l)) → Clean first w'.past
        → Invariant parts first w'
    carry table fair along present tied clean = record {
      words = goes.words;
      ranged = goes.ranged;
      tables = tables;
      jobs = λ t p. ⊎_elim (λ is. search rules)
          (λ ne live. let before : Live (slot_at w t).state = rw (← there t ne) live in
          fair_there parts w w' s goes.frame t ne before (inv.tables t) p (inv.jobs t p before)) (cases_eq t s);
      along = along;
      present = present;
      tied = tied;
      told = λ h at. ⊎_elim (λ now_is. subst (Told first) (sym (now_is ∙ sym goes.past_is)) (within, clean))
          (inv.told h) (at_last at.0 h w.past e (sym goes.past_is ∙ at.1));
    }
      where
        tables : (t : ℕ) → table_at parts w' t
        tables t =
            ⊎_elim (λ is. search rules) (λ ne. table_there parts w w' s goes.frame t ne (inv.tables t))
            (cases_eq t s)

        within : (t : ℕ) → Within (job t w'.past).closing
        within t = search (rules, ends_within, tables t)

    -- a step that leaves the line as it is and moves no base
    pub carry_steady : ((p : ℕ) → base_at parts w' p ≡ base_at parts w p) → line w'.past ≡ line w.past
        → table_with parts w' s slot log j
        → ((p : ℕ) → Live slot.state
        → fair_with parts w' s p slot.reads j.ops)
        → ((p : ℕ) → OwnSteady p slot j) → (ChecksIn slot.state → ChecksIn (slot_at w s).state)
        → ((l : ℕ) → held w'.past l ≡ is_taken (w'.status l)) → Clean first w'.past
        → Invariant parts first w'
    carry_steady bases lines table fair own checks tied clean =
        carry table fair (λ p. let steady = steady_at p (bases p) (own p) in
        search (rules, along_steady (view_at parts w p) (view_at parts w' p) p steady))
        (search (rules, present_there, cases_eq)) tied clean
