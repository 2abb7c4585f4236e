-- What a history tells of each slot's job. Assumes nothing.
--   Closing      how many advances a closing job is allowed, and how many it has made
--   Job          its operations, its work, and how it closes
--   job s h      the job that slot s has, or had last
use Rattle.std.specs.Prelude.{ℕ, ◌+◌, Bool, true, false, ◌&&◌, List, [], ◌∷◌, ◌++◌, Option, if◌then◌else◌, ◌==◌}
use Rattle.model.specs.Event.{Op, loads, stores, Deed, begins, notes, does, takes, asks, quits, ends, History}

-- from its granted commit or abort to its end a job is closing
pub record Closing : Type 0 where
  -- with this advance it has to end at the latest
  pub allowed : ℕ
  -- advances granted since
  pub made : ℕ

-- what a slot was granted since its last begin
pub record Job (V : Type 0) : Type 0 where
  -- its granted loads and stores, in order
  pub ops : List (Op V)
  -- its notes answered noted, stores answered stored and acquires answered acquired
  pub work : ℕ
  pub closing : Option Closing

-- an advance that a closing job has made
abbrev pub one_more : Option Closing → Option Closing
one_more Option.None = Option.None
one_more (Option.Some c) = Option.Some (record c { made = c.made + 1 })

module _ {V : Type 0} where
  -- as a slot begins
  abbrev pub no_job : Job V
  no_job = record { ops = []; work = 0; closing = Option.None }

  -- one more piece of work
  abbrev pub worked : Job V → Job V
  worked j = record j { work = j.work + 1 }

  -- the job closes so, or no longer
  abbrev pub closes : Job V → Option Closing → Job V
  closes j closing = record j { closing = closing }

  -- a store is work, a load is not
  abbrev pub effort : Op V → ℕ
  effort (loads p x) = 0
  effort (stores p x) = 1

  -- a deed of the job's own slot
  abbrev pub job_after : Deed V → Job V → Job V
  job_after begins j = no_job
  job_after notes j = worked j
  job_after (does op) j = record j { ops = j.ops ++ (op ∷ []); work = j.work + effort op }
  job_after (takes l) j = worked j
  job_after asks j = closes j (Option.Some (record { allowed = j.work + 2; made = 0 }))
  job_after quits j = closes j (Option.Some (record { allowed = j.work + 2; made = 0 }))
  job_after ends j = closes j Option.None
  job_after deed j = j

  -- a granted advance counts, while the job is closing
  abbrev pub counted : Bool → Job V → Job V
  counted false j = j
  counted true j = closes j (one_more j.closing)

  -- the job of a slot: only events of that slot count
  abbrev pub job : ℕ → History V → Job V
  job s [] = no_job
  job s (e ∷ h) =
      if e.slot == s then job_after e.deed (counted (e.advance && e.granted) (job s h)) else job s h
