-- What the state of a slot says: of its job, of its locks and records, and of the advances that it still needs.
use Rattle.std.proofs.Common.{◌≡◌, ℕ, ◌+◌, ◌-◌, ◌≤◌, Option}
use Rattle.model.specs.declared.outcome.Outcome.{Outcome}
use Rattle.model.specs.declared.slot_state.SlotState.{SlotState}
use Rattle.model.specs.Job.{Closing}

-- the slot has a job
abbrev pub Busy : SlotState → Type 0
Busy SlotState.Free = ⊥
Busy SlotState.Open = Unit {0}
Busy (SlotState.Checking i) = Unit {0}
Busy (SlotState.Unlocking i o) = Unit {0}
Busy SlotState.Undoing = Unit {0}

-- the job can still commit
abbrev pub Live : SlotState → Type 0
Live SlotState.Free = ⊥
Live SlotState.Open = Unit {0}
Live (SlotState.Checking i) = Unit {0}
Live (SlotState.Unlocking i o) = ⊥
Live SlotState.Undoing = ⊥

-- its undo records count: it is neither committed nor undone
abbrev pub Logs : SlotState → Type 0
Logs SlotState.Free = ⊥
Logs SlotState.Open = Unit {0}
Logs (SlotState.Checking i) = Unit {0}
Logs (SlotState.Unlocking i o) = ⊥
Logs SlotState.Undoing = Unit {0}

-- it may stand in the line without being committed
abbrev pub WaitsIn : SlotState → Type 0
WaitsIn SlotState.Free = ⊥
WaitsIn SlotState.Open = ⊥
WaitsIn (SlotState.Checking i) = Unit {0}
WaitsIn (SlotState.Unlocking i Outcome.Committed) = ⊥
WaitsIn (SlotState.Unlocking i Outcome.Undone) = Unit {0}
WaitsIn SlotState.Undoing = Unit {0}

-- it is checking
abbrev pub ChecksIn : SlotState → Type 0
ChecksIn SlotState.Free = ⊥
ChecksIn SlotState.Open = ⊥
ChecksIn (SlotState.Checking i) = Unit {0}
ChecksIn (SlotState.Unlocking i o) = ⊥
ChecksIn SlotState.Undoing = ⊥

-- how many entries of the read set have been passed
abbrev pub passed_count : SlotState → ℕ
passed_count SlotState.Free = 0
passed_count SlotState.Open = 0
passed_count (SlotState.Checking i) = i
passed_count (SlotState.Unlocking i o) = 0
passed_count SlotState.Undoing = 0

-- the held entry i has not been released
abbrev pub Kept : SlotState → ℕ → Type 0
Kept SlotState.Free i = ⊥
Kept SlotState.Open i = Unit {0}
Kept (SlotState.Checking k) i = Unit {0}
Kept (SlotState.Unlocking k o) i = k ≤ i
Kept SlotState.Undoing i = Unit {0}

-- so many advances are still to be granted, and fit into what is allowed
abbrev pub Left : Option Closing → ℕ → Type 0
Left Option.None n = ⊥
Left (Option.Some c) n = c.made + n ≤ c.allowed

-- how a job with r entries read, u undo records, h locks held and its work ends
abbrev pub Ends : SlotState → ℕ → ℕ → ℕ → ℕ → Option Closing → Type 0
Ends SlotState.Free r u h work c = c ≡ Option.None
Ends SlotState.Open r u h work c = (c ≡ Option.None) × (work ≡ r + u + h)
Ends (SlotState.Checking i) r u h work c = Left c ((r - i) + u + h + 2)
Ends (SlotState.Unlocking i o) r u h work c = Left c ((h - i) + 1)
Ends SlotState.Undoing r u h work c = Left c (u + h + 2)
