-- The limits of an engine. Assumes nothing.
--   slot_count, most_cells, most_locks, last_limit, least_undo    of its parts
--   most_reads, most_held, most_records                           of a job's lists
--   undo_place s k                                                where record k of slot s has its old value
use Rattle.std.specs.Prelude.{ℕ, ◌+◌, ◌*◌}
use Rattle.locks.specs.LockWord.{last_version}

-- slots, numbered from 0
abbrev pub slot_count : ℕ
slot_count = 8

-- cells of the memory
abbrev pub most_cells : ℕ
most_cells = 65536

-- locks of the map
abbrev pub most_locks : ℕ
most_locks = 256

-- the version limit: the highest version that a lock word can hold
abbrev pub last_limit : ℕ
last_limit = last_version

-- entries of a read set
abbrev pub most_reads : ℕ
most_reads = 64

-- entries of a held list
abbrev pub most_held : ℕ
most_held = 32

-- undo records of a job
abbrev pub most_records : ℕ
most_records = 64

-- cells of the undo memory: the records of all slots
abbrev pub least_undo : ℕ
least_undo = slot_count * most_records

-- the undo cell that has the old value of record k of slot s
abbrev pub undo_place : ℕ → ℕ → ℕ
undo_place s k = most_records * s + k
