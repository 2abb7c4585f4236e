-- The line map, with a span and a count of locks. Assumes nothing.
--   line_locks S L      how many locks it counts
--   line_guard S L p    the lock of place p
use Rattle.std.specs.Prelude.{ℕ, ◌/◌, ◌%◌, if◌then◌else◌, ◌==◌}

-- with span 0 it counts no locks
abbrev pub line_locks : ℕ → ℕ → ℕ
line_locks span locks = if span == 0 then 0 else locks

-- lines of `span` places take the locks in turn; with no locks the answer is 0
abbrev pub line_guard : ℕ → ℕ → ℕ → ℕ
line_guard span locks place = if line_locks span locks == 0 then 0 else place / span % locks
