-- The 32-bit words of locks. Assumes nothing.
--   last_version       the highest version
--   last_slot          the highest slot
--   word_of l          the word of the lock l
--   in_range l         its version or slot is no higher than these
--   encoded l          its word, where it is in range
--   Encodes l r        r is this word, or l given back
--   Reads word l       l is the lock that has this word
--   Decodes word r     r is this lock, or the word given back
--   no_lock_text word  how it prints that no lock has the word
--   no_word_text l     how it prints that l has no word
use Rattle.std.specs.Prelude.{◌≡◌, ℕ, ◌+◌, ◌*◌, ◌++◌, Bool, true, if◌then◌else◌, nat_le, List, Option, Some, None, Result, Ok, IfOk, IfErr, codes, decimal}
use Rattle.std.specs.Option.{ok_or}
use Rattle.locks.specs.declared.lock_word.Lock.{Lock}
use Rattle.locks.specs.declared.lock_word.Lock.TheVariants.{Free, Held}
use Rattle.locks.specs.declared.lock_word.NoLock.{NoLock}
use Rattle.locks.specs.declared.lock_word.NoWord.{NoWord}

-- the version whose word is the largest of 32 bits that a free lock can have
abbrev pub last_version : ℕ
last_version = 536870911

-- slots are numbered from 0
abbrev pub last_slot : ℕ
last_slot = 7

-- free with version v: 8 v + 4; held by slot s: 8 (s + 1)
abbrev pub word_of : Lock → ℕ
word_of (Free v) = 8 * v + 4
word_of (Held s) = 8 * (s + 1)

-- the versions and slots there are
abbrev pub in_range : Lock → Bool
in_range (Free v) = nat_le v last_version
in_range (Held s) = nat_le s last_slot

-- a lock in range has a word
abbrev pub encoded : Lock → Option ℕ
encoded l = if in_range l then Some (word_of l) else None

-- the word of a lock in range, or the lock given back
abbrev pub Encodes : Lock → Result ℕ NoWord → Type 0
Encodes l r = r ≡ ok_or (encoded l) (record { 0 = l })

-- the lock is in range, and this is its word
abbrev pub Reads : ℕ → Lock → Type 0
Reads word l = (in_range l ≡ true) × (word_of l ≡ word)

-- the one lock that has this word, or the word given back where no lock has it
pub record Decodes (word : ℕ) (r : Result Lock NoLock) : Type 0 where
  pub read : IfOk r (Reads word)
  pub only : (l : Lock) → Reads word l → r ≡ Ok l
  pub told : IfErr r (λ e. e.0 ≡ word)

-- how it prints that no lock has the word
abbrev pub no_lock_text : ℕ → List ℕ
no_lock_text word = codes "no lock has the word " ++ decimal word

-- how it prints that the lock has no word
abbrev pub no_word_text : Lock → List ℕ
no_word_text (Free v) = codes "no word has room for the version " ++ decimal v
no_word_text (Held s) = codes "no word has room for the slot " ++ decimal s
