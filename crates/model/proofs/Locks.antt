-- What the lock words stand for: a lock is free at a version, or taken by a slot at one. The words alone do not
-- tell at which version a lock was taken; the proof of the law keeps that beside them.
use Rattle.std.proofs.Common.{◌≡◌, ℕ, ◌+◌, ◌*◌, Bool, true, false, eqb, ◌⊎◌, ap, arith, rules}
use Rattle.std.proofs.lemmas.Bool.{eqb-true}
use Rattle.locks.specs.LockWord.{word_of}
use Rattle.locks.specs.declared.lock_word.Lock.{Lock}
use Rattle.model.specs.Engine.{Entry}

pub data Status : Type 0 where
  unheld : ℕ → Status
  taken : ℕ → ℕ → Status

-- the lock word
abbrev pub word : Status → ℕ
word (unheld v) = word_of (Lock.Free v)
word (taken s v) = word_of (Lock.Held s)

abbrev pub version : Status → ℕ
version (unheld v) = v
version (taken s v) = v

abbrev pub is_taken : Status → Bool
is_taken (unheld v) = false
is_taken (taken s v) = true

-- the slot has taken the lock
abbrev pub Owner : ℕ → Status → Type 0
Owner s k = (v : ℕ) × (k ≡ taken s v)

-- the entry of the slot is sound: its lock is free at its version, or taken by this very slot at it
abbrev pub Current : ℕ → Status → Entry → Type 0
Current s k x = (k ≡ unheld x.version) ⊎ (k ≡ taken s x.version)

-- what a step of slot s does to a lock: nothing, or it takes a free one, or it frees one that it had taken
pub data Moves (s : ℕ) (k k' : Status) : Type 0 where
  stays : k' ≡ k → Moves s k k'
  takes : (v : ℕ) → k ≡ unheld v → k' ≡ taken s v → Moves s k k'
  frees : (v : ℕ) → k ≡ taken s v → k' ≡ unheld (v + 1) → Moves s k k'

-- the tests on words
pub owner_tested : (s : ℕ) (k : Status) → eqb (word k) (word_of (Lock.Held s)) ≡ true → Owner s k
owner_tested s (unheld v) e = search rules
owner_tested s (taken t v) e =
    let same = eqb-true (8 * (t + 1)) (8 * (s + 1)) e in
    let slot : t ≡ s = omega arith in
    (v, ap (λ z. taken z v) slot)
