-- What happens to the line of jobs at one place: a step that moves no committed value, a job that asks to commit,
-- and a job that leaves. The step lemmas cite these.
use Rattle.std.proofs.Common.{◌≡◌, ℕ, true, false, ◌⊎◌, List, [], ◌∷◌, ◌++◌, Option, refl, ◌∙◌, inl, rules, arith}
use Rattle.std.proofs.lemmas.Grind.{common_steps}
use Rattle.model.specs.History.{Turn, waits, marked, without}
use Rattle.model.proofs.Place.{then, Fits, here}
use Rattle.model.proofs.Line.{View, Each, Absent, Present, Quiet, Waiting, Along}

module _ {V : Type 0} where
  -- a lock passed just now: its entry is sound, the job fits, and no other slot owns it
  abbrev pub Newly : View V → ℕ → Type 0
  Newly v t = v.Checks t × v.Sounds t × Fits (v.acts t) v.base × ((u : ℕ) → (u ≡ t → ⊥) → v.Owns u → ⊥)

  -- from v to w: no committed value moves, and nothing is asked of a waiting job that was not asked before
  pub record Steady (v w : View V) : Type 0 where
    pub base : w.base ≡ v.base
    pub waiting : (t : ℕ) → v.Waits t → w.Waits t × (w.acts t ≡ v.acts t)
    pub checks : (t : ℕ) → v.Waits t → w.Checks t → v.Checks t × (w.Owns t → v.Owns t)
        × (w.Sounds t → v.Sounds t)
    pub passes : (t : ℕ) → w.Checks t → w.Passes t → (v.Checks t × v.Passes t) ⊎ Newly v t

  -- the view in which no job of slot s waits, with another base
  abbrev pub rebased : ℕ → Option V → View V → View V
  rebased s base v = record {
    base = base;
    acts = v.acts;
    Waits = λ t. v.Waits t × (t ≡ s → ⊥);
    Checks = v.Checks;
    Owns = v.Owns;
    Passes = v.Passes;
    Sounds = v.Sounds;
  }

  -- no job of slot s waits
  abbrev pub but : ℕ → View V → View V
  but s v = rebased s v.base v

  -- no job of slot s waits, since it is among the committed
  abbrev pub joined : ℕ → View V → View V
  joined s v = rebased s (then (v.acts s) v.base) v

  each_without : (P : Turn V → Type 0) (s : ℕ) (line : List (Turn V)) → Each P line → Each P (without s line)
  each_without P s [] each = tt
  each_without P s (t ∷ line) each = search (rules, each_without P s line each.1)

  pub absent_marked : (u s : ℕ) (line : List (Turn V)) → Absent u line → Absent u (marked s line)
  absent_marked u s [] absent = tt
  absent_marked u s (t ∷ line) absent = search (rules, absent_marked u s line absent.1)

  pub marked_absent : (s : ℕ) (line : List (Turn V)) → Absent s line → marked s line ≡ line
  marked_absent s [] absent = refl
  marked_absent s (t ∷ line) absent = search (rules, marked_absent s line absent.1)

  without_absent : (s : ℕ) (line : List (Turn V)) → Absent s line → without s line ≡ line
  without_absent s [] absent = refl
  without_absent s (t ∷ line) absent = search (rules, without_absent s line absent.1)

  -- who is present stays present
  pub present_push : (s : ℕ) (line : List (Turn V)) (t : Turn V) → Present s line → Present s (line ++ (t ∷ []))
  present_push s [] t present = absurd present
  present_push s (u ∷ line) t present = search (rules, present_push s line t)

  pub present_last : (s : ℕ) (line : List (Turn V)) (t : Turn V) → waits s t ≡ true → Present s (line ++ (t ∷ []))
  present_last s [] t w = inl w
  present_last s (u ∷ line) t w = search (rules, present_last s line t)

  pub present_marked : (u s : ℕ) (line : List (Turn V)) → (u ≡ s → ⊥) → Present u line → Present u (marked s line)
  present_marked u s [] ne present = absurd present
  present_marked u s (t ∷ line) ne present = search (rules, present_marked u s line ne)

  pub present_without : (u s : ℕ) (line : List (Turn V)) → (u ≡ s → ⊥) → Present u line → Present u (without s line)
  present_without u s [] ne present = absurd present
  present_without u s (t ∷ line) ne present = search (rules, present_without u s line ne)

  -- a slot whose job cannot wait has none in the line
  pub absent_here : (v : View V) (p s : ℕ) (x : Option V) (line : List (Turn V))
      → (v.Waits s → ⊥) → Along v p x line
      → Absent s line
  absent_here v p s x [] never along = tt
  absent_here v p s x (t ∷ rest) never along = search (rules, λ (y : Option V). absent_here v p s y rest never)

  -- a step that moves no committed value
  module _ (v w : View V) (p : ℕ) (steady : Steady v w) where
    quiet_steady : (s : ℕ) → v.Owns s → (rest : List (Turn V)) → Absent s rest
        → Each (Quiet v p) rest → Each (Quiet w p) rest
    quiet_steady s owns [] absent each = tt
    quiet_steady s owns (t ∷ rest) absent each = search (rules, quiet_steady s owns rest absent.1 each.1)

    pub along_steady : (x : Option V) (line : List (Turn V)) → Along v p x line → Along w p x line
    along_steady x [] along = steady.base ∙ along
    along_steady x (t ∷ rest) along = search (rules, λ (y : Option V). along_steady y rest, quiet_steady)

  -- a job that asks to commit: it has passed nothing yet, and stands behind all committed jobs
  module _ (v : View V) (p : ℕ) (t : Turn V) (open_turn : t.committed ≡ false) (waiting : v.Waits t.slot)
      (same : here p t.ops ≡ v.acts t.slot) (none : v.Checks t.slot → v.Passes t.slot → ⊥) where
    waiting_push : (x : Option V) (u : Turn V) (rest : List (Turn V))
        → waits t.slot u ≡ false → u.committed ≡ false
        → Waiting v p x u rest → Waiting v p x u (rest ++ (t ∷ []))
    waiting_push x u rest gone e was = grind (arith, common_steps)

    pub along_push : (x : Option V) (line : List (Turn V)) → Absent t.slot line → Along v p x line
        → Along v p x (line ++ (t ∷ []))
    along_push x [] absent along = search rules
    along_push x (u ∷ rest) absent along = search (rules, λ (y : Option V). along_push y rest, waiting_push)

  -- a job that leaves
  module _ (v : View V) (p s : ℕ) where
    pub along_without : (x : Option V) (line : List (Turn V)) → Along v p x line
        → Along (but s v) p x (without s line)
    along_without x [] along = along
    along_without x (t ∷ rest) along = search (rules, λ (y : Option V). along_without y rest, each_without)

    pub along_narrow : (x : Option V) (line : List (Turn V)) → Absent s line → Along v p x line
        → Along (but s v) p x line
    along_narrow x line absent along = search (rules, without_absent, along_without)
