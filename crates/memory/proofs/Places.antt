-- What a memory answers at a place of its cells, and of cells set behind one another. The proofs of `Flat` and
-- `Joined` cite these.
use Rattle.std.proofs.Common.{◌≡◌, ℕ, zero, suc, ◌-◌, ◌<◌, ◌≤◌, List, [], ◌∷◌, ◌++◌, length, take, drop, set, Some, None, Ok, Err, Option, Bor, sym, refl, ap, ◌∙◌, subst, rules, arith, length-append, length-take, drop-set-lt, option_copied, SomeIff}
use Rattle.std.proofs.Math.Seq.{take-set-lt}
use Rattle.std.proofs.lemmas.List.{set-append_left, set-append_right, take_min}
use Rattle.std.proofs.lemmas.Option.{slice_get_past, slice_get_cases}
use Rattle.std.proofs.iter.runs.Lists.{nth_left, nth_right}
use Rattle.std.proofs.slice.Searches.{copied_from_item}
use Rattle.std.specs.List.{slice_get}
use Rattle.std.specs.Slice.{IsItemAt}
use Rattle.std.specs.Option.{ok_or}
use Rattle.memory.specs.Cells.{loaded, stored}
use Rattle.memory.specs.declared.fault.MemoryFault.TheVariants.{PastEnd}

module _ {V : Type 0} where
  -- below the count nothing is refused, at or past it everything is
  pub stored_within : (cs : List V) (p : ℕ) → p < length cs → stored cs p ≡ Ok tt
  stored_within cs p h = search rules

  pub stored_past : (cs : List V) (p : ℕ) → length cs ≤ p → stored cs p ≡ Err (PastEnd p)
  stored_past cs p h = search rules

  pub loaded_past : (cs : List V) (p : ℕ) → length cs ≤ p → loaded cs p ≡ Err (PastEnd p)
  loaded_past cs p h = ap (λ o. ok_or o (PastEnd p)) (slice_get_past cs p h)

  -- the first n cells, cut by how many they are
  pub take_count : (n : ℕ) (cs : List V) {k : ℕ} → k ≡ length (take n cs) → take k cs ≡ take n cs
  take_count n cs same = ap (λ k. take k cs) (same ∙ length-take n cs) ∙ take_min n cs

  -- what `get` finds, copied
  pub loaded_at : (cs : List V) (p : ℕ) {i : ℕ} (o : Option (Bor V)) → IsItemAt cs i o → i ≡ p
      → ok_or (option_copied o) (PastEnd p) ≡ loaded cs p
  loaded_at cs p {i} o found same =
      let here : IsItemAt cs p o = subst (λ k. IsItemAt cs k o) same found in
      ap (λ r. ok_or r (PastEnd p)) (copied_from_item cs p p o (λ h. h) (λ h. h) here)

  -- the first n cells have what all have there
  slice_get-take : (n : ℕ) (cs : List V) (p : ℕ) → p < n → slice_get (take n cs) p ≡ slice_get cs p
  slice_get-take zero cs p h = absurd (omega arith)
  slice_get-take (suc n) [] p h = refl
  slice_get-take (suc n) (c ∷ cs) zero h = refl
  slice_get-take (suc n) (c ∷ cs) (suc p) h = slice_get-take n cs p (omega arith)

  -- a cell set among the first n: they have it, and those behind them stay
  pub set_counted : (n : ℕ) (cs : List V) {i : ℕ} (p : ℕ) {w : V} (v : V) → p < n → i ≡ p → w ≡ v
      → take n (set cs i w) ≡ set (take n cs) p v
  set_counted n cs p {w} v less at is =
      ap (λ j. take n (set cs j w)) at ∙ ap (λ x. take n (set cs p x)) is ∙ take-set-lt n cs p v less

  pub set_behind : (n : ℕ) (cs : List V) {i : ℕ} (p : ℕ) (w : V) → p < n → i ≡ p → drop n (set cs i w) ≡ drop n cs
  set_behind n cs p w less at = ap (λ j. drop n (set cs j w)) at ∙ drop-set-lt n cs p w less

-- what `checked_sub` tells of a place p and the number k of cells in front
pub in_first : {k p : ℕ} (o : Option ℕ) → SomeIff o (k ≤ p) (p - k) → o ≡ None → p < k
in_first None h is = omega arith
in_first (Some i) h is = absurd (cc)

pub in_second : {k p : ℕ} (o : Option ℕ) {i : ℕ} → SomeIff o (k ≤ p) (p - k) → o ≡ Some i → (k ≤ p) × (i ≡ p - k)
in_second None h is = absurd (cc)
in_second (Some j) {i} h is = let same : j ≡ i = cc in (h.0, sym same ∙ h.1)

-- of cells ys behind cells xs, n at most are counted, and p is one of those places
module _ {V : Type 0} (n : ℕ) (xs ys : List V) (p : ℕ) (within : p < length (take n (xs ++ ys))) where
  below : p < n
  below = omega (arith, length-take n (xs ++ ys))

  taken_at : slice_get (take n (xs ++ ys)) p ≡ slice_get (xs ++ ys) p
  taken_at = slice_get-take n (xs ++ ys) p below

  set_both : (v : V) {zs : List V} → zs ≡ set (xs ++ ys) p v
      → (take n zs ≡ set (take n (xs ++ ys)) p v) × (drop n zs ≡ drop n (xs ++ ys))
  set_both v done =
      (ap (take n) done ∙ take-set-lt n (xs ++ ys) p v below, ap (drop n) done ∙ drop-set-lt n (xs ++ ys) p v below)

  -- the first has it
  module _ (left : p < length xs) where
    pub loaded_first : loaded xs p ≡ loaded (take n (xs ++ ys)) p
    loaded_first = ap (λ o. ok_or o (PastEnd p)) (sym (taken_at ∙ nth_left xs ys p left))

    pub stored_first : stored xs p ≡ stored (take n (xs ++ ys)) p
    stored_first = stored_within xs p left ∙ sym (stored_within (take n (xs ++ ys)) p within)

    pub set_first : (v : V) {zs : List V} → zs ≡ set xs p v
        → (take n (zs ++ ys) ≡ set (take n (xs ++ ys)) p v) × (drop n (zs ++ ys) ≡ drop n (xs ++ ys))
    set_first v done = set_both v (ap (λ l. l ++ ys) done ∙ sym (set-append_left xs ys p v left))

  -- the second has it, at its place i
  module _ {i : ℕ} (right : (length xs ≤ p) × (i ≡ p - length xs)) where
    pub loaded_second : loaded ys i ≡ loaded (take n (xs ++ ys)) p
    loaded_second =
        grind (arith, slice_get_cases ys i, taken_at, nth_right xs ys i, length-take n (xs ++ ys), length-append xs ys)

    pub stored_second : stored ys i ≡ stored (take n (xs ++ ys)) p
    stored_second = stored_within ys i (omega (arith, length-take n (xs ++ ys), length-append xs ys))
        ∙ sym (stored_within (take n (xs ++ ys)) p within)

    pub set_second : (v : V) {zs : List V} → zs ≡ set ys i v
        → (take n (xs ++ zs) ≡ set (take n (xs ++ ys)) p v) × (drop n (xs ++ zs) ≡ drop n (xs ++ ys))
    set_second v done = set_both v (ap (λ l. xs ++ l) (done ∙ ap (λ k. set ys k v) right.1)
        ∙ sym (set-append_right xs ys (length xs) p v refl right.0))
