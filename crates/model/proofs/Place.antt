-- Runs at one place. A run of operations on a list of cells splits into a run for each place: the value before, the
-- operations at that place, the value after. So the proof of the law works place by place.
use Rattle.std.proofs.Common.{◌≡◌, ℕ, cond, eqb, List, [], ◌∷◌, ◌++◌, set, slice_get, Option, refl, rules, arith}
use Rattle.std.proofs.lemmas.Option.{slice_get_cases}
use Rattle.std.proofs.lemmas.Grind.{common_steps}
use Rattle.model.specs.Event.{Op, loads, stores}
use Rattle.model.specs.Law.{left, Alone}
use Rattle.model.proofs.Tables.{slice_get-set_here, slice_get-set_there}

-- an operation at a place: its value was loaded, or replaced
pub data Act (V : Type 0) : Type 0 where
  gets : V → Act V
  puts : V → Act V

module _ {V : Type 0} where
  -- a store replaces what is there, and nothing where there is no cell
  abbrev pub over : Option V → V → Option V
  over Option.None y = Option.None
  over (Option.Some x) y = Option.Some y

  -- the value after
  abbrev pub then : List (Act V) → Option V → Option V
  then [] x = x
  then (gets y ∷ o) x = then o x
  then (puts y ∷ o) x = then o (over x y)

  -- every load finds the value that it answered
  abbrev pub Fits : List (Act V) → Option V → Type 0
  Fits [] x = Unit {0}
  Fits (gets y ∷ o) x = (x ≡ Option.Some y) × Fits o x
  Fits (puts y ∷ o) x = Fits o (over x y)

  -- there are only loads
  abbrev pub Gets : List (Act V) → Type 0
  Gets [] = Unit {0}
  Gets (gets y ∷ o) = Gets o
  Gets (puts y ∷ o) = ⊥

  -- the operations at a place
  abbrev pub here : ℕ → List (Op V) → List (Act V)
  here p [] = []
  here p (loads q x ∷ ops) = cond (eqb q p) (gets x ∷ here p ops) (here p ops)
  here p (stores q x ∷ ops) = cond (eqb q p) (puts x ∷ here p ops) (here p ops)

  pub then-append : (a b : List (Act V)) (x : Option V) → then (a ++ b) x ≡ then b (then a x)
  then-append [] b x = refl
  then-append (gets y ∷ a) b x = then-append a b x
  then-append (puts y ∷ a) b x = then-append a b (over x y)

  pub fits_append : (a b : List (Act V)) (x : Option V) → Fits a x → Fits b (then a x) → Fits (a ++ b) x
  fits_append [] b x fa fb = fb
  fits_append (gets y ∷ a) b x fa fb = (fa.0, fits_append a b x fa.1 fb)
  fits_append (puts y ∷ a) b x fa fb = fits_append a b (over x y) fa fb

  pub gets_append : (a b : List (Act V)) → Gets a → Gets b → Gets (a ++ b)
  gets_append [] b ga gb = gb
  gets_append (gets y ∷ a) b ga gb = gets_append a b ga gb
  gets_append (puts y ∷ a) b ga gb = absurd ga

  pub then_gets : (o : List (Act V)) (x : Option V) → Gets o → then o x ≡ x
  then_gets [] x g = refl
  then_gets (gets y ∷ o) x g = then_gets o x g
  then_gets (puts y ∷ o) x g = absurd g

  -- one operation more, at this place or at another
  pub here-append : (p : ℕ) (a b : List (Op V)) → here p (a ++ b) ≡ here p a ++ here p b
  here-append p [] b = refl
  here-append p (loads q x ∷ a) b = search (rules, here-append p a b)
  here-append p (stores q x ∷ a) b = search (rules, here-append p a b)

  -- a cell after a store, at its place and elsewhere
  pub cell_set : (cells : List V) (q p : ℕ) (x : V)
      → slice_get (set cells q x) p ≡ cond (eqb q p) (over (slice_get cells p) x) (slice_get cells p)
  cell_set cells q p x = grind (arith, common_steps, slice_get-set_there, slice_get-set_here, slice_get_cases cells p)

  -- the cells that operations leave, place by place
  pub left_here : (p : ℕ) (ops : List (Op V)) (cells : List V) → slice_get (left ops cells) p ≡ then
      (here p ops) (slice_get cells p)
  left_here p [] cells = refl
  left_here p (loads q x ∷ ops) cells = search (rules, left_here p ops cells)
  left_here p (stores q x ∷ ops) cells = search (rules, left_here p ops (set cells q x), cell_set cells q p x)

  -- where every place fits, the whole run does
  pub alone_here : (ops : List (Op V)) (cells : List V)
      → ((p : ℕ) → Fits (here p ops) (slice_get cells p)) → Alone ops cells
  alone_here [] cells fits = tt
  alone_here (loads q x ∷ ops) cells fits = search (rules, alone_here ops cells)
  alone_here (stores q x ∷ ops) cells fits = search (rules, alone_here ops (set cells q x), cell_set)
