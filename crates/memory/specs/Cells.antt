-- What a memory answers, by its cells. Assumes nothing.
--   most_cells     no memory counts more cells
--   counted cs     the cells that a memory over cs counts
--   beyond cs      the cells past them, which it never touches
--   loaded cs p    cell p, or the refusal of p where there is none
--   stored cs p    done, or the refusal of p where there is no cell p
use Rattle.std.specs.Prelude.{ℕ, if◌then◌else◌, List, length, take, drop, Ok, Err, Result, nat_lt}
use Rattle.std.specs.List.{slice_get}
use Rattle.std.specs.Option.{ok_or}
use Rattle.memory.specs.declared.fault.MemoryFault.{MemoryFault}
use Rattle.memory.specs.declared.fault.MemoryFault.TheVariants.{PastEnd}

-- no memory counts more cells
abbrev pub most_cells : ℕ
most_cells = 1048576

-- of so many cells, those that a memory counts
abbrev pub counted : {V : Type 0} → List V → List V
counted cells = take most_cells cells

-- those that it does not count, and never touches
abbrev pub beyond : {V : Type 0} → List V → List V
beyond cells = drop most_cells cells

-- the value of the cell at the place, or a refusal that tells the place
abbrev pub loaded : {V : Type 0} → List V → ℕ → Result V MemoryFault
loaded cells place = ok_or (slice_get cells place) (PastEnd place)

-- done where there is a cell at the place, else a refusal that tells the place
abbrev pub stored : {V : Type 0} → List V → ℕ → Result Unit MemoryFault
stored cells place = if nat_lt place (length cells) then Ok tt else Err (PastEnd place)
