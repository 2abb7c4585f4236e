-- The refusal of a memory. Assumes nothing.
--   told f          number, detail and layer of the fault f
--   fault_text f    the same fault in words
use Rattle.std.specs.Prelude.{ℕ, List, ◌++◌, codes}
use Rattle.std.specs.Fmt.{decimal}
use Rattle.refusal.specs.declared.refusal.Refusal.{Refusal}
use Rattle.refusal.specs.declared.layer.Layer.TheVariants.{Data}
use Rattle.memory.specs.declared.fault.MemoryFault.{MemoryFault}
use Rattle.memory.specs.declared.fault.MemoryFault.TheVariants.{PastEnd}

-- the place lies at or past the count: number 23, detail the place, layer 1
abbrev pub told : MemoryFault → Refusal
told (PastEnd place) = record { number = 23; detail = place; layer = Data }

-- as in `there is no cell at place 4`
abbrev pub fault_text : MemoryFault → List ℕ
fault_text (PastEnd place) = codes "there is no cell at place " ++ decimal place
