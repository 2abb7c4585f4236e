-- The refusals of an order, carried up whole. Assumes nothing.
--   told f          number, detail and layer of the fault f
--   fault_text f    why the order is refused, in words
use Rattle.std.specs.Prelude.{ℕ, List, codes}
use Rattle.refusal.specs.declared.refusal.Refusal.{Refusal}
use Rattle.memory.specs.Fault as memory
use Rattle.value.specs.Fault as value
use Rattle.estimate.specs.declared.fault.OrderFault.{OrderFault}
use Rattle.estimate.specs.declared.fault.OrderFault.TheVariants.{NoPaper, NoStock}

-- as the memory or the kind of value told it
abbrev pub told : OrderFault → Refusal
told (NoPaper fault) = memory.told fault
told (NoStock fault) = value.told fault

-- which of the two there is not
abbrev pub fault_text : OrderFault → List ℕ
fault_text (NoPaper fault) = codes "the book has no such paper"
fault_text (NoStock fault) = codes "not enough sheets are left to promise"
