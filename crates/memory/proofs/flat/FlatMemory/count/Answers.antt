use Rattle.std.proofs.Common.{arith, length-take}
use Rattle.memory.proofs.flat.FlatMemory.count.Goals as goal

pub returns-clause-told : goal.returns-clause-told
returns-clause-told g c = simp length-take (omega arith)
