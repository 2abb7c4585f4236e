use Rattle.std.proofs.Common.{arith, length-append, length-take}
use Rattle.memory.proofs.joined.JoinedMemory.count.Goals as goal

pub returns-clause-told : goal.returns-clause-told
returns-clause-told g c = simp (length-take, length-append) (omega arith)
