-- Why `promise` is never refused its store: the same place was loaded before. The check sees it by itself, so no proof
-- cites this.
use Rattle.std.proofs.Common.{◌≡◌, ℕ, Some, Ok, Err, Result, List, arith}
use Rattle.std.specs.List.{slice_get}
use Rattle.std.proofs.iter.runs.Lists.{slice_get_within}
use Rattle.memory.specs.Cells.{stored}
use Rattle.memory.specs.declared.fault.MemoryFault.{MemoryFault}
use Rattle.memory.proofs.Places.{stored_within}
use Rattle.value.specs.declared.stock_record.StockRecord.{StockRecord}

-- a place that was loaded can be stored into
pub no_refusal : (cells : List StockRecord) (p : ℕ) (x : StockRecord) (r : Result Unit MemoryFault) (e : MemoryFault)
    → slice_get cells p ≡ Some x → r ≡ stored cells p → r ≡ Err e → ⊥
no_refusal cells p x r e at answer was =
    let done : stored cells p ≡ Ok tt = stored_within cells p (slice_get_within cells p x at) in
    let z : ◌≡◌ {A = ℕ} 0 1 = cc in omega arith
