-- What an order does to the price book. Assumes nothing.
--   all_sheets q        all sheets of a quote
--   more_promised x n   the record x with n sheets more promised, where it has them
--   Outcome             an answer, and the cells it leaves
--   settled cs p q y    the outcome, once the figures and the new record are known
--   placed_at cs o x    the outcome, once the paper's record is known
--   placed cs o         the outcome of an order
--   Backed cs           no paper is promised beyond what is on hand
use Rattle.std.specs.Prelude.{ℕ, ◌+◌, ◌≤◌, List, [], ◌∷◌, Some, None, Ok, Err, Option, Result, slice_get, slice_set, All}
use Rattle.memory.specs.declared.fault.MemoryFault.TheVariants.{PastEnd}
use Rattle.value.specs.declared.fault.ValueFault.TheVariants.{NoValue}
use Rattle.value.specs.declared.stock_record.StockRecord.{StockRecord}
use Rattle.value.specs.StockRecord.{stock_of}
use Rattle.estimate.specs.declared.fault.OrderFault.{OrderFault}
use Rattle.estimate.specs.declared.fault.OrderFault.TheVariants.{NoPaper, NoStock}
use Rattle.estimate.specs.declared.order.Order.{Order}
use Rattle.estimate.specs.declared.quote.Quote.{Quote}
use Rattle.estimate.specs.Quote.{quoted}

-- all sheets of a quote
abbrev pub all_sheets : Quote → ℕ
all_sheets q = q.needed + q.spoilt

-- the record with so many sheets more promised, where there is one
abbrev pub more_promised : StockRecord → ℕ → Option StockRecord
more_promised x n = stock_of (x.on_hand ∷ (x.promised + n) ∷ x.price ∷ [])

-- what an order answers, and the cells that it leaves
abbrev pub Outcome : Type 0
Outcome = Result Quote OrderFault × List StockRecord

-- once the figures and the new record are known: the record is stored, or nothing changes
abbrev pub settled : List StockRecord → ℕ → Quote → Option StockRecord → Outcome
settled cells place quote None = (Err (NoStock (NoValue 3)), cells)
settled cells place quote (Some y) = (Ok quote, slice_set cells place y)

-- once the paper's record is known: quoted at its price, or there is no such paper
abbrev pub placed_at : List StockRecord → Order → Option StockRecord → Outcome
placed_at cells o None = (Err (NoPaper (PastEnd o.paper)), cells)
placed_at cells o (Some x) =
    settled cells o.paper (quoted o x.price) (more_promised x (all_sheets (quoted o x.price)))

-- an order is quoted at the price in the book, and its sheets are promised there; or nothing changes
abbrev pub placed : List StockRecord → Order → Outcome
placed cells o = placed_at cells o (slice_get cells o.paper)

-- no paper is promised beyond what is on hand
abbrev pub Backed : List StockRecord → Type 0
Backed cells = All (λ x. x.promised ≤ x.on_hand) cells
