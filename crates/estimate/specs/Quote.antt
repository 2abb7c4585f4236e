-- What an order costs. Assumes nothing.
--   sheets_needed o        sheets of four pages for all copies
--   sheets_spoilt o        sheets more for wastage
--   paper_price o price    all these sheets
--   folding_price o        folding of those needed
--   discount_on o price    what is taken off a large order
--   quoted o price         all figures
--   Fair o q               what a customer and the shop may hold a quote to
use Rattle.std.specs.Prelude.{ℕ, ◌+◌, ◌-◌, ◌*◌, ◌/◌, ◌<◌, ◌≤◌, nat_le, if◌then◌else◌}
use Rattle.std.specs.Int.{div_ceil}
use Rattle.estimate.specs.declared.order.Order.{Order}
use Rattle.estimate.specs.declared.quote.Quote.{Quote}

-- sheets of four pages that the copies need
abbrev pub sheets_needed : Order → ℕ
sheets_needed o = o.copies * div_ceil o.pages 4

-- sheets more, for those that printing spoils: so many in a hundred
abbrev pub sheets_spoilt : Order → ℕ
sheets_spoilt o = div_ceil (sheets_needed o * o.terms.wastage.value) 100

-- all sheets at the paper's price
abbrev pub paper_price : Order → ℕ → ℕ
paper_price o price = (sheets_needed o + sheets_spoilt o) * price

-- folding of the sheets that are needed
abbrev pub folding_price : Order → ℕ
folding_price o = sheets_needed o * o.terms.fold

-- from so many copies on, so much in a hundred is taken off both
abbrev pub discount_on : Order → ℕ → ℕ
discount_on o price =
    if nat_le o.terms.large o.copies then ((paper_price o price + folding_price o) * o.terms.discount.value) / 100 else 0

-- the figures, with the total rounded to the nearest cent
abbrev pub quoted : Order → ℕ → Quote
quoted o price = record {
  needed = sheets_needed o;
  spoilt = sheets_spoilt o;
  paper = paper_price o price;
  folding = folding_price o;
  discount = discount_on o price;
  cents = (paper_price o price + folding_price o - discount_on o price + 50) / 100;
}

-- what a customer and the shop may hold a quote to
pub record Fair (o : Order) (q : Quote) : Type 0 where
  -- the sheets have room for every page, with at most three empty pages a copy
  pub room : o.copies * o.pages ≤ 4 * q.needed
  pub tight : 4 * q.needed ≤ o.copies * (o.pages + 3)
  -- wastage is allowed for in full, with less than a sheet to spare
  pub spare : q.needed * o.terms.wastage.value ≤ 100 * q.spoilt
  pub close : 100 * q.spoilt < q.needed * o.terms.wastage.value + 100
  -- no more is taken off than the prices come to
  pub off : q.discount ≤ q.paper + q.folding
  -- the total lies within half a cent of the prices less the discount
  pub low : q.paper + q.folding - q.discount ≤ 100 * q.cents + 49
  pub high : 100 * q.cents ≤ q.paper + q.folding - q.discount + 50
