-- The figures of every quote are fair. The proof of `estimate` cites this.
use Rattle.std.proofs.Common.{◌≡◌, ℕ, ◌+◌, ◌*◌, ◌/◌, ◌≤◌, nat_le, sym, subst, mul-le-mul_left, mul_left_comm, arith}
use Rattle.std.proofs.lemmas.Bool.{cond_both}
use Rattle.std.specs.Int.{div_ceil}
use Rattle.estimate.specs.declared.order.Order.{Order}
use Rattle.estimate.specs.declared.quote.Quote.{Quote}
use Rattle.estimate.specs.Quote.{paper_price, folding_price, discount_on, quoted, Fair}

-- a share in a hundred is no more than the whole
share_le : (n p : ℕ) → p ≤ 100 → (n * p) / 100 ≤ n
share_le n p few = omega (arith, mul-le-mul_left n few)

-- the discount is a share of the prices
discount_le : (o : Order) (price : ℕ) → discount_on o price ≤ paper_price o price + folding_price o
discount_le o price =
    let whole = paper_price o price + folding_price o in
    cond_both (nat_le o.terms.large o.copies) ((whole * o.terms.discount.value) / 100) 0 (λ d. d ≤ whole)
    (λ _. share_le whole o.terms.discount.value o.terms.discount.whole) (λ _. omega arith)

pub fair_figures : (o : Order) (price : ℕ) {q : Quote} → q ≡ quoted o price → Fair o q
fair_figures o price figures =
    let sheets = div_ceil o.pages 4 in
    let four = mul_left_comm o.copies 4 sheets in
    let room : o.pages ≤ 4 * sheets = omega arith in
    let tight : 4 * sheets ≤ o.pages + 3 = omega arith in
    subst (Fair o) (sym figures) record {
      room = omega (arith, mul-le-mul_left o.copies room, four);
      tight = omega (arith, mul-le-mul_left o.copies tight, four);
      spare = omega arith;
      close = omega arith;
      off = discount_le o price;
      low = omega arith;
      high = omega arith;
    }
