use Rattle.std.specs.Prelude.{◌≡◌, Some, nat_lt, slice_get}
use Rattle.std.proofs.Common.{◌∙◌, rules, arith}
use Rattle.std.proofs.lemmas.Fn.{always_returns_same}
use Rattle.locks.proofs.Starts.{rising_answer, lawful_rising}
use Rattle.locks.proofs.object_map.is_lawful.Goals as goal

pub returns-then-starts-le-MOST_OBJECTS : goal.returns-then-starts-le-MOST_OBJECTS
returns-then-starts-le-MOST_OBJECTS c =
    let rises = c.is_sorted_by.ensures.cases nat_lt (always_returns_same _ _ _ (λ a r f' k. search rules)) in
    let first : slice_get c.args.starts.now 0 ≡ Some 0 = search rules in
    rising_answer _ _ rises ∙ lawful_rising _ first (omega arith)
