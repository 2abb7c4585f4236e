use Rattle.std.proofs.Common.{Err, sym, ap, ◌∙◌, rules}
use Rattle.std.proofs.lemmas.Result.{err_from_is_err_and}
use Rattle.memory.specs.Cells.{most_cells}
use Rattle.memory.proofs.Places.{stored_past, in_first, in_second, stored_first, set_first, stored_second, set_second}
use Rattle.memory.proofs.joined.JoinedMemory.store.Goals as goal

pub returns-in_err-place_in_second-clause-answer : goal.returns-in_err-place_in_second-clause-answer
returns-in_err-place_in_second-clause-answer g c =
    let same = err_from_is_err_and c.from_residual.result c.from_residual.ensures.1 in
    let past = c.in_err-place_in_second.ensures.err in
    same.1 ∙ ap Err (same.2 ∙ past.1) ∙ sym (stored_past _ c.args.place past.0)

pub returns-in-None : goal.returns-in-None
returns-in-None g c =
    let xs = g.A.Memory.cells c.args.self.now.first in
    let ys = g.B.Memory.cells c.args.self.now.second in
    let lies = c.in_ok-place_in_second.ensures.ok in
    let left = in_first _ lies.1 c.in-None.is in
    let done = set_first most_cells xs ys c.args.place lies.0 left c.args.value c.store.ensures.after in
    record {
      answer = c.store.ensures.answer ∙ stored_first most_cells xs ys c.args.place lies.0 left;
      after = done.0;
      rest = done.1;
      seam = search rules;
    }

pub returns-in-Some : goal.returns-in-Some
returns-in-Some g c =
    let xs = g.A.Memory.cells c.args.self.now.first in
    let ys = g.B.Memory.cells c.args.self.now.second in
    let lies = c.in_ok-place_in_second.ensures.ok in
    let right = in_second _ lies.1 c.in-Some.is in
    let done = set_second most_cells xs ys c.args.place lies.0 right c.args.value c.store-in-Some.ensures.after in
    record {
      answer = c.store-in-Some.ensures.answer ∙ stored_second most_cells xs ys c.args.place lies.0 right;
      after = done.0;
      rest = done.1;
      seam = search rules;
    }
