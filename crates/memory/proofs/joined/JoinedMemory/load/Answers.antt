use Rattle.std.proofs.Common.{Err, sym, ap, ◌∙◌}
use Rattle.std.proofs.lemmas.Result.{err_from_is_err_and}
use Rattle.memory.specs.Cells.{most_cells}
use Rattle.memory.proofs.Places.{loaded_past, in_first, in_second, loaded_first, loaded_second}
use Rattle.memory.proofs.joined.JoinedMemory.load.Goals as goal

pub returns-in_err-place_in_second : goal.returns-in_err-place_in_second
returns-in_err-place_in_second g c =
    let same = err_from_is_err_and c.from_residual.result c.from_residual.ensures.1 in
    let past = c.in_err-place_in_second.ensures.err in
    same.1 ∙ ap Err (same.2 ∙ past.1) ∙ sym (loaded_past _ c.args.place past.0)

pub returns-in-None : goal.returns-in-None
returns-in-None g c =
    let lies = c.in_ok-place_in_second.ensures.ok in
    c.load.ensures ∙ loaded_first most_cells _ _ c.args.place lies.0 (in_first _ lies.1 c.in-None.is)

pub returns-in-Some : goal.returns-in-Some
returns-in-Some g c =
    let lies = c.in_ok-place_in_second.ensures.ok in
    c.load-in-Some.ensures ∙ loaded_second most_cells _ _ c.args.place lies.0 (in_second _ lies.1 c.in-Some.is)
