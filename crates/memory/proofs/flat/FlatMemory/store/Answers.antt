use borrow.Author.Rules.{scaled_Fits}
use Rattle.std.proofs.Common.{sym, rules, arith, length-take}
use Rattle.memory.specs.Cells.{most_cells}
use Rattle.memory.proofs.Places.{stored_within, stored_past, set_counted, set_behind}
use Rattle.memory.proofs.flat.FlatMemory.store.Goals as goal

pub returns-then-place-count-clause-answer : goal.returns-then-place-count-clause-answer
returns-then-place-count-clause-answer g c = sym (stored_past _ c.args.place (omega arith))

pub bounds-self-place : goal.bounds-self-place
bounds-self-place g c = omega (arith, length-take most_cells c.args.self.now.cells.now)

pub offset_bounds-self-place : goal.offset_bounds-self-place
offset_bounds-self-place g c = search (scaled_Fits, bounds-self-place g c)

pub returns-clause-answer : goal.returns-clause-answer
returns-clause-answer g c = sym (stored_within _ c.args.place (omega arith))

pub returns-clause-after : goal.returns-clause-after
returns-clause-after g c =
    let cells = c.args.self.now.cells.now in
    set_counted most_cells cells c.args.place c.args.value (omega arith) (omega arith) (search rules)

pub returns-clause-rest : goal.returns-clause-rest
returns-clause-rest g c =
    set_behind most_cells c.args.self.now.cells.now c.args.place _ (omega arith) (omega arith)
