use Rattle.std.proofs.Common.{ap, ◌∙◌, arith, length-take}
use Rattle.std.specs.Option.{ok_or}
use Rattle.memory.specs.Cells.{most_cells, loaded}
use Rattle.memory.specs.declared.fault.MemoryFault.TheVariants.{PastEnd}
use Rattle.memory.proofs.Places.{take_count, loaded_at}
use Rattle.memory.proofs.flat.FlatMemory.load.Goals as goal

pub slice_bounds-get-end-2 : goal.slice_bounds-get-end-2
slice_bounds-get-end-2 g c = simp length-take (omega (arith, length-take most_cells c.args.self.now.cells.now))

pub returns : goal.returns
returns g c =
    let cells = c.args.self.now.cells.now in
    let most = length-take most_cells cells in
    c.ok_or.ensures.value ∙ ap (λ o. ok_or o (PastEnd c.args.place)) c.copied.ensures
    ∙ loaded_at _ c.args.place c.get.result c.get.ensures.lookup (omega arith)
    ∙ ap (λ cs. loaded cs c.args.place) (take_count most_cells cells (omega (arith, c.count.ensures.told, most)))
