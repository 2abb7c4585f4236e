-- Computed, and not left to a search: of a table that is wrong the search would say only that it gave up.
use Rattle.std.proofs.Common.{refl}
use Rattle.cases.proofs.edges.edges_hold.Goals as goal

pub returns-clause-edges : goal.returns-clause-edges
returns-clause-edges c = refl

pub returns-clause-refusals : goal.returns-clause-refusals
returns-clause-refusals c = refl
