use Rattle.std.proofs.Common.{◌<◌, [], refl, arith}
use Rattle.std.proofs.lemmas.List.Elements.{All-from_recursion}
use Rattle.cases.specs.Refuted.{BreaksLaw, breaches}
use Rattle.cases.proofs.broken.broken_engines_are_refuted.Goals as goal

-- what each engine does against the law, in the order of the table
pub returns-clause-refuted : goal.returns-clause-refuted
returns-clause-refuted c = All-from_recursion BreaksLaw breaches (
  λ law. cc ((law.consistent _ _ ([], refl) refl).0),
  (
    λ law. cc (law.serial_loads.0),
    (
      λ law. cc ((law.consistent _ _ ([], refl) refl).0),
      (
        λ law. cc ((law.consistent _ _ ([], refl) refl).0),
        (
          λ law. cc (law.serial_cells 0 refl),
          (
            λ law. let over : 2 < 2 = law.bounded 0 _ ([], refl) in omega arith,
            (
              λ law. cc (law.unrefused _ _ ([], refl) refl refl),
              (
                λ law. cc (law.settled _ _ ([], refl) refl refl),
                tt,
              ),
            ),
          ),
        ),
      ),
    ),
  ),
)
