use Rattle.morphology.specs.Passes.{Spread}
use Rattle.morphology.proofs.Listed.{by_places}
use Rattle.morphology.proofs.passes.Pass.spread.Given as goal

abbrev pub invariant-loop-place : goal.invariant-loop-place
invariant-loop-place g l =
    Spread g.K.Kind.values (by_places (g.P.Plate.meaning l.self.plate.now) l.self.element l.cell l.place) l.value l.initial.work l.work
