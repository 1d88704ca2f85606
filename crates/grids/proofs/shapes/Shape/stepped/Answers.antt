use Rattle.grids.specs.Extents.{extent_of}
use Rattle.grids.proofs.Steps.{shifted_stepped}
use Rattle.grids.proofs.shapes.Shape.stepped.Goals as goal

pub returns : goal.returns
returns c = shifted_stepped (extent_of c.args.self) _ _ _ _ c.shifted.ensures c.shift.ensures
