use Rattle.std.proofs.Common.{rules}
use Rattle.grids.specs.Extents.{extent_of}
use Rattle.grids.proofs.ForthBack.{way_back}
use Rattle.grids.proofs.Sizes.{sized}
use Rattle.grids.proofs.places.Place.back.Goals as goal

pub returns-then-cell-cells-clause-way : goal.returns-then-cell-cells-clause-way
returns-then-cell-cells-clause-way c = way_back (extent_of c.args.shape) (sized c.args.shape) c.args.self c.args.cell _ (search rules)

pub returns-clause-way : goal.returns-clause-way
returns-clause-way c = way_back (extent_of c.args.shape) (sized c.args.shape) c.args.self c.args.cell _ (search rules)
