-- The limits that every shape keeps, and the number of cells within them. Assumes nothing.
use Rattle.std.proofs.Common.{◌≤◌, rules, arith}
use Rattle.grids.specs.declared.shapes.Shape.{Shape}
use Rattle.grids.specs.Cells.{Extent, cell_count}
use Rattle.grids.specs.Extents.{extent_of, Sized}

-- every shape is within the limits
pub sized : (g : Shape) → Sized (extent_of g)
sized g = search rules

-- there is a cell
pub some_cells : (g : Extent) → Sized g → 1 ≤ cell_count g
some_cells g s = grind arith

-- and at most 6 * 64 * 64
pub few_cells : (g : Extent) → Sized g → cell_count g ≤ 24576
few_cells g s = grind arith
