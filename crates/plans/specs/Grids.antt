-- The drawing that a grid holds. Assumes nothing.
use Rattle.plans.specs.declared.grid.Grid.{Grid}
use Rattle.plans.specs.Drawings.{Drawing}
use Rattle.plans.specs.Holdings.{elements_of}

abbrev pub drawing_of : Grid → Drawing
drawing_of g = record { mode = g.outline.mode; width = g.outline.shape.width; height = g.outline.shape.height; elements = elements_of g.table }
