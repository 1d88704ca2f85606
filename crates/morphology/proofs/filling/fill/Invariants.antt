use Rattle.std.proofs.Common.{◌≡◌, take, replicate}
use Rattle.morphology.proofs.filling.fill.Given as goal

abbrev pub invariant-loop-cell : goal.invariant-loop-cell
invariant-loop-cell g l = take l.cell-index l.picture ≡ replicate l.cell-index l.value
