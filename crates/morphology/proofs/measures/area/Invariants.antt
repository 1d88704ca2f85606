use Rattle.std.proofs.Common.{◌≡◌, ◌≤◌, take}
use Rattle.morphology.specs.Pictures.{area}
use Rattle.morphology.proofs.measures.area.Given as goal

abbrev pub invariant-loop-cell : goal.invariant-loop-cell
invariant-loop-cell g l = (l.count ≤ l.cell-index) × (l.count ≡ area g.K.Kind.values (take l.cell-index l.picture))
