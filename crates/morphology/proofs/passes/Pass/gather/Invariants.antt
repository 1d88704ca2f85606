use Rattle.std.proofs.Common.{◌≡◌, ℕ, ◌<◌}
use Rattle.morphology.specs.Pictures.{at}
use Rattle.morphology.specs.Moves.{eroded_at}
use Rattle.morphology.proofs.passes.Pass.gather.Given as goal

abbrev pub invariant-loop-cell : goal.invariant-loop-cell
invariant-loop-cell g l =
    (x : ℕ) → x < l.cell → at g.K.Kind.values l.work x ≡ eroded_at g.K.Kind.values (g.P.Plate.meaning l.self.plate.now) l.self.element l.self.picture.now x
