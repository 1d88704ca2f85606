use Rattle.std.proofs.Common.{◌≡◌, ℕ, ◌<◌, length}
use Rattle.morphology.specs.Pictures.{at}
use Rattle.morphology.proofs.Passing.{joined_below}
use Rattle.morphology.proofs.passes.Pass.scatter.Given as goal

abbrev pub invariant-loop-cell : goal.invariant-loop-cell
invariant-loop-cell g l =
    (x : ℕ) → x < length l.work → at g.K.Kind.values l.work x ≡ joined_below g.K.Kind.values (g.P.Plate.meaning l.self.plate.now) l.self.element l.self.picture.now l.cell x
