use Rattle.std.proofs.Common.{arith}
use Rattle.std.proofs.lemmas.List.FromFn.{fill_by_all}
use Rattle.morphology.specs.Moves.{eroded_at}
use Rattle.morphology.proofs.passes.Pass.gather.Goals as goal

pub returns : goal.returns
returns g c =
    let k = g.K.Kind.values in
    let m = g.P.Plate.meaning c.args.self.now.plate.now in
    fill_by_all (eroded_at k m c.args.self.now.element c.args.self.now.picture.now) c.loop-cell.work m.cells k.least (omega (arith, c.requires))
    (λ x h. c.loop-cell.invariant x (omega (arith, c.requires)))
