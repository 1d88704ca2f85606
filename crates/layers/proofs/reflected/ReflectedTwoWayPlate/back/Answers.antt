use Rattle.std.proofs.Common.{rules}
use Rattle.layers.specs.Sources.{target_turned}
use Rattle.layers.proofs.reflected.ReflectedTwoWayPlate.back.Goals as goal

pub returns : goal.returns
returns g c = let lower = c.args.self.now.lower in target_turned _ (g.met.P.Plate.sound lower) (g.met.P.TwoWayPlate.single lower) c.args.element c.args.place c.args.cell _ (search rules)
