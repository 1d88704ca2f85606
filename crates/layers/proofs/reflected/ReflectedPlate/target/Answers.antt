use Rattle.std.proofs.Common.{rules}
use Rattle.layers.specs.Sources.{source_is}
use Rattle.layers.proofs.reflected.ReflectedPlate.target.Goals as goal

pub returns : goal.returns
returns g c = search (rules, source_is, g.met.P.Plate.sound)
