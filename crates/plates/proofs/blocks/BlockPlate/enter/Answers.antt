use Rattle.std.proofs.Common.{arith}
use Rattle.std.proofs.lemmas.Grind.{common_steps}
use Rattle.std.proofs.lemmas.List.{get_or-map, length-map, map-set}
use Rattle.plates.proofs.blocks.BlockPlate.enter.Goals as goal

pub returns : goal.returns
returns c = grind (arith, common_steps, map-set, get_or-map, length-map)
