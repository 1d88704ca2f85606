use Rattle.std.proofs.Common.{rules}
use lib.LanesLaws.{map-replicate}
use Rattle.plates.proofs.blocks.BlockPlate.new.Goals as goal

pub returns : goal.returns
returns c = search (rules, map-replicate)
