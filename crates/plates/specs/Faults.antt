-- Every refusal of this crate: its cases and their numbers. Assumes nothing.
use Rattle.std.specs.Prelude.{ℕ, Some, None, Option}
use Rattle.plates.specs.declared.faults.BlockFault.{BlockFault}
use Rattle.plates.specs.declared.faults.BlockFault.TheVariants.{Count, Memory}
use Rattle.plates.specs.declared.faults.LinkFault.{LinkFault}
use Rattle.plates.specs.declared.faults.LinkFault.TheVariants.{NoBlock, Linked, Full}

-- why no block plate is made; want of memory has no number
abbrev pub block_fault_number : BlockFault → Option ℕ
block_fault_number Count = Some 11
block_fault_number Memory = None

-- why two blocks are not linked
abbrev pub link_fault_number : LinkFault → ℕ
link_fault_number NoBlock = 17
link_fault_number Linked = 24
link_fault_number Full = 25
