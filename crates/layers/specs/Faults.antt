-- Every refusal of this crate: its cases and their numbers. Assumes nothing.
use Rattle.std.specs.Prelude.{ℕ}
use Rattle.layers.specs.declared.faults.KillFault.{KillFault}
use Rattle.layers.specs.declared.faults.KillFault.TheVariants.{NoCell, AlreadyDead, TableFull}

-- why a cell is not made dead
abbrev pub kill_fault_number : KillFault → ℕ
kill_fault_number NoCell = 17
kill_fault_number AlreadyDead = 18
kill_fault_number TableFull = 20
