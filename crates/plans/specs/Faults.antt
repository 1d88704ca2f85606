-- Every refusal of a plan: its cases and their numbers. Assumes nothing.
use Rattle.std.specs.Prelude.{ℕ}
use Rattle.layers.specs.Faults.{kill_fault_number}
use Rattle.plans.specs.declared.faults.PlanFault.{PlanFault}
use Rattle.plans.specs.declared.faults.PlanFault.TheVariants.{Mode, Size, Side, Coordinate, Sum, Listed, Elements, Vectors, NoElement, Kill}

abbrev pub plan_fault_number : PlanFault → ℕ
plan_fault_number Mode = 10
plan_fault_number Size = 11
plan_fault_number Side = 12
plan_fault_number Coordinate = 13
plan_fault_number Sum = 14
plan_fault_number Listed = 15
plan_fault_number Elements = 16
plan_fault_number Vectors = 19
plan_fault_number NoElement = 23
plan_fault_number (Kill f) = kill_fault_number f
