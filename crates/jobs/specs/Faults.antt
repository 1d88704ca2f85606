-- Every refusal of a file and of writing one: its cases and their numbers. Assumes nothing.
use Rattle.std.specs.Prelude.{ℕ}
use Rattle.lines.specs.Faults.{line_fault_number}
use Rattle.plans.specs.Faults.{plan_fault_number}
use Rattle.jobs.specs.declared.faults.FileFault.{FileFault}
use Rattle.jobs.specs.declared.faults.FileFault.TheVariants.{PictureLength, Line, Number, Sequence, Plan, Moves, NoLast, AfterLast, TooLong, OtherKind}
use Rattle.jobs.specs.declared.faults.WriteFault.{WriteFault}
use Rattle.jobs.specs.declared.faults.WriteFault.TheVariants as write

abbrev pub file_fault_number : FileFault → ℕ
file_fault_number PictureLength = 21
file_fault_number (Line f) = line_fault_number f
file_fault_number Number = 44
file_fault_number Sequence = 45
file_fault_number (Plan f) = 46
file_fault_number Moves = 47
file_fault_number NoLast = 48
file_fault_number AfterLast = 49
file_fault_number TooLong = 53
file_fault_number OtherKind = 54

-- the number that the plan gave inside 46, and 0 outside it
abbrev pub inner_number : FileFault → ℕ
inner_number PictureLength = 0
inner_number (Line f) = 0
inner_number Number = 0
inner_number Sequence = 0
inner_number (Plan f) = plan_fault_number f
inner_number Moves = 0
inner_number NoLast = 0
inner_number AfterLast = 0
inner_number TooLong = 0
inner_number OtherKind = 0

abbrev pub write_fault_number : WriteFault → ℕ
write_fault_number write.PictureLength = 21
write_fault_number write.Output = 51
write_fault_number write.Record = 52
