-- Every refusal of this crate: its cases and their numbers. Assumes nothing.
use Rattle.std.specs.Prelude.{ℕ}
use Rattle.lines.specs.declared.faults.LineFault.{LineFault}
use Rattle.lines.specs.declared.faults.LineFault.TheVariants.{Frame, Word, Field}

-- why a line is refused
abbrev pub line_fault_number : LineFault → ℕ
line_fault_number Frame = 41
line_fault_number Word = 42
line_fault_number Field = 43
