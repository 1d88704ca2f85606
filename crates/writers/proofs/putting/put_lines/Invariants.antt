use Rattle.std.proofs.Common.{◌≡◌, ◌*◌, length}
use Rattle.writers.specs.Writing.{with_lines}
use Rattle.writers.proofs.putting.put_lines.Given as goal

-- the lines that came so far are written
abbrev pub invariant-loop-line : goal.invariant-loop-line
invariant-loop-line g l = (l.end ≡ 29 * length l.yielded) × (l.out ≡ with_lines l.initial.out l.yielded)
