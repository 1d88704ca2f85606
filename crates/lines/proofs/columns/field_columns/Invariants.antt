use Rattle.std.proofs.Common.{◌≡◌, ◌++◌, length, drop}
use Rattle.lines.specs.Fields.{columns}
use Rattle.lines.proofs.columns.field_columns.Given as goal

abbrev pub invariant-loop-k : goal.invariant-loop-k
invariant-loop-k l = record { long : length l.out ≡ 6; written : columns l.mark l.k l.n ++ drop l.k l.out ≡ columns l.initial.mark 6 l.initial.n }
