use Rattle.std.proofs.Common.{◌≡◌, ◌^◌, drop, Ok}
use Rattle.lines.specs.declared.fields.Seen.TheVariants.{Blank}
use Rattle.lines.specs.Fields.{through, Short}
use Rattle.lines.proofs.fields.field.Given as goal

abbrev pub invariant-loop-b : goal.invariant-loop-b
invariant-loop-b l = record { short : Short l.seen (10 ^ l.b-index); read : through (Ok l.seen) (drop l.b-index l.columns) ≡ through (Ok Blank) l.columns }
