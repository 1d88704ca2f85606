use Rattle.std.proofs.Common.{arith}
use Rattle.std.proofs.lemmas.Grind.{common_steps}
use Rattle.lines.specs.Fields.{field_bytes}
use Rattle.lines.proofs.columns.field_columns.Goals as goal

pub returns : goal.returns
unfolding field_bytes
returns c = grind (arith, common_steps)
