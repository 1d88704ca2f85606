use Rattle.std.proofs.Common.{arith}
use Rattle.std.proofs.lemmas.Grind.{common_steps}
use Rattle.lines.proofs.SixColumns.{stuck}
use Rattle.lines.proofs.fields.field.Goals as goal

pub returns-in_err-seen-clause-is : goal.returns-in_err-seen-clause-is
returns-in_err-seen-clause-is c = grind (arith, common_steps, stuck)
