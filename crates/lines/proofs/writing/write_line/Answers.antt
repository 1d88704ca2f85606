use Rattle.std.proofs.Common.{rules}
use Rattle.std.proofs.lemmas.Slice.{overwrites}
use Rattle.lines.proofs.Lengths.{length_line}
use Rattle.lines.proofs.writing.write_line.Goals as goal

pub returns : goal.returns
returns c = search (rules, overwrites, length_line)
