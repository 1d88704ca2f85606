use Rattle.lines.proofs.Whole as law
use Rattle.lines.proofs.laws.line_and_bytes.Goals as goal

pub returns : goal.returns
returns c = record { written_is_read = law.written_is_read; read_is_written = law.read_is_written }
