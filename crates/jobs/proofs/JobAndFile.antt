-- A job and its file fix each other. Assumes nothing.
use Rattle.kinds.specs.Lattices.{Values, Lawful}
use Rattle.kinds.specs.Numbers.{Written, Numbered}
use Rattle.jobs.specs.Files.{JobAndFile}
use Rattle.jobs.proofs.ReadIsWritten.{job_read_is_written}
use Rattle.jobs.proofs.WrittenIsRead.{job_written_is_read}

pub job_and_file : {V : Type 0} (k : Values V) (w : Written V) → Lawful k → Numbered k w → JobAndFile k w
job_and_file k w lawful numbered = record { written_is_read = job_written_is_read k w lawful numbered; read_is_written = job_read_is_written k w lawful numbered }
