use Rattle.jobs.proofs.JobAndFile.{job_and_file}
use Rattle.jobs.proofs.laws.job_and_file.Goals as goal

pub returns : goal.returns
returns g c = job_and_file g.K.Kind.values g.K.WrittenKind.written g.met.K.Kind.lawful g.met.K.WrittenKind.numbered
