use Rattle.std.proofs.Common.{◌∙◌, subst}
use Rattle.reports.specs.Reports.{kind_told, Tells}
use Rattle.reports.proofs.working.work.Goals as goal

pub returns : goal.returns
returns g c =
    subst (λ n. Tells (kind_told g.K.Kind.values g.K.WrittenKind.written c.args.bytes.now n) c.run_job.result) (c.as_mut_slice.ensures.len ∙ c.in_ok-picture.ensures.len) c.run_job.ensures
