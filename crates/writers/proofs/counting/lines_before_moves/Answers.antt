use Rattle.std.proofs.Common.{[], length, ap, arith}
use Rattle.std.proofs.lemmas.List.Sums.{count_by-le-length}
use Rattle.kinds.specs.Lattices.{not_least}
use Rattle.plans.specs.Plans.{design_of}
use Rattle.writers.specs.Writing.{job_of}
use Rattle.writers.proofs.LineCounts.{job_count}
use Rattle.writers.proofs.PlanLimits.{few_dead, few_cells}
use Rattle.writers.proofs.counting.lines_before_moves.Goals as goal

pub returns : goal.returns
returns g c =
    let p = c.args.plan.now in
    let k = g.K.Kind.values in
    let dead = ap length c.dead_cells.ensures in
    record {
      count = omega (arith, c.elements_lines.ensures.count, dead, c.area.ensures, job_count k g.K.WrittenKind.written (job_of (design_of p) c.args.picture.now []));
      few = omega (arith, c.requires, c.elements_lines.ensures.few, dead, few_dead p, c.area.ensures, count_by-le-length (not_least k) c.args.picture.now, few_cells p);
    }
