use Rattle.std.proofs.Common.{◌≡◌, ◌+◌, length, get_or, ap, arith}
use Rattle.plans.specs.Drawings.{blank, fan_of}
use Rattle.plans.specs.Plans.{design_of}
use Rattle.writers.proofs.LineCounts.{element_count}
use Rattle.writers.proofs.PlanLimits.{few_places}
use Rattle.writers.proofs.counting.element_lines.Goals as goal

pub returns : goal.returns
returns c =
    let d = (design_of c.args.plan.now).drawing in
    let l = get_or d.elements c.args.element blank in
    let fan : length c.vectors.result.now + length c.vectors-2.result.now ≡ fan_of l = omega (arith, ap length c.vectors.ensures, ap length c.vectors-2.ensures) in
    record {
      count = omega (arith, fan, element_count d.mode c.args.element l);
      few = omega (arith, fan, few_places c.args.plan.now c.args.element);
    }
