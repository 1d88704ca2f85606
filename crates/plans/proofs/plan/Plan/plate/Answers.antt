use Rattle.plans.proofs.LawfulPlans.{lawful_plan}
use Rattle.plans.proofs.plan.Plan.plate.Goals as goal

pub returns-clause-lawful : goal.returns-clause-lawful
returns-clause-lawful c = lawful_plan c.args.self.now
