-- The limits of every plan that lines are counted by. Assumes nothing.
use Rattle.std.proofs.Common.{ℕ, ◌≤◌, length, get_or}
use Rattle.plans.specs.declared.plan.Plan.{Plan}
use Rattle.plans.specs.Drawings.{blank, fan_of}
use Rattle.plans.specs.Plans.{design_of, cells_in}
use Rattle.plans.specs.GridLaws.{grid_sound}
use Rattle.plans.proofs.LawfulPlans.{lawful_plan}

pub few_elements : (p : Plan) → length (design_of p).drawing.elements ≤ 8
few_elements p = (grid_sound p.plate.lower).few_elements

pub few_places : (p : Plan) (e : ℕ) → fan_of (get_or (design_of p).drawing.elements e blank) ≤ 64
few_places p = (grid_sound p.plate.lower).few_places

pub few_dead : (p : Plan) → length (design_of p).dead ≤ 64
few_dead p = (lawful_plan p).few_dead

pub few_cells : (p : Plan) → cells_in (design_of p) ≤ 24576
few_cells p = (grid_sound p.plate.lower).few_cells
