-- A plan: a drawing and its dead cells, what its calls answer and leave, and its plate. Assumes nothing.
use Rattle.std.specs.Prelude.{◌≡◌, ℕ, true, List, [], is_ok, Ok, Err, Result}
use Rattle.std.specs.Result.{result_map_both}
use Rattle.layers.specs.Layers.{without, kill_answer, killed}
use Rattle.layers.specs.Deaths.{dead_of}
use Rattle.plates.specs.Meanings.{Meaning}
use Rattle.layers.specs.declared.faults.KillFault.{KillFault}
use Rattle.grids.specs.Cells.{cell_count}
use Rattle.grids.specs.declared.vectors.Vector.{Vector}
use Rattle.plans.specs.declared.faults.NoPlan.{NoPlan}
use Rattle.plans.specs.declared.faults.NoPlan.TheVariants.{Refused, Memory}
use Rattle.plans.specs.declared.faults.PlanFault.{PlanFault}
use Rattle.plans.specs.declared.faults.PlanFault.TheVariants.{Kill}
use Rattle.plans.specs.declared.plan.Plan.{Plan}
use Rattle.plans.specs.Drawings.{Drawing, extent_in, grid}
use Rattle.plans.specs.Fitting.{drawn, with_element, with_vector}
use Rattle.plans.specs.Grids.{drawing_of}
use Rattle.plans.specs.Modes.{mode_of}

pub record Design : Type 0 where
  pub drawing : Drawing
  pub dead : List ℕ

-- what a plan holds
abbrev pub design_of : Plan → Design
design_of p = record { drawing = drawing_of p.plate.lower; dead = dead_of p.plate }

-- the plate of a plan: the grid without the steps that start or end on a dead cell
abbrev pub plate_of : Design → Meaning
plate_of d = without d.dead (grid d.drawing)

-- a new plan has no dead cells
abbrev pub with_none_dead : Result Drawing PlanFault → Result Design PlanFault
with_none_dead (Ok d) = Ok (record { drawing = d; dead = [] })
with_none_dead (Err f) = Err f

abbrev pub planned : ℕ → ℕ → ℕ → Result Design PlanFault
planned mode w h = with_none_dead (drawn (mode_of mode) w h)

-- a plan is made as asked, unless it is refused or memory is wanting
abbrev pub Made : ℕ → ℕ → ℕ → Result Plan NoPlan → Type 0
Made mode w h (Ok p) = planned mode w h ≡ Ok (design_of p)
Made mode w h (Err (Refused f)) = planned mode w h ≡ Err f
Made mode w h (Err Memory) = is_ok (planned mode w h) ≡ true

-- the design with other drawings, and with other dead cells
abbrev pub element_added : Design → Design
element_added d = record { drawing = with_element d.drawing; dead = d.dead }

abbrev pub vector_added : Design → ℕ → ℕ → Vector → Design
vector_added d e side v = record { drawing = with_vector d.drawing e side v; dead = d.dead }

abbrev pub cells_in : Design → ℕ
cells_in d = cell_count (extent_in d.drawing)

-- how many cells a plan that is asked for has
abbrev pub cells_planned : ℕ → ℕ → ℕ → Result ℕ PlanFault
cells_planned mode w h = result_map_both cells_in (λ f. f) (planned mode w h)

abbrev pub in_plan : Result (Unit {0}) KillFault → Result (Unit {0}) PlanFault
in_plan (Ok u) = Ok u
in_plan (Err f) = Err (Kill f)

abbrev pub dead_answer : Design → ℕ → Result (Unit {0}) PlanFault
dead_answer d c = in_plan (kill_answer (cells_in d) d.dead c)

abbrev pub dead_added : Design → ℕ → Design
dead_added d c = record { drawing = d.drawing; dead = killed (cells_in d) d.dead c }
