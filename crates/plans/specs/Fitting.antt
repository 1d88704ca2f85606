-- What the calls that draw a grid answer and leave. Assumes nothing.
use Rattle.std.specs.Prelude.{ℕ, Bool, cond, List, [], ◌∷◌, ◌++◌, length, Some, None, Ok, Err, Option, Result, nat_lt, slice_index_or, slice_set}
use Rattle.grids.specs.Cells.{vector_sum}
use Rattle.grids.specs.Extents.{lawful_size}
use Rattle.grids.specs.Vectors.{among}
use Rattle.grids.specs.declared.vectors.Vector.{Vector}
use Rattle.plans.specs.declared.modes.Mode.{Mode}
use Rattle.plans.specs.declared.modes.Side.{Side}
use Rattle.plans.specs.declared.modes.Side.TheVariants.{First, Second}
use Rattle.plans.specs.declared.outline.Outline.{Outline}
use Rattle.plans.specs.declared.faults.PlanFault.{PlanFault}
use Rattle.plans.specs.declared.faults.PlanFault.TheVariants as fault
use Rattle.plans.specs.Drawings.{Lists, Drawing, blank}
use Rattle.plans.specs.Modes.{side_of, allowed}
use Rattle.plans.specs.Vectors.{near}

-- a condition that is to hold, the refusal where it does not, and the answer where it does
abbrev pub must : {X : Type 0} → Bool → PlanFault → Result X PlanFault → Result X PlanFault
must holds f answer = cond holds answer (Err f)

-- a drawing without elements
abbrev pub bare : Outline → Drawing
bare o = record { mode = o.mode; width = o.shape.width; height = o.shape.height; elements = [] }

-- what a new drawing is, by the checks in their order
abbrev pub drawn : Option Mode → ℕ → ℕ → Result Drawing PlanFault
drawn None w h = Err fault.Mode
drawn (Some m) w h = must (lawful_size w h) fault.Size (Ok (record { mode = m; width = w; height = h; elements = [] }))

-- what is in a drawing with other elements
abbrev pub with_elements : Drawing → List Lists → Drawing
with_elements d es = record { mode = d.mode; width = d.width; height = d.height; elements = es }

-- the answer to one more element, and the drawing after it: a blank element at the end, or nothing altered
abbrev pub element_answer : Drawing → Result (Unit {0}) PlanFault
element_answer d = must (nat_lt (length d.elements) 8) fault.Elements (Ok tt)

abbrev pub element_after : Result (Unit {0}) PlanFault → Drawing → Drawing
element_after (Ok u) d = with_elements d (d.elements ++ blank ∷ [])
element_after (Err f) d = d

abbrev pub with_element : Drawing → Drawing
with_element d = element_after (element_answer d) d

-- a list takes 32 different vectors
abbrev pub list_answer : List Vector → Vector → Result (Unit {0}) PlanFault
list_answer vs v = cond (among v vs) (Err fault.Listed) (must (nat_lt (length vs) 32) fault.Vectors (Ok tt))

abbrev pub list_on : Side → Lists → List Vector
list_on First l = l.first
list_on Second l = l.second

-- the answer to one more vector, by the checks in their order
abbrev pub sided_answer : Mode → Option Side → Lists → Vector → Result (Unit {0}) PlanFault
sided_answer m None l v = Err fault.Side
sided_answer m (Some s) l v = must (near v) fault.Coordinate (must (allowed m s (vector_sum v)) fault.Sum (list_answer (list_on s l) v))

abbrev pub vector_answer : Drawing → ℕ → ℕ → Vector → Result (Unit {0}) PlanFault
vector_answer d e side v =
    must (nat_lt e (length d.elements)) fault.NoElement (sided_answer d.mode (side_of d.mode side) (slice_index_or d.elements e blank) v)

-- one vector more at the end of one list
abbrev pub put : Side → Lists → Vector → Lists
put First l v = record { first = l.first ++ v ∷ []; second = l.second }
put Second l v = record { first = l.first; second = l.second ++ v ∷ [] }

abbrev pub put_on : Option Side → Lists → Vector → Lists
put_on None l v = l
put_on (Some s) l v = put s l v

-- an accepted vector changes one list of the element named and no other; a refused one changes nothing
abbrev pub vector_after : Result (Unit {0}) PlanFault → Drawing → ℕ → ℕ → Vector → Drawing
vector_after (Ok u) d e side v = with_elements d (slice_set d.elements e (put_on (side_of d.mode side) (slice_index_or d.elements e blank) v))
vector_after (Err f) d e side v = d

abbrev pub with_vector : Drawing → ℕ → ℕ → Vector → Drawing
with_vector d e side v = vector_after (vector_answer d e side v) d e side v
