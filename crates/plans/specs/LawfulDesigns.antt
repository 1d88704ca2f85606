-- What every plan keeps. Assumes nothing.
use Rattle.std.specs.Prelude.{◌≡◌, ◌≤◌, true, List, [], ◌∷◌, length}
use Rattle.layers.specs.Layers.{distinct}
use Rattle.plates.specs.Lists.{below}
use Rattle.grids.specs.Cells.{vector_sum}
use Rattle.grids.specs.Extents.{lawful_size}
use Rattle.grids.specs.declared.vectors.Vector.{Vector}
use Rattle.plans.specs.declared.modes.Mode.{Mode}
use Rattle.plans.specs.declared.modes.Side.{Side}
use Rattle.plans.specs.declared.modes.Side.TheVariants.{First, Second}
use Rattle.plans.specs.Drawings.{Lists}
use Rattle.plans.specs.Modes.{allowed}
use Rattle.plans.specs.Plans.{Design, cells_in}
use Rattle.plans.specs.Vectors.{near, different, every}

-- a list of vectors that a side of a mode takes
pub record LawfulList (m : Mode) (s : Side) (vs : List Vector) : Type 0 where
  pub few : length vs ≤ 32
  pub near : every near vs ≡ true
  pub apart : different vs ≡ true
  pub fair : every (λ v. allowed m s (vector_sum v)) vs ≡ true

-- the two lists of an element
pub record LawfulLists (m : Mode) (l : Lists) : Type 0 where
  pub first : LawfulList m First l.first
  pub second : LawfulList m Second l.second

abbrev pub AllLawful : Mode → List Lists → Type 0
AllLawful m [] = Unit {0}
AllLawful m (l ∷ ls) = LawfulLists m l × AllLawful m ls

-- a lawful size, at most 8 elements with lawful lists, and at most 64 dead cells, which are cells of the plate and stand there once
pub record LawfulDesign (d : Design) : Type 0 where
  pub size : lawful_size d.drawing.width d.drawing.height ≡ true
  pub few : length d.drawing.elements ≤ 8
  pub lists : AllLawful d.drawing.mode d.drawing.elements
  pub living : below (cells_in d) d.dead ≡ true
  pub apart : distinct d.dead ≡ true
  pub few_dead : length d.dead ≤ 64
