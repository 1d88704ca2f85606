-- A drawing: a grid with its elements, and the plate that it means. Assumes nothing.
use Rattle.std.specs.Prelude.{ℕ, ◌+◌, ◌-◌, Bool, cond, ◌&&◌, List, [], length, pos, Some, None, Option, nat_lt, slice_index_or}
use Rattle.std.specs.List.{list_all}
use Rattle.plates.specs.Meanings.{Meaning}
use Rattle.grids.specs.Cells.{Extent, cell_count, vector_sum}
use Rattle.grids.specs.Extents.{extent}
use Rattle.grids.specs.Places.{led, led_back}
use Rattle.grids.specs.declared.places.Movers.TheVariants.{Odd}
use Rattle.grids.specs.declared.places.Place.{Place}
use Rattle.grids.specs.declared.vectors.Vector.{Vector}
use Rattle.plans.specs.declared.modes.Mode.{Mode}
use Rattle.plans.specs.declared.modes.Side.TheVariants.{First, Second}
use Rattle.plans.specs.Modes.{form_of, first_movers, allowed}
use Rattle.plans.specs.Vectors.{vector, every}

-- the vectors of an element in order of entry: those of side 0 or side 1, and those of side 2
pub record Lists : Type 0 where
  pub first : List Vector
  pub second : List Vector

-- an element without vectors; also what is read past the last element
abbrev pub blank : Lists
blank = record { first = []; second = [] }

-- one place for each vector
abbrev pub fan_of : Lists → ℕ
fan_of l = length l.first + length l.second

abbrev pub zero_vector : Vector
zero_vector = vector (pos 0) (pos 0) (pos 0)

-- the places of the first list come first, then those of the second, side 2, which move the odd cells alone
abbrev pub place_at : Mode → Lists → ℕ → Option Place
place_at m l p =
    cond (nat_lt p (length l.first)) (Some (record { movers = first_movers m; vector = slice_index_or l.first p zero_vector }))
    (cond (nat_lt (p - length l.first) (length l.second)) (Some (record { movers = Odd; vector = slice_index_or l.second (p - length l.first) zero_vector })) None)

pub record Drawing : Type 0 where
  pub mode : Mode
  pub width : ℕ
  pub height : ℕ
  pub elements : List Lists

abbrev pub extent_in : Drawing → Extent
extent_in d = extent (form_of d.mode) d.width d.height

abbrev pub place_in : Drawing → ℕ → ℕ → Option Place
place_in d e p = place_at d.mode (slice_index_or d.elements e blank) p

-- where a place, if there is one, leads a cell, and which cell it leads to one
abbrev pub led_by : Extent → Option Place → ℕ → Option ℕ
led_by g None c = None
led_by g (Some p) c = led g p c

abbrev pub led_back_by : Extent → Option Place → ℕ → Option ℕ
led_back_by g None t = None
led_back_by g (Some p) t = led_back g p t

-- the plate that a drawing means
abbrev pub grid : Drawing → Meaning
grid d = record {
  cells = cell_count (extent_in d);
  elements = length d.elements;
  fan = λ e. fan_of (slice_index_or d.elements e blank);
  target = λ e p c. led_by (extent_in d) (place_in d e p) c;
}

-- the vectors of an element have the sums that its lists take
abbrev pub fair : Mode → Lists → Bool
fair m l = every (λ v. allowed m First (vector_sum v)) l.first && every (λ v. allowed m Second (vector_sum v)) l.second

abbrev pub all_fair : Mode → List Lists → Bool
all_fair m ls = list_all (fair m) ls
