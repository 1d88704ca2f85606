-- The extents of the plates of the trade. Assumes nothing.
use Rattle.std.specs.Prelude.{ℕ, ◌≤◌, Bool, cond, ◌&&◌, ℤ, pos, negsuc, Some, None, Option, nat_le, unsigned_abs}
use Rattle.grids.specs.declared.shapes.Form.{Form}
use Rattle.grids.specs.declared.shapes.Form.TheVariants.{Flat, Stack}
use Rattle.grids.specs.declared.shapes.Shape.{Shape}
use Rattle.grids.specs.Cells.{Extent}

-- the flat plate has the sums 0 and 1, the stack plate the sums -2 to 3
abbrev pub lowest_sum : Form → ℤ
lowest_sum Flat = pos 0
lowest_sum Stack = negsuc 1

abbrev pub sum_count : Form → ℕ
sum_count Flat = 2
sum_count Stack = 6

abbrev pub extent : Form → ℕ → ℕ → Extent
extent f w h = record { width = w; height = h; lowest = lowest_sum f; sums = sum_count f }

abbrev pub extent_of : Shape → Extent
extent_of g = extent g.form g.width g.height

-- 1 to 64 columns and rows
abbrev pub lawful_side : ℕ → Bool
lawful_side n = nat_le 1 n && nat_le n 64

abbrev pub lawful_size : ℕ → ℕ → Bool
lawful_size w h = lawful_side w && lawful_side h

-- the extent of a plate of that form and size, if the size is lawful
abbrev pub shaped : Form → ℕ → ℕ → Option Extent
shaped f w h = cond (lawful_size w h) (Some (extent f w h)) None

-- the limits of every extent of the trade
pub record Sized (g : Extent) : Type 0 where
  pub wide : 1 ≤ g.width
  pub narrow : g.width ≤ 64
  pub high : 1 ≤ g.height
  pub low : g.height ≤ 64
  pub some_sums : 1 ≤ g.sums
  pub few_sums : g.sums ≤ 6
  pub near_sums : unsigned_abs g.lowest ≤ 2
