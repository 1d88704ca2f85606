-- The cells of a triangular grid, their numbers on a plate, and the step by a vector. Assumes nothing.
use Rattle.std.specs.Prelude.{◌≡◌, ℕ, ◌+◌, ◌*◌, ◌/◌, ◌%◌, ◌<◌, cond, ℤ, pos, negsuc, ◌+ℤ◌, ◌-ℤ◌, neg_ℤ, Some, None, Option, nat_lt}
use Rattle.grids.specs.declared.vectors.Vector.{Vector}

-- A triangular cell. Its sum x + y + z says which of the triangles at (x, y) it is: an even one has sum 0, an odd one sum 1.
pub record Cell : Type 0 where
  pub x : ℤ
  pub y : ℤ
  pub z : ℤ

abbrev pub cell_sum : Cell → ℤ
cell_sum c = c.x +ℤ c.y +ℤ c.z

abbrev pub vector_sum : Vector → ℤ
vector_sum v = v.a +ℤ v.b +ℤ v.c

-- a step adds the coordinates
abbrev pub moved : Cell → Vector → Cell
moved c v = record { x = c.x +ℤ v.a; y = c.y +ℤ v.b; z = c.z +ℤ v.c }

abbrev pub opposite : Vector → Vector
opposite v = record { a = neg_ℤ v.a; b = neg_ℤ v.b; c = neg_ℤ v.c }

-- The extent of a plate: it holds the cells with 0 ≤ x < width, 0 ≤ y < height and one of `sums` sums from `lowest` on.
pub record Extent : Type 0 where
  pub width : ℕ
  pub height : ℕ
  pub lowest : ℤ
  pub sums : ℕ

abbrev pub cell_count : Extent → ℕ
cell_count g = g.sums * (g.width * g.height)

-- the natural number that z is, if it is one of 0 to n - 1
abbrev pub below : ℤ → ℕ → Option ℕ
below (pos i) n = cond (nat_lt i n) (Some i) None
below (negsuc i) n = None

-- the number of the cell in column x and row y with the i-th sum, counted from 0
abbrev pub number_at : Extent → ℕ → ℕ → ℕ → ℕ
number_at g x y i = g.sums * (y * g.width + x) + i

abbrev pub numbered : Extent → Option ℕ → Option ℕ → Option ℕ → Option ℕ
numbered g None y i = None
numbered g (Some x) None i = None
numbered g (Some x) (Some y) None = None
numbered g (Some x) (Some y) (Some i) = Some (number_at g x y i)

-- the number of a cell, if the plate holds it
abbrev pub number_of : Extent → Cell → Option ℕ
number_of g c = numbered g (below c.x g.width) (below c.y g.height) (below (cell_sum c -ℤ g.lowest) g.sums)

-- the sum of the cell with a number
abbrev pub sum_at : Extent → ℕ → ℤ
sum_at g n = g.lowest +ℤ pos (n % g.sums)

-- the cell with a number
abbrev pub cell_at : Extent → ℕ → Cell
cell_at g n = record {
  x = pos (n / g.sums % g.width);
  y = pos (n / g.sums / g.width);
  z = sum_at g n -ℤ pos (n / g.sums % g.width) -ℤ pos (n / g.sums / g.width);
}

-- numbers and cells fix each other
pub record Numbering (g : Extent) : Type 0 where
  pub number : (n : ℕ) → n < cell_count g → number_of g (cell_at g n) ≡ Some n
  pub within : (c : Cell) (n : ℕ) → number_of g c ≡ Some n → n < cell_count g
  pub cell : (c : Cell) (n : ℕ) → number_of g c ≡ Some n → cell_at g n ≡ c

-- where the step by a vector leads the cell with a number; none where it leaves the plate
abbrev pub stepped : Extent → Vector → ℕ → Option ℕ
stepped g v n = number_of g (moved (cell_at g n) v)
