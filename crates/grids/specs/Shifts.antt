-- A step by what it adds to the column, the row and the sum of a cell. Only private functions cite this. Assumes nothing.
use Rattle.std.specs.Prelude.{◌≡◌, ℕ, ◌/◌, ◌%◌, pos, ◌+ℤ◌, Option}
use Rattle.grids.specs.declared.vectors.Shift.{Shift}
use Rattle.grids.specs.declared.vectors.Vector.{Vector}
use Rattle.grids.specs.Cells.{Extent, below, numbered, vector_sum}

-- what the step by a vector adds
pub record Adds (v : Vector) (s : Shift) : Type 0 where
  pub column : s.column ≡ v.a
  pub row : s.row ≡ v.b
  pub sum : s.sum ≡ vector_sum v

-- the number of the cell whose column, row and sum are those of the cell with a number, shifted
abbrev pub shifted : Extent → Shift → ℕ → Option ℕ
shifted g s n =
    numbered g (below (pos (n / g.sums % g.width) +ℤ s.column) g.width) (below (pos (n / g.sums / g.width) +ℤ s.row) g.height) (below (pos (n % g.sums) +ℤ s.sum) g.sums)
