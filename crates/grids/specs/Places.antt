-- A place of an element: which cells it moves, and by which vector. Assumes nothing.
use Rattle.std.specs.Prelude.{ℕ, Bool, true, false, cond, ℤ, pos, negsuc, Some, None, Option, ◌==◌, nat_lt}
use Rattle.grids.specs.declared.places.Movers.{Movers}
use Rattle.grids.specs.declared.places.Movers.TheVariants.{Every, Even, Odd}
use Rattle.grids.specs.declared.places.Place.{Place}
use Rattle.grids.specs.Cells.{Extent, cell_count, sum_at, stepped, opposite}

abbrev pub is_sum : ℕ → ℤ → Bool
is_sum k (pos n) = n == k
is_sum k (negsuc n) = false

-- whether cells of that sum are moved
abbrev pub moves : Movers → ℤ → Bool
moves Every s = true
moves Even s = is_sum 0 s
moves Odd s = is_sum 1 s

-- where a place leads the cell with a number
abbrev pub led : Extent → Place → ℕ → Option ℕ
led g p n = cond (nat_lt n (cell_count g)) (cond (moves p.movers (sum_at g n)) (stepped g p.vector n) None) None

-- a cell, if the place moves it
abbrev pub if_moved : Extent → Movers → Option ℕ → Option ℕ
if_moved g m None = None
if_moved g m (Some n) = cond (moves m (sum_at g n)) (Some n) None

-- the cell that a place leads to the cell with a number: the opposite step leads there, and the place moves it
abbrev pub led_back : Extent → Place → ℕ → Option ℕ
led_back g p t = cond (nat_lt t (cell_count g)) (if_moved g p.movers (stepped g (opposite p.vector) t)) None
