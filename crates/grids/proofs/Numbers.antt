-- What the number of a cell is made of: its column, its row and its layer. Assumes nothing.
use Rattle.std.proofs.Common.{◌≡◌, ℕ, ◌+◌, ◌*◌, ◌/◌, ◌%◌, ◌<◌, ℤ, pos, Some, ap, ◌∙◌, arith}
use Rattle.std.proofs.lemmas.Bool.Decides.{nat_tests}
use Rattle.std.proofs.lemmas.Nat.{rows, div-mul-add, mod-mul-add}
use Rattle.grids.specs.Cells.{Extent, below, number_at, cell_count}
use Rattle.grids.specs.Extents.{Sized}

-- the parts of a number below the count are in range, and make it
pub record Split (g : Extent) (n : ℕ) : Type 0 where
  pub column : n / g.sums % g.width < g.width
  pub row : n / g.sums / g.width < g.height
  pub layer : n % g.sums < g.sums
  pub whole : number_at g (n / g.sums % g.width) (n / g.sums / g.width) (n % g.sums) ≡ n

pub split : (g : Extent) (n : ℕ) → Sized g → n < cell_count g → Split g n
split g n s h = grind (arith, rows)

-- a number made of parts in range has these parts, and is below the count
pub record Made (g : Extent) (x y i n : ℕ) : Type 0 where
  pub column : n / g.sums % g.width ≡ x
  pub row : n / g.sums / g.width ≡ y
  pub layer : n % g.sums ≡ i
  pub within : n < cell_count g

pub make : (g : Extent) (x y i : ℕ) → x < g.width → y < g.height → i < g.sums → Made g x y i (number_at g x y i)
make g x y i p q r =
    let turn : number_at g x y i ≡ (y * g.width + x) * g.sums + i = omega arith in
    let div : number_at g x y i / g.sums ≡ y * g.width + x = ap (λ n. n / g.sums) turn ∙ div-mul-add _ _ i r in
    record {
      column = rw div (mod-mul-add y g.width x p);
      row = rw div (div-mul-add y g.width x p);
      layer = rw turn (mod-mul-add _ _ i r);
      within = grind arith;
    }

pub below_some : (z : ℤ) (n t : ℕ) → below z n ≡ Some t → (t < n) × (z ≡ pos t)
below_some z n t h = grind (arith, nat_tests)

pub some_below : (z : ℤ) (n t : ℕ) → t < n → z ≡ pos t → below z n ≡ Some t
some_below z n t h e = grind (arith, nat_tests)
