-- Numbers and cells fix each other, and a step and the opposite step undo each other. Assumes nothing.
use Rattle.std.proofs.Common.{◌≡◌, ℕ, ◌/◌, ◌%◌, ◌<◌, ℤ, pos, ◌+ℤ◌, ◌-ℤ◌, Some, Option, sym, refl, ap, ◌∙◌, arith}
use Rattle.std.proofs.lemmas.Grind.{common_steps}
use Rattle.std.proofs.lemmas.Int.{ints}
use Rattle.grids.specs.declared.vectors.Shift.{Shift}
use Rattle.grids.specs.declared.vectors.Vector.{Vector}
use Rattle.grids.specs.Cells.{Cell, Extent, Numbering, below, numbered, number_at, number_of, cell_count, cell_at, cell_sum, vector_sum, moved, opposite, stepped}
use Rattle.grids.specs.Extents.{Sized}
use Rattle.grids.specs.Shifts.{Adds, shifted}
use Rattle.grids.proofs.Numbers.{Made, split, make, below_some, some_below}

-- what a number t was made of
record Taken (g : Extent) (column row layer : ℤ) (t : ℕ) : Type 0 where
  x : ℕ
  y : ℕ
  i : ℕ
  x_is : column ≡ pos x
  y_is : row ≡ pos y
  i_is : layer ≡ pos i
  made : Made g x y i t

parts_of : (g : Extent) (x y i : Option ℕ) (t : ℕ) → numbered g x y i ≡ Some t → (a : ℕ) × (b : ℕ) × (c : ℕ) × (x ≡ Some a) × (y ≡ Some b) × (i ≡ Some c) × (number_at g a b c ≡ t)
parts_of g x y i t h = grind (arith, common_steps)

taken : (g : Extent) (column row layer : ℤ) (t : ℕ) → numbered g (below column g.width) (below row g.height) (below layer g.sums) ≡ Some t → Taken g column row layer t
taken g column row layer t h =
    let p = parts_of g _ _ _ t h in
    let x = below_some column g.width p.0 p.3 in
    let y = below_some row g.height p.1 p.4 in
    let i = below_some layer g.sums p.2 p.5 in
    record { x = p.0; y = p.1; i = p.2; x_is = x.1; y_is = y.1; i_is = i.1; made = rw p.6 at (make g p.0 p.1 p.2 x.0 y.0 i.0) }

cell_is : {c d : Cell} → c.x ≡ d.x → c.y ≡ d.y → c.z ≡ d.z → c ≡ d
cell_is p q r = λ i. record { x = p i; y = q i; z = r i }

-- numbers and cells fix each other
pub numbering : (g : Extent) → Sized g → Numbering g
numbering g sized = record {
  number = λ n lt.
      let here = split g n sized lt in
      let x = some_below (pos (n / g.sums % g.width)) g.width _ here.column refl in
      let y = some_below (pos (n / g.sums / g.width)) g.height _ here.row refl in
      let s = some_below (cell_sum (cell_at g n) -ℤ g.lowest) g.sums (n % g.sums) here.layer (omega (arith, ints)) in
      (λ i. numbered g (x i) (y i) (s i)) ∙ ap Some here.whole;
  within = λ c n is. (taken g c.x c.y (cell_sum c -ℤ g.lowest) n is).made.within;
  cell = λ c n is.
      let k = taken g c.x c.y (cell_sum c -ℤ g.lowest) n is in
      let x : (cell_at g n).x ≡ c.x = ap pos k.made.column ∙ sym k.x_is in
      let y : (cell_at g n).y ≡ c.y = ap pos k.made.row ∙ sym k.y_is in
      let z : (cell_at g n).z ≡ c.z = omega (arith, ints) in
      cell_is x y z;
}

-- in a step the column, the row and the sum change by what the vector adds to them
layer_of : (g : Extent) (v : Vector) (n : ℕ) → pos (n % g.sums) +ℤ vector_sum v ≡ cell_sum (moved (cell_at g n) v) -ℤ g.lowest
layer_of g v n = omega (arith, ints)

pub shifted_stepped : (g : Extent) (v : Vector) (s : Shift) (n : ℕ) (r : Option ℕ) → r ≡ shifted g s n → Adds v s → r ≡ stepped g v n
shifted_stepped g v s n r is adds =
    let layer = ap (λ z. pos (n % g.sums) +ℤ z) adds.sum ∙ layer_of g v n in
    is ∙ (λ i. numbered g (below (pos (n / g.sums % g.width) +ℤ adds.column i) g.width) (below (pos (n / g.sums / g.width) +ℤ adds.row i) g.height) (below (layer i) g.sums))

moved_moved : (c : Cell) (v : Vector) → moved (moved c v) (opposite v) ≡ c
moved_moved c v = cell_is (omega (arith, ints)) (omega (arith, ints)) (omega (arith, ints))

-- the opposite of the opposite is the vector itself
pub opposite_opposite : (v : Vector) → opposite (opposite v) ≡ v
opposite_opposite v = grind (arith, ints)

module _ (g : Extent) (sized : Sized g) (v : Vector) (n t : ℕ) (h : stepped g v n ≡ Some t) where
  -- a step ends on the plate
  pub stepped_within : t < cell_count g
  stepped_within = (numbering g sized).within _ t h

  -- and the opposite step leads back
  pub undone : n < cell_count g → stepped g (opposite v) t ≡ Some n
  undone lt =
      ap (λ c. number_of g (moved c (opposite v))) ((numbering g sized).cell _ t h) ∙ ap (number_of g) (moved_moved (cell_at g n) v)
      ∙ (numbering g sized).number n lt
