-- What a plate means: its cells, its elements, and where each place of an element leads each cell. Assumes nothing.
use Rattle.std.specs.Prelude.{◌≡◌, ℕ, ◌<◌, ◌≤◌, Some, Option}

-- A plate is a finite set of cells, numbered from 0, with structuring elements, numbered from 0.
-- An element is a bundle of partial maps, its places: `fan` says how many it has, and `target` takes the element, the place and
-- the cell, and gives the one cell that the place leads it to, or none.
pub record Meaning : Type 0 where
  pub cells : ℕ
  pub elements : ℕ
  pub fan : ℕ → ℕ
  pub target : ℕ → ℕ → ℕ → Option ℕ

-- the limits that every plate keeps
pub record Sound (m : Meaning) : Type 0 where
  pub some_cells : 1 ≤ m.cells
  pub few_cells : m.cells ≤ 24576
  pub few_elements : m.elements ≤ 8
  pub few_places : (e : ℕ) → m.fan e ≤ 64
  -- an element that does not exist has no places
  pub no_element : (e : ℕ) → m.elements ≤ e → m.fan e ≡ 0
  -- only a place below the fan leads somewhere, only from a cell of the plate, and only to a cell of the plate
  pub placed : (e p c t : ℕ) → m.target e p c ≡ Some t → p < m.fan e
  pub starts : (e p c t : ℕ) → m.target e p c ≡ Some t → c < m.cells
  pub ends : (e p c t : ℕ) → m.target e p c ≡ Some t → t < m.cells
