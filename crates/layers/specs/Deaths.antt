-- The dead cells that a layer holds, and how one is made. Assumes nothing.
use Rattle.std.specs.Prelude.{◌≡◌, ℕ, List, [], Ok, Err, vec_items, Result}
use Rattle.std.specs.declared.alloc.AllocFailed.{AllocFailed}
use Rattle.layers.specs.declared.dead.Dead.{Dead}

module _ {P : Type 0} where
  -- the dead cells in the order of their deaths
  abbrev pub dead_of : Dead P → List ℕ
  dead_of s = vec_items s.dead

  -- a layer over the plate given without a dead cell, or the plate back where memory is wanting
  abbrev pub Covers : P → Result (Dead P) (AllocFailed P) → Type 0
  Covers plate (Ok s) = (dead_of s ≡ []) × (s.lower ≡ plate)
  Covers plate (Err back) = back.value ≡ plate
