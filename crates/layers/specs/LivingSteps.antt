-- Which steps a plate keeps where cells are dead. Assumes nothing.
use Rattle.std.specs.Prelude.{◌≡◌, ℕ, List, Some, None, Option}
use Rattle.std.proofs.Common.{arith}
use Rattle.plates.specs.TwoWays.{OneSource}
use Rattle.layers.specs.Layers.{living, without}
use Rattle.plates.specs.Meanings.{Meaning, Sound}

living_some : (dead : List ℕ) (o : Option ℕ) (t : ℕ) → living dead o ≡ Some t → o ≡ Some t
living_some dead (Some u) t h = grind arith
living_some dead None t h = h

-- a step that is kept is one of the plate below
step_below : (dead : List ℕ) (m : Meaning) (e p c t : ℕ) → (without dead m).target e p c ≡ Some t → m.target e p c ≡ Some t
step_below dead m e p c t h = grind (arith, living_some dead (m.target e p c) t)

pub without_sound : (dead : List ℕ) (m : Meaning) → Sound m → Sound (without dead m)
without_sound dead m s = record {
  some_cells = s.some_cells;
  few_cells = s.few_cells;
  few_elements = s.few_elements;
  few_places = s.few_places;
  no_element = s.no_element;
  placed = λ e p c t h. s.placed e p c t (step_below dead m e p c t h);
  starts = λ e p c t h. s.starts e p c t (step_below dead m e p c t h);
  ends = λ e p c t h. s.ends e p c t (step_below dead m e p c t h);
}

pub without_single : (dead : List ℕ) (m : Meaning) → OneSource m → OneSource (without dead m)
without_single dead m single e p c d t h k = single e p c d t (step_below dead m e p c t h) (step_below dead m e p d t k)
