-- A place leads a cell to another exactly when the other leads back to it. Assumes nothing.
use Rattle.std.proofs.Common.{◌≡◌, ℕ, ◌<◌, true, ◌↔◌, Some, Option, sym, ap, ◌∙◌, arith}
use Rattle.std.proofs.lemmas.Bool.Decides.{nat_tests}
use Rattle.std.proofs.lemmas.Grind.{common_steps}
use Rattle.grids.specs.declared.places.Movers.{Movers}
use Rattle.grids.specs.declared.places.Place.{Place}
use Rattle.grids.specs.Cells.{Extent, cell_count, sum_at, stepped, opposite}
use Rattle.grids.specs.Extents.{Sized}
use Rattle.grids.specs.Places.{moves, if_moved, led, led_back}
use Rattle.grids.proofs.Steps.{stepped_within, undone, opposite_opposite}

if_moved_some : (g : Extent) (m : Movers) (o : Option ℕ) (c : ℕ) → if_moved g m o ≡ Some c → (moves m (sum_at g c) ≡ true) × (o ≡ Some c)
if_moved_some g m o c h = grind (arith, common_steps)

module _ (g : Extent) (p : Place) (c t : ℕ) where
  -- what it says that a place leads c to t
  record Leads : Type 0 where
    starts : c < cell_count g
    moved : moves p.movers (sum_at g c) ≡ true
    steps : stepped g p.vector c ≡ Some t

  from_led : led g p c ≡ Some t → Leads
  from_led h = grind (arith, nat_tests)

  to_led : Leads → led g p c ≡ Some t
  to_led k = grind (arith, nat_tests)

  from_back : Sized g → led_back g p t ≡ Some c → Leads
  from_back s h =
      let there : (t < cell_count g) × (if_moved g p.movers (stepped g (opposite p.vector) t) ≡ Some c) = grind (arith, nat_tests) in
      let back = if_moved_some g p.movers _ c there.1 in
      record {
        starts = stepped_within g s (opposite p.vector) t c back.1;
        moved = back.0;
        steps = ap (λ v. stepped g v c) (sym (opposite_opposite p.vector)) ∙ undone g s (opposite p.vector) t c back.1 there.0;
      }

  to_back : Sized g → Leads → led_back g p t ≡ Some c
  to_back s k =
      let within = stepped_within g s p.vector c t k.steps in
      let back = undone g s p.vector c t k.steps k.starts in
      grind (arith, nat_tests)

pub forth_back : (g : Extent) → Sized g → (p : Place) (c t : ℕ) → led g p c ≡ Some t → led_back g p t ≡ Some c
forth_back g s p c t h = to_back g p c t s (from_led g p c t h)

pub back_forth : (g : Extent) → Sized g → (p : Place) (c t : ℕ) → led_back g p t ≡ Some c → led g p c ≡ Some t
back_forth g s p c t h = to_led g p c t (from_back g p c t s h)

-- a cell that is led somewhere is on the plate
pub led_starts : (g : Extent) (p : Place) (c t : ℕ) → led g p c ≡ Some t → c < cell_count g
led_starts g p c t h = (from_led g p c t h).starts

-- and so is its target
pub led_ends : (g : Extent) → Sized g → (p : Place) (c t : ℕ) → led g p c ≡ Some t → t < cell_count g
led_ends g s p c t h = stepped_within g s p.vector c t (from_led g p c t h).steps

-- what answers as the back answer does is the way back
pub way_back : (g : Extent) → Sized g → (p : Place) (t : ℕ) (r : Option ℕ) → r ≡ led_back g p t → (c : ℕ) → (r ≡ Some c) ↔ (led g p c ≡ Some t)
way_back g s p t r is c = (λ h. back_forth g s p c t (sym is ∙ h), λ h. is ∙ forth_back g s p c t h)
