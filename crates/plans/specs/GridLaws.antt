-- A grid is a plate, and a two-way one. Assumes nothing.
use Rattle.std.specs.Prelude.{◌≡◌, ℕ, ◌<◌, ◌≤◌, Some, None, vec_items, Option, slice_index_or}
use Rattle.std.proofs.Common.{sym, ap, ◌∙◌, ⊎_elim, arith}
use Rattle.std.proofs.lemmas.List.{get_or_past, length-map}
use Rattle.std.proofs.lemmas.Bool.{cases_lt}
use Rattle.plates.specs.TwoWays.{OneSource, Source}
use Rattle.plates.specs.Meanings.{Sound}
use Rattle.grids.specs.Cells.{Extent, cell_count}
use Rattle.grids.specs.Extents.{Sized, extent}
use Rattle.grids.proofs.ForthBack.{forth_back, back_forth, led_starts, led_ends}
use Rattle.grids.proofs.Sizes.{sized, some_cells, few_cells}
use Rattle.grids.specs.declared.places.Place.{Place}
use Rattle.grids.specs.declared.shapes.Form.{Form}
use Rattle.plans.specs.declared.grid.Grid.{Grid}
use Rattle.plans.specs.Drawings.{Drawing, blank, fan_of, extent_in, place_in, led_by, led_back_by, grid}
use Rattle.plans.specs.Grids.{drawing_of}
use Rattle.plans.specs.Holdings.{lists_of}
use Rattle.plans.specs.Modes.{form_of}
use Rattle.plans.specs.Reading.{no_place, few}

-- a place, if there is one, leads c to t exactly when c is its back answer at t
by_forth_back : (g : Extent) → Sized g → (o : Option Place) (c t : ℕ) → led_by g o c ≡ Some t → led_back_by g o t ≡ Some c
by_forth_back g s None c t h = cc
by_forth_back g s (Some p) c t h = forth_back g s p c t h

by_back_forth : (g : Extent) → Sized g → (o : Option Place) (c t : ℕ) → led_back_by g o t ≡ Some c → led_by g o c ≡ Some t
by_back_forth g s None c t h = cc
by_back_forth g s (Some p) c t h = back_forth g s p c t h

by_starts : (g : Extent) (o : Option Place) (c t : ℕ) → led_by g o c ≡ Some t → c < cell_count g
by_starts g None c t h = cc
by_starts g (Some p) c t h = led_starts g p c t h

by_ends : (g : Extent) → Sized g → (o : Option Place) (c t : ℕ) → led_by g o c ≡ Some t → t < cell_count g
by_ends g s None c t h = cc
by_ends g s (Some p) c t h = led_ends g s p c t h

-- a place that leads somewhere is below the fan
by_placed : (d : Drawing) (e p c t : ℕ) → (grid d).target e p c ≡ Some t → p < (grid d).fan e
by_placed d e p c t leads = ⊎_elim (λ lt. lt) (λ past. absurd (none past)) (cases_lt p (fan_of (slice_index_or d.elements e blank)))
  where
    none : fan_of (slice_index_or d.elements e blank) ≤ p → ⊥
    none past =
        let no : None ≡ Some t = ap (λ o. led_by (extent_in d) o c) (no_place d.mode (slice_index_or d.elements e blank) p past) ∙ leads in
        cc

sized_form : (g : Grid) (f : Form) → Sized (extent f g.outline.shape.width g.outline.shape.height)
sized_form g f = let s = g.outline.shape in sized (record { form = f; width = s.width; height = s.height; wide = s.wide; narrow = s.narrow; high = s.high; low = s.low })

module _ (g : Grid) where
  abbrev drawing : Drawing
  drawing = drawing_of g

  in_size : Sized (extent_in (drawing_of g))
  in_size = sized_form g (form_of g.outline.mode)

  pub grid_sound : Sound (grid (drawing_of g))
  grid_sound = record {
    some_cells = some_cells _ in_size;
    few_cells = few_cells _ in_size;
    few_elements = omega (arith, g.table.few, g.table.elements.ok, length-map (vec_items g.table.elements) lists_of);
    few_places = few g.table;
    no_element = λ e past. ap fan_of (get_or_past drawing.elements e blank past);
    placed = by_placed drawing;
    starts = λ e p. by_starts (extent_in drawing) (place_in drawing e p);
    ends = λ e p. by_ends (extent_in drawing) in_size (place_in drawing e p);
  }

  pub grid_single : OneSource (grid (drawing_of g))
  grid_single e p c d t hc hd =
      let same : Some c ≡ Some d = sym (by_forth_back (extent_in drawing) in_size (place_in drawing e p) c t hc) ∙ by_forth_back (extent_in drawing) in_size (place_in drawing e p) d t hd in
      cc

  -- the back answer is the one cell that is led there
  pub grid_source : (e p t : ℕ) (r : Option ℕ) → r ≡ led_back_by (extent_in (drawing_of g)) (place_in (drawing_of g) e p) t → Source (grid (drawing_of g)) e p t r
  grid_source e p t r is c = (
    λ h. by_back_forth (extent_in drawing) in_size (place_in drawing e p) c t (sym is ∙ h),
    λ h. is ∙ by_forth_back (extent_in drawing) in_size (place_in drawing e p) c t h,
  )
