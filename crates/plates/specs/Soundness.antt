-- A block plate keeps the limits that every plate keeps. Assumes nothing.
use Rattle.std.specs.Prelude.{◌≡◌, ℕ, zero, suc, ◌<◌, ◌≤◌, List, [], length, Some, slice_index_or}
use Rattle.std.specs.List.{All, slice_get}
use Rattle.std.proofs.Common.{arith}
use Rattle.std.proofs.lemmas.List.{length-map}
use Rattle.std.proofs.lemmas.List.Elements.{All-get_or, All-map}
use Rattle.std.proofs.lemmas.Option.{get_or_from_slice_get, slice_get_within}
use Rattle.std.proofs.lemmas.Bool.Decides.{nat_tests}
use Rattle.plates.specs.declared.blocks.BlockPlate.{BlockPlate}
use Rattle.plates.specs.Blocks.{block_meaning, led_to}
use Rattle.plates.specs.Links.{links_of}
use Rattle.plates.specs.Meanings.{Sound}

-- what holds of each element of a list holds of one that is found there
pub got : {X : Type 0} (P : X → Type 0) (xs : List X) (k : ℕ) (x : X) → All P xs → slice_get xs k ≡ Some x → P x
got P xs k x all is = rw (get_or_from_slice_get xs k x x is) at (all k x (slice_get_within xs k x is))

-- only a place that has a neighbour leads somewhere
led_place : (c : ℕ) (xs : List ℕ) (p t : ℕ) → led_to c xs p ≡ Some t → p ≤ length xs
led_place c xs zero t is = omega arith
led_place c xs (suc k) t is = omega (arith, slice_get_within xs k t is)

-- a place leads a block of the plate to one
led_below : (n c : ℕ) (xs : List ℕ) (p t : ℕ) → c < n → All (λ x. x < n) xs → led_to c xs p ≡ Some t → t < n
led_below n c xs zero t lt all is = let same : c ≡ t = cc in omega arith
led_below n c xs (suc k) t lt all is = got (λ x. x < n) xs k t all is

-- what a target says of the element and the cell
record Led (links : List (List ℕ)) (e p c t : ℕ) : Type 0 where
  element : e ≡ 0
  cell : c < length links
  is : led_to c (slice_index_or links c []) p ≡ Some t

led : (links : List (List ℕ)) (e p c t : ℕ) → (block_meaning links).target e p c ≡ Some t → Led links e p c t
led links e p c t h = record { element = grind (arith, nat_tests); cell = grind (arith, nat_tests); is = grind (arith, nat_tests) }

pub blocks_sound : (p : BlockPlate) → Sound (block_meaning (links_of p))
blocks_sound p =
    let links = links_of p in
    let long : length links ≡ p.rows.len = omega (arith, length-map p.rows.items (λ row. row.items), p.rows.ok.0) in
    let narrow : All (λ row. length row ≤ 7) links = All-map (λ row. length row ≤ 7) (λ row. row.items) p.rows.items p.narrow in
    let within : All (All (λ x. x < p.rows.len)) links = All-map (All (λ x. x < p.rows.len)) (λ row. row.items) p.rows.items p.within in
    record {
      some_cells = omega (arith, p.some);
      few_cells = omega (arith, p.few);
      few_elements = omega arith;
      few_places = λ e. grind (arith, nat_tests);
      no_element = λ e past. grind (arith, nat_tests);
      placed = λ e q c t h. let l = led links e q c t h in let place = led_place c (slice_index_or links c []) q t l.is in let seven = All-get_or (λ row. length row ≤ 7) links c [] l.cell narrow in grind (arith, nat_tests);
      starts = λ e q c t h. (led links e q c t h).cell;
      ends = λ e q c t h. let l = led links e q c t h in rw long (led_below p.rows.len c (slice_index_or links c []) q t (rw long at l.cell) (All-get_or (All (λ x. x < p.rows.len)) links c [] l.cell within) l.is);
    }
