-- Which cells a place leads to a cell, and the plate with every step turned round. Assumes nothing.
use Rattle.std.specs.Prelude.{◌≡◌, ℕ, zero, suc, ◌+◌, ◌<◌, ◌≤◌, Bool, true, false, cond, ◌∷◌, Some, None, filter, Option, ◌≢◌, refl}
use Rattle.std.proofs.Common.{sym, ap, ◌∙◌, arith}
use Rattle.std.specs.List.{range_with_len, slice_get}
use Rattle.std.proofs.lemmas.List.Elements.{filter_passes}
use Rattle.std.proofs.lemmas.Bool.{both_ways}
use Rattle.std.proofs.lemmas.Bool.Decides.{nat_tests}
use Rattle.plates.specs.TwoWays.{OneSource, Source}
use Rattle.layers.specs.Layers.{hits, sources, reflected}
use Rattle.plates.specs.Meanings.{Meaning, Sound}
use Rattle.plates.specs.Soundness.{got}

hits_some : (t : ℕ) (o : Option ℕ) → hits t o ≡ true → o ≡ Some t
hits_some t (Some u) h = grind (arith, nat_tests)
hits_some t None h = cc

some_hits : (t : ℕ) (o : Option ℕ) → o ≡ Some t → hits t o ≡ true
some_hits t (Some u) is = grind (arith, nat_tests)
some_hits t None is = cc

-- the one number from a on that passes a test is the first that is kept
module _ (test : ℕ → Bool) (c : ℕ) (passes : test c ≡ true) (only : (d : ℕ) → test d ≡ true → d ≡ c) where
  first_kept : (a n : ℕ) → a ≤ c → c < a + n → slice_get (filter test (range_with_len a n)) 0 ≡ Some c
  first_kept a zero low high = absurd (omega arith)
  first_kept a (suc n) low high = step (test a) refl (λ apart. first_kept (a + 1) n (omega arith) (omega arith))
    where
      step : (b : Bool) → test a ≡ b → ((a ≢ c) → slice_get (filter test (range_with_len (a + 1) n)) 0 ≡ Some c) → slice_get (cond b (a ∷ filter test (range_with_len (a + 1) n)) (filter test (range_with_len (a + 1) n))) 0 ≡ Some c
      step true is further = ap Some (only a is)
      step false is further = further (λ same. both_ways (test a) is (ap test same ∙ passes))

-- what the search finds is led to t
source_leads : (m : Meaning) (e p t c : ℕ) → slice_get (sources m e p t) 0 ≡ Some c → m.target e p c ≡ Some t
source_leads m e p t c is = hits_some t _ (got (λ d. hits t (m.target e p d) ≡ true) (sources m e p t) 0 c (filter_passes (λ d. hits t (m.target e p d)) (range_with_len 0 m.cells)) is)

-- the one cell that is led to t is found
source_found : (m : Meaning) → Sound m → (e p t c : ℕ) → m.target e p c ≡ Some t → ((d : ℕ) → m.target e p d ≡ Some t → d ≡ c) → slice_get (sources m e p t) 0 ≡ Some c
source_found m s e p t c led only =
    let within : c < m.cells = s.starts e p c t led in
    first_kept (λ d. hits t (m.target e p d)) c (some_hits t _ led) (λ d hit. only d (hits_some t _ hit)) 0 m.cells (omega arith) (omega arith)

-- a source is what the search finds
pub source_is : (m : Meaning) → Sound m → (e p t : ℕ) (r : Option ℕ) → Source m e p t r → r ≡ slice_get (sources m e p t) 0
source_is m s e p t (Some c) h = sym (source_found m s e p t c ((h c).0 refl) (λ d led. let is : Some c ≡ Some d = (h d).1 led in cc))
source_is m s e p t None h = none (slice_get (sources m e p t) 0) refl
  where
    none : (q : Option ℕ) → slice_get (sources m e p t) 0 ≡ q → None ≡ q
    none (Some d) is = (h d).1 (source_leads m e p t d is)
    none None is = refl

-- where a step ends is where it starts once it is turned round
pub target_turned : (m : Meaning) → Sound m → OneSource m → (e p t : ℕ) (r : Option ℕ) → r ≡ m.target e p t → Source (reflected m) e p t r
target_turned m s single e p t r is c = (
  (λ there. let led : m.target e p t ≡ Some c = sym is ∙ there in source_found m s e p c t led (λ d also. single e p d t c also led)),
  (λ found. is ∙ source_leads m e p c t found),
)

pub reflected_sound : (m : Meaning) → Sound m → Sound (reflected m)
reflected_sound m s = record {
  some_cells = s.some_cells;
  few_cells = s.few_cells;
  few_elements = s.few_elements;
  few_places = s.few_places;
  no_element = s.no_element;
  placed = λ e p c t is. s.placed e p t c (source_leads m e p c t is);
  starts = λ e p c t is. s.ends e p t c (source_leads m e p c t is);
  ends = λ e p c t is. s.starts e p t c (source_leads m e p c t is);
}

pub reflected_single : (m : Meaning) → OneSource (reflected m)
reflected_single m e p c d t is also =
    let first : m.target e p t ≡ Some c = source_leads m e p c t is in
    let second : m.target e p t ≡ Some d = source_leads m e p d t also in
    cc
