-- Dilating and eroding by one element are adjoint. Assumes nothing.
use Rattle.std.proofs.Common.{◌≡◌, ℕ, ◌<◌, List, map, Some, sym, ◌∙◌, subst, arith}
use Rattle.std.specs.List.{All}
use Rattle.std.proofs.lemmas.List.FromFn.{length-map-range_with_len, get_or-map-range_with_len}
use Rattle.std.proofs.lemmas.List.{get_or-map, length-map}
use Rattle.std.proofs.lemmas.List.Elements.{All-map}
use Rattle.kinds.specs.Lattices.{Values, Lawful, Under}
use Rattle.plates.specs.Meanings.{Meaning, Sound}
use Rattle.morphology.specs.Pictures.{Below, at}
use Rattle.morphology.specs.Moves.{reached, reaching, dilated_at, eroded_at, dilated, eroded, opened, closed}
use Rattle.morphology.specs.Statements.{Footprint}
use Rattle.morphology.proofs.Adjoints.{Order, Adjoint, Closing, Flip, flipped, turned, closing}
use Rattle.morphology.proofs.Joins.{join_all_lowest, join_all_over, meet_all_highest, meet_all_under}
use Rattle.morphology.proofs.Orders.{below_itself, below_chain, below_equal}
use Rattle.morphology.proofs.Reaches.{reached_all, reached_each, reaching_all, reaching_each}

map_all : {X Y : Type 0} (P : X → Type 0) (f : Y → X) (ys : List Y) → All P (map f ys) → All (λ y. P (f y)) ys
map_all P f ys all i d lt = grind (arith, get_or-map f ys i d (f d) lt, length-map ys f, all i (f d))

module _ {V : Type 0} (k : Values V) (l : Lawful k) (m : Meaning) (s : Sound m) where
  pub pictures : Order (Below k)
  pictures = record { itself = below_itself k l; chain = below_chain k l; equal = below_equal k l }

  module _ (e : ℕ) where
    -- each step leads from a value of a to a value of b over it: what both sides of the adjunction say
    abbrev Led : List V → List V → Type 0
    Led a b = (p c x : ℕ) → m.target e p c ≡ Some x → Under k (at k a c) (at k b x)

    dilated_fits : (a : List V) → Footprint m (dilated k m e a)
    dilated_fits a = length-map-range_with_len (dilated_at k m e a) 0 m.cells

    eroded_fits : (a : List V) → Footprint m (eroded k m e a)
    eroded_fits a = length-map-range_with_len (eroded_at k m e a) 0 m.cells

    at_dilated : (a : List V) (x : ℕ) → x < m.cells → at k (dilated k m e a) x ≡ dilated_at k m e a x
    at_dilated a x lt = get_or-map-range_with_len (dilated_at k m e a) 0 m.cells x x k.least lt (omega arith)

    at_eroded : (a : List V) (c : ℕ) → c < m.cells → at k (eroded k m e a) c ≡ eroded_at k m e a c
    at_eroded a c lt = get_or-map-range_with_len (eroded_at k m e a) 0 m.cells c c k.least lt (omega arith)

    dilated_led : (a b : List V) → Below k (dilated k m e a) b → Led a b
    dilated_led a b under p c x is =
        let lt = s.ends e p c x is in
        let here : Under k (dilated_at k m e a x) (at k b x) = subst (λ v. Under k v (at k b x)) (at_dilated a x lt) (under.cells x (omega (arith, dilated_fits a))) in
        l.chain _ _ _ (reaching_each m s e (λ y. Under k (at k a y) (dilated_at k m e a x)) x (map_all (λ v. Under k v (dilated_at k m e a x)) (at k a) (reaching m e x) (join_all_over k l _)) p c is) here

    led_dilated : (a b : List V) → Footprint m b → Led a b → Below k (dilated k m e a) b
    led_dilated a b fb led = record {
      lengths = dilated_fits a ∙ sym fb;
      cells = λ x h.
          let lt : x < m.cells = omega (arith, dilated_fits a) in
          subst (λ v. Under k v (at k b x)) (sym (at_dilated a x lt)) (join_all_lowest k l _ _ (All-map (λ v. Under k v (at k b x)) (at k a) _ (reaching_all m s e _ x (λ p c is. led p c x is))));
    }

    eroded_led : (a b : List V) → Footprint m a → Below k a (eroded k m e b) → Led a b
    eroded_led a b fa under p c x is =
        let lt = s.starts e p c x is in
        let here : Under k (at k a c) (eroded_at k m e b c) = subst (λ v. Under k (at k a c) v) (at_eroded b c lt) (under.cells c (omega (arith, fa))) in
        l.chain _ _ _ here (reached_each m s e (λ y. Under k (eroded_at k m e b c) (at k b y)) c (map_all (λ v. Under k (eroded_at k m e b c) v) (at k b) (reached m e c) (meet_all_under k l _)) p x is)

    led_eroded : (a b : List V) → Footprint m a → Led a b → Below k a (eroded k m e b)
    led_eroded a b fa led = record {
      lengths = fa ∙ sym (eroded_fits b);
      cells = λ c h.
          let lt : c < m.cells = omega (arith, fa) in
          subst (λ v. Under k (at k a c) v) (sym (at_eroded b c lt)) (meet_all_highest k l _ _ (All-map (λ v. Under k (at k a c) v) (at k b) _ (reached_all m s e _ c (λ p x is. led p c x is))));
    }

    pub dilate_erode : Adjoint (Footprint m) (Below k) (dilated k m e) (eroded k m e)
    dilate_erode = record {
      δ_fits = dilated_fits;
      ε_fits = eroded_fits;
      adjoint = λ a b fa fb. (λ h. led_eroded a b fa (dilated_led a b h), λ h. led_dilated a b fb (eroded_led a b fa h));
    }

    -- closing leads up, opening leads down; both keep the order and are idempotent
    pub closed_up : Closing (Footprint m) (Below k) (closed k m e)
    closed_up = closing pictures dilate_erode

    pub opened_down : Closing (Footprint m) (Flip (Below k)) (opened k m e)
    opened_down = closing (flipped pictures) (turned dilate_erode)
