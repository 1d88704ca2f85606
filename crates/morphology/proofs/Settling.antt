-- Openings by one element and closings by one element settle at once. Assumes nothing.
use Rattle.std.proofs.Common.{◌≡◌, ℕ, Bool, true, false, not, ◌&&◌, ◌||◌, ◌⊎◌, List, [], ◌∷◌, map, Some, None, Option, sym, refl, ap, ◌∙◌, subst, ap₂, arith}
use Rattle.std.specs.Option.{option_map}
use Rattle.std.proofs.lemmas.List.Elements.{All-head, All-tail}
use Rattle.kinds.specs.Lattices.{Values, Lawful}
use Rattle.plates.specs.Meanings.{Meaning, Sound}
use Rattle.morphology.specs.Pictures.{Below}
use Rattle.morphology.specs.Moves.{opened, closed}
use Rattle.morphology.specs.Histories.{Call, Step, by, accepted, end}
use Rattle.morphology.specs.Statements.{Footprint, Cleans, Alike, first, last, opens, closes, some_step, both, HistoriesHold}
use Rattle.morphology.specs.declared.words.Move.TheVariants.{Open, Close}
use Rattle.morphology.proofs.Adjoints.{Closing, Flip, flipped, alternates}
use Rattle.morphology.proofs.Adjunction.{pictures, closed_up, opened_down}
use Rattle.morphology.proofs.HistoryLaws.{walked, end_walked, monotone, adjoint}

-- the step of an opening by o (true), or of a closing by c (false)
abbrev cleaning : ℕ → ℕ → Bool → Step
cleaning o c true = by Open o
cleaning o c false = by Close c

abbrev is_opening : Step → Bool
is_opening s = opens s.move

abbrev Cleaning : ℕ → ℕ → Step → Type 0
Cleaning o c s = (s ≡ by Open o) ⊎ (s ≡ by Close c)

-- steps that clean are openings and closings
as_cleanings : (o c : ℕ) (ss : List Step) → Cleans o c ss → ss ≡ map (cleaning o c) (map is_opening ss)
as_cleanings o c [] all = refl
as_cleanings o c (s ∷ ss) all =
    let first = All-head (Cleaning o c) s ss all in
    let rest = as_cleanings o c ss (All-tail (Cleaning o c) s ss all) in
    grind (arith, first, rest)

-- the first and the last of a list of openings and closings that begins with x, and whether both occur
abbrev last_of : Bool → List Bool → Bool
last_of x [] = x
last_of x (y ∷ ys) = last_of y ys

abbrev some_true : List Bool → Bool
some_true [] = false
some_true (x ∷ xs) = x || some_true xs

abbrev some_false : List Bool → Bool
some_false [] = false
some_false (x ∷ xs) = not x || some_false xs

abbrev mixed : List Bool → Bool
mixed xs = some_true xs && some_false xs

abbrev differ : Bool → Bool → Bool
differ true y = not y
differ false y = y

abbrev first_of : List Bool → Option Bool
first_of [] = None
first_of (x ∷ xs) = Some x

abbrev end_of : List Bool → Option Bool
end_of [] = None
end_of (x ∷ xs) = Some (last_of x xs)

first_opening : (ss : List Step) → option_map is_opening (first ss) ≡ first_of (map is_opening ss)
first_opening [] = refl
first_opening (s ∷ ss) = refl

last_opening : (ss : List Step) → option_map is_opening (last ss) ≡ end_of (map is_opening ss)
last_opening [] = refl
last_opening (s ∷ []) = refl
last_opening (s ∷ t ∷ ss) = last_opening (t ∷ ss)

some_opening : (ss : List Step) → some_step opens ss ≡ some_true (map is_opening ss)
some_opening [] = refl
some_opening (s ∷ ss) = ap (λ b. is_opening s || b) (some_opening ss)

some_closing : (o c : ℕ) (ss : List Step) → Cleans o c ss → some_step closes ss ≡ some_false (map is_opening ss)
some_closing o c [] all = refl
some_closing o c (s ∷ ss) all =
    let first = All-head (Cleaning o c) s ss all in
    let rest = some_closing o c ss (All-tail (Cleaning o c) s ss all) in
    grind (arith, first, rest)

both_mixed : (o c : ℕ) (ss : List Step) → Cleans o c ss → both ss ≡ mixed (map is_opening ss)
both_mixed o c ss all = ap₂ ◌&&◌ (some_opening ss) (some_closing o c ss all)

mixed_more : (x y : Bool) (ys : List Bool) → mixed (x ∷ y ∷ ys) ≡ (differ x y || mixed (y ∷ ys))
mixed_more x y ys = grind arith

module _ {V : Type 0} (k : Values V) (l : Lawful k) (m : Meaning) (s : Sound m) (o c : ℕ) where
  abbrev cleaned : Bool → List V → List V
  cleaned true = opened k m o
  cleaned false = closed k m c

  -- what openings and closings come to that begin with x and end with z, as both occur or not
  abbrev comes : Bool → Bool → Bool → List V → List V
  comes true true false a = cleaned true a
  comes true true true a = cleaned true (cleaned false (cleaned true a))
  comes true false both a = cleaned false (cleaned true a)
  comes false true both a = cleaned true (cleaned false a)
  comes false false false a = cleaned false a
  comes false false true a = cleaned false (cleaned true (cleaned false a))

  opening : Closing (Footprint m) (Flip (Below k)) (opened k m o)
  opening = opened_down k l m s o

  closing : Closing (Footprint m) (Below k) (closed k m c)
  closing = closed_up k l m s c

  cleaned_fits : (x : Bool) (a : List V) → Footprint m (cleaned x a)
  cleaned_fits true a = opening.fits a
  cleaned_fits false a = closing.fits a

  again : (x : Bool) (a : List V) → Footprint m a → cleaned x (cleaned x a) ≡ cleaned x a
  again true a fa = opening.again a fa
  again false a fa = closing.again a fa

  -- one more in front
  comes_more : (x y z b : Bool) (a : List V) → Footprint m a → comes y z b (cleaned x a) ≡ comes x z (differ x y || b) a
  comes_more true true true false a fa = again true a fa
  comes_more true true true true a fa = ap (λ u. cleaned true (cleaned false u)) (again true a fa)
  comes_more true true false b a fa = ap (cleaned false) (again true a fa)
  comes_more true false true b a fa = refl
  comes_more true false false false a fa = refl
  comes_more true false false true a fa = alternates (pictures k l m s) opening closing a fa
  comes_more false true true false a fa = refl
  comes_more false true true true a fa = alternates (flipped (pictures k l m s)) closing opening a fa
  comes_more false true false b a fa = refl
  comes_more false false true b a fa = ap (cleaned true) (again false a fa)
  comes_more false false false false a fa = again false a fa
  comes_more false false false true a fa = ap (λ u. cleaned false (cleaned true u)) (again false a fa)

  abbrev walks : List Bool → List V → List V
  walks xs a = walked k l m s (map (cleaning o c) xs) a

  walks_more : (x : Bool) (xs : List Bool) (a : List V) → walks (x ∷ xs) a ≡ walks xs (cleaned x a)
  walks_more true xs a = refl
  walks_more false xs a = refl

  comes_one : (x : Bool) (a : List V) → cleaned x a ≡ comes x x (mixed (x ∷ [])) a
  comes_one x a = grind arith

  comes_to : (x : Bool) (xs : List Bool) (a : List V) → Footprint m a → walks (x ∷ xs) a ≡ comes x (last_of x xs) (mixed (x ∷ xs)) a
  comes_to x [] a fa = walks_more x [] a ∙ comes_one x a
  comes_to x (y ∷ ys) a fa =
      walks_more x (y ∷ ys) a
      ∙ comes_to y ys (cleaned x a) (cleaned_fits x a)
      ∙ comes_more x y (last_of y ys) (mixed (y ∷ ys)) a fa
      ∙ ap (λ b. comes x (last_of y ys) b a) (sym (mixed_more x y ys))

  same_walks : (xs ys : List Bool) (a : List V) → Footprint m a → first_of xs ≡ first_of ys → end_of xs ≡ end_of ys → mixed xs ≡ mixed ys → walks xs a ≡ walks ys a
  same_walks [] [] a fa p q r = refl
  same_walks [] (y ∷ ys) a fa p q r = cc
  same_walks (x ∷ xs) [] a fa p q r = cc
  same_walks (x ∷ xs) (y ∷ ys) a fa p q r =
      let firsts : x ≡ y = cc in
      let lasts : last_of x xs ≡ last_of y ys = cc in
      comes_to x xs a fa ∙ (λ i. comes (firsts i) (lasts i) (r i) a) ∙ sym (comes_to y ys a fa)

  pub settled : (cs ds : List Call) (a : List V) → Footprint m a → Cleans o c (accepted m cs) → Cleans o c (accepted m ds) → Alike (accepted m cs) (accepted m ds) → end k m cs a ≡ end k m ds a
  settled cs ds a fa p q alike =
      ending cs p
      ∙ same_walks (openings cs) (openings ds) a fa
      (sym (first_opening (accepted m cs)) ∙ ap (option_map is_opening) alike.same_first ∙ first_opening (accepted m ds))
      (sym (last_opening (accepted m cs)) ∙ ap (option_map is_opening) alike.same_last ∙ last_opening (accepted m ds))
      (sym (both_mixed o c (accepted m cs) p) ∙ alike.same_both ∙ both_mixed o c (accepted m ds) q)
      ∙ sym (ending ds q)
    where
      openings : List Call → List Bool
      openings es = map is_opening (accepted m es)

      ending : (es : List Call) → Cleans o c (accepted m es) → end k m es a ≡ walks (map is_opening (accepted m es)) a
      ending es h = end_walked k l m s es a fa ∙ ap (λ ss. walked k l m s ss a) (as_cleanings o c (accepted m es) h)

  -- over the opening of a and under its closing
  pub record Between (a b : List V) : Type 0 where
    pub above : Below k (opened k m o a) b
    pub below : Below k b (closed k m c a)

  cleaned_between : (x : Bool) (a b : List V) → Footprint m a → Footprint m b → Between a b → Between a (cleaned x b)
  cleaned_between true a b fa fb h = record {
    above = subst (λ u. Below k u (opened k m o b)) (opening.again a fa) (opening.keeps b (opened k m o a) fb (opening.fits a) h.above);
    below = (pictures k l m s).chain (opened k m o b) b (closed k m c a) (opening.over b fb) h.below;
  }
  cleaned_between false a b fa fb h = record {
    above = (pictures k l m s).chain (opened k m o a) b (closed k m c b) h.above (closing.over b fb);
    below = subst (Below k (closed k m c b)) (closing.again a fa) (closing.keeps b (closed k m c a) fb (closing.fits a) h.below);
  }

  walks_between : (xs : List Bool) (a b : List V) → Footprint m a → Footprint m b → Between a b → Between a (walks xs b)
  walks_between [] a b fa fb h = h
  walks_between (x ∷ xs) a b fa fb h =
      rw walks_more (walks_between xs a (cleaned x b) fa (cleaned_fits x b) (cleaned_between x a b fa fb h))

  pub between : (cs : List Call) (a : List V) → Footprint m a → Cleans o c (accepted m cs) → Between a (end k m cs a)
  between cs a fa p =
      subst (Between a) (sym (end_walked k l m s cs a fa ∙ ap (λ ss. walked k l m s ss a) (as_cleanings o c (accepted m cs) p)))
      (walks_between (map is_opening (accepted m cs)) a a fa fa (record { above = opening.over a fa; below = closing.over a fa }))

pub histories_hold : {V : Type 0} (k : Values V) → Lawful k → (m : Meaning) → Sound m → HistoriesHold k m
histories_hold k l m s = record {
  monotone = monotone k l m s;
  adjoint = adjoint k l m s;
  settled = λ o c. settled k l m s o c;
  above_opened = λ o c cs a fa p. (between k l m s o c cs a fa p).above;
  below_closed = λ o c cs a fa p. (between k l m s o c cs a fa p).below;
}
