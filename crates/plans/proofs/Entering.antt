-- What a plan takes that is entered again, part by part. Assumes nothing.
use Rattle.std.proofs.Common.{◌≡◌, ℕ, zero, suc, ◌≤◌, Bool, true, false, cond, not, ◌&&◌, eqb, ltb, List, [], ◌∷◌, ◌++◌, length, Some, None, Ok, Err, Option, sym, refl, ap, ◌∙◌, arith}
use Rattle.std.proofs.lemmas.List.{length-append}
use Rattle.std.proofs.lemmas.List.Folds.{list_any-append, list_all-append}
use Rattle.std.proofs.lemmas.Bool.Decides.{nat_tests}
use Rattle.std.specs.List.{list_any}
use Rattle.std.proofs.lemmas.Bool.{and_parts, or_parts, or_from, not-true, lt-ltb, cond-true, cond-false}
use Rattle.layers.specs.Layers.{distinct, kill_answer}
use Rattle.plates.specs.Lists.{below}
use Rattle.grids.specs.Extents.{lawful_size}
use Rattle.grids.proofs.SameVectors.{same_swap}
use Rattle.grids.specs.Vectors.{same}
use Rattle.grids.specs.declared.vectors.Vector.{Vector}
use Rattle.plans.specs.declared.faults.PlanFault.TheVariants as fault
use Rattle.plans.specs.declared.modes.Mode.{Mode}
use Rattle.plans.specs.declared.modes.Mode.TheVariants.{Strict, Weak, Independent, Strong}
use Rattle.plans.specs.Drawings.{Drawing}
use Rattle.plans.specs.Fitting.{drawn, list_answer}
use Rattle.plans.specs.Modes.{mode_of, mode_number}
use Rattle.plans.specs.Plans.{Design, with_none_dead, planned}
use Rattle.plans.specs.Vectors.{different}

pub mode_restored : (m : Mode) → mode_of (mode_number m) ≡ Some m
mode_restored Strict = refl
mode_restored Weak = refl
mode_restored Independent = refl
mode_restored Strong = refl

pub mode_named : (n : ℕ) (m : Mode) → mode_of n ≡ Some m → mode_number m ≡ n
mode_named zero m h = cc
mode_named (suc zero) m h = cc
mode_named (suc (suc zero)) m h = cc
mode_named (suc (suc (suc zero))) m h = cc
mode_named (suc (suc (suc (suc zero)))) m h = cc
mode_named (suc (suc (suc (suc (suc n))))) m h = cc

pub planned_design : (m : Mode) (w h : ℕ) → lawful_size w h ≡ true → planned (mode_number m) w h ≡ Ok (record { drawing = record { mode = m; width = w; height = h; elements = [] }; dead = [] })
planned_design m w h ok = ap (λ o. with_none_dead (drawn o w h)) (mode_restored m) ∙ ap with_none_dead (cond-true _ _ _ ok)

abbrev empty : Mode → ℕ → ℕ → Drawing
empty m w h = record { mode = m; width = w; height = h; elements = [] }

-- what is said of a plan that was asked for
abbrev pub PlannedParts : ℕ → ℕ → ℕ → Design → Type 0
PlannedParts n w h d = (mode_number d.drawing.mode ≡ n) × (d.drawing.width ≡ w) × (d.drawing.height ≡ h) × (d.drawing.elements ≡ []) × (d.dead ≡ []) × (lawful_size w h ≡ true)

pub planned_parts : (n w h : ℕ) (d : Design) → planned n w h ≡ Ok d → PlannedParts n w h d
planned_parts n w h d = of_mode (mode_of n) refl
  where
    of_size : (m : Mode) → mode_of n ≡ Some m → (b : Bool) → lawful_size w h ≡ b → with_none_dead (cond b (Ok (empty m w h)) (Err fault.Size)) ≡ Ok d → PlannedParts n w h d
    of_size m is true ok made =
        let same : d ≡ record { drawing = empty m w h; dead = [] } = cc in
        rw same (mode_named n m is, refl, refl, refl, refl, ok)
    of_size m is false ok made = cc

    of_mode : (o : Option Mode) → mode_of n ≡ o → with_none_dead (drawn o w h) ≡ Ok d → PlannedParts n w h d
    of_mode None is made = cc
    of_mode (Some m) is made = of_size m is (lawful_size w h) refl made

-- lists in which no element stands twice, by a test that asks both ways alike: what stands behind xs in one is not in xs
module _ {X : Type 0} (same : X → X → Bool) (swap : (x y : X) → same x y ≡ same y x) (apart : List X → Bool) (step : (x : X) (xs : List X) → apart (x ∷ xs) ≡ (not (list_any (λ y. same y x) xs) && apart xs)) where
  new : (xs ys : List X) (x : X) → apart (xs ++ x ∷ ys) ≡ true → list_any (λ y. same y x) xs ≡ false
  new [] ys x h = refl
  new (u ∷ us) ys x h =
      let p = and_parts _ _ (sym (step u (us ++ x ∷ ys)) ∙ h) in
      let other = or_parts (list_any (λ y. same y u) us) _ (sym (list_any-append (λ y. same y u) us (x ∷ ys)) ∙ not-true _ p.0) in
      or_from (same u x) _ (swap u x ∙ (or_parts (same x u) _ other.1).0) (new us ys x p.1)

-- there is room for one that stands in a list of at most n
room : {X : Type 0} (n : ℕ) (xs ys : List X) (x : X) → length (xs ++ x ∷ ys) ≤ n → ltb (length xs) n ≡ true
room n xs ys x h = lt-ltb _ _ (omega (arith, length-append xs (x ∷ ys)))

-- a vector after those before it is accepted
pub list_takes : (vs qs : List Vector) (v : Vector) → different (vs ++ v ∷ qs) ≡ true → length (vs ++ v ∷ qs) ≤ 32 → list_answer vs v ≡ Ok tt
list_takes vs qs v apart few = cond-false _ _ _ (new same same_swap different (λ _ _. refl) vs qs v apart) ∙ cond-true _ _ _ (room 32 vs qs v few)

equal_swap : (m n : ℕ) → eqb m n ≡ eqb n m
equal_swap m n = grind (arith, nat_tests)

a_cell : (n : ℕ) (ds es : List ℕ) (c : ℕ) → below n (ds ++ c ∷ es) ≡ true → ltb c n ≡ true
a_cell n ds es c h = (and_parts (ltb c n) _ (and_parts (below n ds) _ (sym (list_all-append (λ d. ltb d n) ds (c ∷ es)) ∙ h)).1).0

-- and so is a dead cell
pub dead_takes : (n : ℕ) (ds es : List ℕ) (c : ℕ) → below n (ds ++ c ∷ es) ≡ true → distinct (ds ++ c ∷ es) ≡ true → length (ds ++ c ∷ es) ≤ 64 → kill_answer n ds c ≡ Ok tt
dead_takes n ds es c within apart few =
    cond-true _ _ _ (a_cell n ds es c within) ∙ cond-false _ _ _ (new eqb equal_swap distinct (λ _ _. refl) ds es c apart) ∙ cond-true _ _ _ (room 64 ds es c few)
