-- What holds of every history, over every plate and every kind. Assumes nothing.
use Rattle.std.specs.Prelude.{◌≡◌, ℕ, ◌≤◌, Bool, true, false, ◌&&◌, ◌||◌, ◌⊎◌, ◌↔◌, List, [], ◌∷◌, map, reverse, length, take, Some, None, Option}
use Rattle.std.specs.List.{All}
use Rattle.kinds.specs.Lattices.{Values}
use Rattle.plates.specs.Meanings.{Meaning, Sound}
use Rattle.morphology.specs.Pictures.{Below, area}
use Rattle.morphology.specs.Moves.{opened, closed}
use Rattle.morphology.specs.Histories.{Call, Step, by, accepted, answers, end}
use Rattle.morphology.specs.declared.words.Move.{Move}
use Rattle.morphology.specs.declared.words.Move.TheVariants.{Dilate, Erode, Open, Close}

-- a footprint is a picture with one value for each cell of the plate
abbrev pub Footprint : {V : Type 0} → Meaning → List V → Type 0
Footprint m a = length a ≡ m.cells

-- each step is an opening by o or a closing by c
abbrev pub Cleans : ℕ → ℕ → List Step → Type 0
Cleans o c = All (λ s. (s ≡ by Open o) ⊎ (s ≡ by Close c))

abbrev pub first : List Step → Option Step
first [] = None
first (s ∷ ss) = Some s

abbrev pub last : List Step → Option Step
last [] = None
last (s ∷ []) = Some s
last (s ∷ t ∷ ss) = last (t ∷ ss)

abbrev pub opens : Move → Bool
opens Dilate = false
opens Erode = false
opens Open = true
opens Close = false

abbrev pub closes : Move → Bool
closes Dilate = false
closes Erode = false
closes Open = false
closes Close = true

abbrev pub some_step : (Move → Bool) → List Step → Bool
some_step test [] = false
some_step test (s ∷ ss) = test s.move || some_step test ss

-- whether both an opening and a closing occur
abbrev pub both : List Step → Bool
both ss = some_step opens ss && some_step closes ss

-- alike in the first step, in the last, and in whether both an opening and a closing occur
pub record Alike (ss ts : List Step) : Type 0 where
  pub same_first : first ss ≡ first ts
  pub same_last : last ss ≡ last ts
  pub same_both : both ss ≡ both ts

-- the same calls on two footprints: equal answers, and after the first i calls, whichever i, the first footprint lies under the
-- second with no larger area
pub record KeepsUnder {V : Type 0} (k : Values V) (m : Meaning) (cs : List Call) (a b : List V) : Type 0 where
  pub equal_answers : answers k m cs a ≡ answers k m cs b
  pub stays_under : (i : ℕ) → Below k (end k m (take i cs) a) (end k m (take i cs) b)
  pub no_larger : (i : ℕ) → area k (end k m (take i cs) a) ≤ area k (end k m (take i cs) b)

-- The statements about the histories of footprints on a plate of one kind.
pub record HistoriesHold {V : Type 0} (k : Values V) (m : Meaning) : Type 0 where
  -- monotone: more rubber never counts as less
  pub monotone : (cs : List Call) (a b : List V) → Footprint m a → Below k a b → KeepsUnder k m cs a b
  -- adjoint: where accepted dilates by a list of elements lead from a to d, and accepted erodes by the reversed list from b to e,
  -- d lies under b exactly when a lies under e
  pub adjoint : (es : List ℕ) (cs ds : List Call) (a b : List V) → Footprint m a → Footprint m b
      → accepted m cs ≡ map (by Dilate) es → accepted m ds ≡ map (by Erode) (reverse es) → Below k (end k m cs a) b ↔ Below k a (end k m ds b)
  -- settled: cleaning twice is cleaning once
  pub settled : (o c : ℕ) (cs ds : List Call) (a : List V) → Footprint m a
      → Cleans o c (accepted m cs) → Cleans o c (accepted m ds) → Alike (accepted m cs) (accepted m ds) → end k m cs a ≡ end k m ds a
  -- between: cleaning leads over the opened start and under the closed start
  pub above_opened : (o c : ℕ) (cs : List Call) (a : List V) → Footprint m a → Cleans o c (accepted m cs) → Below k (opened k m o a) (end k m cs a)
  pub below_closed : (o c : ℕ) (cs : List Call) (a : List V) → Footprint m a → Cleans o c (accepted m cs) → Below k (end k m cs a) (closed k m c a)

-- the statements on every plate
abbrev pub HistoriesHoldEverywhere : {V : Type 0} → Values V → Type 0
HistoriesHoldEverywhere k = (m : Meaning) → Sound m → HistoriesHold k m
