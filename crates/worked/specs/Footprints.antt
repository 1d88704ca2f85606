-- The worked footprints, of the definitions that the contracts of the calls use. Assumes nothing.
use Rattle.std.specs.Prelude.{◌≡◌, ℕ, cond, List, [], ◌∷◌, map, replicate, pos, Ok}
use Rattle.std.proofs.Common.{lit<}
use Rattle.std.specs.List.{range_with_len}
use Rattle.kinds.specs.FrameSets.{frames, frames_values, frames_number}
use Rattle.kinds.specs.Levels.{level, level_values, level_number}
use Rattle.kinds.specs.Touches.{touch_values}
use Rattle.kinds.specs.declared.values.Frames.{Frames}
use Rattle.kinds.specs.declared.values.Level.{Level}
use Rattle.kinds.specs.declared.values.Touch.{Touch}
use Rattle.kinds.specs.declared.values.Touch.TheVariants.{No, Yes}
use Rattle.plates.specs.Blocks.{block_meaning, linked}
use Rattle.plates.specs.Lists.{among}
use Rattle.plates.specs.Meanings.{Meaning}
use Rattle.layers.specs.Layers.{reflected}
use Rattle.morphology.specs.Moves.{dilated, eroded, opened, closed}
use Rattle.plans.specs.Plans.{Design, planned, element_added, vector_added, dead_added, plate_of}
use Rattle.plans.specs.Vectors.{vector}
use Rattle.plans.specs.declared.modes.Mode.{Mode}
use Rattle.plans.specs.declared.modes.Mode.TheVariants.{Weak, Strong}

-- the touch picture of n cells with rubber on those listed
abbrev pub rubber : ℕ → List ℕ → List Touch
rubber n cells = map (λ c. cond (among c cells) Yes No) (range_with_len 0 n)

-- a plan of one cell column and row without elements, as a call makes it
abbrev pub smallest : Mode → Design
smallest m = record { drawing = record { mode = m; width = 1; height = 1; elements = [] }; dead = [] }

-- that plan with one element, whose one vector is (0, 0, 1), as the fitter's calls make it
abbrev pub one_step : Mode → Design
one_step m = vector_added (element_added (smallest m)) 0 0 (vector (pos 0) (pos 0) (pos 1))

-- its plate in the weak mode, with cells 0 and 1, and in the strong mode, with cells 0 to 5
abbrev pub weak : Meaning
weak = plate_of (one_step Weak)

abbrev pub strong : Meaning
strong = plate_of (one_step Strong)

-- three tread blocks, 0 and 1 linked
abbrev pub three_blocks : Meaning
three_blocks = block_meaning (linked (replicate 3 []) 0 1)

abbrev pub levels : List Level
levels = level 5 (lit< tt) ∷ level 9 (lit< tt) ∷ []

abbrev pub frame_sets : List Frames
frame_sets = frames 6 (lit< tt) ∷ frames 3 (lit< tt) ∷ []

-- Footprints by the numbers of the cells with rubber.
pub record Worked : Type 0 where
  -- modes 2 and 4 make the two plans
  pub weak_made : planned 2 1 1 ≡ Ok (smallest Weak)
  pub strong_made : planned 4 1 1 ≡ Ok (smallest Strong)
  -- weak: {0} dilates to {1}, and {1} to nothing, since its step leaves the plate
  pub dilate_0 : dilated touch_values weak 0 (rubber 2 (0 ∷ [])) ≡ rubber 2 (1 ∷ [])
  pub dilate_1 : dilated touch_values weak 0 (rubber 2 (1 ∷ [])) ≡ rubber 2 []
  -- nothing erodes to {1}, whose step leads nowhere, and {1} to {0, 1}
  pub erode_none : eroded touch_values weak 0 (rubber 2 []) ≡ rubber 2 (1 ∷ [])
  pub erode_1 : eroded touch_values weak 0 (rubber 2 (1 ∷ [])) ≡ rubber 2 (0 ∷ 1 ∷ [])
  pub open_0 : opened touch_values weak 0 (rubber 2 (0 ∷ [])) ≡ rubber 2 []
  pub close_0 : closed touch_values weak 0 (rubber 2 (0 ∷ [])) ≡ rubber 2 (0 ∷ 1 ∷ [])
  pub open_close_open : opened touch_values weak 0 (closed touch_values weak 0 (opened touch_values weak 0 (rubber 2 (0 ∷ [])))) ≡ rubber 2 (1 ∷ [])
  pub close_open_close : closed touch_values weak 0 (opened touch_values weak 0 (closed touch_values weak 0 (rubber 2 (0 ∷ [])))) ≡ rubber 2 (1 ∷ [])
  -- levels 5 and 9, frames 6 and 3
  pub dilate_levels : map level_number (dilated level_values weak 0 levels) ≡ 0 ∷ 5 ∷ []
  pub erode_levels : map level_number (eroded level_values weak 0 levels) ≡ 9 ∷ 255 ∷ []
  pub dilate_frames : map frames_number (dilated frames_values weak 0 frame_sets) ≡ 0 ∷ 6 ∷ []
  pub erode_frames : map frames_number (eroded frames_values weak 0 frame_sets) ≡ 3 ∷ 65535 ∷ []
  -- with cell 1 dead {0} dilates to nothing; with every step turned round {1} dilates to {0}
  pub dilate_dead : dilated touch_values (plate_of (dead_added (one_step Weak) 1)) 0 (rubber 2 (0 ∷ [])) ≡ rubber 2 []
  pub dilate_reflected : dilated touch_values (reflected weak) 0 (rubber 2 (1 ∷ [])) ≡ rubber 2 (0 ∷ [])
  -- strong: {2, 3} dilates to {3, 4}, and {3} erodes to {2, 5}
  pub dilate_strong : dilated touch_values strong 0 (rubber 6 (2 ∷ 3 ∷ [])) ≡ rubber 6 (3 ∷ 4 ∷ [])
  pub erode_strong : eroded touch_values strong 0 (rubber 6 (3 ∷ [])) ≡ rubber 6 (2 ∷ 5 ∷ [])
  -- on three blocks rubber on block 0 dilates to its neighbour
  pub dilate_blocks : dilated touch_values three_blocks 0 (rubber 3 (0 ∷ [])) ≡ rubber 3 (0 ∷ 1 ∷ [])
  -- block 0 erodes away, since its neighbour is bare; block 2 stands alone and stays
  pub erode_blocks : eroded touch_values three_blocks 0 (rubber 3 (0 ∷ 2 ∷ [])) ≡ rubber 3 (2 ∷ [])
