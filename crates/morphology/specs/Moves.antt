-- The four moves, by the cells that steps join. Assumes nothing.
use Rattle.std.specs.Prelude.{ℕ, List, map, filter}
use Rattle.std.specs.List.{range_with_len, filter_map}
use Rattle.kinds.specs.Lattices.{Values, join_all, meet_all}
use Rattle.plates.specs.Lists.{among}
use Rattle.plates.specs.Meanings.{Meaning}
use Rattle.morphology.specs.Pictures.{at}

-- the cells that the steps of c reach: the targets of c by the places of the element, a place without a target adding none
abbrev pub reached : Meaning → ℕ → ℕ → List ℕ
reached m e c = filter_map (λ p. m.target e p c) (range_with_len 0 (m.fan e))

-- the cells with a step to x
abbrev pub reaching : Meaning → ℕ → ℕ → List ℕ
reaching m e x = filter (λ c. among x (reached m e c)) (range_with_len 0 m.cells)

module _ {V : Type 0} (k : Values V) (m : Meaning) (e : ℕ) where
  -- the join of the cells with a step to x, least where there is none
  abbrev pub dilated_at : List V → ℕ → V
  dilated_at a x = join_all k (map (at k a) (reaching m e x))

  -- the meet of the cells that the steps of c reach, greatest where there is none
  abbrev pub eroded_at : List V → ℕ → V
  eroded_at a c = meet_all k (map (at k a) (reached m e c))

  abbrev pub dilated : List V → List V
  dilated a = map (dilated_at a) (range_with_len 0 m.cells)

  abbrev pub eroded : List V → List V
  eroded a = map (eroded_at a) (range_with_len 0 m.cells)

  abbrev pub opened : List V → List V
  opened a = dilated (eroded a)

  abbrev pub closed : List V → List V
  closed a = eroded (dilated a)
