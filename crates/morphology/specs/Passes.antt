-- What dilating promises of one cell. Only private functions cite this. Assumes nothing.
use Rattle.std.specs.Prelude.{◌≡◌, ℕ, ◌<◌, cond, List, length}
use Rattle.kinds.specs.Lattices.{Values}
use Rattle.plates.specs.Lists.{among}
use Rattle.morphology.specs.Pictures.{at}

module _ {V : Type 0} (k : Values V) where
  -- v is joined into the listed cells of a picture, and no other cell changed
  abbrev pub Spread : List ℕ → V → List V → List V → Type 0
  Spread xs v before after = (x : ℕ) → x < length before → at k after x ≡ cond (among x xs) (k.join (at k before x) v) (at k before x)
