-- The links that a block plate holds, and what making one answers. Assumes nothing.
use Rattle.std.specs.Prelude.{◌≡◌, ℕ, Bool, true, false, ◌&&◌, List, [], map, replicate, Ok, Err, vec_items, Result, nat_le}
use Rattle.plates.specs.declared.blocks.BlockPlate.{BlockPlate}
use Rattle.plates.specs.declared.faults.BlockFault.{BlockFault}
use Rattle.plates.specs.declared.faults.BlockFault.TheVariants.{Count, Memory}

-- for each block of a plate, the list of its neighbours in order of entry
abbrev pub links_of : BlockPlate → List (List ℕ)
links_of p = map (λ row. row.items) (vec_items p.rows)

-- a plate has 1 to 256 blocks
abbrev pub lawful_count : ℕ → Bool
lawful_count n = nat_le 1 n && nat_le n 256

-- a lawful count gives that many blocks without neighbours, unless memory is wanting; any other is refused
abbrev pub Made : ℕ → Result BlockPlate BlockFault → Type 0
Made n (Ok p) = (lawful_count n ≡ true) × (links_of p ≡ replicate n [])
Made n (Err Count) = lawful_count n ≡ false
Made n (Err Memory) = lawful_count n ≡ true
