-- The block plate: tread blocks and the links between them. Assumes nothing.
use Rattle.std.specs.Prelude.{ℕ, zero, suc, Bool, cond, ◌&&◌, ◌||◌, List, [], ◌∷◌, ◌++◌, length, Some, None, Ok, Err, Option, Result, ◌==◌, nat_lt, slice_index_or, slice_set}
use Rattle.std.specs.List.{slice_get}
use Rattle.plates.specs.Lists.{among}
use Rattle.plates.specs.Meanings.{Meaning}
use Rattle.plates.specs.declared.faults.LinkFault.{LinkFault}
use Rattle.plates.specs.declared.faults.LinkFault.TheVariants.{NoBlock, Linked, Full}

-- `links` is, for each block, the list of its neighbours in order of entry.

-- place 0 leads a block to itself, place k to its k-th neighbour, if it has one
abbrev pub led_to : ℕ → List ℕ → ℕ → Option ℕ
led_to block neighbours zero = Some block
led_to block neighbours (suc k) = slice_get neighbours k

-- one element of eight places
abbrev pub block_meaning : List (List ℕ) → Meaning
block_meaning links = record {
  cells = length links;
  elements = 1;
  fan = λ e. cond (e == 0) 8 0;
  target = λ e p c. cond (e == 0 && nat_lt c (length links)) (led_to c (slice_index_or links c []) p) None;
}

-- whether b is a neighbour of a
abbrev pub beside : List (List ℕ) → ℕ → ℕ → Bool
beside links a b = among b (slice_index_or links a [])

-- whether a block can take one neighbour more
abbrev pub has_room : List (List ℕ) → ℕ → Bool
has_room links a = nat_lt (length (slice_index_or links a [])) 7

-- the answer to a link of a and b, by the checks in their order
abbrev pub link_answer : List (List ℕ) → ℕ → ℕ → Result (Unit {0}) LinkFault
link_answer links a b =
    cond (nat_lt a (length links) && nat_lt b (length links))
    (cond (a == b || (beside links a b || beside links b a)) (Err Linked) (cond (has_room links a && has_room links b) (Ok tt) (Err Full)))
    (Err NoBlock)

-- the list of a with b at its end
abbrev pub with_neighbour : List (List ℕ) → ℕ → ℕ → List (List ℕ)
with_neighbour links a b = slice_set links a (slice_index_or links a [] ++ b ∷ [])

-- after an accepted link each of the two is the last neighbour of the other; after a refusal nothing has changed
abbrev pub links_after : Result (Unit {0}) LinkFault → List (List ℕ) → ℕ → ℕ → List (List ℕ)
links_after (Ok u) links a b = with_neighbour (with_neighbour links a b) b a
links_after (Err f) links a b = links

abbrev pub linked : List (List ℕ) → ℕ → ℕ → List (List ℕ)
linked links a b = links_after (link_answer links a b) links a b
