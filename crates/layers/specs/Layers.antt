-- Layers: each is a function on the meaning of the plate below. Assumes nothing.
use Rattle.std.specs.Prelude.{ℕ, Bool, true, false, cond, not, ◌&&◌, List, [], ◌∷◌, ◌++◌, length, Some, None, Ok, Err, filter, Option, Result, ◌==◌, nat_lt}
use Rattle.std.specs.List.{range_with_len, slice_get}
use Rattle.plates.specs.Lists.{among}
use Rattle.plates.specs.Meanings.{Meaning}
use Rattle.layers.specs.declared.faults.KillFault.{KillFault}
use Rattle.layers.specs.declared.faults.KillFault.TheVariants.{NoCell, AlreadyDead, TableFull}

-- whether a target is t
abbrev pub hits : ℕ → Option ℕ → Bool
hits t None = false
hits t (Some u) = u == t

-- the cells that a place leads to t, of which there is at most one on a two-way plate
abbrev pub sources : Meaning → ℕ → ℕ → ℕ → List ℕ
sources m e p t = filter (λ c. hits t (m.target e p c)) (range_with_len 0 m.cells)

-- the plate with every step turned round
abbrev pub reflected : Meaning → Meaning
reflected m = record { cells = m.cells; elements = m.elements; fan = m.fan; target = λ e p t. slice_get (sources m e p t) 0 }

-- a target that is not dead
abbrev pub living : List ℕ → Option ℕ → Option ℕ
living dead None = None
living dead (Some t) = cond (among t dead) None (Some t)

-- the plate without the steps that start or end on a dead cell
abbrev pub without : List ℕ → Meaning → Meaning
without dead m = record {
  cells = m.cells;
  elements = m.elements;
  fan = m.fan;
  target = λ e p c. cond (among c dead) None (living dead (m.target e p c));
}

-- no cell stands twice in a list
abbrev pub distinct : List ℕ → Bool
distinct [] = true
distinct (x ∷ xs) = not (among x xs) && distinct xs

-- the answer where a cell of a plate of n cells is to be made dead, by the checks in their order
abbrev pub kill_answer : ℕ → List ℕ → ℕ → Result (Unit {0}) KillFault
kill_answer n dead c =
    cond (nat_lt c n) (cond (among c dead) (Err AlreadyDead) (cond (nat_lt (length dead) 64) (Ok tt) (Err TableFull))) (Err NoCell)

-- an accepted cell becomes the last dead one; a refusal changes nothing
abbrev pub dead_after : Result (Unit {0}) KillFault → List ℕ → ℕ → List ℕ
dead_after (Ok u) dead c = dead ++ c ∷ []
dead_after (Err f) dead c = dead

abbrev pub killed : ℕ → List ℕ → ℕ → List ℕ
killed n dead c = dead_after (kill_answer n dead c) dead c
