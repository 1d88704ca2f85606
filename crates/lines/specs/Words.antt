-- The words: their four letters, and the word that four columns hold. Assumes nothing.
use Rattle.std.specs.Prelude.{ℕ, Bool, cond, ◌&&◌, List, Ok, Err, codes, Result, ◌==◌, slice_index}
use Rattle.lines.specs.declared.faults.LineFault.{LineFault}
use Rattle.lines.specs.declared.faults.LineFault.TheVariants as fault
use Rattle.lines.specs.declared.words.Word.{Word}
use Rattle.lines.specs.declared.words.Word.TheVariants.{Plat, Elem, Vect, Dead, Cell, Move, Last, Done, Area, Wide, Stop}

-- the four letters of a word
abbrev pub letters : Word → List ℕ
letters Plat = codes "PLAT"
letters Elem = codes "ELEM"
letters Vect = codes "VECT"
letters Dead = codes "DEAD"
letters Cell = codes "CELL"
letters Move = codes "MOVE"
letters Last = codes "LAST"
letters Done = codes "DONE"
letters Area = codes "AREA"
letters Wide = codes "WIDE"
letters Stop = codes "STOP"

-- the four columns hold the letters of the word
abbrev pub is : Word → List ℕ → Bool
is w bs =
    (slice_index bs 0 == slice_index (letters w) 0)
    && (slice_index bs 1 == slice_index (letters w) 1 && (slice_index bs 2 == slice_index (letters w) 2 && slice_index bs 3 == slice_index (letters w) 3))

-- the word that four columns hold
abbrev pub word_of : List ℕ → Result Word LineFault
word_of bs =
    cond (is Plat bs) (Ok Plat)
    (cond (is Elem bs) (Ok Elem)
    (cond (is Vect bs) (Ok Vect)
    (cond (is Dead bs) (Ok Dead)
    (cond (is Cell bs) (Ok Cell)
    (cond (is Move bs) (Ok Move)
    (cond (is Last bs) (Ok Last)
    (cond (is Done bs) (Ok Done)
    (cond (is Area bs) (Ok Area)
    (cond (is Wide bs) (Ok Wide)
    (cond (is Stop bs) (Ok Stop) (Err fault.Word)))))))))))
