-- The lengths of the parts of a line. Assumes nothing.
use Rattle.std.proofs.Common.{◌≡◌, ℕ, zero, suc, ◌/◌, length, Option, refl, arith}
use Rattle.std.proofs.lemmas.List.{length-append}
use Rattle.lines.specs.declared.line.Line.{Line}
use Rattle.lines.specs.declared.numbers.Number.{Number}
use Rattle.lines.specs.declared.words.Word.{Word}
use Rattle.lines.specs.declared.words.Word.TheVariants.{Plat, Elem, Vect, Dead, Cell, Move, Last, Done, Area, Wide, Stop}
use Rattle.lines.specs.Fields.{columns, mark_of, size_of, field_bytes}
use Rattle.lines.specs.Lines.{line_bytes}
use Rattle.lines.specs.Words.{letters}

length_columns : (mark k n : ℕ) → length (columns mark k n) ≡ k
length_columns mark zero n = refl
length_columns mark (suc k) n =
    grind (arith, length-append {A = ℕ}, length_columns 32 k 0, length_columns mark k (n / 10))

pub length_field : (o : Option Number) → length (field_bytes o) ≡ 6
unfolding field_bytes
length_field o = length_columns (mark_of o) 6 (size_of o)

pub length_letters : (w : Word) → length (letters w) ≡ 4
length_letters Plat = refl
length_letters Elem = refl
length_letters Vect = refl
length_letters Dead = refl
length_letters Cell = refl
length_letters Move = refl
length_letters Last = refl
length_letters Done = refl
length_letters Area = refl
length_letters Wide = refl
length_letters Stop = refl

pub length_line : (l : Line) → length (line_bytes l) ≡ 29
unfolding line_bytes
length_line l = omega (arith, length-append {A = ℕ}, length_letters, length_field)
