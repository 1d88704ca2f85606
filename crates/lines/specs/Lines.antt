-- A line: a word of four letters, four fields of six columns, and a line feed. Assumes nothing.
use Rattle.std.specs.Prelude.{◌≡◌, ℕ, zero, suc, Bool, false, cond, List, [], ◌∷◌, ◌++◌, length, take, drop, Ok, Err, Result, ◌==◌, nat_lt}
use Rattle.std.specs.List.{between}
use Rattle.lines.specs.declared.faults.LineFault.{LineFault}
use Rattle.lines.specs.declared.faults.LineFault.TheVariants.{Frame}
use Rattle.lines.specs.declared.words.Word.{Word}
use Rattle.lines.specs.declared.line.Line.{Line}
use Rattle.lines.specs.Fields.{field_bytes, field_of, Fitting}
use Rattle.lines.specs.Words.{letters, word_of}

-- the 29 bytes of a line
unfoldable pub line_bytes : Line → List ℕ
line_bytes l = letters l.word ++ (field_bytes l.one ++ (field_bytes l.two ++ (field_bytes l.three ++ (field_bytes l.four ++ (10 ∷ [])))))

-- each number fits its columns
pub record Fits (l : Line) : Type 0 where
  pub one : Fitting l.one
  pub two : Fitting l.two
  pub three : Fitting l.three
  pub four : Fitting l.four

-- the first line feed stands at k
abbrev pub feed_at : ℕ → List ℕ → Bool
feed_at k [] = false
feed_at zero (b ∷ bs) = b == 10
feed_at (suc k) (b ∷ bs) = cond (b == 10) false (feed_at k bs)

-- what follows on an accepted value; a fault stays
abbrev pub then : {A B E : Type 0} → Result A E → (A → Result B E) → Result B E
then (Ok x) f = f x
then (Err e) f = Err e

-- the word of the line that the bytes begin with
abbrev pub word_in : List ℕ → Result Word LineFault
word_in bs = cond (feed_at 28 bs) (word_of (take 4 bs)) (Err Frame)

-- a word with what the four fields hold, or the fault of the first field that has one
abbrev pub held_by : Word → List ℕ → Result Line LineFault
held_by w bs =
    then (field_of (between 4 10 bs)) (λ one.
    then (field_of (between 10 16 bs)) (λ two.
    then (field_of (between 16 22 bs)) (λ three.
    then (field_of (between 22 28 bs)) (λ four.
    Ok record { word = w; one = one; two = two; three = three; four = four }))))

-- the same of bytes that are a line's at least
abbrev pub fields_of : Word → List ℕ → Result Line LineFault
fields_of w bs = cond (nat_lt (length bs) 29) (Err Frame) (held_by w bs)

-- the line that the bytes begin with
abbrev pub line_of : List ℕ → Result Line LineFault
line_of bs = then (word_in bs) (λ w. fields_of w bs)

-- a line and its 29 bytes fix each other, whatever follows them
pub record LineAndBytes : Type 0 where
  pub written_is_read : (l : Line) (rest : List ℕ) → Fits l → line_of (line_bytes l ++ rest) ≡ Ok l
  pub read_is_written : (bs : List ℕ) (l : Line) → line_of bs ≡ Ok l → line_bytes l ++ drop 29 bs ≡ bs
