-- A line is judged by its 29 bytes, or by all bytes where fewer are left. Assumes nothing.
use Rattle.std.proofs.Common.{◌≡◌, ℕ, zero, suc, ◌-◌, ◌<◌, ◌≤◌, cond, eqb, false, min, List, [], ◌∷◌, ◌++◌, length, take, drop, Ok, Err, sym, refl, ap, ◌∙◌, arith, append-nil, inl, inr}
use Rattle.std.proofs.lemmas.Bool.{cases_lt, le-ltb, cond-false}
use Rattle.std.proofs.lemmas.List.{take-append-le, drop-append-le, length-append, length-drop, nil_from_length}
use Rattle.std.specs.List.{between}
use Rattle.kinds.specs.Lattices.{Values}
use Rattle.kinds.specs.Numbers.{Written}
use Rattle.lines.specs.Fields.{field_of}
use Rattle.lines.specs.Lines.{then, feed_at, word_in, held_by, fields_of}
use Rattle.lines.specs.Words.{word_of}
use Rattle.lines.specs.declared.faults.LineFault.TheVariants as line
use Rattle.lines.specs.declared.words.Word.{Word}
use Rattle.jobs.specs.Heads.{must, of_line}
use Rattle.jobs.specs.Steps.{Draft, opens, more, line_more, next_by}
use Rattle.jobs.specs.declared.faults.FileFault.TheVariants as fault
use Rattle.jobs.specs.declared.sections.Section.{Section}
use Rattle.jobs.specs.declared.sections.Section.TheVariants as section

-- what follows a line does not count

feed_front : (k : ℕ) (a b : List ℕ) → k < length a → feed_at k (a ++ b) ≡ feed_at k a
feed_front k [] b lt = absurd (omega arith)
feed_front zero (x ∷ a) b lt = refl
feed_front (suc k) (x ∷ a) b lt = ap (cond (eqb x 10) false) (feed_front k a b (omega arith))

module _ (a b : List ℕ) (long : 29 ≤ length a) where
  word_front : word_in (a ++ b) ≡ word_in a
  word_front = λ t. cond (feed_front 28 a b (omega arith) t) (word_of (take-append-le 4 a b (omega arith) t)) (Err line.Frame)

  columns_front : (i j : ℕ) → i ≤ j → j ≤ 29 → between i j (a ++ b) ≡ between i j a
  columns_front i j le within = ap (take (j - i)) (drop-append-le i a b (omega arith)) ∙ take-append-le (j - i) (drop i a) b (omega (arith, length-drop i a))

  held_front : (w : Word) → held_by w (a ++ b) ≡ held_by w a
  held_front w = λ t.
      then (field_of (columns_front 4 10 (omega arith) (omega arith) t)) (λ one.
      then (field_of (columns_front 10 16 (omega arith) (omega arith) t)) (λ two.
      then (field_of (columns_front 16 22 (omega arith) (omega arith) t)) (λ three.
      then (field_of (columns_front 22 28 (omega arith) (omega arith) t)) (λ four. Ok record { word = w; one = one; two = two; three = three; four = four }))))

  fields_front : (w : Word) → fields_of w (a ++ b) ≡ fields_of w a
  fields_front w =
      cond-false _ _ _ (le-ltb (length (a ++ b)) 29 (omega (arith, length-append a b)))
      ∙ held_front w ∙ sym (cond-false _ _ _ (le-ltb (length a) 29 long))

module _ {V : Type 0} (k : Values V) (w : Written V) (room : ℕ) (s : Draft V) where
  line_front : (a b : List ℕ) → 29 ≤ length a → line_more k w room s (a ++ b) ≡ line_more k w room s a
  line_front a b long = λ t.
      then (of_line (word_front a b long t)) (λ word. must (opens s.section word) (fault.Line line.Word) (then (of_line (fields_front a b long word t)) (more k w room s.job word)))

  next_front : (x : Section) (a b : List ℕ) → 29 ≤ length a → next_by k w room x s (a ++ b) ≡ next_by k w room x s a
  next_front section.Plan a b long = line_front a b long
  next_front section.Elements a b long = line_front a b long
  next_front section.Dead a b long = line_front a b long
  next_front section.Cells a b long = line_front a b long
  next_front section.Moves a b long = line_front a b long
  next_front section.Last a b long = refl

  -- a chunk is judged as all that is left
  pub chunk_judged : (x : Section) (most : ℕ) (bs chunk rest : List ℕ) → most ≡ 29 → bs ≡ chunk ++ rest → length chunk ≡ min most (length bs) → next_by k w room x s bs ≡ next_by k w room x s chunk
  chunk_judged x most bs chunk rest here parts size =
      elim (cases_lt (length bs) 29) [
        | inl short ↦
            let none : rest ≡ [] = nil_from_length rest (omega (arith, ap length parts, length-append chunk rest)) in
            ap (next_by k w room x s) (parts ∙ ap (λ r. chunk ++ r) none ∙ append-nil chunk)
        | inr long ↦ ap (next_by k w room x s) parts ∙ next_front x chunk rest (omega arith)
      ]
