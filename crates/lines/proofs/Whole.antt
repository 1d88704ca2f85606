-- A line and its 29 bytes fix each other. Assumes nothing.
use Rattle.std.proofs.Common.{◌≡◌, ℕ, ◌<◌, ◌≤◌, Bool, true, false, cond, ltb, List, ◌∷◌, ◌++◌, length, take, drop, Ok, Err, Result, sym, refl, ap, ◌∙◌, subst, arith}
use Rattle.std.proofs.lemmas.Bool.{le-ltb, cond-true, cond-false}
use Rattle.std.proofs.lemmas.List.{length-append, length-take-le, take_at}
use Rattle.std.proofs.lemmas.List.Edits.{length-between}
use Rattle.std.specs.List.{between}
use Rattle.lines.specs.declared.faults.LineFault.TheVariants.{Frame}
use Rattle.lines.specs.declared.line.Line.{Line}
use Rattle.lines.specs.declared.words.Word.{Word}
use Rattle.lines.specs.Fields.{field_bytes, field_of}
use Rattle.lines.specs.Lines.{line_bytes, Fits, feed_at, then, word_in, fields_of, line_of}
use Rattle.lines.specs.Words.{letters, word_of}
use Rattle.lines.proofs.SixColumns.{field_written_is_read, field_read_is_written}
use Rattle.lines.proofs.Lengths.{length_letters, length_field, length_line}
use Rattle.lines.proofs.Parts.{letters_clear, field_clear, long_enough, is_one, is_two, is_three, is_four, rejoined, flat}
use Rattle.lines.proofs.Spelling.{word_reads, Named, word_is}

pub line_length : (l : Line) → length (line_bytes l) ≡ 29
line_length l = length_line l

-- results

pub then_ok : {A B E : Type 0} (r : Result A E) (f : A → Result B E) (y : B) → then r f ≡ Ok y → (x : A) × (r ≡ Ok x) × (f x ≡ Ok y)
then_ok (Ok x) f y is = (x, refl, is)
then_ok (Err e) f y is = absurd cc

pub then_at : {A B E : Type 0} {r : Result A E} {x : A} (f : A → Result B E) → r ≡ Ok x → then r f ≡ f x
then_at f is = ap (λ r. then r f) is

-- what is accepted past a test that refuses
left_of : {A E : Type 0} (t : Bool) (e : E) (r : Result A E) (y : A) → cond t (Err e) r ≡ Ok y → r ≡ Ok y
left_of true e r y is = absurd cc
left_of false e r y is = is

right_of : {A E : Type 0} (t : Bool) (e : E) (r : Result A E) (y : A) → cond t r (Err e) ≡ Ok y → (t ≡ true) × (r ≡ Ok y)
right_of true e r y is = (refl, is)
right_of false e r y is = absurd cc

-- what the four fields hold
pub record Held (w : Word) (bs : List ℕ) (l : Line) : Type 0 where
  pub word : l.word ≡ w
  pub one : field_of (between 4 10 bs) ≡ Ok l.one
  pub two : field_of (between 10 16 bs) ≡ Ok l.two
  pub three : field_of (between 16 22 bs) ≡ Ok l.three
  pub four : field_of (between 22 28 bs) ≡ Ok l.four

held : (w : Word) (bs : List ℕ) (l : Line) → fields_of w bs ≡ Ok l → Held w bs l
held w bs l is =
    let h₁ = then_ok (field_of (between 4 10 bs)) _ _ (left_of (ltb (length bs) 29) Frame _ l is) in
    let h₂ = then_ok (field_of (between 10 16 bs)) _ _ h₁.2 in
    let h₃ = then_ok (field_of (between 16 22 bs)) _ _ h₂.2 in
    let h₄ = then_ok (field_of (between 22 28 bs)) _ _ h₃.2 in
    let it : record { word = w; one = h₁.0; two = h₂.0; three = h₃.0; four = h₄.0 } ≡ l = cc in
    subst (Held w bs) it record { word = refl; one = h₁.1; two = h₂.1; three = h₃.1; four = h₄.1 }

pub word_kept : (w : Word) (bs : List ℕ) (l : Line) → fields_of w bs ≡ Ok l → l.word ≡ w
word_kept w bs l is = (held w bs l is).word

pub line_accepted : (bs : List ℕ) (w : Word) (l : Line) → word_in bs ≡ Ok w → fields_of w bs ≡ Ok l → line_of bs ≡ Ok l
line_accepted bs w l word fields = then_at (λ w. fields_of w bs) word ∙ fields

-- reading what is written

pub word_found : (l : Line) (rest : List ℕ) → Fits l → word_in (line_bytes l ++ rest) ≡ Ok l.word
unfolding line_bytes
word_found l rest fits =
    ap word_in (flat (letters l.word) (field_bytes l.one) (field_bytes l.two) (field_bytes l.three) (field_bytes l.four) rest)
    ∙ cond-true _ _ _ (letters_clear l.word _ ∙ field_clear l.one 24 18 _ refl ∙ field_clear l.two 18 12 _ refl ∙ field_clear l.three 12 6 _ refl ∙ field_clear l.four 6 0 _ refl)
    ∙ ap word_of (take_at (letters l.word) _ 4 (length_letters l.word)) ∙ word_reads l.word

fields_read : (l : Line) (w a b c d r : List ℕ) → length w ≡ 4 → length a ≡ 6 → length b ≡ 6 → length c ≡ 6 → length d ≡ 6 → 0 < length r
    → field_of a ≡ Ok l.one → field_of b ≡ Ok l.two → field_of c ≡ Ok l.three → field_of d ≡ Ok l.four
    → fields_of l.word (w ++ (a ++ (b ++ (c ++ (d ++ r))))) ≡ Ok l
fields_read l w a b c d r lw la lb lc ld lr ha hb hc hd =
    let long : 29 ≤ length (w ++ (a ++ (b ++ (c ++ (d ++ r))))) = omega (arith, length-append {A = ℕ}) in
    cond-false _ _ _ (le-ltb _ 29 long)
    ∙ then_at _ (ap field_of (is_one w a b c d r lw la lb lc ld) ∙ ha)
    ∙ then_at _ (ap field_of (is_two w a b c d r lw la lb lc ld) ∙ hb)
    ∙ then_at _ (ap field_of (is_three w a b c d r lw la lb lc ld) ∙ hc)
    ∙ then_at _ (ap field_of (is_four w a b c d r lw la lb lc ld) ∙ hd)

pub fields_found : (l : Line) (rest : List ℕ) → Fits l → fields_of l.word (line_bytes l ++ rest) ≡ Ok l
unfolding line_bytes
fields_found l rest fits =
    ap (fields_of l.word) (flat (letters l.word) (field_bytes l.one) (field_bytes l.two) (field_bytes l.three) (field_bytes l.four) rest)
    ∙ fields_read l (letters l.word) (field_bytes l.one) (field_bytes l.two) (field_bytes l.three) (field_bytes l.four) (10 ∷ rest)
    (length_letters l.word) (length_field l.one) (length_field l.two) (length_field l.three) (length_field l.four) (omega arith)
    (field_written_is_read l.one fits.one) (field_written_is_read l.two fits.two) (field_written_is_read l.three fits.three) (field_written_is_read l.four fits.four)

pub written_is_read : (l : Line) (rest : List ℕ) → Fits l → line_of (line_bytes l ++ rest) ≡ Ok l
written_is_read l rest fits = line_accepted (line_bytes l ++ rest) l.word l (word_found l rest fits) (fields_found l rest fits)

-- writing what is read

pub read_is_written : (bs : List ℕ) (l : Line) → line_of bs ≡ Ok l → line_bytes l ++ drop 29 bs ≡ bs
unfolding line_bytes
read_is_written bs l is =
    let found = then_ok (word_in bs) (λ w. fields_of w bs) l is in
    let framed = right_of (feed_at 28 bs) Frame (word_of (take 4 bs)) found.0 found.1 in
    let h = held found.0 bs l found.2 in
    let long = long_enough bs framed.0 in
    let pw : letters l.word ≡ take 4 bs = ap letters h.word ∙ subst (Named (take 4 bs)) framed.1 (word_is (take 4 bs) (length-take-le 4 bs (omega arith))) in
    let pa = field_read_is_written _ l.one (length-between bs 4 10 (omega arith)) h.one in
    let pb = field_read_is_written _ l.two (length-between bs 10 16 (omega arith)) h.two in
    let pc = field_read_is_written _ l.three (length-between bs 16 22 (omega arith)) h.three in
    let pd = field_read_is_written _ l.four (length-between bs 22 28 (omega arith)) h.four in
    flat (letters l.word) (field_bytes l.one) (field_bytes l.two) (field_bytes l.three) (field_bytes l.four) (drop 29 bs)
    ∙ (λ i. pw i ++ (pa i ++ (pb i ++ (pc i ++ (pd i ++ (10 ∷ drop 29 bs)))))) ∙ sym (rejoined bs framed.0)
