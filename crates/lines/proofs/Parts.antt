-- A line and its parts: where the fields and the line feed stand. Assumes nothing.
use Rattle.std.proofs.Common.{◌≡◌, ℕ, zero, suc, ◌+◌, ◌-◌, ◌/◌, ◌%◌, ◌≤◌, Bool, true, false, cond, eqb, List, [], ◌∷◌, ◌++◌, length, take, drop, Some, None, Option, sym, refl, ap, ◌∙◌, append_assoc, zero-add, arith}
use Rattle.std.proofs.lemmas.Bool.Decides.{nat_tests}
use Rattle.std.proofs.lemmas.Bool.{eqb-true}
use Rattle.std.proofs.lemmas.List.{length-append, length-drop, take_at, drop_at, drop-drop, take-append-drop}
use Rattle.std.specs.List.{between}
use Rattle.lines.specs.declared.numbers.Number.{Number}
use Rattle.lines.specs.declared.numbers.Number.TheVariants.{Natural, Below}
use Rattle.lines.specs.declared.words.Word.{Word}
use Rattle.lines.specs.declared.words.Word.TheVariants.{Plat, Elem, Vect, Dead, Cell, Move, Last, Done, Area, Wide, Stop}
use Rattle.lines.specs.Fields.{columns, mark_of, size_of, field_bytes}
use Rattle.lines.specs.Lines.{feed_at}
use Rattle.lines.specs.Words.{letters}

-- no line feed among the columns

clear : (mark k n i j : ℕ) (ys : List ℕ) → eqb mark 10 ≡ false → i ≡ k + j → feed_at i (columns mark k n ++ ys) ≡ feed_at j ys
clear mark zero n i j ys other is = ap (λ x. feed_at x ys) (is ∙ zero-add j)
clear mark (suc k) n i j ys other is =
    grind (arith, nat_tests, append_assoc {A = ℕ}, clear 32 k 0 i (suc j) (mark ∷ ys), clear mark k (n / 10) i (suc j) ((48 + n % 10) ∷ ys))

mark_clear : (o : Option Number) → eqb (mark_of o) 10 ≡ false
mark_clear None = refl
mark_clear (Some (Natural n)) = grind (arith, nat_tests)
mark_clear (Some (Below n)) = refl

pub letters_clear : (w : Word) (ys : List ℕ) → feed_at 28 (letters w ++ ys) ≡ feed_at 24 ys
letters_clear Plat ys = refl
letters_clear Elem ys = refl
letters_clear Vect ys = refl
letters_clear Dead ys = refl
letters_clear Cell ys = refl
letters_clear Move ys = refl
letters_clear Last ys = refl
letters_clear Done ys = refl
letters_clear Area ys = refl
letters_clear Wide ys = refl
letters_clear Stop ys = refl

pub field_clear : (o : Option Number) (i j : ℕ) (ys : List ℕ) → i ≡ 6 + j → feed_at i (field_bytes o ++ ys) ≡ feed_at j ys
unfolding field_bytes
field_clear o i j ys is = clear (mark_of o) 6 (size_of o) i j ys (mark_clear o) is

-- parts

part : (p q r bs : List ℕ) (i j : ℕ) → bs ≡ p ++ (q ++ r) → length p ≡ i → length q ≡ j - i → between i j bs ≡ q
part p q r bs i j is lp lq = grind (arith, drop_at p (q ++ r) i, take_at q r (j - i))

cut : (i j : ℕ) (bs : List ℕ) → i ≤ j → drop i bs ≡ between i j bs ++ drop j bs
cut i j bs le = sym (take-append-drop (j - i) (drop i bs)) ∙ ap (λ xs. between i j bs ++ xs) (drop-drop (j - i) i bs ∙ ap (λ n. drop n bs) (omega arith))

fed : (k : ℕ) (bs : List ℕ) → feed_at k bs ≡ true → drop k bs ≡ 10 ∷ drop (suc k) bs
fed k [] is = absurd cc
fed zero (b ∷ bs) is = ap (λ x. x ∷ bs) (eqb-true b 10 is)
fed (suc k) (b ∷ bs) is = fed k bs (rest (eqb b 10) is)
  where
    rest : (t : Bool) → cond t false (feed_at k bs) ≡ true → feed_at k bs ≡ true
    rest true is = absurd cc
    rest false is = is

-- bytes with a line feed at 28 are 29 at least
pub long_enough : (bs : List ℕ) → feed_at 28 bs ≡ true → 29 ≤ length bs
long_enough bs feed = omega (arith, length-drop 28 bs, ap length (fed 28 bs feed))

-- the parts of a list that is put together from five, and the list from its parts
module _ (w a b c d r : List ℕ) (lw : length w ≡ 4) (la : length a ≡ 6) (lb : length b ≡ 6) (lc : length c ≡ 6) (ld : length d ≡ 6) where
  abbrev all : List ℕ
  all = w ++ (a ++ (b ++ (c ++ (d ++ r))))

  pub is_one : between 4 10 all ≡ a
  is_one = part w a _ all 4 10 refl lw la

  pub is_two : between 10 16 all ≡ b
  is_two = part (w ++ a) b (c ++ (d ++ r)) all 10 16 (simp append_assoc) (omega (arith, length-append {A = ℕ})) lb

  pub is_three : between 16 22 all ≡ c
  is_three = part (w ++ (a ++ b)) c (d ++ r) all 16 22 (simp append_assoc) (omega (arith, length-append {A = ℕ})) lc

  pub is_four : between 22 28 all ≡ d
  is_four = part (w ++ (a ++ (b ++ c))) d r all 22 28 (simp append_assoc) (omega (arith, length-append {A = ℕ})) ld

pub rejoined : (bs : List ℕ) → feed_at 28 bs ≡ true → bs ≡ take 4 bs ++ (between 4 10 bs ++ (between 10 16 bs ++ (between 16 22 bs ++ (between 22 28 bs ++ (10 ∷ drop 29 bs)))))
rejoined bs feed =
    sym (take-append-drop 4 bs)
    ∙ ap (λ x. take 4 bs ++ x) (cut 4 10 bs (omega arith)
    ∙ ap (λ x. between 4 10 bs ++ x) (cut 10 16 bs (omega arith)
    ∙ ap (λ x. between 10 16 bs ++ x) (cut 16 22 bs (omega arith)
    ∙ ap (λ x. between 16 22 bs ++ x) (cut 22 28 bs (omega arith)
    ∙ ap (λ x. between 22 28 bs ++ x) (fed 28 bs feed)))))

pub flat : (w a b c d r : List ℕ) → (w ++ (a ++ (b ++ (c ++ (d ++ (10 ∷ [])))))) ++ r ≡ w ++ (a ++ (b ++ (c ++ (d ++ (10 ∷ r)))))
flat w a b c d r = simp append_assoc
