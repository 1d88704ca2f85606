-- A word and its four letters fix each other. Assumes nothing.
use Rattle.std.proofs.Common.{◌≡◌, ℕ, true, List, length, Ok, Err, Result, refl, arith, tests}
use Rattle.std.proofs.lemmas.Grind.{elements}
use Rattle.std.proofs.lemmas.Bool.{cond_both}
use Rattle.lines.specs.declared.faults.LineFault.{LineFault}
use Rattle.lines.specs.declared.words.Word.{Word}
use Rattle.lines.specs.declared.words.Word.TheVariants.{Plat, Elem, Vect, Dead, Cell, Move, Last, Done, Area, Wide, Stop}
use Rattle.lines.specs.Words.{letters, is, word_of}
use Rattle.lines.proofs.Lengths.{length_letters}

pub word_reads : (w : Word) → word_of (letters w) ≡ Ok w
word_reads Plat = refl
word_reads Elem = refl
word_reads Vect = refl
word_reads Dead = refl
word_reads Cell = refl
word_reads Move = refl
word_reads Last = refl
word_reads Done = refl
word_reads Area = refl
word_reads Wide = refl
word_reads Stop = refl

spelled : (w : Word) (xs : List ℕ) → length xs ≡ 4 → is w xs ≡ true → letters w ≡ xs
spelled w xs n y =
    grind (arith, tests, elements, length_letters w)

-- the letters of the word that is read are the columns
abbrev pub Named : List ℕ → Result Word LineFault → Type 0
Named xs (Ok w) = letters w ≡ xs
Named xs (Err f) = Unit {0}

pub word_is : (xs : List ℕ) → length xs ≡ 4 → Named xs (word_of xs)
word_is xs n =
    cond_both (is Plat xs) _ _ (Named xs) (spelled Plat xs n) (λ _.
    cond_both (is Elem xs) _ _ (Named xs) (spelled Elem xs n) (λ _.
    cond_both (is Vect xs) _ _ (Named xs) (spelled Vect xs n) (λ _.
    cond_both (is Dead xs) _ _ (Named xs) (spelled Dead xs n) (λ _.
    cond_both (is Cell xs) _ _ (Named xs) (spelled Cell xs n) (λ _.
    cond_both (is Move xs) _ _ (Named xs) (spelled Move xs n) (λ _.
    cond_both (is Last xs) _ _ (Named xs) (spelled Last xs n) (λ _.
    cond_both (is Done xs) _ _ (Named xs) (spelled Done xs n) (λ _.
    cond_both (is Area xs) _ _ (Named xs) (spelled Area xs n) (λ _.
    cond_both (is Wide xs) _ _ (Named xs) (spelled Wide xs n) (λ _.
    cond_both (is Stop xs) _ _ (Named xs) (spelled Stop xs n) (λ _. tt)))))))))))
