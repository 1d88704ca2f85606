-- The lines of lists that grow at their end. Assumes nothing.
use Rattle.std.proofs.Common.{◌≡◌, ℕ, zero, suc, ◌+◌, ◌-◌, ◌≤◌, not, List, [], ◌∷◌, ◌++◌, length, get_or, take, set, replicate, Some, None, Option, sym, refl, ap, ◌∙◌, append_assoc, append-nil, arith}
use Rattle.std.proofs.lemmas.List.{take_all, length-append, length-replicate}
use Rattle.std.proofs.lemmas.Bool.{cond-false}
use Rattle.std.specs.Option.{option_to_list}
use Rattle.kinds.specs.Lattices.{Values, Lawful}
use Rattle.kinds.specs.Numbers.{Written}
use Rattle.grids.specs.declared.vectors.Vector.{Vector}
use Rattle.lines.specs.declared.line.Line.{Line}
use Rattle.plans.specs.Drawings.{Lists, blank}
use Rattle.plans.specs.Fitting.{put}
use Rattle.plans.specs.declared.modes.Mode.{Mode}
use Rattle.plans.specs.declared.modes.Side.TheVariants.{First, Second}
use Rattle.jobs.specs.Entries.{listed, elem_line, vect_line, vect_entry, cell_entry, first_side, element_lines, elements_lines}
use Rattle.jobs.specs.Jobs.{padded}

module _ {X : Type 0} (f : ℕ → X → Option Line) where
  pub listed_append : (i : ℕ) (xs ys : List X) → listed f i (xs ++ ys) ≡ listed f i xs ++ listed f (i + length xs) ys
  listed_append i [] ys = let here : i ≡ i + 0 = omega arith in ap (λ n. listed f n ys) here
  listed_append i (x ∷ xs) ys =
      let there : suc i + length xs ≡ i + suc (length xs) = omega arith in
      ap (λ r. option_to_list (f i x) ++ r) (listed_append (suc i) xs ys ∙ ap (λ n. listed f (suc i) xs ++ listed f n ys) there) ∙ sym (append_assoc (option_to_list (f i x)) (listed f (suc i) xs) _)

  -- one item more that has a line
  pub listed_push : (xs : List X) (x : X) (l : Line) → f (length xs) x ≡ Some l → listed f 0 (xs ++ (x ∷ [])) ≡ listed f 0 xs ++ (l ∷ [])
  listed_push xs x l is =
      let here : 0 + length xs ≡ length xs = omega arith in
      listed_append 0 xs (x ∷ []) ∙ ap (λ n. listed f 0 xs ++ (option_to_list (f n x) ++ [])) here ∙ ap (λ o. listed f 0 xs ++ (option_to_list o ++ [])) is

-- cells that are least have no line

module _ {V : Type 0} (k : Values V) (w : Written V) (lawful : Lawful k) where
  none_at : (i : ℕ) → cell_entry k w i k.least ≡ None
  none_at i = cond-false _ _ _ (ap not (lawful.itself k.least))

  least_listed : (i n : ℕ) → listed (cell_entry k w) i (replicate n k.least) ≡ []
  least_listed i zero = refl
  least_listed i (suc n) = ap (λ o. option_to_list o ++ listed (cell_entry k w) (suc i) (replicate n k.least)) (none_at i) ∙ least_listed (suc i) n

  pub padded_listed : (n : ℕ) (a : List V) → length a ≤ n → listed (cell_entry k w) 0 (padded k n a) ≡ listed (cell_entry k w) 0 a
  padded_listed n a le =
      listed_append (cell_entry k w) 0 (take n a) (replicate (n - length a) k.least)
      ∙ ap (λ r. listed (cell_entry k w) 0 (take n a) ++ r) (least_listed (0 + length (take n a)) (n - length a))
      ∙ append-nil _
      ∙ ap (listed (cell_entry k w) 0) (take_all n a le)

pub length_padded : {V : Type 0} (k : Values V) (n : ℕ) (a : List V) → length a ≤ n → length (padded k n a) ≡ n
length_padded k n a le =
    let all = ap length (take_all n a le) in
    omega (arith, length-append (take n a) (replicate (n - length a) k.least), length-replicate (n - length a) k.least)

-- elements

pub element_push : (m : Mode) (i : ℕ) (ls : List Lists) → elements_lines m i (ls ++ (blank ∷ [])) ≡ elements_lines m i ls ++ (elem_line (i + length ls) ∷ [])
element_push m i [] = let here : i ≡ i + 0 = omega arith in ap (λ n. elem_line n ∷ []) here
element_push m i (l ∷ ls) =
    let there : suc i + length ls ≡ i + suc (length ls) = omega arith in
    ap (λ r. element_lines m i l ++ r) (element_push m (suc i) ls ∙ ap (λ n. elements_lines m (suc i) ls ++ (elem_line n ∷ [])) there) ∙ sym (append_assoc (element_lines m i l) (elements_lines m (suc i) ls) _)

-- the last element with one line more
pub last_more : (m : Mode) (i : ℕ) (ls : List Lists) (e : ℕ) (l : Lists) (new : Line) → suc e ≡ length ls
    → ((n : ℕ) → element_lines m n l ≡ element_lines m n (get_or ls e blank) ++ (new ∷ [])) → elements_lines m i (set ls e l) ≡ elements_lines m i ls ++ (new ∷ [])
last_more m i [] e l new size one = absurd (omega arith)
last_more m i (x ∷ []) zero l new size one = append-nil _ ∙ one i ∙ ap (λ r. r ++ (new ∷ [])) (sym (append-nil (element_lines m i x)))
last_more m i (x ∷ []) (suc e) l new size one = absurd (omega arith)
last_more m i (x ∷ y ∷ ls) zero l new size one = absurd (omega arith)
last_more m i (x ∷ y ∷ ls) (suc e) l new size one =
    ap (λ r. element_lines m i x ++ r) (last_more m (suc i) (y ∷ ls) e l new (omega arith) one) ∙ sym (append_assoc (element_lines m i x) (elements_lines m (suc i) (y ∷ ls)) _)

end_first : (f s : List Line) (l : Line) → s ≡ [] → (f ++ (l ∷ [])) ++ s ≡ (f ++ s) ++ (l ∷ [])
end_first f s l gone = rw gone (simp append-nil)

pub first_more : (m : Mode) (n : ℕ) (l : Lists) (v : Vector) → l.second ≡ [] → element_lines m n (put First l v) ≡ element_lines m n l ++ (vect_line (first_side m) v ∷ [])
first_more m n l v gone =
    let f = listed (vect_entry (first_side m)) 0 l.first in
    let s = listed (vect_entry 2) 0 l.second in
    ap (λ r. elem_line n ∷ r) (ap (λ r. r ++ s) (listed_push (vect_entry (first_side m)) l.first v _ refl) ∙ end_first f s _ (ap (listed (vect_entry 2) 0) gone))

pub second_more : (m : Mode) (n : ℕ) (l : Lists) (v : Vector) → element_lines m n (put Second l v) ≡ element_lines m n l ++ (vect_line 2 v ∷ [])
second_more m n l v =
    let f = listed (vect_entry (first_side m)) 0 l.first in
    let s = listed (vect_entry 2) 0 l.second in
    ap (λ r. elem_line n ∷ r) (ap (λ r. f ++ r) (listed_push (vect_entry 2) l.second v _ refl) ∙ sym (append_assoc f s _))
