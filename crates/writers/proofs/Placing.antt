-- Lines one after the other in an output. Assumes nothing.
use Rattle.std.proofs.Common.{◌≡◌, ℕ, ◌+◌, ◌*◌, ◌≤◌, List, [], ◌∷◌, ◌++◌, length, drop, Some, None, Option, sym, refl, ap, ◌∙◌, subst, ap₂, append-nil, arith, length-append, map-id}
use lib.Seq.{paste}
use Rattle.std.specs.Iterator.{AlwaysYields, Yields}
use Rattle.std.specs.List.{flat_map}
use Rattle.std.proofs.lemmas.Iterator.{YieldsList}
use Rattle.std.proofs.lemmas.Iterator.Consumers.{YieldsList-turn, YieldsList-end}
use Rattle.std.proofs.lemmas.List.Concat.{flat_map-append}
use Rattle.std.proofs.lemmas.List.Edits.{paste_all, paste-paste}
use Rattle.lines.specs.Lines.{line_bytes}
use Rattle.lines.specs.declared.line.Line.{Line}
use Rattle.lines.proofs.Whole.{line_length}
use Rattle.writers.specs.Writing.{with_lines, Gives}

-- each line has 29 bytes
length_lines : (ls : List Line) → length (flat_map line_bytes ls) ≡ 29 * length ls
length_lines [] = refl
length_lines (l ∷ ls) = omega (arith, length-append (line_bytes l) (flat_map line_bytes ls), line_length l, length_lines ls)

pasted : (d s : List ℕ) (n : ℕ) → n ≡ length s → paste d 0 s n ≡ s ++ drop n d
pasted d s n long = let same : 0 + n ≡ n = omega arith in paste_all d 0 s n long ∙ ap (λ m. s ++ drop m d) same

-- one line more
pub with_one_more : (d : List ℕ) (ls : List Line) (l : Line) → paste (with_lines d ls) (29 * length ls) (line_bytes l) 29 ≡ with_lines d (ls ++ l ∷ [])
with_one_more d ls l =
    let n = 29 * length ls in
    let s = flat_map line_bytes ls in
    let all : s ++ line_bytes l ≡ flat_map line_bytes (ls ++ l ∷ []) = sym (flat_map-append line_bytes ls (l ∷ []) ∙ ap (λ x. s ++ x) (append-nil (line_bytes l))) in
    let size : n + 29 ≡ 29 * length (ls ++ l ∷ []) = omega (arith, length-append ls (l ∷ [])) in
    let long : n + 29 ≡ length (s ++ line_bytes l) = omega (arith, length-append s (line_bytes l), length_lines ls, line_length l) in
    let start : n ≡ 0 + n = omega arith in
    ap₂ (λ x m. paste x m (line_bytes l) 29) (sym (pasted d s n (sym (length_lines ls)))) start
    ∙ paste-paste d 0 s (line_bytes l) n 29 (sym (length_lines ls)) (sym (line_length l)) (omega arith)
    ∙ pasted d (s ++ line_bytes l) (n + 29) long
    ∙ ap₂ (λ x m. x ++ drop m d) all size

-- from the list that a chain is shown to give
pub gives : {S : Type 0} {steps : S → Option Line → S → Type 0} {s : S} {xs ls : List Line} → YieldsList steps (λ l. l) s xs → xs ≡ ls → Gives steps s ls
gives {steps = steps} {s = s} road is = record { always = subst (AlwaysYields steps (λ l. l) s) is road.runs }

module _ {S : Type 0} {steps : S → Option Line → S → Type 0} {s : S} {all : List Line} (told : Gives steps s all) where
  -- one line more than were given is no more than all, where one more comes
  pub room_for_one : (ls : List Line) (l : Line) (r t : S) → s ≡ r → Yields steps r ls t → (u : S) → steps t (Some l) u → 29 * length ls + 29 ≤ 29 * length all
  room_for_one ls l r t from y u step =
      let more = YieldsList-turn {steps = steps} {v = λ l. l} {s = s} (record { runs = told.always }) ls t (subst (λ r. Yields steps r ls t) (sym from) y) (Some l) u l refl step in
      omega (arith, more.0)

  -- what was given is all, where no more comes
  pub all_given : (ls : List Line) (r t : S) → s ≡ r → Yields steps r ls t → (u : S) → steps t None u → ls ≡ all
  all_given ls r t from y u end =
      sym (map-id ls) ∙ (YieldsList-end {steps = steps} {v = λ l. l} {s = s} (record { runs = told.always }) ls t (subst (λ r. Yields steps r ls t) (sym from) y) None u refl end).0
