-- Elements keep to the sums that their lists take. Assumes nothing.
use Rattle.std.proofs.Common.{◌≡◌, ℕ, zero, suc, Bool, true, false, cond, List, [], ◌∷◌, ◌++◌, get_or, set, refl, ◌∙◌, arith}
use Rattle.std.proofs.lemmas.Bool.{and_parts, and_from}
use Rattle.std.proofs.lemmas.List.Folds.{list_all-append}
use Rattle.std.proofs.lemmas.List.Recursion.{and_set, and_push}
use Rattle.grids.specs.declared.vectors.Vector.{Vector}
use Rattle.plans.specs.declared.modes.Mode.{Mode}
use Rattle.plans.specs.declared.modes.Side.{Side}
use Rattle.plans.specs.declared.modes.Side.TheVariants.{First, Second}
use Rattle.grids.specs.Cells.{vector_sum}
use Rattle.plans.specs.Modes.{allowed}
use Rattle.plans.specs.Drawings.{Lists, blank, fair, all_fair}
use Rattle.plans.specs.Fitting.{put}

fair_at : (m : Mode) (ls : List Lists) (e : ℕ) → all_fair m ls ≡ true → fair m (get_or ls e blank) ≡ true
fair_at m [] e h = refl
fair_at m (l ∷ ls) zero h = (and_parts (fair m l) _ h).0
fair_at m (l ∷ ls) (suc e) h = fair_at m ls e (and_parts (fair m l) _ h).1

fair_set : (m : Mode) (ls : List Lists) (e : ℕ) (l : Lists) → all_fair m ls ≡ true → fair m l ≡ true → all_fair m (set ls e l) ≡ true
fair_set m ls e l h k = and_set (all_fair m) (fair m) refl (λ _ _. refl) ls e l k h

pub fair_push : (m : Mode) (ls : List Lists) → all_fair m ls ≡ true → all_fair m (ls ++ blank ∷ []) ≡ true
fair_push m ls h = and_push (all_fair m) (fair m) refl (λ _ _. refl) ls blank ∙ and_from _ _ h refl

fair_put : (m : Mode) (s : Side) (l : Lists) (v : Vector) → fair m l ≡ true → allowed m s (vector_sum v) ≡ true → fair m (put s l v) ≡ true
fair_put m First l v h k = grind (arith, list_all-append)
fair_put m Second l v h k = grind (arith, list_all-append)

-- a vector of an allowed sum, added or refused
pub fair_added : (m : Mode) (s : Side) (ls : List Lists) (e : ℕ) (v : Vector) (b : Bool) → all_fair m ls ≡ true → allowed m s (vector_sum v) ≡ true → all_fair m (cond b (set ls e (put s (get_or ls e blank) v)) ls) ≡ true
fair_added m s ls e v true h k = fair_set m ls e _ h (fair_put m s (get_or ls e blank) v (fair_at m ls e h) k)
fair_added m s ls e v false h k = h
