-- One turn of the loops of dilate and erode. Assumes nothing.
use Rattle.std.proofs.Common.{◌≡◌, ℕ, ◌+◌, ◌<◌, cond, List, [], ◌∷◌, ◌++◌, map, length, set, filter, arith, rules}
use Rattle.std.specs.List.{All, range_with_len}
use Rattle.std.proofs.lemmas.List.Elements.{filter-append}
use Rattle.std.proofs.lemmas.List.{map_push, map-append}
use Rattle.std.proofs.lemmas.List.Sums.{fold_push}
use Rattle.std.proofs.lemmas.Grind.{common_steps}
use Rattle.kinds.specs.Lattices.{Values, Lawful, join_all, meet_all}
use Rattle.plates.specs.Lists.{among}
use Rattle.plates.specs.Meanings.{Meaning}
use Rattle.morphology.specs.Pictures.{at}
use Rattle.morphology.specs.Moves.{reached}
use Rattle.morphology.specs.Passes.{Spread}
use Rattle.morphology.proofs.Listed.{counting_more, among_here, among_other}

module _ {V : Type 0} (k : Values V) (l : Lawful k) where
  -- joining a value twice is joining it once
  join_again : (s v : V) → k.join (k.join s v) v ≡ k.join s v
  join_again s v = search (rules, l.equal, l.join_lowest, l.itself, l.join_right, l.join_left)

  -- a value spread to one more target
  pub spread_more : (xs : List ℕ) (t : ℕ) (v : V) (w₀ w w₁ : List V) → length w ≡ length w₀ → t < length w → Spread k xs v w₀ w → w₁ ≡ set w t (k.join (at k w t) v) → Spread k (xs ++ t ∷ []) v w₀ w₁
  spread_more xs t v w₀ w w₁ size lt inv told x h =
      grind (arith, common_steps, inv x h, among_here x xs, among_other x t xs, join_again (at k w₀ x) v)

module _ {V : Type 0} (k : Values V) (m : Meaning) (e : ℕ) (a : List V) where
  -- the join of the cells below c with a step to x
  abbrev pub joined_below : ℕ → ℕ → V
  joined_below c x = join_all k (map (at k a) (filter (λ y. among x (reached m e y)) (range_with_len 0 c)))

  -- one cell more
  pub joined_more_cells : (c x : ℕ) → cond (among x (reached m e c)) (k.join (joined_below c x) (at k a c)) (joined_below c x) ≡ joined_below (c + 1) x
  joined_more_cells c x = grind (arith, common_steps, counting_more c, filter-append, map-append, fold_push)

module _ {V : Type 0} (k : Values V) (a : List V) where
  -- the meet of one target more, where all are cells of the picture
  pub met_more : (xs : List ℕ) (t : ℕ) (v w : V) → (All (λ u. u < length a) xs → v ≡ meet_all k (map (at k a) xs)) → (t < length a → w ≡ k.meet v (at k a t)) → All (λ u. u < length a) (xs ++ t ∷ []) → w ≡ meet_all k (map (at k a) (xs ++ t ∷ []))
  met_more xs t v w inv told all =
      let before : All (λ u. u < length a) xs = λ i d lt. grind (arith, common_steps, all i d) in
      let here : t < length a = grind (arith, common_steps, all (length xs) 0) in
      grind (arith, inv before, told here, map_push (at k a) xs t, fold_push)
