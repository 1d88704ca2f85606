-- Which cells the lists of steps hold. Assumes nothing.
use Rattle.std.proofs.Common.{◌≡◌, ℕ, ◌+◌, true, List, [], ◌∷◌, ◌++◌, Some, None, sym, ap, ◌∙◌, arith}
use Rattle.std.specs.List.{range_with_len, filter_map}
use Rattle.std.proofs.lemmas.List.FromFn.{map-range_with_len_more}
use Rattle.std.proofs.lemmas.List.{map-id, append-nil}
use Rattle.std.proofs.lemmas.List.Elements.{filter_map-append}
use Rattle.std.proofs.lemmas.Grind.{common_steps}
use Rattle.plates.specs.Lists.{among}
use Rattle.plates.specs.Meanings.{Meaning}

-- one number more
pub counting_more : (n : ℕ) → range_with_len 0 (n + 1) ≡ range_with_len 0 n ++ n ∷ []
counting_more n = sym (map-id _) ∙ map-range_with_len_more (λ x. x) 0 n n (omega arith) ∙ ap (λ l. l ++ n ∷ []) (map-id _)

-- the targets of c by the first n places of an element
abbrev pub by_places : Meaning → ℕ → ℕ → ℕ → List ℕ
by_places m e c n = filter_map (λ p. m.target e p c) (range_with_len 0 n)

-- one place more, with a target and without
pub by_places_some : (m : Meaning) (e c n t : ℕ) → Some t ≡ m.target e n c → by_places m e c (n + 1) ≡ by_places m e c n ++ t ∷ []
by_places_some m e c n t is = grind (arith, counting_more n, filter_map-append)

pub by_places_none : (m : Meaning) (e c n : ℕ) → None ≡ m.target e n c → by_places m e c (n + 1) ≡ by_places m e c n
by_places_none m e c n is = grind (arith, counting_more n, filter_map-append, append-nil)

pub among_here : (x : ℕ) (xs : List ℕ) → among x (xs ++ x ∷ []) ≡ true
among_here x [] = grind (arith, common_steps)
among_here x (y ∷ ys) = grind (arith, among_here x ys)

pub among_other : (x y : ℕ) (xs : List ℕ) → (y ≡ x → ⊥) → among x (xs ++ y ∷ []) ≡ among x xs
among_other x y [] other = grind arith
among_other x y (z ∷ zs) other = grind (arith, among_other x y zs other)
