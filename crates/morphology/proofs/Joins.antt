-- The join and the meet of a list, by the order. Assumes nothing.
use Rattle.std.proofs.Common.{List, [], ◌∷◌, fold}
use Rattle.std.specs.List.{All}
use Rattle.std.proofs.lemmas.List.Elements.{All-nil, All-cons, All-head, All-tail}
use Rattle.kinds.specs.Lattices.{Values, Lawful, Under, join_all, meet_all}

module _ {V : Type 0} (k : Values V) (l : Lawful k) where
  folded_lowest : (s z : V) (xs : List V) → Under k s z → All (λ x. Under k x z) xs → Under k (fold k.join s xs) z
  folded_lowest s z [] h all = h
  folded_lowest s z (x ∷ xs) h all = folded_lowest (k.join s x) z xs (l.join_lowest s x z h (All-head (λ y. Under k y z) x xs all)) (All-tail (λ y. Under k y z) x xs all)

  folded_over : (s : V) (xs : List V) → Under k s (fold k.join s xs) × All (λ x. Under k x (fold k.join s xs)) xs
  folded_over s [] = (l.itself s, All-nil (λ x. Under k x s))
  folded_over s (x ∷ xs) =
      let rest = folded_over (k.join s x) xs in
      (l.chain _ _ _ (l.join_left s x) rest.0, All-cons (λ y. Under k y (fold k.join s (x ∷ xs))) x xs (l.chain _ _ _ (l.join_right s x) rest.0) rest.1)

  -- the join of a list is the lowest value over all of it
  pub join_all_lowest : (z : V) (xs : List V) → All (λ x. Under k x z) xs → Under k (join_all k xs) z
  join_all_lowest z xs all = folded_lowest k.least z xs (l.least_under z) all

  pub join_all_over : (xs : List V) → All (λ x. Under k x (join_all k xs)) xs
  join_all_over xs = (folded_over k.least xs).1

-- the same values with the order turned round
abbrev opposite : {V : Type 0} → Values V → Values V
opposite k = record { least = k.greatest; greatest = k.least; join = k.meet; meet = k.join; under = λ x y. k.under y x }

opposite_lawful : {V : Type 0} (k : Values V) → Lawful k → Lawful (opposite k)
opposite_lawful k l = record {
  itself = l.itself;
  equal = λ x y h i. l.equal x y i h;
  chain = λ x y z h i. l.chain z y x i h;
  join_left = l.meet_left;
  join_right = l.meet_right;
  join_lowest = l.meet_highest;
  meet_left = l.join_left;
  meet_right = l.join_right;
  meet_highest = l.join_lowest;
  least_under = l.greatest_over;
  greatest_over = l.least_under;
}

-- the meet of a list is the join in the opposite order
module _ {V : Type 0} (k : Values V) (l : Lawful k) where
  pub meet_all_highest : (z : V) (xs : List V) → All (λ x. Under k z x) xs → Under k z (meet_all k xs)
  meet_all_highest = join_all_lowest (opposite k) (opposite_lawful k l)

  pub meet_all_under : (xs : List V) → All (λ x. Under k (meet_all k xs) x) xs
  meet_all_under = join_all_over (opposite k) (opposite_lawful k l)
