-- How many items iterators one behind the other have left. Assumes nothing.
use Rattle.std.proofs.Common.{◌≡◌, ℕ, ◌+◌, ◌^◌, ◌<◌, ◌≤◌, Bool, true, false, cond, T, List, [], ◌∷◌, length, Some, None, Option, ap, subst, arith}
use Rattle.std.specs.Bool.{⊤}
use Rattle.std.specs.Iterator.{CallableAtEachTurn, Count, IsFinite, size, UpTo, at_most, count_add, count_unless, Yields}
use Rattle.grids.specs.declared.vectors.Vector.{Vector}
use Rattle.plans.specs.Drawings.{Lists, fan_of}
use Rattle.std.specs.Option.{option_len}

both_end : (x y : Bool) → T x → T y → T (cond x y false)
both_end true y p q = q
both_end false y p q = absurd p

both : (a b : Count) (m n : ℕ) → UpTo a m → UpTo b n → UpTo (count_add a b) (m + n)
both a b m n p q = (both_end a.bounded b.bounded p.0 q.0, omega arith)

unless : (done : Bool) (c : Count) (n : ℕ) → UpTo c n → UpTo (count_unless done c) n
unless true c n p = (tt, omega arith)
unless false c n p = p

one : {X : Type 0} (o : Option X) → option_len o ≤ 1
one None = omega arith
one (Some x) = omega arith

-- one item at most, and the two lists of an element behind it
pub few_left : {P X : Type 0} → P → (p q r s : Bool) (o : Option X) (xs ys : List Vector) (l : Lists) → xs ≡ l.first → ys ≡ l.second → fan_of l ≤ 64
    → P × IsFinite (count_add (count_unless p (count_add (count_unless q (at_most (option_len o))) (count_unless r (at_most (length xs))))) (count_unless s (at_most (length ys))))
    × (size (count_add (count_unless p (count_add (count_unless q (at_most (option_len o))) (count_unless r (at_most (length xs))))) (count_unless s (at_most (length ys)))) < 2 ^ 64)
few_left can p q r s o xs ys l first second few =
    let m = length xs in
    let n = length ys in
    let one_list = both _ _ 1 m (unless q (at_most (option_len o)) 1 (tt, one o)) (unless r (at_most m) m (tt, omega arith)) in
    let two_lists = both _ _ (1 + m) n (unless p _ (1 + m) one_list) (unless s (at_most n) n (tt, omega arith)) in
    (can, two_lists.0, omega (arith, two_lists.1, few, ap length first, ap length second))

-- where each step that gives an item keeps what I says of the state, and the item has Q, each item that may come has Q
module _ {S U : Type 0} (steps : S → Option U → S → Type 0) (I : S → Type 0) (Q : U → Type 0) (made : (t : S) (u : U) (v : S) → steps t (Some u) v → I t → I v × Q u) where
  kept : (xs : List U) (s t : S) → I s → Yields steps s xs t → I t
  kept [] s t is y = subst I y is
  kept (u ∷ xs) s t is y = kept xs y.0 t (made s u y.0 y.1 is).0 y.2

  pub each_made : {s : S} → I s → CallableAtEachTurn {P = Unit {0}} steps (λ _ _ _. ⊤) (λ _ u. Q u) s tt
  each_made {s} is = record { at = λ xs t q u v y folds step. (made t u v step (kept xs s t is y)).1 }
