use Rattle.std.proofs.Common.{◌≡◌, ℕ, zero, suc, ◌<◌, ◌≤◌, false, cond, eqb, List, [], ◌∷◌, length, get_or, take, sym, refl, arith}
use Rattle.std.proofs.lemmas.Bool.Decides.{nat_tests}
use Rattle.std.proofs.lemmas.List.{length-take}
use Rattle.std.specs.List.{list_any}
use Rattle.lines.specs.Lines.{feed_at}
use Rattle.lines.proofs.reading.framed.Goals as goal

too_short : (k : ℕ) (bs : List ℕ) → length bs ≤ k → feed_at k bs ≡ false
too_short k [] le = refl
too_short zero (b ∷ bs) le = absurd (omega arith)
too_short (suc k) (b ∷ bs) le = grind (arith, too_short k bs)

-- the first k bytes have no line feed, and the one after them is one
feed_last : (k : ℕ) (bs : List ℕ) → k < length bs → feed_at k bs ≡ cond (list_any (λ y. eqb y 10) (take k bs)) false (eqb (get_or bs k 0) 10)
feed_last k [] lt = absurd (omega arith)
feed_last zero (b ∷ bs) lt = refl
feed_last (suc k) (b ∷ bs) lt = grind (arith, nat_tests, feed_last k bs)

pub returns-then-bytes-lt29-clause-is : goal.returns-then-bytes-lt29-clause-is
returns-then-bytes-lt29-clause-is c = sym (too_short 28 c.args.bytes.now (omega arith))

pub slice_bounds-contains-end : goal.slice_bounds-contains-end
slice_bounds-contains-end c = omega (arith, length-take 28 c.args.bytes.now)

pub returns-then-not-contains-clause-is : goal.returns-then-not-contains-clause-is
returns-then-not-contains-clause-is c = grind (arith, nat_tests, c.if-not-contains.true, c.contains.ensures.value, feed_last 28 c.args.bytes.now (omega arith))

pub returns-else-not-contains-clause-is : goal.returns-else-not-contains-clause-is
returns-else-not-contains-clause-is c = grind (arith, nat_tests, c.if-not-contains.false, c.contains.ensures.value, feed_last 28 c.args.bytes.now (omega arith))
