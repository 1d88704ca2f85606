-- What `&` and `|` keep that the library of bits does not say. Assumes nothing.
use Rattle.std.specs.Prelude.{◌≡◌, ℕ, bit_and, bit_or}
use Rattle.std.proofs.Common.{arith}
use Rattle.std.proofs.lemmas.Nat.Bits.{bit_at_and, bit_at_or, same_from_bits}

pub and_absorbs : (a b : ℕ) → bit_and a (bit_or a b) ≡ a
and_absorbs a b = same_from_bits _ _ (λ i. grind (arith, bit_at_and, bit_at_or))

pub and_over_or : (a b c : ℕ) → bit_and (bit_or a b) c ≡ bit_or (bit_and a c) (bit_and b c)
and_over_or a b c =
    same_from_bits _ _ (λ i. grind (arith, bit_at_and, bit_at_or))
