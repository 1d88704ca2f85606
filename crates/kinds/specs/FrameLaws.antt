-- The laws of sets of frames. Assumes nothing.
use Rattle.std.specs.Prelude.{◌≡◌, ◌^◌, ◌<◌, bit_and, bit_or, refl}
use Rattle.std.proofs.Common.{sym, ap, ◌∙◌, arith, mod-eq_of_lt}
use mathlib.Core.HLevel.{is_prop→PathP}
use Rattle.std.proofs.Math.Bridge.{le_prop}
use Rattle.std.specs.Int.Bits.{and_self}
use Rattle.std.proofs.lemmas.Nat.{and_assoc, and_comm, or_comm, and_mask}
use Rattle.std.proofs.lemmas.Bool.{eqb-true, eq-eqb}
use Rattle.kinds.specs.Lattices.{Lawful}
use Rattle.kinds.specs.Numbers.{Numbered}
use Rattle.kinds.specs.FrameSets.{frames, frames_values, frames_number, written_frames}
use Rattle.kinds.specs.declared.values.Frames.{Frames}
use Rattle.kinds.specs.BitLaws.{and_absorbs, and_over_or}
use Rattle.kinds.specs.Made.{made, made_of}

-- a set of frames is its number: the fact that it fits has one proof
pub same_frames : (x y : Frames) → x.bits ≡ y.bits → x ≡ y
same_frames x y e = λ i. record { bits = e i; fits = is_prop→PathP (λ j. e j < 2 ^ 16) (λ j. le_prop) x.fits y.fits i }

pub frames_lawful : Lawful frames_values
frames_lawful = record {
  itself = λ x. eq-eqb _ _ (and_self x.bits);
  equal = λ x y h i. same_frames x y (sym (eqb-true _ _ h) ∙ and_comm x.bits y.bits ∙ eqb-true _ _ i);
  chain = λ x y z h i.
      let xy : bit_and x.bits y.bits ≡ x.bits = eqb-true _ _ h in
      let yz : bit_and y.bits z.bits ≡ y.bits = eqb-true _ _ i in
      eq-eqb _ _ (ap (λ b. bit_and b z.bits) (sym xy) ∙ and_assoc z.bits x.bits y.bits ∙ ap (bit_and x.bits) yz ∙ xy);
  join_left = λ x y. eq-eqb _ _ (and_absorbs x.bits y.bits);
  join_right = λ x y. eq-eqb _ _ (ap (bit_and y.bits) (or_comm x.bits y.bits) ∙ and_absorbs y.bits x.bits);
  join_lowest = λ x y z h i.
      let xz : bit_and x.bits z.bits ≡ x.bits = eqb-true _ _ h in
      let yz : bit_and y.bits z.bits ≡ y.bits = eqb-true _ _ i in
      eq-eqb _ _ (and_over_or x.bits y.bits z.bits ∙ ap (λ b. bit_or b (bit_and y.bits z.bits)) xz ∙ ap (bit_or x.bits) yz);
  meet_left = λ x y. eq-eqb _ _ (and_comm (bit_and x.bits y.bits) x.bits ∙ sym (and_assoc y.bits x.bits x.bits) ∙ ap (λ b. bit_and b y.bits) (and_self x.bits));
  meet_right = λ x y. eq-eqb _ _ (and_assoc y.bits x.bits y.bits ∙ ap (bit_and x.bits) (and_self y.bits));
  meet_highest = λ x y z h i.
      let zx : bit_and z.bits x.bits ≡ z.bits = eqb-true _ _ h in
      let zy : bit_and z.bits y.bits ≡ z.bits = eqb-true _ _ i in
      eq-eqb _ _ (sym (and_assoc y.bits z.bits x.bits) ∙ ap (λ b. bit_and b y.bits) zx ∙ zy);
  least_under = λ x. refl;
  greatest_over = λ x. eq-eqb _ _ (and_mask x.bits 16 ∙ mod-eq_of_lt x.fits);
}

pub frames_numbered : Numbered frames_values written_frames
frames_numbered = record {
  restored = λ x. made 65536 frames x.bits x x.fits (λ fits. same_frames _ x refl);
  named = made_of 65536 frames frames_number (λ n fits. refl);
  least_is_zero = refl;
  some_code = omega arith;
  few_codes = omega arith;
  few_numbers = λ x. x.fits;
}
