-- Frames: in which of 16 frames rubber touches a cell, one bit for each frame. Assumes nothing.
use Rattle.std.specs.Prelude.{ℕ, ◌^◌, ◌<◌, Bool, Option, ◌==◌, bit_and, bit_or}
use Rattle.std.proofs.Common.{lit<}
use Rattle.std.specs.Int.Bits.{and_lt}
use Rattle.std.proofs.lemmas.Nat.{or_lt}
use Rattle.kinds.specs.Lattices.{Values}
use Rattle.kinds.specs.Numbers.{Written, made_below}
use Rattle.kinds.specs.declared.values.Frames.{Frames}

abbrev pub frames : (n : ℕ) → n < 2 ^ 16 → Frames
frames n fits = record { bits = n; fits = fits }

-- the frames of either, and those of both
abbrev pub united : Frames → Frames → Frames
united x y = frames (bit_or x.bits y.bits) (or_lt 16 x.bits y.bits x.fits y.fits)

abbrev pub shared : Frames → Frames → Frames
shared x y = frames (bit_and x.bits y.bits) (and_lt 16 x.bits y.bits x.fits y.fits)

-- y has all set bits of x
abbrev pub frames_under : Frames → Frames → Bool
frames_under x y = bit_and x.bits y.bits == x.bits

abbrev pub frames_values : Values Frames
frames_values = record { least = frames 0 (lit< tt); greatest = frames 65535 (lit< tt); join = united; meet = shared; under = frames_under }

-- a set of frames is its own number
abbrev pub frames_number : Frames → ℕ
frames_number x = x.bits

abbrev pub frames_of : ℕ → Option Frames
frames_of n = made_below n 65536 (frames n)

abbrev pub written_frames : Written Frames
written_frames = record { code = 3; number = frames_number; value = frames_of }
