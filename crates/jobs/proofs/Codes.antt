-- A kind of cells and its code fix each other. Assumes nothing.
use Rattle.std.proofs.Common.{◌≡◌, ℕ, zero, suc, ◌≤◌, Ok, refl, ap, arith}
use Rattle.jobs.specs.Heads.{kind_code, kind_of}
use Rattle.jobs.specs.declared.heads.CellKind.{CellKind}
use Rattle.jobs.specs.declared.heads.CellKind.TheVariants.{Touch, Level, Frames}

pub code_kept : (n : ℕ) (c : CellKind) → kind_of n ≡ Ok c → kind_code c ≡ n
code_kept zero c is = cc
code_kept (suc zero) c is = let same : c ≡ Touch = cc in ap kind_code same
code_kept (suc (suc zero)) c is = let same : c ≡ Level = cc in ap kind_code same
code_kept (suc (suc (suc zero))) c is = let same : c ≡ Frames = cc in ap kind_code same
code_kept (suc (suc (suc (suc n)))) c is = cc

pub kind_found : (n : ℕ) → 1 ≤ n → n ≤ 3 → (c : CellKind) × (kind_of n ≡ Ok c)
kind_found zero low high = absurd (omega arith)
kind_found (suc zero) low high = (Touch, refl)
kind_found (suc (suc zero)) low high = (Level, refl)
kind_found (suc (suc (suc zero))) low high = (Frames, refl)
kind_found (suc (suc (suc (suc n)))) low high = absurd (omega arith)
