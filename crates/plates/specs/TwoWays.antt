-- Plates whose steps can be walked backwards. Assumes nothing.
use Rattle.std.specs.Prelude.{◌≡◌, ℕ, ◌↔◌, Some, Option}
use Rattle.plates.specs.Meanings.{Meaning}

-- no place of an element leads two cells to one target
abbrev pub OneSource : Meaning → Type 0
OneSource m = (e p c d t : ℕ) → m.target e p c ≡ Some t → m.target e p d ≡ Some t → c ≡ d

-- r is the cell that a place leads to t: Some c exactly when the place leads c there, and so none exactly when it leads no cell there
abbrev pub Source : Meaning → ℕ → ℕ → ℕ → Option ℕ → Type 0
Source m e p t r = (c : ℕ) → (r ≡ Some c) ↔ (m.target e p c ≡ Some t)
