-- The numbered chunks of a picture are its rows. Assumes nothing.
use Rattle.std.proofs.Common.{◌≡◌, ℕ, ◌*◌, ◌<◌, List, [], ◌∷◌, map, length, get_or, Some, Option, IfSome, true, Bor, ap, sym, ◌∙◌, subst, arith}
use Rattle.std.proofs.Math.Nat.{mul-div_cancel_left}
use Rattle.std.proofs.lemmas.Iterator.Adapters.{option_map_id}
use Rattle.std.proofs.lemmas.List.{get_or-map, length-map}
use Rattle.std.proofs.lemmas.List.FromFn.{fill_by_all}
use Rattle.std.proofs.lemmas.Nat.{mul-le}
use Rattle.std.specs.Iterator.Runs.{Run, ProjectsRun, IsChunksExactRun}
use Rattle.std.specs.List.{range_with_len}
use Rattle.std.specs.Option.{option_map}
use Rattle.kinds.specs.Lattices.{Values}
use Rattle.morphology.specs.Pictures.{area}
use Rattle.grids.specs.declared.rows.Row.{Row}
use Rattle.grids.specs.Cells.{Extent, cell_count}
use Rattle.grids.specs.Extents.{Sized}
use Rattle.grids.specs.WideRows.{row_length, row_count}

first : {X : Type 0} (xs : List X) (i : ℕ) → i < length xs → X
first [] i lt = absurd (omega arith)
first (x ∷ xs) i lt = x

module _ {V : Type 0} (k : Values V) (g : Extent) (a : List V) where
  -- the row that a numbered chunk is, and the row with a number
  abbrev pub counted : ℕ × Bor (List V) → Row
  counted x = record { y = x.0; count = area k x.1.now }

  abbrev pub row_at : ℕ → Row
  row_at y = record { y = y; count = row_count k g a y }

  -- of all chunks of a picture, each with its number
  pub counted_rows : {S T : Type 0} {steps : S → Option (ℕ × Bor (List V)) → S → Type 0} {source : T → Option (Bor (List V)) → T → Type 0} (p : Run steps) (q : Run source)
      → Sized g → length a ≡ cell_count g → ((i : ℕ) → IfSome (p.at i) (λ x. x.0 ≡ i)) → ProjectsRun p q (λ x. x.1) → q.whole ≡ true
      → (0 < row_length g → IsChunksExactRun q (row_length g) a) → map counted p.items ≡ map row_at (range_with_len 0 g.height)
  counted_rows p q sized long places same whole chunks = fill_by_all row_at (map counted p.items) g.height (record { y = 0; count = 0 }) all each
    where
      some : 0 < row_length g
      some = omega (arith, mul-le 1 1 _ _ sized.some_sums sized.wide)

      all : length (map counted p.items) ≡ g.height
      all =
          let whole-rows : length a ≡ row_length g * g.height = omega arith in
          length-map p.items counted ∙ sym p.long ∙ sym same.0 ∙ (chunks some).1 whole ∙ rw whole-rows (mul-div_cancel_left g.height some)

      each : (i : ℕ) → i < g.height → get_or (map counted p.items) i (record { y = 0; count = 0 }) ≡ row_at i
      each i lt =
          let in-items : i < length p.items = omega (arith, all, length-map p.items counted) in
          let d = first p.items i in-items in
          let item = get_or p.items i d in
          let there : p.at i ≡ Some item = sym (option_map_id (p.at i)) ∙ p.reads i d (omega (arith, p.long)) in
          let place : item.0 ≡ i = subst (λ o. IfSome o (λ x. x.0 ≡ i)) there (places i) in
          let chunk : q.at i ≡ Some item.1 = same.2 i ∙ ap (option_map (λ x. x.1)) there in
          let cut = rw chunk at ((chunks some).2 i) in
          get_or-map counted p.items i d _ in-items ∙ (λ j. record { y = place j; count = area k (cut.2.0 j) })
