-- The lines that are told of a run, counted and put together. Assumes nothing.
use Rattle.std.proofs.Common.{◌≡◌, ℕ, ◌+◌, ◌*◌, List, [], ◌∷◌, ◌++◌, map, length, take, drop, ap, ◌∙◌, ap₂, append_assoc, append-nil, arith, length-append}
use Rattle.std.specs.List.{flat_map, filter_map, enumerate_from}
use Rattle.std.proofs.lemmas.List.{drop_all, take_all}
use Rattle.kinds.specs.Lattices.{Values}
use Rattle.kinds.specs.Numbers.{Written}
use Rattle.morphology.specs.Pictures.{area}
use Rattle.morphology.specs.declared.words.Record.{Record}
use Rattle.grids.specs.Cells.{Extent}
use Rattle.grids.specs.WideRows.{row_counts, widest_of}
use Rattle.lines.specs.Lines.{line_bytes}
use Rattle.lines.specs.declared.line.Line.{Line}
use Rattle.jobs.specs.Entries.{listed, cell_entry, last_line}
use Rattle.writers.specs.Writing.{with_lines}
use Rattle.writers.proofs.LineCounts.{each_listed, cells_listed}
use Rattle.writers.proofs.Listing.{mapped, filtered}
use Rattle.reports.specs.Reports.{done_line, done_entry, area_line, wide_line, run_lines}

-- the parts one behind the other are the whole
grouped : (a b c : Line) (ds cs : List Line) → (((ds ++ cs) ++ (a ∷ [])) ++ (b ∷ [])) ++ (c ∷ []) ≡ ds ++ (cs ++ (a ∷ (b ∷ (c ∷ []))))
grouped a b c ds cs = append_assoc ((ds ++ cs) ++ (a ∷ [])) (b ∷ []) (c ∷ []) ∙ append_assoc (ds ++ cs) (a ∷ []) (b ∷ (c ∷ [])) ∙ append_assoc ds cs (a ∷ (b ∷ (c ∷ [])))

parts_count : (a b c : Line) (ds cs : List Line) → length (ds ++ (cs ++ (a ∷ (b ∷ (c ∷ []))))) ≡ length ds + length cs + 3
parts_count a b c ds cs = omega (arith, length-append ds (cs ++ (a ∷ (b ∷ (c ∷ [])))), length-append cs (a ∷ (b ∷ (c ∷ []))))

module _ {V : Type 0} (k : Values V) (w : Written V) (g : Extent) (rs : List Record) (b : List V) where
  -- a line for each record, a line for each cell that is not least, and three
  pub run_count : length (run_lines k w g rs b) ≡ length rs + area k b + 3
  run_count =
      let a = area_line (area k b) in
      let all = parts_count a (wide_line (widest_of (row_counts k g b))) last_line (listed done_entry 0 rs) (listed (cell_entry k w) 0 b) in
      omega (arith, all, each_listed (λ n. done_line) 0 rs, cells_listed k w 0 b)

  -- what the iterator of a report gives
  pub run_given : (x y z : Line) → x ≡ area_line (area k b) → y ≡ wide_line (widest_of (row_counts k g b)) → z ≡ last_line
      → (((map done_line rs ++ filter_map (λ p. cell_entry k w p.0 p.1) (enumerate_from 0 b)) ++ (x ∷ [])) ++ (y ∷ [])) ++ (z ∷ []) ≡ run_lines k w g rs b
  run_given x y z area_is wide_is last_is =
      ap₂ (λ ds cs. (((ds ++ cs) ++ (x ∷ [])) ++ (y ∷ [])) ++ (z ∷ [])) (mapped done_line 0 rs) (filtered (cell_entry k w) 0 b)
      ∙ grouped x y z (listed done_entry 0 rs) (listed (cell_entry k w) 0 b)
      ∙ ap₂ (λ x y. listed done_entry 0 rs ++ (listed (cell_entry k w) 0 b ++ (x ∷ (y ∷ (z ∷ []))))) area_is wide_is
      ∙ ap (λ z. listed done_entry 0 rs ++ (listed (cell_entry k w) 0 b ++ (area_line (area k b) ∷ (wide_line (widest_of (row_counts k g b)) ∷ (z ∷ []))))) last_is

-- lines that fill an output are all of it
pub filled : (out e : List ℕ) (ls : List Line) → length out ≡ 29 * length ls → e ≡ with_lines out ls → e ≡ flat_map line_bytes ls
filled out e ls size is =
    is
    ∙ ap (λ rest. flat_map line_bytes ls ++ rest) (drop_all (29 * length ls) out (omega arith))
    ∙ append-nil (flat_map line_bytes ls)

-- bytes that were lent to be filled, and came back as many
pub refilled : (n : ℕ) (out was : List ℕ) → n ≡ length was → length out ≡ length was → take n (out ++ drop (length out) was) ≡ out
refilled n out was len same =
    ap (λ rest. take n (out ++ rest)) (drop_all (length out) was (omega arith)) ∙ ap (take n) (append-nil out) ∙ take_all n out (omega arith)
