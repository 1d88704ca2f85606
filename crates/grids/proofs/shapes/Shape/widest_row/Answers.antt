use Rattle.std.proofs.Common.{◌≡◌, None, fold, map, ap, ◌∙◌, rules}
use Rattle.std.specs.List.{range_with_len}
use Rattle.std.specs.Slice.Iter.{chunks_exact_size, chunks_exact_rest}
use Rattle.grids.specs.Extents.{extent_of}
use Rattle.grids.specs.WideRows.{row_length, row_count, wider}
use Rattle.grids.proofs.RowChunks.{counted, row_at, counted_rows}
use Rattle.grids.proofs.Sizes.{sized}
use Rattle.grids.proofs.WidestRows.{widest_fold}
use Rattle.grids.proofs.shapes.Shape.widest_row.Goals as goal

pub returns : goal.returns
returns g c =
    let k = g.K.Kind.values in
    let e = extent_of c.args.self in
    let a = c.args.picture.now in
    let folded = c.fold.ensures.runs in
    let mapped = c.map.ensures.runs folded.0 folded.0.seen folded.1 in
    let numbered = c.enumerate.ensures.runs mapped.0 mapped.0.seen mapped.1 in
    let cut = c.chunks_exact.ensures.runs numbered.1.0 numbered.1.0.seen in
    let total : c.fold.result ≡ fold wider None folded.0.items = folded.3 wider (λ best row r f k. search rules) in
    let items : folded.0.items ≡ map (counted k e a) mapped.0.items = mapped.2.3 (counted k e a) (λ x r f k. search rules) in
    let size : chunks_exact_size numbered.1.0.from ≡ row_length e = ap chunks_exact_size numbered.1.1 ∙ c.chunks_exact.ensures.size ∙ c.row_length.ensures in
    let rest : chunks_exact_rest numbered.1.0.from ≡ a = ap chunks_exact_rest numbered.1.1 ∙ c.chunks_exact.ensures.rest in
    let rows : map (counted k e a) mapped.0.items ≡ map (row_at k e a) (range_with_len 0 e.height) =
    counted_rows k e a mapped.0 numbered.1.0 (sized c.args.self) c.requires numbered.0 numbered.1.2.0 (numbered.1.2.1 ∙ mapped.2.0 ∙ folded.2) (rw (size, rest) at cut)
    in
    total ∙ ap (fold wider None) (items ∙ rows) ∙ widest_fold (row_count k e a) e.height
