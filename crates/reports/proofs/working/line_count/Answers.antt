use Rattle.std.proofs.Common.{arith}
use Rattle.std.proofs.lemmas.List.Sums.{count_by-le-length}
use Rattle.kinds.specs.Lattices.{not_least}
use Rattle.grids.specs.Extents.{extent_of}
use Rattle.reports.proofs.RunLines.{run_count}
use Rattle.reports.proofs.working.line_count.Goals as goal

pub returns : goal.returns
returns g c =
    let cells = count_by-le-length (not_least g.K.Kind.values) c.args.picture.now in
    record {
      count = omega (arith, c.area.ensures, run_count g.K.Kind.values g.K.WrittenKind.written (extent_of c.args.shape) c.args.records.now c.args.picture.now);
      few = omega (arith, c.requires.few, c.requires.small, c.area.ensures, cells);
    }
