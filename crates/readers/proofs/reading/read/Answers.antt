use Rattle.std.proofs.Common.{◌≡◌, ◌++◌, map, length, drop, vec_items, sym, ap, ◌∙◌}
use Rattle.plans.specs.Plans.{design_of, cells_in}
use Rattle.jobs.specs.Files.{finished}
use Rattle.jobs.specs.Jobs.{padded}
use Rattle.drafts.specs.Drafts.{draft_of}
use Rattle.readers.specs.Reading.{fresh}
use Rattle.readers.proofs.reading.read.Goals as goal

pub returns-clause-reads : goal.returns-clause-reads
returns-clause-reads g c =
    let k = g.K.Kind.values in
    let told = c.in_ok-reader.ensures in
    let r = c.in_ok-reader.reader in
    let size : length c.args.picture.now ≡ cells_in (design_of r.plan) = sym told.1 in
    record {
      job = finished k (draft_of r);
      read = told.0;
      plan = ap design_of c.finish.ensures.plan;
      moves = c.finish.ensures.moves;
      picture = c.finish.ensures.picture ∙ ap (λ n. padded k n (vec_items r.cells)) size;
      cells = c.finish.auto.picture ∙ size;
      records = c.finish.ensures.records ∙ ap (λ n. map fresh (vec_items r.orders) ++ drop n c.args.records.now) (sym c.finish.ensures.moves);
      file = c.job_and_file.ensures.read_is_written _ _ _ _ told.0;
    }
