use Rattle.std.proofs.Common.{Some, ap, ◌∙◌, arith, rules}
use borrow.Author.Tests.{tests}
use Rattle.std.proofs.lemmas.Iterator.{YieldsList-from_slice, YieldsList-from_map}
use Rattle.std.proofs.lemmas.Iterator.Consumers.{YieldsList-at, YieldsList-from_chain, YieldsList-from_enumerate, YieldsList-from_filter_map}
use Rattle.std.proofs.lemmas.Iterator.Adapters.{YieldsList-from_once}
use Rattle.grids.specs.Extents.{extent_of}
use Rattle.jobs.specs.Entries.{cell_entry}
use Rattle.writers.proofs.Placing.{gives}
use Rattle.reports.specs.Reports.{done_line, area_line, wide_line, run_lines}
use Rattle.reports.proofs.RunLines.{run_given, filled}
use Rattle.reports.proofs.telling.put_run.Goals as goal

pub put_lines-requires-clause-told : goal.put_lines-requires-clause-told
put_lines-requires-clause-told g c =
    let k = g.K.Kind.values in
    let w = g.K.WrittenKind.written in
    let all = run_given k w (extent_of c.args.shape) c.args.records.now c.args.picture.now c.area_line.result c.wide_line.result c.last_line.result
    (c.area_line.ensures ∙ ap area_line c.area.ensures) (c.wide_line.ensures ∙ ap wide_line c.widest.ensures) c.last_line.ensures in (
      run_lines k w (extent_of c.args.shape) c.args.records.now c.args.picture.now,
      gives
          (YieldsList-from_chain
          (YieldsList-at c.chain-lines.ensures.first (YieldsList-from_chain
          (YieldsList-at c.chain-3.ensures.first (YieldsList-from_chain
          (YieldsList-at c.chain-2.ensures.first (YieldsList-from_chain
          (YieldsList-at c.chain.ensures.first (YieldsList-from_map _ done_line (YieldsList-from_slice c.args.records.now (cc)) c.map-done.ensures.closure (λ x r q k. search (rules, tests))))
          (YieldsList-at c.chain.ensures.second (YieldsList-from_filter_map _ (λ p. cell_entry k w p.0 p.1) (YieldsList-from_enumerate (YieldsList-from_slice c.args.picture.now (cc)) (cc)) c.filter_map-cells.ensures.closure (λ x r q k. search (rules, tests))))
          c.chain.ensures.first_done c.chain.ensures.second_done))
          (YieldsList-at c.chain-2.ensures.second (YieldsList-from_once (Some c.area_line.result) c.once.ensures.item))
          c.chain-2.ensures.first_done c.chain-2.ensures.second_done))
          (YieldsList-at c.chain-3.ensures.second (YieldsList-from_once (Some c.wide_line.result) c.once-2.ensures.item))
          c.chain-3.ensures.first_done c.chain-3.ensures.second_done))
          (YieldsList-at c.chain-lines.ensures.second (YieldsList-from_once (Some c.last_line.result) c.once-3.ensures.item))
          c.chain-lines.ensures.first_done c.chain-lines.ensures.second_done)
          all,
      omega (arith, c.requires.room),
    )

pub returns : goal.returns
returns g c =
    let k = g.K.Kind.values in
    let w = g.K.WrittenKind.written in
    let all = run_given k w (extent_of c.args.shape) c.args.records.now c.args.picture.now c.area_line.result c.wide_line.result c.last_line.result
    (c.area_line.ensures ∙ ap area_line c.area.ensures) (c.wide_line.ensures ∙ ap wide_line c.widest.ensures) c.last_line.ensures in
    let put = c.put_lines.ensures _ (gives
    (YieldsList-from_chain
    (YieldsList-at c.chain-lines.ensures.first (YieldsList-from_chain
    (YieldsList-at c.chain-3.ensures.first (YieldsList-from_chain
    (YieldsList-at c.chain-2.ensures.first (YieldsList-from_chain
    (YieldsList-at c.chain.ensures.first (YieldsList-from_map _ done_line (YieldsList-from_slice c.args.records.now (cc)) c.map-done.ensures.closure (λ x r q k. search (rules, tests))))
    (YieldsList-at c.chain.ensures.second (YieldsList-from_filter_map _ (λ p. cell_entry k w p.0 p.1) (YieldsList-from_enumerate (YieldsList-from_slice c.args.picture.now (cc)) (cc)) c.filter_map-cells.ensures.closure (λ x r q k. search (rules, tests))))
    c.chain.ensures.first_done c.chain.ensures.second_done))
    (YieldsList-at c.chain-2.ensures.second (YieldsList-from_once (Some c.area_line.result) c.once.ensures.item))
    c.chain-2.ensures.first_done c.chain-2.ensures.second_done))
    (YieldsList-at c.chain-3.ensures.second (YieldsList-from_once (Some c.wide_line.result) c.once-2.ensures.item))
    c.chain-3.ensures.first_done c.chain-3.ensures.second_done))
    (YieldsList-at c.chain-lines.ensures.second (YieldsList-from_once (Some c.last_line.result) c.once-3.ensures.item))
    c.chain-lines.ensures.first_done c.chain-lines.ensures.second_done)
    all) in
    filled c.args.out.now c.put_lines.new.out _ c.requires.room put.1
