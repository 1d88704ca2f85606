use Rattle.std.proofs.Common.{None, rules, sym, ◌∙◌}
use Rattle.std.proofs.lemmas.Result.{IfOk-weaker, IfErr-weaker}
use Rattle.lines.specs.Numbers.{four_fields}
use Rattle.lines.proofs.Due.{one_filled, Due, Lacks, answered}
use Rattle.lines.proofs.line.Line.numbers.Goals as goal

pub returns-then-is_filled_after : goal.returns-then-is_filled_after
returns-then-is_filled_after g c = sym (one_filled g.row.N (four_fields c.args.self) (sym c.is_filled_after.ensures ∙ c.if-is_filled_after.true))

pub returns : goal.returns
returns g c =
    let parts = rw c.unwrap.ensures at c.split_first_chunk.ensures.cases in
    let due = c.unwrap.result.0.now in
    answered g.row.N (four_fields c.args.self) due c.try_map.result parts.0 (sym c.is_filled_after.ensures ∙ c.if-is_filled_after.false)
    (IfOk-weaker c.try_map.result _ (Due due g.row.N) (λ xs t. record { long = t.long; each = λ k d lt. let h = t.at k None d lt in search rules }) c.try_map.ensures.ok)
    (IfErr-weaker c.try_map.result _ (Lacks due) (λ e t. record { fault_is = search rules; at = t.1.0; within = t.1.1.0; blank = search rules }) c.try_map.ensures.err)
