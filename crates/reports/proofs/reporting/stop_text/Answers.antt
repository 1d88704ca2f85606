use Rattle.std.proofs.Common.{[], ◌∷◌, length, Some, sym, refl, ap, ◌∙◌, arith}
use Rattle.std.specs.List.{flat_map}
use Rattle.std.proofs.lemmas.Iterator.Adapters.{YieldsList-from_once}
use Rattle.lines.specs.Lines.{line_bytes}
use Rattle.writers.proofs.Placing.{gives}
use Rattle.reports.proofs.RunLines.{refilled, filled}
use Rattle.reports.proofs.reporting.stop_text.Goals as goal

pub put_lines-requires-clause-told : goal.put_lines-requires-clause-told
put_lines-requires-clause-told c =
    let lent = c.as_mut_slice.ensures in
    (c.stop_line.result ∷ [], gives (YieldsList-from_once (Some c.stop_line.result) c.once.ensures.item) refl, omega (arith, lent.len, c.in_ok-text.ensures.len))

pub returns : goal.returns
returns c =
    let lent = c.as_mut_slice.ensures in
    let was = c.in_ok-text.text.items in
    let put = c.put_lines.ensures _ (gives (YieldsList-from_once (Some c.stop_line.result) c.once.ensures.item) refl) in
    refilled _ c.put_lines.new.out was (sym lent.len ∙ ap length lent.value) (c.put_lines.auto.out ∙ ap length lent.value)
    ∙ filled c.as_mut_slice.result.now c.put_lines.new.out (c.stop_line.result ∷ []) (omega (arith, lent.len, c.in_ok-text.ensures.len)) put.1
    ∙ ap (λ l. flat_map line_bytes (l ∷ [])) c.stop_line.ensures
