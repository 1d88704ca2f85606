use Rattle.std.proofs.Common.{◌*◌, [], ◌∷◌, length, sym, ap, ◌∙◌, arith, length-append}
use Rattle.writers.specs.Writing.{with_lines}
use Rattle.writers.proofs.Placing.{with_one_more, room_for_one, all_given}
use Rattle.writers.proofs.putting.put_lines.Goals as goal

pub put_line-end-requires : goal.put_line-end-requires
put_line-end-requires g c =
    let told = c.requires.told in
    let it = c.into_iter-line-iterator in
    let room = room_for_one told.1 c.loop-line.yielded c.in-Some.line it.result c.loop-line.line-iterator (sym it.ensures.into_iter_gives) c.loop-line.yielded_by c.next.new.self c.in-Some.ensures.steps in
    omega (arith, room, told.2)

pub loop-line-preserved : goal.loop-line-preserved
loop-line-preserved g c =
    let is = c.loop-line.invariant in
    let xs = c.loop-line.yielded in (
      omega (arith, c.put_line-end.ensures.end, length-append xs (c.in-Some.line ∷ [])),
      c.put_line-end.ensures.bytes ∙ rw (is.0, is.1) (with_one_more c.args.out.now xs c.in-Some.line),
    )

pub returns : goal.returns
returns g c ls gives =
    let it = c.into_iter-line-iterator in
    let is = c.loop-line.invariant in
    let all = all_given gives c.loop-line.yielded it.result c.loop-line.line-iterator (sym it.ensures.into_iter_gives) c.loop-line.yielded_by c.next.new.self c.in-None.ensures.steps in
    (is.0 ∙ ap (λ ls. 29 * length ls) all, is.1 ∙ ap (with_lines c.args.out.now) all)
