use Rattle.std.proofs.Common.{◌≡◌, suc, ◌+◌, ◌-◌, ◌/◌, length, take, drop, Ok, sym, refl, ap, ◌∙◌, arith}
use Rattle.std.proofs.lemmas.List.{length-append, length-drop, take_rest}
use Rattle.std.specs.Iterator.Adapters.{enumerate_source, enumerate_count}
use Rattle.std.specs.Slice.Iter.{chunks_rest, chunks_size}
use Rattle.jobs.specs.Files.{read_from}
use Rattle.jobs.specs.Steps.{next_by}
use Rattle.drafts.specs.Drafts.{draft_of}
use Rattle.drafts.proofs.Turns.{accepted, refused_by, turn, led_to_the_end, led_to_a_fault}
use Rattle.drafts.proofs.drafts.Reader.lines.Goals as goal

pub loop-at-init : goal.loop-at-init
loop-at-init g c =
    let bs = c.args.bytes.now in
    let it = c.into_iter-at-iterator.result in
    let same = c.into_iter-at-iterator.ensures.into_iter_gives in
    let source = ap enumerate_source same ∙ c.enumerate-at-items.ensures.source in
    let none : enumerate_count it ≡ 0 = ap enumerate_count same ∙ c.enumerate-at-items.ensures.count in
    let whole : chunks_rest (enumerate_source it) ≡ drop 29 bs = ap chunks_rest source ∙ c.chunks.ensures.rest ∙ take_rest bs 29 in
    record {
      size = ap chunks_size source ∙ c.chunks.ensures.size;
      count = omega (arith, ap length whole, ap length (take_rest bs 29));
      rooms = refl;
      sizes = refl;
      left = (
        suc (length bs),
        omega (arith, ap length whole, length-drop 29 bs),
        λ t. read_from g.K.Kind.values g.K.WrittenKind.written c.args.self.now.room (suc (length bs)) (none t + 2) (draft_of c.args.self.now) (whole t),
      );
    }

pub loop-at-preserved : goal.loop-at-preserved
loop-at-preserved g c =
    let l = c.loop-at in
    let steps = c.in-Some.ensures.steps in
    let told = c.in_default.ensures in
    let k = g.K.Kind.values in
    let w = g.K.WrittenKind.written in
    let room = c.args.self.now.room in
    let s = draft_of l.self in
    let t = draft_of c.next-in-loop-at.new.self in
    let bs = chunks_rest (enumerate_source l.at-iterator) in
    let chunk = c.in-Some.bytes.now in
    let rest = chunks_rest (enumerate_source c.next.new.self) in
    let is : next_by k w room s.section s chunk ≡ Ok t = sym (ap (λ room. next_by k w room s.section s chunk) l.invariant.rooms) ∙ accepted _ s _ told.step.answers told.step.drafts in
    let next : enumerate_count c.next.new.self + 2 ≡ suc (enumerate_count l.at-iterator + 2) = omega (arith, steps.2) in
    record {
      size = steps.0.0 ∙ l.invariant.size;
      count = omega (arith, steps.2, l.invariant.count, ap length steps.0.1.0, length-append chunk rest, told.long, steps.0.1.1, l.invariant.size);
      rooms = told.step.rooms ∙ l.invariant.rooms;
      sizes = told.step.sizes ∙ l.invariant.sizes;
      left = turn k w room _ _ _ s t bs chunk rest _ next l.invariant.size steps.0.1.0 steps.0.1.1 told.long l.invariant.left is;
    }

pub returns-in-Err : goal.returns-in-Err
returns-in-Err g c =
    let l = c.loop-at in
    let steps = c.in-Some.ensures.steps in
    let told = c.in-Err.ensures in
    let bs = chunks_rest (enumerate_source l.at-iterator) in
    led_to_a_fault g.K.Kind.values g.K.WrittenKind.written c.args.self.now c.next-in-loop-at.new.self _ bs _ _ l.self c.in-Err.fault _ c.in-Some.bytes.now _ (ap (λ n. n + 2) steps.1) l.invariant.size steps.0.1.0 steps.0.1.1 steps.0.1.2
    l.invariant.rooms (told.step.rooms ∙ l.invariant.rooms) (told.step.sizes ∙ l.invariant.sizes) l.invariant.left (refused_by _ c.in-Err.fault told.step.answers)

pub returns : goal.returns
returns g c =
    let l = c.loop-at in
    let none = c.in-None.ensures.steps.0.1.0 in
    let bs = chunks_rest (enumerate_source l.at-iterator) in
    let all = c.args.bytes.now in
    let line : length (take (length all - 29) (drop 29 all)) / 29 + 2 ≡ enumerate_count l.at-iterator + 2 = omega (arith, l.invariant.count, none) in
    led_to_the_end g.K.Kind.values g.K.WrittenKind.written c.args.self.now l.self _ bs _ c.end.result _ line none l.invariant.rooms l.invariant.sizes l.invariant.left c.end.ensures
