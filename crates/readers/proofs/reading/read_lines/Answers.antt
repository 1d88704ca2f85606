use Rattle.std.proofs.Common.{◌∙◌, rules}
use Rattle.readers.proofs.Decoding.{read_to_the_end, read_to_a_fault}
use Rattle.readers.proofs.reading.read_lines.Goals as goal

pub returns-in_err-lines : goal.returns-in_err-lines
returns-in_err-lines g c =
    let stop = read_to_a_fault g.K.Kind.values g.K.WrittenKind.written c.args.size c.args.room c.args.bytes.now c.in_ok-head.head c.in_ok-reader.reader c.lines.new.self
    c.in_ok-head.ensures.is c.in_ok-reader.ensures c.in_err-lines.field-0.0 c.in_err-lines.ensures in
    search (rules, stop)

pub returns : goal.returns
returns g c =
    let begin = c.in_ok-reader.ensures in
    let told = c.in_ok-lines.ensures in (
      read_to_the_end g.K.Kind.values g.K.WrittenKind.written c.args.size c.args.room c.args.bytes.now c.in_ok-head.head c.in_ok-reader.reader c.lines.new.self
          c.in_ok-head.ensures.is begin told,
      told.sizes ∙ begin.2,
      told.rooms ∙ begin.3,
    )
