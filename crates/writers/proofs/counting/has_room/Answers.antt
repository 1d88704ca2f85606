use Rattle.std.proofs.Common.{◌≡◌, ◌+◌, List, [], length, arith}
use Rattle.std.proofs.lemmas.List.{length-map}
use Rattle.std.proofs.lemmas.Bool.Decides.{nat_tests}
use Rattle.kinds.specs.Lattices.{Values}
use Rattle.kinds.specs.Numbers.{Written}
use Rattle.morphology.specs.declared.words.Record.{Record}
use Rattle.plans.specs.Plans.{Design, design_of}
use Rattle.jobs.specs.Jobs.{job_lines}
use Rattle.writers.specs.Writing.{asked, job_of}
use Rattle.writers.proofs.LineCounts.{job_count}
use Rattle.writers.proofs.counting.has_room.Goals as goal

-- a line more for each record
with-moves : {V : Type 0} (k : Values V) (w : Written V) (d : Design) (a : List V) (rs : List Record) → length (job_lines k w (job_of d a rs)) ≡ length (job_lines k w (job_of d a [])) + length rs
with-moves k w d a rs = omega (arith, job_count k w (job_of d a rs), job_count k w (job_of d a []), length-map rs asked)

pub returns-then-records-room : goal.returns-then-records-room
returns-then-records-room g c =
    let k = g.K.Kind.values in
    let w = g.K.WrittenKind.written in
    let d = design_of c.args.plan.now in
    let rs = c.args.records.now in
    let all : length (job_lines k w (job_of d c.args.picture.now rs)) ≡ c.lines_before_moves.result + length rs = omega (arith, with-moves k w d c.args.picture.now rs, c.lines_before_moves.ensures.count) in
    grind (arith, nat_tests)

pub returns-else-records-room : goal.returns-else-records-room
returns-else-records-room g c =
    let k = g.K.Kind.values in
    let w = g.K.WrittenKind.written in
    let d = design_of c.args.plan.now in
    let all = with-moves k w d c.args.picture.now c.args.records.now in
    let few = job_count k w (job_of d c.args.picture.now []) in
    grind (arith, nat_tests)
