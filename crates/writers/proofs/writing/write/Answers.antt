use Rattle.std.proofs.Common.{◌≡◌, ℕ, ◌*◌, true, leb, List, ◌++◌, map, length, drop, Ok, sym, ap, ◌∙◌, arith, rules}
use Rattle.std.specs.List.{flat_map}
use Rattle.std.proofs.lemmas.Bool.{cond-true, eq-eqb}
use Rattle.kinds.specs.Lattices.{Values}
use Rattle.kinds.specs.Numbers.{Written}
use Rattle.morphology.specs.declared.words.Record.{Record}
use Rattle.lines.specs.Lines.{line_bytes}
use Rattle.plans.specs.LawfulDesigns.{LawfulDesign}
use Rattle.plans.specs.Plans.{Design, design_of, cells_in}
use Rattle.plans.proofs.LawfulPlans.{lawful_plan}
use Rattle.jobs.specs.Files.{JobAndFile}
use Rattle.jobs.specs.Jobs.{Job, LawfulJob, all_fair, job_lines, encode}
use Rattle.jobs.proofs.JobAndFile.{job_and_file}
use Rattle.writers.specs.Writing.{asked, job_of, with_lines, write_answer}
use Rattle.writers.proofs.writing.write.Given as given
use Rattle.writers.proofs.writing.write.Goals as goal

lawful-job : {V : Type 0} (d : Design) (a : List V) (rs : List Record) → LawfulDesign d → length a ≡ cells_in d → true ≡ all_fair (map asked rs) → LawfulJob (job_of d a rs)
lawful-job d a rs design size fair = record { design = design; picture = size; orders = sym fair }

module _ {V : Type 0} (k : Values V) (w : Written V) (j : Job V) (out : List ℕ) (n : ℕ) (all : n ≡ 29 * length (job_lines k w j)) where
  -- a lawful job that the output has room for is not refused
  accepted : LawfulJob j → true ≡ leb (29 * length (job_lines k w j)) (length out) → Ok n ≡ write_answer k w j (length out)
  accepted lawful room = ap Ok all ∙ sym (cond-true _ _ _ (eq-eqb _ _ lawful.picture) ∙ cond-true _ _ _ lawful.orders ∙ cond-true _ _ _ (sym room))

  -- the lines from the first byte on are the bytes of the job
  filled : (e : List ℕ) → e ≡ with_lines out (job_lines k w j) → e ≡ encode k w j ++ drop n out
  unfolding encode
  filled e is = is ∙ ap (λ m. flat_map line_bytes (job_lines k w j) ++ drop m out) (sym all)

-- a job and its file fix each other, whatever is answered
abbrev fixed-for : (g : given.Over) → JobAndFile g.K.Kind.values g.K.WrittenKind.written
fixed-for g = job_and_file g.K.Kind.values g.K.WrittenKind.written g.met.K.Kind.lawful g.met.K.WrittenKind.numbered

pub returns-then-picture-cells : goal.returns-then-picture-cells
returns-then-picture-cells g c = search (rules, fixed-for g)

pub returns-then-not-all_fair : goal.returns-then-not-all_fair
returns-then-not-all_fair g c = search (rules, fixed-for g)

pub returns-then-not-has_room : goal.returns-then-not-has_room
returns-then-not-has_room g c = search (rules, fixed-for g)

pub returns : goal.returns
returns g c =
    let k = g.K.Kind.values in
    let w = g.K.WrittenKind.written in
    let d = design_of c.args.plan.now in
    let j = job_of d c.args.picture.now c.args.records.now in
    let size : length c.args.picture.now ≡ cells_in d = omega (arith, c.if-picture-cells.false, c.cells.ensures) in
    let fixed = fixed-for g in
    let lawful = lawful-job d c.args.picture.now c.args.records.now (lawful_plan c.args.plan.now) size c.if-not-all_fair.ensures in
    record {
      answer = accepted k w j c.args.out.now c.put_job.result c.put_job.ensures.end lawful c.if-not-has_room.ensures;
      bytes = filled k w j c.args.out.now c.put_job.result c.put_job.ensures.end c.put_job.new.out c.put_job.ensures.bytes;
      back = λ room few. fixed.written_is_read j room lawful few;
      fixed = fixed;
    }
