use Rattle.std.proofs.Common.{◌≡◌, ◌++◌, length, take, drop}
use Rattle.morphology.specs.Histories.{end}
use Rattle.morphology.specs.Runs.{calls, ran, memory_end}
use Rattle.morphology.proofs.running.run.Given as goal

-- what was done, and what is left to do from here, make the whole run
abbrev pub invariant-loop-record : goal.invariant-loop-record
invariant-loop-record g l =
    let k = g.K.Kind.values in
    let m = g.P.Plate.meaning l.plate in
    let n = length l.initial.work in
    (take l.record-index l.records ++ ran k m n l.picture (drop l.record-index l.records) ≡ ran k m n l.initial.picture l.initial.records)
    × (end k m (calls n (drop l.record-index l.records)) l.picture ≡ end k m (calls n l.initial.records) l.initial.picture)
    × (memory_end k m (calls n (drop l.record-index l.records)) l.picture l.work ≡ memory_end k m (calls n l.initial.records) l.initial.picture l.initial.work)
