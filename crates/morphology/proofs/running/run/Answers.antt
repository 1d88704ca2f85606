use Rattle.morphology.proofs.Settling.{histories_hold}
use Rattle.morphology.proofs.running.run.Goals as goal

pub returns-clause-histories : goal.returns-clause-histories
returns-clause-histories g c =
    histories_hold g.K.Kind.values g.met.K.Kind.lawful (g.P.Plate.meaning c.args.plate.now) (g.met.P.Plate.sound c.args.plate.now)
