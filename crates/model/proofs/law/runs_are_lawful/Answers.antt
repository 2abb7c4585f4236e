use Rattle.model.proofs.Runs.{every_run_lawful}
use Rattle.model.proofs.law.runs_are_lawful.Goals as goal

pub returns : goal.returns
returns g c = every_run_lawful _
