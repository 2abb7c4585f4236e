use Rattle.model.proofs.Runs.{words_in_range}
use Rattle.model.proofs.law.words_stay_in_range.Goals as goal

pub returns : goal.returns
returns g c = words_in_range _
