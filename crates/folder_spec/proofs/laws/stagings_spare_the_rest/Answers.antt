use Rattle.folder_spec.proofs.Stages.{stages_spare, puts_spare}
use Rattle.folder_spec.proofs.laws.stagings_spare_the_rest.Goals as goal

pub returns : goal.returns
returns c = record { staged = stages_spare; put = puts_spare }
