use Rattle.folder_spec.proofs.Tellings.{from_to_more}
use Rattle.folder_spec.proofs.Stages.{Staging, staging_more}
use Rattle.folder_staging.proofs.laws.stagings_are_of_more_files.Goals as goal

pub returns : goal.returns
returns c = λ files more at before now within stages.
    from_to_more (Staging files at) (Staging more at) before now (λ a b is went. staging_more files more at a b within went) stages
