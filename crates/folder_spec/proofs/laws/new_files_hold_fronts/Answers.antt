use Rattle.folder_spec.proofs.Regions.{old_or_file_on}
use Rattle.folder_spec.proofs.Written.{fronts_on, fronts_on_failure, fronts_compose}
use Rattle.folder_spec.proofs.laws.new_files_hold_fronts.Goals as goal

pub returns : goal.returns
returns c = record { one_call = fronts_on; failed = fronts_on_failure; composed = fronts_compose; place = old_or_file_on }
