use Rattle.std.proofs.Common.{◌∙◌, add-one, ap}
use Rattle.kdf_suite.specs.RoMix.{block_mix, mixed_times}
use Rattle.kdf_suite.proofs.Tables.{IsTable-more}
use Rattle.kdf_suite.proofs.ro_mix.add_row.Goals as goal

pub returns-clause-table : goal.returns-clause-table
returns-clause-table c = λ first i table now.
    rw c.in_ok-extend_from_slice.ensures.items (IsTable-more _ _ _ _ c.args.x.now c.requires.x now table)

pub returns-clause-mixed : goal.returns-clause-mixed
unfolding mixed_times
returns-clause-mixed c = λ first i now. rw add-one (c.block_mix.ensures ∙ ap (block_mix c.args.r) now)
