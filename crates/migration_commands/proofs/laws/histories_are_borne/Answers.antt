use Rattle.migration_commands.proofs.Histories.{each_safe}
use Rattle.migration_commands.proofs.laws.histories_are_borne.Goals as goal

pub returns : goal.returns
returns c = λ g first more s history is.
    let safe = c.guarded_migrations_are_safe.ensures in
    let begins = history.begins in
    each_safe safe.safe c.settling_and_entering_keep_migrations_guarded.ensures.settles safe.images g first more s
    (c.settling_and_entering_keep_migrations_guarded.ensures.begins g first.entry.state begins.sound begins.settled begins.separate begins.vaults begins.work).guarded
    history.runs is
