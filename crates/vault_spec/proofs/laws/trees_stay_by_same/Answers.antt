use Rattle.vault_spec.proofs.MappedStaying.{apart, held, mapped, part}
use Rattle.vault_spec.proofs.laws.trees_stay_by_same.Goals as goal

pub returns : goal.returns
returns c =
    let stay = c.same_names_stay.ensures.path in
    record { apart = apart stay; mapped = mapped stay; part = part stay; held = held stay }
