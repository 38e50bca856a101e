use Rattle.std.proofs.Common.{◌≡◌, true, false, Err, IsTrue, sym, ap, ◌∙◌}
use Rattle.plain_tree.specs.Names.{is_name}
use Rattle.vault_names.proofs.Encryption.{padded_names-once}
use Rattle.vault_names.proofs.gocryptfs.unpadded_name.Goals as goal

pub returns-in-Err-BadName-clause-not_stored : goal.returns-in-Err-BadName-clause-not_stored
returns-in-Err-BadName-clause-not_stored c = λ fault name is.
    let named : IsTrue (is_name c.in-Some.name.now) = padded_names-once name c.in-Some.name.now c.args.whole.now is c.in-Some.ensures in
    let clash : true ≡ false = sym named ∙ c.in-Err-BadName.ensures.refused.0 (ap Err c.in-Err-BadName.field-0-is) in
    cc
