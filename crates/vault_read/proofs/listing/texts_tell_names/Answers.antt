use Rattle.std.proofs.Common.{◌≡◌, sym, ap, ◌∙◌, subst}
use Rattle.vault_spec.specs.Vault.{Gocryptfs, Cryptomator}
use Rattle.vault_read.specs.Listing.{TellsNames}
use Rattle.vault_read.specs.Opened.{FitsKey, vault_with}
use Rattle.vault_read.proofs.TextForms.{go_tells, cm_tells}
use Rattle.vault_read.proofs.listing.texts_tell_names.Goals as goal

pub returns-in-Gocryptfs : goal.returns-in-Gocryptfs
returns-in-Gocryptfs c =
    let key = c.args.key.now in
    let opened : c.args.vault.now.vault ≡ Gocryptfs c.in-Gocryptfs.field-0 = sym c.keys.ensures ∙ ap vault_with c.in-Gocryptfs.is in
    subst (λ vault. TellsNames vault key) (sym opened)
    (go_tells c.in-Gocryptfs.field-0 key c.text_has_one_name.ensures c.texts_are_plain.ensures.size c.texts_are_plain.ensures.characters c.long_names_are_plain.ensures.prefix
    (subst (λ vault. FitsKey vault key) opened c.requires) c.type_inv.key)

pub returns-in-Cryptomator : goal.returns-in-Cryptomator
returns-in-Cryptomator c =
    let key = c.args.key.now in
    let vault = c.in-Cryptomator.field-0 in
    let opened : c.args.vault.now.vault ≡ Cryptomator vault = sym c.keys.ensures ∙ ap vault_with c.in-Cryptomator.is in
    subst (λ vault. TellsNames vault key) (sym opened)
    (cm_tells vault key (c.cm_text_has_one_name.ensures vault.keys) (c.cm_texts_are_plain.ensures.size vault.keys) (c.cm_texts_are_plain.ensures.characters vault.keys) c.cm_long_names_are_plain.ensures.characters c.type_inv.key)
