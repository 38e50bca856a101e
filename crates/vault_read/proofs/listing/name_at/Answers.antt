use Rattle.std.proofs.Common.{◌≡◌, ap, ◌∙◌, subst}
use Rattle.folder_spec.specs.Seen.{under}
use Rattle.vault_spec.specs.Format.{Directory}
use Rattle.vault_read.specs.Listing.{TellsNames, is_long}
use Rattle.vault_read.specs.Opened.{kind_of}
use Rattle.vault_read.proofs.Entries.{entry_found, entry_tells, one_name, no_entry_text, no_entry_name}
use Rattle.vault_read.proofs.listing.name_at.Goals as goal

pub returns-clause-name : goal.returns-clause-name
returns-clause-name g c v is =
    let vault = c.args.vault.now.vault in
    let w = under c.args.vault.now.root v in
    let text_is = rw c.in-Some.is at c.in_ok-text.ensures.text in
    let name_is = rw c.in-Some-2.is at c.in_ok-name.ensures.name in
    entry_found vault w c.args.dir.now c.args.entry.now c.is_long-long.result c.in-Some-2.name c.in-Some.text (text_is v is) name_is.0 name_is.1

pub returns-in_default-clause-none : goal.returns-in_default-clause-none
returns-in_default-clause-none g c same v is =
    let vault = c.args.vault.now.vault in
    let w = under c.args.vault.now.root v in
    let dir : Directory = c.args.dir.now in
    let entry = c.args.entry.now in
    let long = c.is_long-long.result in
    let form : long ≡ is_long (kind_of vault) entry = c.is_long-long.ensures ∙ ap (λ k. is_long k entry) c.kind.ensures in
    let tells : TellsNames vault dir.key = subst (TellsNames vault) (c.as_slice.ensures ∙ ap (λ (d : Directory). d.key) c.dir.view_is) c.texts_tell_names.ensures in
    no_entry_text vault w dir entry long tells form (c.in_ok-text.ensures.none c.in_default.is v is)

pub returns-in_default-2-clause-none : goal.returns-in_default-2-clause-none
returns-in_default-2-clause-none g c same v is =
    let vault = c.args.vault.now.vault in
    let w = under c.args.vault.now.root v in
    let dir : Directory = c.args.dir.now in
    let entry = c.args.entry.now in
    let long = c.is_long-long.result in
    let form : long ≡ is_long (kind_of vault) entry = c.is_long-long.ensures ∙ ap (λ k. is_long k entry) c.kind.ensures in
    let tells : TellsNames vault dir.key = subst (TellsNames vault) (c.as_slice.ensures ∙ ap (λ (d : Directory). d.key) c.dir.view_is) c.texts_tell_names.ensures in
    let text_is = rw c.in-Some.is at c.in_ok-text.ensures.text in
    no_entry_name vault w dir entry long c.in-Some.text tells form (text_is v is) (c.in_ok-name.ensures.none c.in_default-2.is)

pub returns-clause-one : goal.returns-clause-one
returns-clause-one g c v is =
    let vault = c.args.vault.now.vault in
    let w = under c.args.vault.now.root v in
    let dir : Directory = c.args.dir.now in
    let entry = c.args.entry.now in
    let long = c.is_long-long.result in
    let form : long ≡ is_long (kind_of vault) entry = c.is_long-long.ensures ∙ ap (λ k. is_long k entry) c.kind.ensures in
    let tells : TellsNames vault dir.key = subst (TellsNames vault) (c.as_slice.ensures ∙ ap (λ (d : Directory). d.key) c.dir.view_is) c.texts_tell_names.ensures in
    let text_is = rw c.in-Some.is at c.in_ok-text.ensures.text in
    let name_is = rw c.in-Some-2.is at c.in_ok-name.ensures.name in
    one_name vault w dir entry long c.in-Some-2.name c.in-Some.text tells form (text_is v is) name_is.0

pub returns-clause-long : goal.returns-clause-long
returns-clause-long g c =
    let name_is = rw c.in-Some-2.is at c.in_ok-name.ensures.name in
    entry_tells c.args.entry.now c.is_long-long.result _ name_is.1
