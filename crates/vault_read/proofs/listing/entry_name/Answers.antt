use Rattle.std.proofs.Common.{◌≡◌, true, false, sym, ap, ◌∙◌, subst}
use Rattle.vault_spec.specs.Format.{Directory}
use Rattle.vault_spec.specs.Vault.{format_of}
use Rattle.vault_read.specs.Listing.{IsNameOf, is_entry, stored_by}
use Rattle.vault_read.proofs.StoredTexts.{by_text}
use Rattle.vault_read.proofs.listing.entry_name.Goals as goal

pub returns-then-is_entry-clause-name : goal.returns-then-is_entry-clause-name
returns-then-is_entry-clause-name c =
    let vault = c.args.vault.now.vault in
    let f = format_of vault in
    let dir : Directory = c.args.dir.now in
    let text = c.args.text.now in
    let found = c.in-Some.name in
    let known = rw c.in-Some.is at c.in_ok-name.ensures.name in
    let its : IsNameOf vault dir.key found text
    = subst (λ key. IsNameOf vault key found text) (c.as_slice.ensures ∙ ap (λ (d : Directory). d.key) c.dir.view_is) (subst (IsNameOf vault c.as_slice.result.now found) c.as_str.ensures known) in
    let stored_is : c.in_ok-stored.stored ≡ f.stored dir.key found
    = c.in_ok-stored.ensures ∙ sym (by_text vault dir.key found text its) in
    (its, sym (ap (is_entry c.args.entry.now c.args.long) stored_is) ∙ sym c.is_entry.ensures ∙ c.if-is_entry.true)

pub returns-else-is_entry-clause-none : goal.returns-else-is_entry-clause-none
returns-else-is_entry-clause-none c none name is right =
    let vault = c.args.vault.now.vault in
    let f = format_of vault in
    let dir : Directory = c.args.dir.now in
    let text = c.args.text.now in
    let found = c.in-Some.name in
    let known = rw c.in-Some.is at c.in_ok-name.ensures.name in
    let its : IsNameOf vault dir.key found text
    = subst (λ key. IsNameOf vault key found text) (c.as_slice.ensures ∙ ap (λ (d : Directory). d.key) c.dir.view_is) (subst (IsNameOf vault c.as_slice.result.now found) c.as_str.ensures known) in
    let same : name ≡ found = c.requires.laws.one name found text is its in
    let stored_is : c.in_ok-stored.stored ≡ f.stored dir.key found
    = c.in_ok-stored.ensures ∙ sym (by_text vault dir.key found text its) in
    let clash : true ≡ false
    = sym right ∙ ap (λ n. is_entry c.args.entry.now c.args.long (f.stored dir.key n)) same ∙ ap (is_entry c.args.entry.now c.args.long) (sym stored_is)
    ∙ sym c.is_entry.ensures ∙ c.if-is_entry.false in
    cc clash
