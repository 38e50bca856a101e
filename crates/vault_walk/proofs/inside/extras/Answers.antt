use Rattle.std.proofs.Common.{◌≡◌, ◌∷◌, [], ◌++◌, sym, ap, ◌∙◌, subst, take}
use Rattle.std.specs.Prelude.{Contains}
use Rattle.std.proofs.lemmas.List.{take_more, take_all}
use Rattle.std.proofs.lemmas.List.Elements.{Contains-get_or}
use Rattle.folder_spec.specs.Listing.{Item}
use Rattle.folder_spec.specs.Path.{child}
use Rattle.folder_spec.specs.View.{kind_found}
use Rattle.vault_read.specs.Items.{item_of}
use Rattle.vault_spec.specs.Cryptomator.{inner_role}
use Rattle.vault_walk.specs.Extras.{extra_at, extras}
use Rattle.vault_walk.specs.Names.{role_of}
use Rattle.vault_walk.proofs.ExtraEntries.{no_extras, listed_kind, more_extras}
use Rattle.vault_walk.proofs.inside.extras.Goals as goal

pub loop-entry-init : goal.loop-entry-init
loop-entry-init c v listing = rw c.new-found.ensures.items (no_extras (inner_role c.args.long (item_of c.args.item)) v c.args.at.now)

pub loop-entry-preserved : goal.loop-entry-preserved
loop-entry-preserved c v listing =
    let entries = c.args.entries.now in
    let at = c.args.at.now in
    let i = c.loop-entry.entry-index in
    let e : Item = c.entry-item.result in
    let of_name = inner_role c.args.long (item_of c.args.item) in
    let its = role_of c.inner_role-role.result in
    let among : Contains entries e = subst (Contains entries) (sym c.entry-item.is) (Contains-get_or entries i e c.loop-entry-test.true) in
    let kind_is : c.entry.inside.kind ≡ kind_found (v (child at e.name)) = ap (λ (x : Item). x.kind) c.entry.view_is ∙ listed_kind v at entries listing e among in
    let its_is : its ≡ of_name e.name (v (child at e.name))
    = c.inner_role-role.ensures (v (child at e.name)) kind_is ∙ ap (λ name. of_name name (v (child at e.name))) (c.as_str.ensures.value ∙ ap (λ (x : Item). x.name) c.entry.view_is) in
    rw c.in_ok-add_extra.ensures
    (subst (λ es. (c.loop-entry.found.items ++ extra_at its (child at e.name)) ≡ extras of_name v at es)
    (sym (take_more entries i e c.loop-entry-test.true ∙ ap (λ x. take i entries ++ x ∷ []) (sym c.entry-item.is)))
    (more_extras of_name v at (take i entries) e c.loop-entry.found.items its (c.loop-entry.invariant v listing) its_is))

pub returns : goal.returns
returns c v listing =
    subst (λ es. c.loop-entry.found.items ≡ extras (inner_role c.args.long (item_of c.args.item)) v c.args.at.now es)
    (take_all c.loop-entry.entry-index c.args.entries.now c.loop-entry-test.false) (c.loop-entry.invariant v listing)
