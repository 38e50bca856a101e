use Rattle.std.proofs.Common.{◌+◌, IfSome, ◌∷◌, [], ◌++◌, sym, ap, ◌∙◌, subst, refl, take, arith}
use Rattle.std.specs.Option.{option_to_list}
use Rattle.std.proofs.lemmas.List.{take_more, take_all}
use Rattle.folder_spec.specs.Listing.{Item}
use Rattle.folder_spec.specs.Seen.{IfSeen, IsSeen, under}
use Rattle.vault_spec.specs.Vault.{format_of}
use Rattle.vault_read.specs.Listing.{HasItems, HasPlace, IsItemOf, item_found, items_of}
use Rattle.vault_read.proofs.Gathering.{items_more, none_yet, one_more, places_more}
use Rattle.vault_read.proofs.listing.found_at.Goals as goal

pub loop-entry-init : goal.loop-entry-init
loop-entry-init g c = (
  refl,
  omega arith,
  λ v is. rw c.new-all.ensures.items (none_yet (format_of c.args.vault.now.vault) (under c.args.vault.now.root v) c.args.dir.now),
  λ v is. rw c.new-all.ensures.items (λ x among. absurd (omega (arith, among.1))),
)

pub loop-entry-preserved : goal.loop-entry-preserved
loop-entry-preserved g c =
    let f = format_of c.args.vault.now.vault in
    let root = c.args.vault.now.root in
    let dir = c.args.dir.now in
    let entries = c.args.entries.now in
    let i = c.loop-entry.entry-index in
    let e : Item = c.entry-item.result in
    let all = c.loop-entry.all.items in
    let found = c.in_ok-found.found in
    let counts = c.in_ok-found.ensures.counts in (
      c.in_ok-found.ensures.told ∙ c.loop-entry.invariant.0,
      omega (arith, c.loop-entry.invariant.1, counts),
      λ v is.
          let w = under root v in
          let found_is : IsItemOf f w dir e.name (item_found found)
          = subst (λ name. IsItemOf f w dir name (item_found found)) (c.as_str.ensures.value ∙ ap (λ (x : Item). x.name) c.entry.view_is)
          (c.in_ok-found.ensures.item v (subst (λ t. IsSeen t v) (sym c.loop-entry.invariant.0) is)) in
          rw c.in_ok-add.ensures
          (subst (HasItems f w dir (take (i + 1) entries)) (sym (items_more all found))
          (subst (λ es. HasItems f w dir es (items_of all ++ option_to_list (item_found found)))
          (sym (take_more entries i e c.loop-entry-test.true ∙ ap (λ x. take i entries ++ x ∷ []) (sym c.entry-item.is)))
          (one_more f w dir (take i entries) (items_of all) e (item_found found) (c.loop-entry.invariant.2 v is) found_is))),
      λ v is.
          let later = subst (λ t. IsSeen t v) (sym c.loop-entry.invariant.0) is in
          rw c.in_ok-add.ensures
          (places_more root f (under root v) dir all found (c.loop-entry.invariant.3 v is)
          (λ x e. subst (λ o. IfSome o (λ one. IfSeen (g.F.Folder.told c.loop-entry.folder) (λ v. HasPlace root f (under root v) dir one))) e c.in_ok-found.ensures.place v later)),
    )

pub returns-clause-items : goal.returns-clause-items
returns-clause-items g c v is =
    subst (λ es. HasItems (format_of c.args.vault.now.vault) (under c.args.vault.now.root v) c.args.dir.now es (items_of c.loop-entry.all.items))
    (take_all c.loop-entry.entry-index c.args.entries.now c.loop-entry-test.false) (c.loop-entry.invariant.2 v is)
