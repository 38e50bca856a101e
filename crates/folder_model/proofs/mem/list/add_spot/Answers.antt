use Rattle.std.proofs.Common.{rules, ◌≡◌, ◌≢◌, ◌∙◌, sym, ap, subst}
use Rattle.folder_spec.specs.declared.Kind.TheVariants.{Missing}
use Rattle.folder_spec.specs.State.{kind_of}
use Rattle.folder_model.specs.Entries.{AddsItem}
use Rattle.folder_model.proofs.Entries.{adds_entry}
use Rattle.folder_model.proofs.States.{on_ok}
use Rattle.folder_model.proofs.mem.list.add_spot.Goals as goal

pub returns-in_ok-from_str-in_default : goal.returns-in_ok-from_str-in_default
returns-in_ok-from_str-in_default c =
    let kind = c.kind_at.result in
    let is : kind_of c.args.spot ≡ kind = sym c.kind_at.ensures in
    let some : kind ≢ Missing = search rules in
    on_ok c.add_entry.result _ _ c.add_entry.ensures
    (λ adds t at there. adds_entry t at c.args.name.now kind c.args.entries.now.items c.add_entry.new.entries.items (ap kind_of there ∙ is) some
    (subst (λ name. AddsItem (record { name = name; kind = kind }) c.args.entries.now.items c.add_entry.new.entries.items) c.in_ok-from_str-in_default.ensures.ok adds))
