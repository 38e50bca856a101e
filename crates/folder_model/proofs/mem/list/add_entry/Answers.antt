use Rattle.std.proofs.Common.{◌≡◌, ◌∙◌, sym, ap, subst, subst₂, insert, string_bytes}
use Rattle.folder_spec.specs.Listing.{Item}
use Rattle.folder_model.specs.Entries.{IsPlace, AddsItem}
use Rattle.folder_model.proofs.Entries.{adds_item}
use Rattle.folder_model.proofs.mem.list.add_entry.Goals as goal

pub returns : goal.returns
returns c =
    let old = c.args.entries.now.items in
    let item : Item = record { name = string_bytes c.args.name; kind = c.args.kind } in
    let made : c.new.result ≡ item = λ i. record { name = c.new.ensures.name i; kind = c.new.ensures.kind i } in
    let place : IsPlace old item.name c.in-Some.place = subst₂ (λ items name. IsPlace items name c.in-Some.place) c.as_slice.ensures.value c.as_str.ensures.value c.in-Some.ensures in
    subst (AddsItem item old) (sym (c.in_ok-insert.ensures.items ∙ ap (insert old c.in-Some.place) made)) (adds_item old item c.in-Some.place place)
