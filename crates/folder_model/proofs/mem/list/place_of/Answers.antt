-- Names that are neither lower nor higher are one.
use Rattle.std.proofs.Common.{◌≡◌, ◌∙◌, sym, ap, string_bytes}
use Rattle.std.specs.Cmp.Lexicographic.{slice_cmp}
use Rattle.std.specs.Ordering.{nat_cmp}
use Rattle.std.specs.FinMap.{slice_cmp-IsAntisymmetric, nat_cmp-IsAntisymmetric}
use Rattle.std.specs.declared.cmp.Ordering.TheVariants.{Equal}
use Rattle.folder_spec.specs.Listing.{Item}
use Rattle.folder_model.proofs.mem.list.place_of.Goals as goal

pub returns-in-Equal : goal.returns-in-Equal
returns-in-Equal c =
    let item = c.index-entries-i.result in
    let shown : string_bytes c.entry.inside.name ≡ item.name = ap (λ (x : Item). x.name) c.entry.view_is in
    let equal : slice_cmp nat_cmp c.as_str.result.now c.args.name.now ≡ Equal = sym c.cmp.ensures ∙ c.in-Equal.is in (
      item,
      (c.loop-i.i, c.loop-i-test.true, sym c.index-entries-i.is),
      sym shown ∙ sym c.as_str.ensures.value ∙ slice_cmp-IsAntisymmetric nat_cmp-IsAntisymmetric c.as_str.result.now c.args.name.now equal,
    )
