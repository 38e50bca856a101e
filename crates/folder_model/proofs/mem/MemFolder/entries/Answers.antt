-- Each name of an entry is looked at.
use Rattle.std.proofs.Common.{arith, ◌≡◌, ◌≢◌, ◌∙◌, sym, ap, subst, inl, inr, string_bytes, slice_index_or}
use Rattle.folder_spec.specs.declared.Kind.TheVariants.{Missing}
use Rattle.folder_spec.specs.Path.{child}
use Rattle.folder_spec.specs.State.{present, kind_of}
use Rattle.folder_model.specs.Entries.{AddsEntry, HasName}
use Rattle.folder_model.specs.Memory.{state_of}
use Rattle.folder_model.proofs.Entries.{below_or_not, listing_is}
use Rattle.folder_model.proofs.StepLemmas.{of_named, any_default}
use Rattle.folder_model.proofs.States.{present_is}
use Rattle.folder_model.specs.Tables.{names_of}
use Rattle.folder_model.proofs.mem.MemFolder.entries.Goals as goal

pub loop-name-preserved : goal.loop-name-preserved
loop-name-preserved c =
    let t = present (state_of c.args.self.now) in
    let at = c.args.at.now in
    let names = c.deref-name-items.result.now in
    let name = c.as_str-in-loop-name.result.now in
    let there : t (child at name) ≡ c.in_ok-spot.spot =
    ap (λ n. t (child at n)) (c.as_str-in-loop-name.ensures.value ∙ sym c.as_str.ensures.value) ∙ ap t (sym c.in_ok-child.ensures) ∙ sym c.in_ok-spot.ensures in
    let adds : AddsEntry t at name c.loop-name.entries.items c.add_spot.new.entries.items = c.in_ok-add_spot.ensures t at there in (
      adds.ordered c.loop-name.invariant.0,
      adds.right c.loop-name.invariant.1,
      λ k d less some. elim (below_or_not k c.loop-name.name-index) [
        | inl earlier ↦ let has : HasName c.loop-name.entries.items (string_bytes (slice_index_or names k d)) = c.loop-name.invariant.2 k d earlier some in
            (has.0, adds.others has.0 has.1, has.2)
        | inr not_earlier ↦
            let now : k ≡ c.loop-name.name-index = omega (arith, less, not_earlier) in
            let this_name : name ≡ string_bytes (slice_index_or names k d) =
            c.as_str-in-loop-name.ensures.value
            ∙ ap (λ s. string_bytes s) (c.name-item.is ∙ any_default names c.loop-name.name-index c.name-item.result d c.loop-name-test.true ∙ ap (λ j. slice_index_or names j d) (sym now)) in
            subst (HasName c.add_spot.new.entries.items) this_name (adds.named (subst (λ n. kind_of (t (child at n)) ≢ Missing) (sym this_name) some))
      ],
    )

pub returns : goal.returns
returns c =
    let self = c.args.self.now in
    let t = present (state_of self) in
    let at = c.args.at.now in
    let items = c.loop-name.entries.items in
    listing_is (λ n. ((state_of self).nodes n).now) t at items c.loop-name.invariant.0 c.loop-name.invariant.1
    (λ a some. of_named (λ name. kind_of (t (child at name)) ≢ Missing → HasName items name) c.deref-name-items.result.now a
    (λ k d fits. c.loop-name.invariant.2 k d (omega (arith, fits, c.loop-name-test.false)))
    (rw c.deref-name-items.ensures.value (c.in_ok-found.ensures a
    (λ none. some (ap kind_of (ap (λ u. u (child at a)) (present_is self.nodes.items (names_of self.base) self.steps.items self.kept) ∙ rw c.as_slice.ensures.value at none)))))
    some)
