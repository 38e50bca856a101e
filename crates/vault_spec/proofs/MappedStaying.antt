-- By the rule that names stay, trees stay.
use Rattle.std.specs.Prelude.{◌↔◌}
use Rattle.std.proofs.Common.{◌≡◌, ◌≢◌, [], sym, ap, ◌∙◌, inl, inr, subst}
use Rattle.vault_spec.proofs.MappedHeld.{none_or_item}
use Rattle.vault_spec.specs.Mapped.{IsHeldIn, IsMapped, IsPartOfMapped, IsWhole, StaysApart}
use Rattle.plain_tree.specs.Mapped.{mapped_path}
use Rattle.plain_tree.specs.Names.{Path}
use Rattle.plain_tree.specs.declared.name_map.NameMap.TheVariants.{Same}
use Rattle.vault_spec.specs.Opens.{NoItem, Tree}

module _ (stay : (path : Path) → mapped_path Same path ≡ path) where
  pub apart : (m : Tree) → StaysApart Same m
  apart m p q one other meet = sym (stay p) ∙ meet ∙ stay q

  pub mapped : (m t : Tree) → IsMapped Same m t ↔ ((path : Path) → t path ≡ m path)
  mapped m t = (there, λ same. record { each = λ path item. ap t (stay path) ∙ same path; only = λ path item. record { from = path; comes = stay path; is = sym (same path) } })
    where
      there : IsMapped Same m t → (path : Path) → t path ≡ m path
      there is path = elim (none_or_item (m path)) [
        | inr item ↦ subst (λ p. t p ≡ m path) (stay path) (is.each path item)
        | inl none ↦ elim (none_or_item (t path)) [
          | inl nothing ↦ nothing ∙ sym none
          | inr item ↦ let x = is.only path item in absurd (item (sym x.is ∙ ap m (sym (stay x.from) ∙ x.comes) ∙ none))
        ]
      ]

  pub part : (m t : Tree) → IsPartOfMapped Same t m ↔ ((path : Path) → path ≢ [] → t path ≢ NoItem → (t path ≡ m path) × IsWhole (t path))
  part m t = (
    λ is path named item. let x = is path named item in (sym x.0.is ∙ ap m (sym (stay x.0.from) ∙ x.0.comes), x.1),
    λ is path named item. let x = is path named item in (record { from = path; comes = stay path; is = sym x.0 }, x.1),
  )

  pub held : (m t : Tree) → IsHeldIn Same m t ↔ ((path : Path) → path ≢ [] → m path ≢ NoItem → (t path ≡ m path) × IsWhole (m path))
  held m t = (
    λ is path named item. let x = is path named item in (ap t (sym (stay path)) ∙ x.0, x.1),
    λ is path named item. let x = is path named item in (ap t (stay path) ∙ x.0, x.1),
  )
