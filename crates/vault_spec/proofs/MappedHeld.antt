-- A tree is held in its mapped tree, of which there is one.
use Rattle.std.proofs.Common.{◌≡◌, ◌≢◌, ◌⊎◌, [], ◌∷◌, refl, sym, ◌∙◌, inl, inr, subst}
use Rattle.vault_spec.specs.Mapped.{HasNoBroken, IsHeldIn, IsMapped, IsMappedItem, IsPartOfMapped, IsWhole}
use Rattle.plain_tree.specs.Mapped.{mapped_path}
use Rattle.plain_tree.specs.Names.{Path}
use Rattle.plain_tree.specs.declared.name_map.NameMap.{NameMap}
use Rattle.vault_spec.specs.Opens.{Opened, NoItem, Directory, Content, Broken, Tree}

pub none_or_item : (o : Opened) → (o ≡ NoItem) ⊎ (o ≢ NoItem)
none_or_item NoItem = inl refl
none_or_item Directory = inr (λ e. cc e)
none_or_item (Content bytes) = inr (λ e. cc e)
none_or_item (Broken chunks fault) = inr (λ e. cc e)

root_or_below : (path : Path) → (path ≡ []) ⊎ (path ≢ [])
root_or_below [] = inl refl
root_or_below (name ∷ path) = inr (λ e. cc e)

-- what is so in the mapped tree opens so in a tree that is the mapped one
pub item_opens : (names : NameMap) (m t : Tree) (path : Path) (opened : Opened) → IsMapped names m t → opened ≢ NoItem → IsMappedItem names m path opened → t path ≡ opened
item_opens names m t path opened is item x = subst (λ p. t p ≡ opened) x.comes (is.each x.from (λ none. item (sym x.is ∙ none)) ∙ x.is)

pub one : (names : NameMap) (m t u : Tree) → IsMapped names m t → IsMapped names m u → (path : Path) → t path ≡ u path
one names m t u first second path = elim (none_or_item (t path)) [
  | inr item ↦ sym (item_opens names m u path (t path) second item (first.only path item))
  | inl none ↦ elim (none_or_item (u path)) [
    | inl nothing ↦ none ∙ sym nothing
    | inr item ↦ item_opens names m t path (u path) first item (second.only path item)
  ]
]

pub held : (names : NameMap) (m t : Tree) → IsMapped names m t → HasNoBroken m → IsHeldIn names m t
held names m t is whole path named item = (is.each path item, whole path)

pub part : (names : NameMap) (m t : Tree) → IsMapped names m t → HasNoBroken m → IsPartOfMapped names t m
part names m t is whole path named item = let x = is.only path item in (x, subst IsWhole x.is (whole x.from))

pub both : (names : NameMap) (m t : Tree) → t [] ≡ m [] → IsHeldIn names m t → IsPartOfMapped names t m → IsMapped names m t
both names m t root held part = record { each = each; only = only }
  where
    each : (path : Path) → m path ≢ NoItem → t (mapped_path names path) ≡ m path
    each path item = elim (root_or_below path) [
      | inl is_root ↦ subst (λ p. t (mapped_path names p) ≡ m p) (sym is_root) root
      | inr named ↦ (held path named item).0
    ]

    only : (path : Path) → t path ≢ NoItem → IsMappedItem names m path (t path)
    only path item = elim (root_or_below path) [
      | inl is_root ↦ subst (λ p. IsMappedItem names m p (t p)) (sym is_root) (record { from = []; comes = refl; is = sym root })
      | inr named ↦ (part path named item).0
    ]
