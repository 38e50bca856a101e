-- That a vault which allows the last mapped name of each item allows the last name of each item at its mapped path.
use Rattle.std.proofs.Common.{◌≡◌, ℕ, List, [], ◌∷◌, ◌++◌, refl, ap, ◌∙◌, subst}
use Rattle.plain_tree.specs.Mapped.{mapped_name, mapped_path}
use Rattle.plain_tree.specs.Names as plain
use Rattle.plain_tree.specs.declared.name_map.NameMap.{NameMap}
use Rattle.tree_match.specs.Mapping.{IsMappedPlan}
use Rattle.vault_spec.specs.Format.{Format}
use Rattle.vault_spec.specs.Making.{Allows}
use Rattle.vault_spec.specs.Plan.{Planned}
use Rattle.migrate_core.proofs.MappedItems.{own_item}
use Rattle.migrate_core.specs.Sides.{AllowsEach, AllowsEachMapped}

-- the last name of a mapped path is the mapped last name
last_mapped : (rule : NameMap) (path front : plain.Path) (name : List ℕ) → mapped_path rule path ≡ front ++ name ∷ [] → (before : plain.Path) × (own : List ℕ) × (path ≡ before ++ own ∷ []) × (mapped_name rule own ≡ name)
last_mapped rule [] [] name e = cc e
last_mapped rule [] (a ∷ front) name e = cc e
last_mapped rule (own ∷ []) [] name e = ([], own, refl, cc e)
last_mapped rule (own ∷ b ∷ path) [] name e = cc e
last_mapped rule (own ∷ path) (a ∷ front) name e =
    let rest : mapped_path rule path ≡ front ++ name ∷ [] = cc e in
    let more = last_mapped rule path front name rest in
    (own ∷ more.0, more.1, ap (λ p. own ∷ p) more.2, more.3)

pub each_allowed : (rule : NameMap) (f : Format) (items mapped : List Planned) → IsMappedPlan rule items mapped → AllowsEachMapped rule f items → AllowsEach f mapped
each_allowed rule f items mapped same allowed item among front name is =
    let own = own_item rule items mapped item same among in
    let last = last_mapped rule own.0.path front name (ap (λ (x : Planned). x.path) own.2 ∙ is) in
    subst (Allows f) last.3 (allowed own.0 own.1 last.0 last.1 last.2).allowed
