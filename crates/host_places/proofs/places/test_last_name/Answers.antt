use Rattle.std.proofs.Common.{◌≡◌, true, ◌∷◌, ◌++◌, [], ◌&&◌, map, sym, ap, ap₂, ◌∙◌, IsTrue}
use Rattle.std.proofs.lemmas.List.{map-append}
use Rattle.std.proofs.lemmas.List.Folds.{list_all-append}
use Rattle.std.specs.Rc.{rc_str_bytes}
use Rattle.folder_spec.specs.Path.{Part, Path, parent}
use Rattle.folder_spec.proofs.Paths.{parent-child}
use Rattle.host_places.specs.Places.{is_entry_name, names_entries}
use Rattle.host_places.proofs.places.test_last_name.Goals as goal

named_whole : (at rest : Path) (part : Part) → at ≡ rest ++ part ∷ [] → is_entry_name part ≡ true → IsTrue (names_entries (parent at)) → IsTrue (names_entries at)
named_whole at rest part whole last front =
    ap names_entries whole ∙ list_all-append is_entry_name rest (part ∷ [])
    ∙ ap₂ (λ x y. x && (y && true)) (ap names_entries (sym (parent-child rest part) ∙ ap parent (sym whole)) ∙ front) last

pub returns-then-is_entry_name : goal.returns-then-is_entry_name
returns-then-is_entry_name c =
    named_whole c.args.at.now (map (λ s. rc_str_bytes s) c.in-Some.field-0-1.now) (rc_str_bytes c.in-Some.name.now)
    (sym c.parts.ensures ∙ ap (map (λ s. rc_str_bytes s)) c.in-Some.ensures.cases.0 ∙ map-append (λ s. rc_str_bytes s) c.in-Some.field-0-1.now (c.in-Some.name.now ∷ []))
    (ap is_entry_name (sym c.as_str.ensures.value) ∙ sym c.is_entry_name.ensures ∙ c.if-is_entry_name.true)
