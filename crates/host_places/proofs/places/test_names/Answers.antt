use Rattle.std.proofs.Common.{sym, ap, ◌∙◌}
use Rattle.std.specs.List.{list_all}
use Rattle.std.specs.Rc.{rc_str_bytes}
use Rattle.std.proofs.lemmas.List.Folds.{list_all-map}
use Rattle.host_places.specs.Places.{is_entry_name}
use Rattle.host_places.proofs.places.test_names.Goals as goal

pub returns-then-are_entry_names : goal.returns-then-are_entry_names
returns-then-are_entry_names c =
    ap (list_all is_entry_name) (sym c.parts.ensures) ∙ list_all-map is_entry_name (λ s. rc_str_bytes s) c.parts.result.now ∙ sym c.are_entry_names.ensures ∙ c.if-are_entry_names.true
