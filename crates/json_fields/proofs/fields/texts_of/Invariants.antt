use Rattle.std.proofs.Common.{◌≡◌, drop}
use Rattle.serde_json.specs.View.{items_view}
use Rattle.json_fields.specs.Json.{texts_of}
use Rattle.json_fields.specs.Views.{texts_view}
use Rattle.json_fields.proofs.Texts.{after}
use Rattle.json_fields.proofs.fields.texts_of.Given as goal

abbrev pub invariant-loop-item : goal.invariant-loop-item
invariant-loop-item l =
    texts_of (items_view l.items) ≡ after (texts_view l.texts.items) (texts_of (items_view (drop l.item-index l.items)))
