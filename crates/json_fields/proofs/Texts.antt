-- Texts in arrays, and tests of texts.
use Rattle.std.proofs.Common.{◌≡◌, ℕ, ◌<◌, ◌||◌, List, [], ◌∷◌, ◌++◌, Bool, length, drop, get_or, Option, None, option_map, refl, ap, ◌∙◌}
use Rattle.std.specs.List.{list_any}
use Rattle.std.specs.Borrow.{Bor}
use Rattle.std.proofs.lemmas.List.{drop_more}
use Rattle.serde_json.specs.Find.{as_str}
use Rattle.serde_json.specs.View.{view, items_view}
use Rattle.serde_json.specs.declared.value.Value.{Value}
use Rattle.json_fields.specs.Json.{texts_of}
use Rattle.json_fields.specs.Views.{texts_view}

-- the texts of what is left, after those that were taken
abbrev pub after : List (List ℕ) → Option (List (List ℕ)) → Option (List (List ℕ))
after done rest = option_map (λ texts. done ++ texts) rest

pub no_text_at_item : (items : List Value) (i : ℕ) (v : Value) → i < length items → v ≡ get_or items i v
    → as_str (view v) ≡ None → texts_of (items_view (drop i items)) ≡ None
no_text_at_item items i v within here is =
    ap (λ vs. texts_of (items_view vs)) (drop_more items i v within) ∙ rw (← here, is) refl

-- a test of texts behind references
pub any_text : (p : List ℕ → Bool) (texts : List (Bor (List ℕ))) → list_any p (texts_view texts) ≡ list_any (λ text. p text.now) texts
any_text p [] = refl
any_text p (text ∷ texts) = ap (λ rest. p text.now || rest) (any_text p texts)
