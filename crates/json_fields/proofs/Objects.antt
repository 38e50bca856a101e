-- JSON objects in bytes.
use Rattle.std.proofs.Common.{◌≡◌, ℕ, List, Bool, true, false, Option, Some, None, cond, refl, option_and_then}
use Rattle.std.specs.Str.{IsUtf8, is_utf8}
use Rattle.std.proofs.lemmas.Str.{is_utf8-from_IsUtf8, IsUtf8-from_is_utf8}
use Rattle.serde_json.specs.Data.{Data}
use Rattle.serde_json.specs.Read.{read}
use Rattle.json_fields.specs.Json.{json_object, object_of}

pub object_in : (bytes : List ℕ) (d : Data) → IsUtf8 bytes → read bytes ≡ Some d → json_object bytes ≡ object_of d
object_in bytes d utf8 reads = rw (is_utf8-from_IsUtf8 bytes utf8, reads) refl

by_test : (b : Bool) (value : Option Data) → (b ≡ true → value ≡ None) → cond b (option_and_then object_of value) None ≡ None
by_test true value none = rw (none refl) refl
by_test false value none = refl

pub nothing_in : (bytes : List ℕ) → (IsUtf8 bytes → read bytes ≡ None) → json_object bytes ≡ None
nothing_in bytes none = by_test (is_utf8 bytes) (read bytes) (λ test. none (IsUtf8-from_is_utf8 bytes test))
