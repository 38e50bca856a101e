-- Base64 as it is read.
use Rattle.std.proofs.Common.{◌≡◌, ◌↔◌, ℕ, List, Some, Result, Ok, Err, refl}
use Rattle.std.specs.Result.{result_ok}
use Rattle.base64.specs.Engines.{standard, url_safe_no_pad}
use Rattle.base64.specs.declared.engine.general_purpose.GeneralPurpose.{GeneralPurpose}
use Rattle.base64.specs.GeneralPurpose.{IsBytes, IsStrict, decode_of, decoded_of, encode_of}
use Rattle.base64.proofs.EngineFacts.{decode_of_iff}
use Rattle.base64.proofs.Streams.{decoded_of-ok}
use Rattle.json_fields.specs.declared.base64_text.Alphabet.{Alphabet}
use Rattle.json_fields.specs.declared.base64_text.Alphabet.TheVariants.{Standard, UrlSafe}
use Rattle.json_fields.specs.Base64.{ReadsEncodings}

ok_of : {T E : Type 0} (r : Result T E) (value : T) → result_ok r ≡ Some value → r ≡ Ok value
ok_of (Ok x) value is = cc
ok_of (Err e) value is = cc

decoded_ok : (engine : GeneralPurpose) (text bytes : List ℕ) → decoded_of engine text ≡ Some bytes → decode_of engine text ≡ Ok bytes
unfolding decoded_of
decoded_ok engine text bytes is = ok_of (decode_of engine text) bytes is

reads_engine : (engine : GeneralPurpose) → IsStrict engine
    → (text bytes : List ℕ) → IsBytes text → IsBytes bytes → (decoded_of engine text ≡ Some bytes) ↔ (text ≡ encode_of engine bytes)
reads_engine engine strict text bytes text_bytes is_bytes =
    let iff = decode_of_iff engine text bytes strict text_bytes is_bytes in
    (λ is. iff.0 (decoded_ok engine text bytes is), λ is. decoded_of-ok engine text bytes (iff.1 is))

pub alphabets_read : (alphabet : Alphabet) → ReadsEncodings alphabet
alphabets_read Standard = reads_engine standard (refl, refl)
alphabets_read UrlSafe = reads_engine url_safe_no_pad (refl, refl)
