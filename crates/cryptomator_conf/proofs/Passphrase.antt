-- Passphrases as they are used.
use Rattle.std.proofs.Common.{◌≡◌, ℕ, List, encode_utf8_all, refl}
use Rattle.std.specs.Str.{IsUtf8, is_utf8, chars}
use Rattle.std.proofs.lemmas.Bool.{false_from_ne_true}
use Rattle.std.proofs.lemmas.Str.{is_utf8-from_IsUtf8, IsUtf8-from_is_utf8}
use Rattle.unicode_normalization.specs.Forms.{nfc}
use Rattle.cryptomator_conf.specs.Keys.{passphrase}

pub passphrase-text : (pass : List ℕ) → IsUtf8 pass → passphrase pass ≡ encode_utf8_all (nfc (chars pass))
unfolding passphrase
passphrase-text pass utf8 = rw (is_utf8-from_IsUtf8 pass utf8) refl

pub passphrase-bytes : (pass : List ℕ) → ¬ IsUtf8 pass → passphrase pass ≡ pass
unfolding passphrase
passphrase-bytes pass not = rw (false_from_ne_true (is_utf8 pass) (λ test. not (IsUtf8-from_is_utf8 pass test))) refl
