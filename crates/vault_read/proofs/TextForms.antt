-- What the texts of names tell, from their laws.
use Rattle.std.proofs.Common.{◌≡◌, ◌≤◌, ◌<◌, ◌*◌, ◌+◌, ◌-◌, ◌/◌, ℕ, zero, suc, ◌&&◌, List, [], ◌∷◌, ◌++◌, Bool, true, false, cond, not, Some, None, is_some, IsTrue, Fits, w8, codes, drop, take, length, get_or, nat_eq, nat_le, nat_lt, refl, sym, ap, ◌∙◌, subst, arith, length-append}
use Rattle.std.specs.List.{ends_with, list_all, starts_with}
use Rattle.std.specs.Str.{IsAscii, IsUtf8}
use Rattle.std.proofs.Math.Seq.{drop-append_seam}
use Rattle.std.proofs.lemmas.Bool.{and_parts, leb-true, ltb-true}
use Rattle.std.proofs.lemmas.Bool.Decides.{nat_tests}
use Rattle.std.proofs.lemmas.List.{take-append-drop}
use Rattle.std.proofs.lemmas.List.Folds.{list_all-append}
use Rattle.std.proofs.lemmas.Slice.Eq.{bytes_eq-Decides}
use Rattle.std.proofs.lemmas.Str.{IsUtf8-from_ascii}
use Rattle.aes_lanes.specs.Bytes.{AreBytes, IsBlock}
use Rattle.vault_values.specs.declared.keys.GoKeys.{GoKeys}
use Rattle.json_fields.specs.Base64.{is_base64url}
use Rattle.plain_tree.specs.Names.{is_name, is_name_byte, is_dots}
use Rattle.vault_names.specs.Cryptomator.{cm_text, cm_long_name, cm_entry_of, cm_stored, IsCmTextOf, IsPlainUpTo, is_padded_base64url}
use Rattle.vault_names.specs.Gocryptfs.{go_text, long_name, entry_of, stored, IsTextOf}
use Rattle.vault_names.specs.declared.entry.Stored.{Stored}
use Rattle.vault_spec.specs.Cryptomator.{CmVault}
use Rattle.vault_spec.specs.Vault.{Gocryptfs, Cryptomator}
use Rattle.vault_read.specs.Listing.{TellsNames, is_long}
use Rattle.vault_read.specs.declared.vault.VaultKind.TheVariants as kind

small : (x : ℕ) → Fits w8 x → x < 256
small x fits = omega (arith, fits)

-- a name has at most 255 bytes
name_size : (name : List ℕ) → IsTrue (is_name name) → length name ≤ 255
unfolding is_name
name_size name named =
    leb-true (length name) 255 (and_parts (nat_lt 0 (length name)) (nat_le (length name) 255) (and_parts (nat_lt 0 (length name) && nat_le (length name) 255) (list_all is_name_byte name)
    (and_parts ((nat_lt 0 (length name) && nat_le (length name) 255) && list_all is_name_byte name) (not (is_dots name)) named).0).0).1

-- a text of such characters is UTF-8
small_letter : (c : ℕ) → is_base64url c ≡ true → c < 128
small_letter c is = grind (arith, nat_tests)

small_padded : (c : ℕ) → is_padded_base64url c ≡ true → c < 128
small_padded c is = grind (arith, nat_tests)

ascii_all : (p : ℕ → Bool) → ((c : ℕ) → p c ≡ true → c < 128) → (text : List ℕ) → list_all p text ≡ true → IsAscii text
ascii_all p small [] are k = omega arith
ascii_all p small (c ∷ text) are zero = small c (and_parts (p c) (list_all p text) are).0
ascii_all p small (c ∷ text) are (suc k) = ascii_all p small text (and_parts (p c) (list_all p text) are).1 k

ascii-append : (xs ys : List ℕ) → IsAscii xs → IsAscii ys → IsAscii (xs ++ ys)
ascii-append [] ys one two k = two k
ascii-append (x ∷ xs) ys one two zero = one 0
ascii-append (x ∷ xs) ys one two (suc k) = ascii-append xs ys (λ i. one (suc i)) two k

-- gocryptfs: a text has no dot, which a long name begins with
no_start : (text : List ℕ) → list_all is_base64url text ≡ true → starts_with nat_eq text (codes "gocryptfs.longname.") ≡ false
no_start text plain = by_test (starts_with nat_eq text (codes "gocryptfs.longname.")) refl
  where
    never : starts_with nat_eq text (codes "gocryptfs.longname.") ≡ true → ⊥
    never is =
        let same : codes "gocryptfs.longname." ≡ take 19 text = (bytes_eq-Decides (codes "gocryptfs.longname.") (take 19 text)).0 is in
        let both : (list_all is_base64url (take 19 text) && list_all is_base64url (drop 19 text)) ≡ true
        = sym (list_all-append is_base64url (take 19 text) (drop 19 text)) ∙ ap (list_all is_base64url) (take-append-drop 19 text) ∙ plain in
        let dotted : list_all is_base64url (codes "gocryptfs.longname.") ≡ true
        = ap (list_all is_base64url) same ∙ (and_parts (list_all is_base64url (take 19 text)) (list_all is_base64url (drop 19 text)) both).0 in
        cc

    by_test : (b : Bool) → starts_with nat_eq text (codes "gocryptfs.longname.") ≡ b → b ≡ false
    by_test true is = absurd (never is)
    by_test false is = refl

-- what is stored of a text
abbrev short_or_long : Bool → List ℕ → List ℕ → Stored
short_or_long b text long = cond b (record { name = text; full = None }) (record { name = long; full = Some text })

module _ (keys : GoKeys) (key : List ℕ)
    (one : (k iv text name other : List ℕ) → IsBlock iv → IsTextOf k iv name text → IsTextOf k iv other text → name ≡ other)
    (size : (k iv name : List ℕ) → IsBlock iv → IsTrue (is_name name) → length (go_text k iv name) ≡ (64 * (length name / 16 + 1) + 2) / 3)
    (plain : (k iv name : List ℕ) → IsBlock iv → IsTrue (is_name name) → IsTrue (list_all is_base64url (go_text k iv name)))
    (prefix : (text : List ℕ) → take 19 (long_name text) ≡ codes "gocryptfs.longname.") where
  go_form : (text : List ℕ) → list_all is_base64url text ≡ true → is_long kind.Gocryptfs (entry_of text).name ≡ is_some (entry_of text).full
  go_form text are = by_size (nat_le (length text) 255)
    where
      by_size : (b : Bool) → is_long kind.Gocryptfs (short_or_long b text (long_name text)).name ≡ is_some (short_or_long b text (long_name text)).full
      by_size true = no_start text are
      by_size false = (bytes_eq-Decides (codes "gocryptfs.longname.") (take 19 (long_name text))).1 (sym (prefix text))

  go_short : (name : List ℕ) → IsBlock key → IsTrue (is_name name) → length (go_text keys.names key name) ≤ 1024
  go_short name block named =
      let n : length name ≤ 255 = name_size name named in
      let s : length (go_text keys.names key name) ≡ (64 * (length name / 16 + 1) + 2) / 3 = size keys.names key name block named in
      omega (arith, n, s)

  pub go_tells : length key ≡ 16 → ((i : ℕ) → Fits w8 (get_or key i 0)) → TellsNames (Gocryptfs keys) key
  unfolding stored
  go_tells sixteen fits = record {
    one = λ name other text a b. one keys.names key text name other block a b;
    form = λ name named. go_form (go_text keys.names key name) (plain keys.names key name block named);
    short = λ name text is. subst (λ t. length t ≤ 1024) is.encrypts (go_short name block is.named);
    utf8 = λ name text is. subst IsUtf8 is.encrypts (IsUtf8-from_ascii (go_text keys.names key name)
        (ascii_all is_base64url small_letter (go_text keys.names key name) (plain keys.names key name block is.named)));
  }
    where
      block : IsBlock key
      block = record { sixteen = sixteen; bytes = λ k. small (get_or key k 0) (fits k) }

-- Cryptomator: a text has another ending than a long name
ended : (xs front ending : List ℕ) → length ending ≡ 4 → xs ≡ front ++ ending → drop (length xs - 4) xs ≡ ending
ended xs front ending four e =
    let behind : length (front ++ ending) - 4 ≡ length front = (let sizes : length (front ++ ending) ≡ length front + length ending = length-append front ending in omega (arith, sizes, four)) in
    ap (λ (ys : List ℕ). drop (length ys - 4) ys) e ∙ ap (λ n. drop n (front ++ ending)) behind ∙ drop-append_seam front ending

no_end : (text : List ℕ) → IsPlainUpTo (codes ".c9r") text → ends_with nat_eq text (codes ".c9s") ≡ false
no_end text plain = by_test (ends_with nat_eq text (codes ".c9s")) refl
  where
    never : ends_with nat_eq text (codes ".c9s") ≡ true → ⊥
    never is =
        let same : codes ".c9s" ≡ codes ".c9r" = (bytes_eq-Decides (codes ".c9s") (drop (length text - 4) text)).0 is ∙ ended text plain.front (codes ".c9r") refl plain.ended in
        let clash : 115 ≡ 114 = ap (λ xs. get_or xs 3 0) same in
        omega (arith, clash)

    by_test : (b : Bool) → ends_with nat_eq text (codes ".c9s") ≡ b → b ≡ false
    by_test true is = absurd (never is)
    by_test false is = refl

long_end : (text : List ℕ) → IsPlainUpTo (codes ".c9s") text → ends_with nat_eq text (codes ".c9s") ≡ true
long_end text plain = (bytes_eq-Decides (codes ".c9s") (drop (length text - 4) text)).1 (sym (ended text plain.front (codes ".c9s") refl plain.ended))

plain_utf8 : (text : List ℕ) → IsPlainUpTo (codes ".c9r") text → IsUtf8 text
plain_utf8 text plain =
    subst IsUtf8 (sym plain.ended) (IsUtf8-from_ascii (plain.front ++ codes ".c9r")
    (ascii-append plain.front (codes ".c9r") (ascii_all is_padded_base64url small_padded plain.front plain.plain) (ascii_all (λ c. nat_lt c 128) (λ c is. ltb-true c 128 is) (codes ".c9r") refl)))

module _ (vault : CmVault) (key : List ℕ)
    (one : (id name other text : List ℕ) → AreBytes id → IsCmTextOf vault.keys id name text → IsCmTextOf vault.keys id other text → name ≡ other)
    (size : (id name : List ℕ) → length (cm_text vault.keys id name) ≡ 4 * ((length name + 16 + 2) / 3) + 4)
    (plain : (id name : List ℕ) → AreBytes id → IsTrue (is_name name) → IsPlainUpTo (codes ".c9r") (cm_text vault.keys id name))
    (long : (text : List ℕ) → IsPlainUpTo (codes ".c9s") (cm_long_name text)) where
  cm_form : (text : List ℕ) → IsPlainUpTo (codes ".c9r") text → is_long kind.Cryptomator (cm_entry_of vault.threshold text).name ≡ is_some (cm_entry_of vault.threshold text).full
  cm_form text are = by_size (nat_le (length text) vault.threshold)
    where
      by_size : (b : Bool) → is_long kind.Cryptomator (short_or_long b text (cm_long_name text)).name ≡ is_some (short_or_long b text (cm_long_name text)).full
      by_size true = no_end text are
      by_size false = long_end (cm_long_name text) (long text)

  cm_short : (name : List ℕ) → IsTrue (is_name name) → length (cm_text vault.keys key name) ≤ 1024
  cm_short name named =
      let n : length name ≤ 255 = name_size name named in
      let s : length (cm_text vault.keys key name) ≡ 4 * ((length name + 16 + 2) / 3) + 4 = size key name in
      omega (arith, n, s)

  pub cm_tells : ((i : ℕ) → Fits w8 (get_or key i 0)) → TellsNames (Cryptomator vault) key
  unfolding cm_stored
  cm_tells fits = record {
    one = λ name other text a b. one key name other text bytes a b;
    form = λ name named. cm_form (cm_text vault.keys key name) (plain key name bytes named);
    short = λ name text is. subst (λ t. length t ≤ 1024) is.encrypts (cm_short name is.named);
    utf8 = λ name text is. subst IsUtf8 is.encrypts (plain_utf8 (cm_text vault.keys key name) (plain key name bytes is.named));
  }
    where
      bytes : AreBytes key
      bytes k = small (get_or key k 0) (fits k)
