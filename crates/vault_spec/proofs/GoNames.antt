-- What a gocryptfs vault's format needs of stored names, from the laws of texts.
use Rattle.std.proofs.Common.{◌≡◌, ◌≢◌, ℕ, ◌+◌, ◌-◌, ◌⊎◌, Bool, true, false, List, ◌++◌, refl, sym, ap, ◌∙◌, inl, inr, IsTrue, length, take, codes, arith, length-append, drop, ◌&&◌, ◌||◌, [], ◌∷◌, bytes_eq, nat_eq}
use Rattle.std.specs.List.{list_all, starts_with}
use Rattle.std.proofs.lemmas.Bool.{false_from_ne_true}
use Rattle.std.proofs.lemmas.List.{take-append-drop, take-append-le}
use Rattle.std.proofs.Math.Seq.{drop-append_seam, drop-append-add}
use Rattle.std.proofs.lemmas.Slice.Eq.{bytes_eq-Decides}
use Rattle.json_fields.specs.Base64.{is_base64url}
use Rattle.vault_names.specs.Gocryptfs.{long_name, entry_of}
use Rattle.vault_names.specs.declared.entry.Stored.{Stored}
use Rattle.folder_spec.specs.Path.{Path}
use Rattle.vault_spec.specs.StoredNames.{GoTexts}
use Rattle.vault_spec.specs.RootFiles.{has_ending, is_root_file}
use Rattle.vault_spec.proofs.ByteKeys.{front_plain, right_plain}
use Rattle.vault_spec.proofs.Entries.{differ, IsShortOrLong, entry_is}
use Rattle.vault_spec.specs.Gocryptfs.{key_file, full_name, is_full_name, is_fixed_name}

abbrev begins_long : List ℕ → Bool
begins_long name = starts_with nat_eq name (codes "gocryptfs.longname.")

-- a text isn't a long entry's name, nor does it begin with one
pub not_long : (text other rest : List ℕ) → GoTexts → IsTrue (list_all is_base64url text) → text ≢ long_name other ++ rest
not_long text other rest texts plain e =
    let long : IsTrue (list_all is_base64url (long_name other)) = front_plain is_base64url (long_name other) rest (ap (list_all is_base64url) (sym e) ∙ plain) in
    let front : IsTrue (list_all is_base64url (take 19 (long_name other)))
    = front_plain is_base64url (take 19 (long_name other)) (drop 19 (long_name other)) (ap (list_all is_base64url) (take-append-drop 19 (long_name other)) ∙ long) in
    let dotted : IsTrue (list_all is_base64url (codes "gocryptfs.longname.")) = ap (list_all is_base64url) (sym (texts.long_prefix other)) ∙ front in
    cc

-- no entry of a name is a file whose name has a dot, and not as many characters as a long one
pub entry_not : (x : List ℕ) → list_all is_base64url x ≡ false → length x ≢ 62 → (text : List ℕ) → GoTexts → IsTrue (list_all is_base64url text) → (entry_of text).name ≢ x
entry_not x dotted short text texts plain e = by_form (entry_is long_name 255 text)
  where
    by_form : IsShortOrLong long_name 255 text → ⊥
    by_form (inl is_short) =
        let same : text ≡ x = ap (λ (s : Stored). s.name) (sym is_short) ∙ e in
        let clash : true ≡ false = sym plain ∙ ap (list_all is_base64url) same ∙ dotted in
        cc
    by_form (inr long) = short (ap length (sym e ∙ ap (λ (s : Stored). s.name) long) ∙ texts.long_size text)

-- so none is a directory's key file
pub entry_not_key : (text : List ℕ) → GoTexts → IsTrue (list_all is_base64url text) → (entry_of text).name ≢ key_file
entry_not_key = entry_not key_file refl (λ size. not_sizes size)
  where
    not_sizes : length key_file ≡ 62 → ⊥
    not_sizes size = let is : length key_file ≡ 15 = refl in omega (arith, size, is)

-- no entry of a name is the long-name file of a long one
pub entry_not_full : (text other : List ℕ) → GoTexts → IsTrue (list_all is_base64url text) → (entry_of text).name ≢ full_name (long_name other)
entry_not_full text other texts plain e = by_form (entry_is long_name 255 text)
  where
    by_form : IsShortOrLong long_name 255 text → ⊥
    by_form (inl short) = not_long text other (codes ".name") texts plain (ap (λ (s : Stored). s.name) (sym short) ∙ e)
    by_form (inr long) =
        let same : long_name text ≡ full_name (long_name other) = ap (λ (s : Stored). s.name) (sym long) ∙ e in
        let sizes : 62 ≡ length (long_name other) + 5 = sym (texts.long_size text) ∙ ap length same ∙ length-append (long_name other) (codes ".name") in
        let long_size : length (long_name other) ≡ 62 = texts.long_size other in
        omega (arith, sizes, long_size)

-- nor is that a directory's key file
pub full_not_key : (text : List ℕ) → GoTexts → full_name (long_name text) ≢ key_file
full_not_key text texts e =
    let sizes : length (long_name text) + 5 ≡ length key_file = sym (length-append (long_name text) (codes ".name")) ∙ ap length e in
    let long_size : length (long_name text) ≡ 62 = texts.long_size text in
    let key_size : length key_file ≡ 15 = refl in
    omega (arith, sizes, long_size, key_size)

-- the long-name file of a long entry has the name of one
pub full_is_full : (text : List ℕ) → GoTexts → is_full_name (full_name (long_name text)) ≡ true
full_is_full text texts = ap (λ b. b && has_ending (codes ".name") (full_name (long_name text))) long ∙ ending
  where
    size : length (long_name text) ≡ 62
    size = texts.long_size text

    front : take 19 (full_name (long_name text)) ≡ codes "gocryptfs.longname."
    front = take-append-le 19 (long_name text) (codes ".name") (omega (arith, size)) ∙ texts.long_prefix text

    long : begins_long (full_name (long_name text)) ≡ true
    long = (bytes_eq-Decides (codes "gocryptfs.longname.") (take 19 (full_name (long_name text)))).1 (sym front)

    whole : length (full_name (long_name text)) - 5 ≡ length (long_name text)
    whole = let sizes : length (full_name (long_name text)) ≡ length (long_name text) + 5 = length-append (long_name text) (codes ".name") in omega (arith, sizes)

    ending : has_ending (codes ".name") (full_name (long_name text)) ≡ true
    ending = (bytes_eq-Decides (codes ".name") (drop (length (full_name (long_name text)) - 5) (full_name (long_name text)))).1
        (sym (ap (λ n. drop n (full_name (long_name text))) whole ∙ drop-append_seam (long_name text) (codes ".name")))

-- what has only such characters has no other ending
ends_plain : (text ending : List ℕ) → IsTrue (list_all is_base64url text) → list_all is_base64url ending ≡ false → has_ending ending text ≡ false
ends_plain text ending plain dotted = false_from_ne_true (has_ending ending text) (λ is.
    let same : ending ≡ drop (length text - length ending) text = (bytes_eq-Decides ending (drop (length text - length ending) text)).0 is in
    let rest : IsTrue (list_all is_base64url (drop (length text - length ending) text))
    = right_plain is_base64url (take (length text - length ending) text) (drop (length text - length ending) text) (ap (list_all is_base64url) (take-append-drop (length text - length ending) text) ∙ plain) in
    let clash : true ≡ false = sym rest ∙ ap (list_all is_base64url) (sym same) ∙ dotted in cc)

-- nor has a long entry's name, behind its first 19 characters
long_ends_plain : (text : List ℕ) → GoTexts → (ending : List ℕ) (before : ℕ) → length ending + before ≡ 43 → list_all is_base64url ending ≡ false → has_ending ending (long_name text) ≡ false
long_ends_plain text texts ending before sizes dotted = false_from_ne_true (has_ending ending (long_name text)) (λ is.
    let same : ending ≡ drop (length (long_name text) - length ending) (long_name text)
    = (bytes_eq-Decides ending (drop (length (long_name text) - length ending) (long_name text))).0 is in
    let plain : IsTrue (list_all is_base64url (drop before (drop 19 (long_name text))))
    = right_plain is_base64url (take before (drop 19 (long_name text))) (drop before (drop 19 (long_name text)))
    (ap (list_all is_base64url) (take-append-drop before (drop 19 (long_name text))) ∙ texts.long_rest text) in
    let clash : true ≡ false = sym plain ∙ ap (list_all is_base64url) (sym (same ∙ behind)) ∙ dotted in cc)
  where
    behind : drop (length (long_name text) - length ending) (long_name text) ≡ drop before (drop 19 (long_name text))
    behind =
        let size : length (long_name text) ≡ 62 = texts.long_size text in
        let front : length (take 19 (long_name text)) ≡ 19 = ap length (texts.long_prefix text) in
        let place : length (long_name text) - length ending ≡ length (take 19 (long_name text)) + before = omega (arith, size, front, sizes) in
        ap (λ n. drop n (long_name text)) place ∙ ap (drop (length (take 19 (long_name text)) + before)) (sym (take-append-drop 19 (long_name text)))
        ∙ drop-append-add (take 19 (long_name text)) (drop 19 (long_name text)) before

-- no entry of a name has the name of a long-name file
pub name_is_not_full : (text : List ℕ) → GoTexts → IsTrue (list_all is_base64url text) → is_full_name (entry_of text).name ≡ false
name_is_not_full text texts plain = by_form (entry_is long_name 255 text)
  where
    both : (a b : Bool) → (a ≡ false) ⊎ (b ≡ false) → (a && b) ≡ false
    both true b (inl is) = cc
    both true b (inr is) = is
    both false b is = refl

    no_form : begins_long text ≡ true → ⊥
    no_form is =
        let same : codes "gocryptfs.longname." ≡ take 19 text = (bytes_eq-Decides (codes "gocryptfs.longname.") (take 19 text)).0 is in
        let front : IsTrue (list_all is_base64url (take 19 text))
        = front_plain is_base64url (take 19 text) (drop 19 text) (ap (list_all is_base64url) (take-append-drop 19 text) ∙ plain) in
        let dotted : IsTrue (list_all is_base64url (codes "gocryptfs.longname.")) = ap (list_all is_base64url) same ∙ front in
        cc

    no_ending : has_ending (codes ".name") (long_name text) ≡ true → ⊥
    no_ending is =
        let none : has_ending (codes ".name") (long_name text) ≡ false = long_ends_plain text texts (codes ".name") 38 refl refl in
        let clash : true ≡ false = sym is ∙ none in cc

    by_form : IsShortOrLong long_name 255 text → is_full_name (entry_of text).name ≡ false
    by_form (inl short) = ap (λ (s : Stored). is_full_name s.name) short ∙ both (begins_long text) (has_ending (codes ".name") text) (inl (false_from_ne_true (begins_long text) no_form))
    by_form (inr long) = ap (λ (s : Stored). is_full_name s.name) long
        ∙ both (begins_long (long_name text)) (has_ending (codes ".name") (long_name text)) (inr (false_from_ne_true (has_ending (codes ".name") (long_name text)) no_ending))

-- no entry of a name has the ending of a file of the vault
entry_ends : (text : List ℕ) → GoTexts → IsTrue (list_all is_base64url text) → (ending : List ℕ) (before : ℕ) → length ending + before ≡ 43 → list_all is_base64url ending ≡ false
    → has_ending ending (entry_of text).name ≡ false
entry_ends text texts plain ending before sizes dotted = by_form (entry_is long_name 255 text)
  where
    by_form : IsShortOrLong long_name 255 text → has_ending ending (entry_of text).name ≡ false
    by_form (inl short) = ap (λ (s : Stored). has_ending ending s.name) short ∙ ends_plain text ending plain dotted
    by_form (inr long) = ap (λ (s : Stored). has_ending ending s.name) long ∙ long_ends_plain text texts ending before sizes dotted

neither : (a b : Bool) → a ≡ false → b ≡ false → (a || b) ≡ false
neither a b one two = ap (λ x. x || b) one ∙ two

not_fixed_by : (folder : Path) (name : List ℕ) → name ≢ key_file → name ≢ codes "gocryptfs.conf" → name ≢ codes "gocryptfs.conf.bak" → has_ending (codes ".rtf") name ≡ false → has_ending (codes ".bkup") name ≡ false
    → is_fixed_name folder name ≡ false
not_fixed_by [] name key conf copy readme backup =
    neither (bytes_eq name key_file || bytes_eq name (codes "gocryptfs.conf")) (is_root_file name)
    (neither (bytes_eq name key_file) (bytes_eq name (codes "gocryptfs.conf")) (differ name key_file key) (differ name (codes "gocryptfs.conf") conf))
    (neither (bytes_eq name (codes "gocryptfs.conf.bak") || has_ending (codes ".rtf") name) (has_ending (codes ".bkup") name)
    (neither (bytes_eq name (codes "gocryptfs.conf.bak")) (has_ending (codes ".rtf") name) (differ name (codes "gocryptfs.conf.bak") copy) readme) backup)
not_fixed_by (a ∷ folder) name key conf copy readme backup = differ name key_file key

-- so it is no file of the vault
pub entry_not_fixed : (folder : Path) (text : List ℕ) → GoTexts → IsTrue (list_all is_base64url text) → is_fixed_name folder (entry_of text).name ≡ false
entry_not_fixed folder text texts plain =
    not_fixed_by folder (entry_of text).name (entry_not_key text texts plain) (entry_not (codes "gocryptfs.conf") refl (λ size. cc) text texts plain)
    (entry_not (codes "gocryptfs.conf.bak") refl (λ size. cc) text texts plain) (entry_ends text texts plain (codes ".rtf") 39 refl refl) (entry_ends text texts plain (codes ".bkup") 38 refl refl)
