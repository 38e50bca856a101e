-- Sealed master keys, taken apart.
use Rattle.std.proofs.Common.{◌≡◌, ◌≢◌, Result, Ok, Err, OnErr, ℕ, List, ◌++◌, length, take, drop, replicate, refl, sym, ap, ap₂, ◌∙◌, arith, append_assoc, length-append}
use Rattle.std.proofs.lemmas.List.{take_at, drop_at, length-take-le, length-drop, take-append-drop}
use Rattle.aes_lanes.specs.Cipher.{aes256}
use Rattle.gcm_mode.specs.Gcm.{Sealed, sealed, Opens, OpensToNothing, OpensToOneText}
use Rattle.gocrypt_conf.specs.MasterKey.{sealed_key}

-- the associated data
abbrev pub zeros : List ℕ
zeros = replicate 8 0

-- tags are of sixteen bytes
abbrev pub HasTags : Type 0
HasTags = (key iv ad plain : List ℕ) → length (sealed (aes256 key) iv ad plain).tag ≡ 16

-- the two parts of what is as long as the same parts
pub parts-equal : (a b c d : List ℕ) → length a ≡ length c → a ++ b ≡ c ++ d → (a ≡ c) × (b ≡ d)
parts-equal a b c d long same = (
  sym (take_at a b (length c) long) ∙ ap (take (length c)) same ∙ take_at c d (length c) refl,
  sym (drop_at a b (length c) long) ∙ ap (drop (length c)) same ∙ drop_at c d (length c) refl,
)

-- a text that opens to the master key makes the sealed bytes
pub sealed_from_open : (key nonce text tag master bytes : List ℕ) → bytes ≡ nonce ++ text ++ tag
    → Opens (aes256 key) nonce zeros (record { text = text; tag = tag }) master → sealed_key key nonce master ≡ bytes
unfolding sealed_key
sealed_from_open key nonce text tag master bytes is opens =
    ap (λ (s : Sealed). nonce ++ s.text ++ s.tag) opens ∙ sym is

-- two texts with tags behind a nonce
pub same-sealed : (nonce : List ℕ) (s t : Sealed) → length s.tag ≡ 16 → length t.tag ≡ 16 → nonce ++ s.text ++ s.tag ≡ nonce ++ t.text ++ t.tag → s ≡ t
same-sealed nonce s t sixteen as_long same =
    let behind : nonce ++ (s.text ++ s.tag) ≡ nonce ++ (t.text ++ t.tag) =
    sym (append_assoc nonce s.text s.tag) ∙ same ∙ append_assoc nonce t.text t.tag in
    let rest : s.text ++ s.tag ≡ t.text ++ t.tag = (parts-equal nonce (s.text ++ s.tag) nonce (t.text ++ t.tag) refl behind).1 in
    let long : length s.text ≡ length t.text =
    omega (arith, length-append s.text s.tag, length-append t.text t.tag, ap length rest, sixteen, as_long) in
    let both = parts-equal s.text s.tag t.text t.tag long rest in
    let make : List ℕ → List ℕ → Sealed = λ a b. record { text = a; tag = b } in
    ap₂ make both.0 both.1

-- bytes that a master key seals to open to it
pub open_from_sealed : HasTags → (key nonce text tag master bytes : List ℕ) → bytes ≡ nonce ++ text ++ tag → length tag ≡ 16
    → sealed_key key nonce master ≡ bytes → Opens (aes256 key) nonce zeros (record { text = text; tag = tag }) master
unfolding sealed_key
open_from_sealed tags key nonce text tag master bytes is sixteen seals =
    same-sealed nonce (sealed (aes256 key) nonce zeros master) (record { text = text; tag = tag }) (tags key nonce zeros master) sixteen (seals ∙ is)

-- the parts of sealed bytes
pub record IsParted (bytes nonce text tag : List ℕ) : Type 0 where
  pub joined : bytes ≡ nonce ++ text ++ tag
  pub first : take 16 bytes ≡ nonce
  pub sixteen : length tag ≡ 16

pub parted : (bytes front nonce text tag : List ℕ) → length bytes ≡ 64 → front ≡ take 48 bytes → tag ≡ drop 48 bytes → nonce ≡ take 16 front → text ≡ drop 16 front
    → IsParted bytes nonce text tag
parted bytes front nonce text tag long is_front is_tag is_nonce is_text =
    let joined : bytes ≡ nonce ++ text ++ tag =
    sym (rw (is_nonce, is_text, take-append-drop 16 front, is_front, is_tag) (take-append-drop 48 bytes)) in
    let most : length front ≡ 48 = ap length is_front ∙ length-take-le 48 bytes (omega arith) in
    let short : length nonce ≡ 16 = ap length is_nonce ∙ length-take-le 16 front (omega arith) in
    record {
      joined = joined;
      first = ap (take 16) (joined ∙ append_assoc nonce text tag) ∙ take_at nonce (text ++ tag) 16 short;
      sixteen = ap length is_tag ∙ length-drop 48 bytes ∙ omega arith;
    }

-- the master key that sealed bytes open to
pub opens_to : (key bytes nonce text tag master : List ℕ) → IsParted bytes nonce text tag
    → Opens (aes256 key) nonce zeros (record { text = text; tag = tag }) master → sealed_key key (take 16 bytes) master ≡ bytes
opens_to key bytes nonce text tag master parts opens = rw parts.first (sealed_from_open key nonce text tag master bytes parts.joined opens)

-- sealed bytes that open to nothing
pub opens_to_nothing : HasTags → (key bytes nonce text tag : List ℕ) → IsParted bytes nonce text tag
    → OpensToNothing (aes256 key) nonce zeros (record { text = text; tag = tag }) → (master : List ℕ) → sealed_key key (take 16 bytes) master ≢ bytes
opens_to_nothing tags key bytes nonce text tag parts nothing master seals =
    nothing master (open_from_sealed tags key nonce text tag master bytes parts.joined parts.sixteen (rw parts.first at seals))

pub on_err : {T E : Type 0} (r : Result T E) (P : Type 0) → P → OnErr r P
on_err (Ok value) P holds = tt
on_err (Err fault) P holds = holds

-- sealed bytes hold one master key
pub holds_once : HasTags → OpensToOneText → (key nonce bytes master other : List ℕ) → sealed_key key nonce master ≡ bytes → sealed_key key nonce other ≡ bytes → master ≡ other
unfolding sealed_key
holds_once tags once key nonce bytes master other one two =
    let s : Sealed = sealed (aes256 key) nonce zeros other in
    let opens : Opens (aes256 key) nonce zeros s master =
    same-sealed nonce (sealed (aes256 key) nonce zeros master) s (tags key nonce zeros master) (tags key nonce zeros other) (one ∙ sym two) in
    once key nonce zeros master other s opens refl

-- the nonce stands first
pub nonce_first : (key nonce master : List ℕ) → length nonce ≡ 16 → take 16 (sealed_key key nonce master) ≡ nonce
unfolding sealed_key
nonce_first key nonce master sixteen = ap (take 16) (append_assoc nonce _ _) ∙ take_at nonce _ 16 sixteen
