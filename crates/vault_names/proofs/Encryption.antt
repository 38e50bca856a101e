-- Names encrypt to texts, and texts decrypt to names.
use Rattle.std.proofs.Common.{◌≡◌, ◌+◌, ℕ, zero, suc, ◌/◌, ◌%◌, ◌<◌, ◌≤◌, List, [], ◌∷◌, length, Ok, IsTrue, sym, ap, subst, ◌∙◌, arith, lit<}
use Rattle.std.specs.List.{All, list_all}
use Rattle.std.proofs.lemmas.Bool.{and_parts, leb-true}
use Rattle.std.proofs.lemmas.Bool.Decides.{nat_tests}
use Rattle.base64.specs.GeneralPurpose.{IsBytes}
use Rattle.aes_lanes.specs.Bytes.{IsBlock}
use Rattle.eme_mode.specs.Eme.{eme256, inverse_eme256}
use Rattle.plain_tree.specs.Names.{is_name_byte, is_name}
use Rattle.vault_names.specs.Blocks.{AreBlocksOf, IsPaddedName}
use Rattle.vault_names.specs.Gocryptfs.{padded_bytes, blocks_of, bytes_of, base64url, go_text, IsTextOf}
use Rattle.vault_names.proofs.Blocks.{length-first_chunks, bytes_of-blocks_of, IsBlock-blocks_of, blocks_of-bytes_of}
use Rattle.vault_names.proofs.Padded.{length-padded, IsBytes-padded, padded-once}
use Rattle.vault_names.proofs.Texts.{decoded_blocks}

-- what a name is
length-name : (name : List ℕ) → IsTrue (is_name name) → length name ≤ 255
unfolding is_name
length-name name named =
    let sized = (and_parts _ _ (and_parts _ _ named).0).0 in
    leb-true _ _ (and_parts _ _ sized).1

IsBytes-name_bytes : (bytes : List ℕ) → IsTrue (list_all is_name_byte bytes) → IsBytes bytes
IsBytes-name_bytes [] named k = lit< tt
IsBytes-name_bytes (byte ∷ bytes) named zero =
    let here = (and_parts (is_name_byte byte) (list_all is_name_byte bytes) named).0 in
    grind (arith, nat_tests)
IsBytes-name_bytes (byte ∷ bytes) named (suc k) =
    IsBytes-name_bytes bytes (and_parts (is_name_byte byte) (list_all is_name_byte bytes) named).1 k

pub IsBytes-name : (name : List ℕ) → IsTrue (is_name name) → IsBytes name
unfolding is_name
IsBytes-name name named = IsBytes-name_bytes name (and_parts _ _ (and_parts _ _ named).0).1

-- a name padded is 1 to 16 blocks
whole-padded : (name : List ℕ) → length (padded_bytes name) % 16 ≡ 0
whole-padded name = omega (arith, length-padded name)

IsBlock-padded : (name : List ℕ) → IsTrue (is_name name) → All IsBlock (blocks_of (padded_bytes name))
IsBlock-padded name named = IsBlock-blocks_of (padded_bytes name) (whole-padded name) (IsBytes-padded name (IsBytes-name name named))

pub some_blocks : (name whole : List ℕ) → whole ≡ padded_bytes name → 0 < length whole / 16
some_blocks name whole same = rw same (omega (arith, length-padded name))

pub few_blocks : (name whole : List ℕ) → IsTrue (is_name name) → whole ≡ padded_bytes name → length whole / 16 ≤ 128
few_blocks name whole named same = rw same (omega (arith, length-padded name, length-name name named))

-- two directions on lists of blocks that undo each other, where blocks come out, as many as go in
pub record AreDirections (there back : List (List ℕ) → List (List ℕ)) : Type 0 where
  pub undone : (blocks : List (List ℕ)) → All IsBlock blocks → back (there blocks) ≡ blocks
  pub redone : (blocks : List (List ℕ)) → All IsBlock blocks → there (back blocks) ≡ blocks
  pub blocks_there : (blocks : List (List ℕ)) → All IsBlock blocks → All IsBlock (there blocks)
  pub blocks_back : (blocks : List (List ℕ)) → All IsBlock blocks → All IsBlock (back blocks)
  pub as_many : (blocks : List (List ℕ)) → length (there blocks) ≡ length blocks

abbrev pub AreEme : List ℕ → List ℕ → Type 0
AreEme key iv = AreDirections (eme256 key iv) (inverse_eme256 key iv)

pub length-encrypted : (key iv name : List ℕ) → AreEme key iv → length (eme256 key iv (blocks_of (padded_bytes name))) ≡ length name / 16 + 1
length-encrypted key iv name eme =
    let count : length (padded_bytes name) / 16 ≡ length name / 16 + 1 = omega (arith, length-padded name) in
    eme.as_many (blocks_of (padded_bytes name))
    ∙ length-first_chunks 16 (length (padded_bytes name) / 16) (padded_bytes name) ∙ count

-- the blocks behind a name's text
pub AreBlocksOf-text : (key iv name text : List ℕ) → AreEme key iv → IsTextOf key iv name text → AreBlocksOf text (eme256 key iv (blocks_of (padded_bytes name)))
unfolding go_text
AreBlocksOf-text key iv name text eme is =
    let count = length-encrypted key iv name eme in
    let size = length-name name is.named in
    record {
      some = omega arith;
      most = omega arith;
      each = eme.blocks_there (blocks_of (padded_bytes name)) (IsBlock-padded name is.named);
      encoded = sym is.encrypts;
    }

-- a text has one list of blocks
blocks-once : (text : List ℕ) (blocks other : List (List ℕ)) → AreBlocksOf text blocks → AreBlocksOf text other → blocks ≡ other
blocks-once text blocks other are are_other =
    let decoded : Ok (bytes_of blocks) ≡ Ok (bytes_of other) = sym (decoded_blocks text blocks are) ∙ decoded_blocks text other are_other in
    let same : bytes_of blocks ≡ bytes_of other = cc in
    sym (blocks_of-bytes_of blocks are.each) ∙ ap blocks_of same ∙ blocks_of-bytes_of other are_other.each

-- a name of a text is padded to what the text's blocks decrypt to
pub IsPaddedName-text : (key iv name text : List ℕ) (blocks : List (List ℕ)) → AreEme key iv → AreBlocksOf text blocks → IsTextOf key iv name text
    → IsPaddedName name (bytes_of (inverse_eme256 key iv blocks))
IsPaddedName-text key iv name text blocks eme are is =
    let plain : List (List ℕ) = blocks_of (padded_bytes name) in
    let same : eme256 key iv plain ≡ blocks = blocks-once text _ blocks (AreBlocksOf-text key iv name text eme is) are in
    record {
      named = is.named;
      padded = sym (bytes_of-blocks_of (padded_bytes name) (whole-padded name))
          ∙ ap bytes_of (sym (eme.undone plain (IsBlock-padded name is.named)))
          ∙ ap (λ bs. bytes_of (inverse_eme256 key iv bs)) same;
    }

-- and a name that is padded to that is one of the text
pub IsTextOf-padded : (key iv name text : List ℕ) (blocks : List (List ℕ)) → AreEme key iv → AreBlocksOf text blocks
    → IsPaddedName name (bytes_of (inverse_eme256 key iv blocks)) → IsTextOf key iv name text
unfolding go_text
IsTextOf-padded key iv name text blocks eme are is =
    let plain : blocks_of (padded_bytes name) ≡ inverse_eme256 key iv blocks =
    ap blocks_of is.padded ∙ blocks_of-bytes_of (inverse_eme256 key iv blocks) (eme.blocks_back blocks are.each) in
    record {
      named = is.named;
      encrypts = ap (λ bs. base64url (bytes_of (eme256 key iv bs))) plain
          ∙ ap (λ bs. base64url (bytes_of bs)) (eme.redone blocks are.each)
          ∙ sym are.encoded;
    }

-- a text has one name at most
pub text-once : (key iv text name other : List ℕ) → AreEme key iv → IsTextOf key iv name text → IsTextOf key iv other text → name ≡ other
text-once key iv text name other eme is is_other =
    let are = AreBlocksOf-text key iv name text eme is in
    padded-once name other
    ((IsPaddedName-text key iv name text _ eme are is).padded ∙ sym (IsPaddedName-text key iv other text _ eme are is_other).padded)

-- two names with the same padding
pub padded_names-once : (name other bytes : List ℕ) → IsPaddedName name bytes → padded_bytes other ≡ bytes → IsTrue (is_name other)
padded_names-once name other bytes is same = subst (λ n. IsTrue (is_name n)) (padded-once name other (is.padded ∙ sym same)) is.named
