-- Files that were begun, and chunks that go on.
use Rattle.std.proofs.Common.{◌≡◌, ℕ, ◌≤◌, ◌+◌, ◌&&◌, Bool, true, false, List, [], ◌++◌, length, take, drop, Option, refl, sym, ap, ap₂, ◌∙◌, subst, arith, length-append}
use Rattle.std.proofs.lemmas.List.{drop_at, length-take, take-append-le, take-append-drop, take_at}
use Rattle.port_model.specs.Draws.{ByteStream, Draws}
use Rattle.chunk_files.specs.declared.keys.Layout.{Layout}
use Rattle.chunk_files.specs.declared.keys.Layout.TheVariants.{Go, CmGcm, CmCtr}
use Rattle.chunk_files.specs.Zeros.{is_all_zero}
use Rattle.chunk_files.specs.Format.{Header}
use Rattle.chunk_files.specs.Sealed.{sealed_text}
use Rattle.chunk_files.specs.Gocryptfs.{go_header, go_header_of}
use Rattle.chunk_files.specs.CryptomatorGcm.{cm_header, new_plain}
use Rattle.chunk_files.specs.Tagged.{tagged_text}
use Rattle.chunk_files.specs.Keys.{Keys, format_by, format_of, IsHeaderOf}
use Rattle.chunk_files.specs.Contents.{is_refused}
use Rattle.chunk_files.specs.Encoding.{HasBegun, begun}
use Rattle.chunk_files.proofs.Encrypting.{IsNext, header-encrypted, header-made}
use Rattle.chunk_files.proofs.Lawful.{IsLaidOut, laid_out}

module _ (keys : Keys) (header : Header) (number : ℕ) (nonce chunk : List ℕ) (size : length nonce ≡ (format_of keys).nonce_size) where
  law : IsLaidOut (format_of keys) (IsHeaderOf keys)
  law = laid_out keys

  pub stored-nonce : (stored : List ℕ) → stored ≡ (format_of keys).sealed_chunk header number nonce chunk → take (format_of keys).nonce_size stored ≡ nonce
  stored-nonce stored is = ap (take (format_of keys).nonce_size) is ∙ law.seal_nonce header number nonce chunk size

  -- the nonce at the front of a buffer
  pub buffer-nonce : (out : List ℕ) (count : ℕ) → take count out ≡ (format_of keys).sealed_chunk header number nonce chunk → take (format_of keys).nonce_size out ≡ nonce
  buffer-nonce out count is =
      let n : ℕ = (format_of keys).nonce_size in
      let long : n ≤ length (take count out) = omega (arith, ap length is, ap length (law.seal_nonce header number nonce chunk size), length-take n ((format_of keys).sealed_chunk header number nonce chunk)) in
      ap (take n) (sym (take-append-drop count out)) ∙ take-append-le n (take count out) (drop count out) long ∙ stored-nonce (take count out) is

  pub next-stored : (stored : List ℕ) → is_refused (format_of keys) nonce ≡ false → stored ≡ (format_of keys).sealed_chunk header number nonce chunk
      → IsNext (format_of keys) header number chunk stored
  next-stored stored accepted is =
      let front = stored-nonce stored is in
      record {
        size = ap length front ∙ size;
        accepted = ap (is_refused (format_of keys)) front ∙ accepted;
        is = is ∙ ap (λ (n : List ℕ). (format_of keys).sealed_chunk header number n chunk) (sym front);
      }

-- a gocryptfs file
go-begun : (key mac : List ℕ) (empty : Bool) (left left' : Option ByteStream) (id file : List ℕ) → Draws left left' id → length id ≡ 16 → is_all_zero id ≡ false
    → file ≡ go_header_of id → HasBegun (record { layout = Go; key = key; mac = mac }) left left' (begun (record { layout = Go; key = key; mac = mac }) empty (go_header key id)) file
unfolding is_refused
go-begun key mac empty left left' id file drawn size some file_is = record {
  drawn = id;
  were_drawn = drawn;
  made = header-made (record { layout = Go; key = key; mac = mac }) empty id file size some file_is;
  whole = λ none. cc;
}

pub started-go : (keys : Keys) (empty : Bool) (left left' : Option ByteStream) (id file : List ℕ) → keys.layout ≡ Go → Draws left left' id → length id ≡ 16 → is_all_zero id ≡ false
    → file ≡ go_header_of id → HasBegun keys left left' (begun keys empty (go_header keys.key id)) file
started-go keys empty left left' id file go drawn size some file_is =
    subst (λ (l : Layout). HasBegun (record keys { layout = l }) left left' (begun (record keys { layout = l }) empty (go_header keys.key id)) file) (sym go)
    (go-begun keys.key keys.mac empty left left' id file drawn size some file_is)

-- the header of a Cryptomator file seals a content key under a nonce of n bytes, which are drawn one after the other
pub record SealsKey (keys : Keys) (n : ℕ) (header_of : List ℕ → List ℕ → List ℕ) : Type 0 where
  pub draw : (format_of keys).header_draw ≡ n + 32
  pub new : (drawn : List ℕ) → (format_of keys).new_header drawn ≡ header_of (take n drawn) (new_plain (drop n drawn))
  pub tells : (drawn : List ℕ) → (format_of keys).new_told drawn ≡ cm_header (take n drawn) (new_plain (drop n drawn))
  pub accepts : (format_of keys).refuses_zeros ≡ false

pub gcm-seals : (keys : Keys) → keys.layout ≡ CmGcm → SealsKey keys 12 (sealed_text keys.key [])
gcm-seals keys gcm =
    subst (λ (l : Layout). SealsKey (record keys { layout = l }) 12 (sealed_text keys.key [])) (sym gcm)
    (record { draw = refl; new = λ drawn. refl; tells = λ drawn. refl; accepts = refl })

pub ctr-seals : (keys : Keys) → keys.layout ≡ CmCtr → SealsKey keys 16 (tagged_text keys.key keys.mac [])
ctr-seals keys ctr =
    subst (λ (l : Layout). SealsKey (record keys { layout = l }) 16 (tagged_text keys.key keys.mac [])) (sym ctr)
    (record { draw = refl; new = λ drawn. refl; tells = λ drawn. refl; accepts = refl })

pub started-cm : (keys : Keys) (n : ℕ) (header_of : List ℕ → List ℕ → List ℕ) (law : SealsKey keys n header_of) (empty : Bool) (left left' : Option ByteStream) (nonce key plain file : List ℕ)
    → Draws left left' (nonce ++ key) → length nonce ≡ n → length key ≡ 32 → plain ≡ new_plain key → file ≡ header_of nonce plain
    → HasBegun keys left left' (begun keys empty (record { key = key; file = nonce })) file
unfolding is_refused
started-cm keys n header_of law empty left left' nonce key plain file were_drawn few long plain_is is =
    let drawn : List ℕ = nonce ++ key in
    let size : length drawn ≡ (format_of keys).header_draw = omega (arith, length-append nonce key, few, long, law.draw) in
    let front : take n drawn ≡ nonce = take_at nonce key n few in
    let behind : drop n drawn ≡ key = drop_at nonce key n few in
    let told : (format_of keys).new_told drawn ≡ record { key = key; file = nonce } =
    law.tells drawn ∙ ap₂ (λ (a b : List ℕ). cm_header a (new_plain b)) front behind in
    let file_new : file ≡ (format_of keys).new_header drawn =
    is ∙ ap (header_of nonce) plain_is ∙ sym (law.new drawn ∙ ap₂ (λ (a b : List ℕ). header_of a (new_plain b)) front behind) in
    let accepted : is_refused (format_of keys) drawn ≡ false = ap (λ (b : Bool). b && is_all_zero drawn) law.accepts in
    let made = header-made keys empty drawn file size accepted file_new in
    subst (λ (h : Header). HasBegun keys left left' (begun keys empty h) file) told
    (record {
      drawn = drawn;
      were_drawn = were_drawn;
      made = made;
      whole = λ some. header-encrypted keys empty drawn file some made;
    })

-- only in gocryptfs's layout has a file of no content no header
pub bare-is-go : (layout : Layout) (key mac : List ℕ) → (format_by layout key mac).empty_has_no_header ≡ true → layout ≡ Go
bare-is-go Go key mac bare = refl
bare-is-go CmGcm key mac bare = cc
bare-is-go CmCtr key mac bare = cc
