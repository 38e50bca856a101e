-- How many bytes a content's file draws, and that what was made so far is a front part of it.
use Rattle.std.proofs.Common.{◌≡◌, ℕ, zero, suc, ◌+◌, ◌*◌, ◌<◌, ◌≤◌, Bool, true, false, List, [], ◌∷◌, ◌++◌, length, take, drop, refl, sym, ap, ◌∙◌, subst, inl, inr, append_assoc, length-append, length-drop, arith}
use Rattle.std.proofs.lemmas.List.{append-nil}
use Rattle.std.proofs.lemmas.Bool.Decides.{eqb_tells}
use Rattle.std.proofs.Math.Nat.{mul-le-mul_left}
use Rattle.chunk_files.specs.Encoding.{Encoding, HasMade, IsFrontOf, GoesOn, MadeIsAFront, one_chunk_later}
use Rattle.chunk_files.specs.Encrypt.{IsEncrypted, draws, encrypt, has_no_bytes}
use Rattle.chunk_files.specs.Format.{Format}
use Rattle.chunk_files.specs.Keys.{Keys, format_of, full_size}
use Rattle.chunk_files.specs.Pieces.{first_pieces, pieces}
use Rattle.chunk_files.proofs.LayoutSizes.{sizes_fit}
use Rattle.content_writing.specs.Streaming.{IsMadeFor, IsNextChunk, GoesOnWith, WereAccepted}

-- ---- formats

-- a header draws some bytes
pub some_header : (keys : Keys) → 0 < (format_of keys).header_draw
some_header keys = (sizes_fit keys).some_drawn

pub some_full : (keys : Keys) → 0 < (format_of keys).full_size
some_full keys = (sizes_fit keys).some_full

pub full_is : (keys : Keys) → full_size keys.layout ≡ (format_of keys).full_size
full_is keys = sym (sizes_fit keys).full

pub few_full : (keys : Keys) → (format_of keys).full_size ≤ 32768
few_full keys = (sizes_fit keys).few_full

-- a sealed chunk begins with its nonce
pub nonce_sealed : (keys : Keys) → (format_of keys).nonce_size ≤ (format_of keys).seal_size
nonce_sealed keys = (sizes_fit keys).nonce_within

-- where zeros are refused, sixteen bytes are drawn for a nonce, and for a header
pub sixteen_drawn : (keys : Keys) → (format_of keys).refuses_zeros ≡ true → ((format_of keys).nonce_size ≡ 16) × ((format_of keys).header_draw ≡ 16)
sixteen_drawn keys refuses = ((sizes_fit keys).nonces_of_sixteen refuses, (sizes_fit keys).header_of_sixteen refuses)

pub zeros_drawn : (keys : Keys) → (format_of keys).refuses_zeros ≡ true → (16 ≤ (format_of keys).nonce_size) × (16 ≤ (format_of keys).header_draw)
zeros_drawn keys refuses = let both = sixteen_drawn keys refuses in (omega (arith, both.0), omega (arith, both.1))

-- ---- pieces

-- there are more pieces than full ones before the last byte
pieces_beyond : (most n size : ℕ) (bytes : List ℕ) → 0 < size → length bytes ≤ most → size * n < length bytes → n < length (first_pieces most size bytes)
unfolding first_pieces
pieces_beyond zero n size bytes some within more = absurd (omega arith)
pieces_beyond (suc most) n size [] some within more = absurd (omega arith)
pieces_beyond (suc most) zero size (x ∷ xs) some within more = omega arith
pieces_beyond (suc most) (suc n) size (x ∷ xs) some within more =
    let e : length (drop size (x ∷ xs)) + size ≡ length (x ∷ xs) = omega (arith, length-drop size (x ∷ xs), more) in
    let on : n < length (first_pieces most size (drop size (x ∷ xs))) = pieces_beyond most n size (drop size (x ∷ xs)) some (omega (arith, e, some, within)) (omega (arith, e, more)) in
    omega (arith, on)

pub pieces_more : (n size : ℕ) (bytes : List ℕ) → 0 < size → size * n < length bytes → n < length (pieces size bytes)
unfolding pieces
pieces_more n size bytes some more = pieces_beyond (length bytes) n size bytes some (omega arith) more

-- ---- what is drawn

pub has_bytes : (f : Format) (content : List ℕ) → 0 < length content → has_no_bytes f content ≡ false
has_bytes f content some = elim (eqb_tells (length content) 0) [ inl none ↦ absurd (omega (arith, none.1, some)) | inr more ↦ rw more.0 refl ]

-- as many bytes as the header and so many chunks draw, and perhaps a nonce more
pub drawn_enough : (f : Format) (n : ℕ) (drawn extra content : List ℕ) → 0 < f.full_size → length drawn ≡ f.header_draw + f.nonce_size * n → length extra ≤ f.nonce_size
    → f.full_size * n < length content → length (drawn ++ extra) ≤ draws f content
drawn_enough f n drawn extra content some size few more =
    let many : n < length (pieces f.full_size content) = pieces_more n f.full_size content some more in
    let most : f.nonce_size * (n + 1) ≤ f.nonce_size * length (pieces f.full_size content) = mul-le-mul_left f.nonce_size (omega (arith, many)) in
    rw (has_bytes f content (omega (arith, more))) (omega (arith, length-append drawn extra, size, few, most))

pub header_enough : (f : Format) (drawn content : List ℕ) → has_no_bytes f content ≡ false → length drawn ≤ f.header_draw → length drawn ≤ draws f content
header_enough f drawn content some few = rw some (omega (arith, few))

pub none_accepted : (keys : Keys) → WereAccepted keys []
none_accepted keys = λ long. absurd (omega (arith, some_header keys, long))

-- what is encrypted was accepted
pub encrypted_accepted : (keys : Keys) (drawn content file : List ℕ) → IsEncrypted keys drawn content file → WereAccepted keys drawn
encrypted_accepted keys drawn content file e = by_test (has_no_bytes (format_of keys) content) refl
  where
    by_test : (b : Bool) → has_no_bytes (format_of keys) content ≡ b → WereAccepted keys drawn
    by_test false is = λ long. e.accepted is
    by_test true is = λ long. (let none : length drawn ≡ 0 = rw is at e.enough in absurd (omega (arith, some_header keys, long, none)))

-- ---- fronts

pub none_in_front : (whole : List ℕ) → IsFrontOf [] whole
none_in_front whole = record { behind = whole; is = refl }

pub all_in_front : (file whole : List ℕ) → file ≡ whole → IsFrontOf file whole
all_in_front file whole is = record { behind = []; is = sym is ∙ sym (append-nil file) }

-- what is encrypted is made for its content
pub whole_made : (keys : Keys) (drawn content file : List ℕ) → IsEncrypted keys drawn content file → IsMadeFor keys drawn content file
whole_made keys drawn content file e = record { enough = omega (arith, e.enough); front = all_in_front file (encrypt keys drawn content) e.is }

module _ (law : MadeIsAFront) (e : Encoding) (drawn content file : List ℕ) (made : HasMade e drawn content file) where
  abbrev f : Format
  f = format_of e.keys

  -- made so far, and then perhaps a nonce was drawn in vain
  pub front_made : (extra rest : List ℕ) → length extra ≤ f.nonce_size → 0 < length rest → IsMadeFor e.keys (drawn ++ extra) (content ++ rest) file
  front_made extra rest few some = record {
    enough = drawn_enough f e.number drawn extra (content ++ rest) (some_full e.keys) made.drawn_so_far few (omega (arith, length-append content rest, made.full, some));
    front = law e drawn extra content rest file made (has_bytes f (content ++ rest) (omega (arith, length-append content rest, some)));
  }

-- The next chunk: what is made then.
module _ (law : MadeIsAFront) (e e' : Encoding) (chunk stored : List ℕ) (goes_on : GoesOn e e' chunk stored) (next : e' ≡ one_chunk_later e) (some : 0 < length chunk) where
  abbrev nonce : List ℕ
  nonce = take (format_of e.keys).nonce_size stored

  same-keys : e'.keys ≡ e.keys
  same-keys = ap (λ (x : Encoding). x.keys) next

  pub next_made : (drawn content file rest : List ℕ) → HasMade e drawn content file → length nonce ≤ (format_of e.keys).nonce_size → IsNextChunk e.keys chunk rest
      → IsMadeFor e.keys (drawn ++ nonce) ((content ++ chunk) ++ rest) (file ++ stored)
  next_made drawn content file rest made few (inr last) =
      let same : content ++ chunk ≡ (content ++ chunk) ++ rest = sym (append-nil (content ++ chunk)) ∙ ap (λ (x : List ℕ). (content ++ chunk) ++ x) (sym last) in
      subst (λ (c : List ℕ). IsMadeFor e.keys (drawn ++ nonce) c (file ++ stored)) same (whole_made e.keys (drawn ++ nonce) (content ++ chunk) (file ++ stored) (goes_on drawn content file made).0)
  next_made drawn content file rest made few (inl full) =
      let after : HasMade e' (drawn ++ nonce) (content ++ chunk) (file ++ stored) = (goes_on drawn content file made).1 full in
      let bytes : 0 < length ((content ++ chunk) ++ rest) = omega (arith, length-append (content ++ chunk) rest, length-append content chunk, some) in
      let sized : 0 < length (content ++ (chunk ++ rest)) = omega (arith, bytes, ap length (append_assoc content chunk rest)) in
      let front : IsFrontOf (file ++ stored) (encrypt e'.keys ((drawn ++ nonce) ++ []) ((content ++ chunk) ++ rest)) =
      law e' (drawn ++ nonce) [] (content ++ chunk) rest (file ++ stored) after (has_bytes (format_of e'.keys) ((content ++ chunk) ++ rest) bytes) in
      record {
        enough = drawn_enough (format_of e.keys) e.number drawn nonce ((content ++ chunk) ++ rest) (some_full e.keys) made.drawn_so_far few
            (omega (arith, length-append (content ++ chunk) rest, length-append content chunk, made.full, some));
        front = subst (λ (k : Keys). IsFrontOf (file ++ stored) (encrypt k (drawn ++ nonce) ((content ++ chunk) ++ rest))) same-keys
            (subst (λ (d : List ℕ). IsFrontOf (file ++ stored) (encrypt e'.keys d ((content ++ chunk) ++ rest))) (append-nil (drawn ++ nonce)) front);
      }

  pub next_goes_on : GoesOnWith e e' chunk nonce stored
  next_goes_on = record {
    same_keys = same-keys;
    is_open = ap (λ (x : Encoding). x.is_open) next;
    whole = λ drawn content file made. (goes_on drawn content file made).0;
    goes_on = λ drawn content file made full. (goes_on drawn content file made).1 full;
  }
