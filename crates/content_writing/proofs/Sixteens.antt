-- The bytes drawn, sixteen by sixteen, and where they are zeros.
use Rattle.std.specs.List.{All}
use Rattle.std.proofs.Common.{◌≡◌, ℕ, zero, suc, ◌+◌, ◌*◌, ◌≤◌, true, false, List, [], ◌∷◌, ◌++◌, length, take, drop, replicate, refl, sym, ap, ◌∙◌, subst, arith, length-append, length-drop}
use Rattle.std.proofs.lemmas.List.{drop-append-le, length-take}
use Rattle.chunk_files.specs.Contents.{is_refused}
use Rattle.chunk_files.specs.Encoding.{Encoding, HasMade}
use Rattle.chunk_files.specs.Encrypt.{AreAccepted}
use Rattle.chunk_files.specs.Format.{Format}
use Rattle.chunk_files.specs.Keys.{Keys, format_of}
use Rattle.chunk_files.specs.Pieces.{first_pieces, pieces}
use Rattle.content_writing.proofs.Drawing.{sixteen_drawn}
use Rattle.content_writing.specs.Streaming.{WereAccepted}
use Rattle.content_writing.specs.Writing.{DrewNoZeros, DrewZeros, sixteen}

-- behind whole pieces of sixteen
behind_whole : (number : ℕ) (front bytes : List ℕ) → length front ≡ 16 * number → sixteen number (front ++ bytes) ≡ take 16 bytes
behind_whole zero [] bytes size = refl
behind_whole zero (b ∷ front) bytes size = absurd (omega (arith, size))
behind_whole (suc number) front bytes size =
    ap (sixteen number) (drop-append-le 16 front bytes (omega (arith, size))) ∙ behind_whole number (drop 16 front) bytes (omega (arith, size, length-drop 16 front))

-- sixteen zeros that were drawn last, where these are refused
pub zeros_behind : (keys : Keys) (front : List ℕ) → (format_of keys).refuses_zeros ≡ true → (number : ℕ) × (length front ≡ 16 * number) → DrewZeros keys (front ++ replicate 16 0)
zeros_behind keys front refuses (number, size) =
    (number, record { refused = refuses; zeros = behind_whole number front (replicate 16 0) size }, omega (arith, length-append front (replicate 16 0), size))

-- sixteen bytes are those of a number only where so many were drawn
pub drawn_so_far : (number : ℕ) (drawn : List ℕ) → sixteen number drawn ≡ replicate 16 0 → 16 * suc number ≤ length drawn
drawn_so_far zero drawn are = let size : length (take 16 drawn) ≡ 16 = ap length are in omega (arith, size, length-take 16 drawn)
drawn_so_far (suc number) drawn are = let more : 16 * suc number ≤ length (drop 16 drawn) = drawn_so_far number (drop 16 drawn) are in omega (arith, more, length-drop 16 drawn)

-- where zeros are refused, whole pieces of sixteen were drawn for a header and the nonces of full chunks
pub whole_drawn : (e : Encoding) (keys : Keys) (drawn content file : List ℕ) → e.keys ≡ keys → HasMade e drawn content file → (format_of keys).refuses_zeros ≡ true → (number : ℕ) × (length drawn ≡ 16 * number)
whole_drawn e keys drawn content file same made refuses =
    let both = sixteen_drawn e.keys (subst (λ (k : Keys). (format_of k).refuses_zeros ≡ true) (sym same) refuses) in
    let size : length drawn ≡ 16 + 16 * e.number =
    made.drawn_so_far ∙ ap (λ (h : ℕ). h + (format_of e.keys).nonce_size * e.number) both.1 ∙ ap (λ (n : ℕ). 16 + n * e.number) both.0 in
    (suc e.number, omega (arith, size))

-- what is so of all pieces is so of those of a number
each_of : (P : List ℕ → Type 0) (most number : ℕ) (xs : List ℕ) → 16 * suc number ≤ length xs → length xs ≤ most → All P (first_pieces most 16 xs) → P (sixteen number xs)
unfolding first_pieces
each_of P zero number xs long within all = absurd (omega (arith, long, within))
each_of P (suc most) number [] long within all = absurd (omega (arith, long))
each_of P (suc most) zero (x ∷ xs) long within all = all zero [] (omega arith)
each_of P (suc most) (suc number) (x ∷ xs) long within all =
    each_of P most number (drop 16 (x ∷ xs)) (omega (arith, long, length-drop 16 (x ∷ xs))) (omega (arith, within, length-drop 16 (x ∷ xs))) (λ k d inside. all (suc k) d (omega (arith, inside)))

each_piece : (P : List ℕ → Type 0) (number : ℕ) (xs : List ℕ) → 16 * suc number ≤ length xs → All P (pieces 16 xs) → P (sixteen number xs)
unfolding pieces
each_piece P number xs long all = each_of P (length xs) number xs long (omega arith) all

refused_zeros : (f : Format) → f.refuses_zeros ≡ true → is_refused f (replicate 16 0) ≡ true
unfolding is_refused
refused_zeros f refuses = rw refuses refl

accepted_at : (f : Format) (drawn : List ℕ) (number : ℕ) → f.nonce_size ≡ 16 → f.header_draw ≡ 16 → 16 * suc number ≤ length drawn → AreAccepted f drawn → is_refused f (sixteen number drawn) ≡ false
accepted_at f drawn zero nonce header long accepted = subst (λ (h : ℕ). is_refused f (take h drawn) ≡ false) header accepted.id
accepted_at f drawn (suc number) nonce header long accepted =
    each_piece (λ piece. is_refused f piece ≡ false) number (drop 16 drawn) (omega (arith, long, length-drop 16 drawn))
    (subst (λ (n : ℕ). All (λ piece. is_refused f piece ≡ false) (pieces n (drop 16 drawn))) nonce
    (subst (λ (h : ℕ). All (λ piece. is_refused f piece ≡ false) (pieces f.nonce_size (drop h drawn))) header accepted.nonces))

-- what is accepted has no zeros that are refused
pub no_zeros : (keys : Keys) (drawn : List ℕ) → WereAccepted keys drawn → DrewNoZeros keys drawn
no_zeros keys drawn accepted number has =
    let both = sixteen_drawn keys has.refused in
    let long : 16 * suc number ≤ length drawn = drawn_so_far number drawn has.zeros in
    let enough : (format_of keys).header_draw ≤ length drawn = omega (arith, both.1, long) in
    let no : true ≡ false =
    sym (refused_zeros (format_of keys) has.refused) ∙ ap (is_refused (format_of keys)) (sym has.zeros) ∙ accepted_at (format_of keys) drawn number both.0 both.1 long (accepted enough) in
    cc no
