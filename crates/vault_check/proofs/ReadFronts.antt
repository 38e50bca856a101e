-- A fault in the front of a file is that of the whole file.
use Rattle.std.proofs.lemmas.Bool.Decides.{nat_tests}
use Rattle.std.proofs.lemmas.List.{take-append-le, drop-append-le, take_all, take-append-drop}
use Rattle.std.proofs.Common.{length-append, length-drop, length-take, ◌≡◌, ◌≢◌, ℕ, zero, suc, ◌+◌, ◌<◌, ◌≤◌, ◌==◌, ◌&&◌, nat_lt, Bool, true, false, cond, List, [], ◌∷◌, ◌++◌, length, take, drop, Result, Ok, Err, refl, sym, ap, ◌∙◌, subst, arith}
use Rattle.chunk_files.specs.declared.fault.ChunkFault.{ChunkFault}
use Rattle.chunk_files.specs.Format.{Format, Header, stored_size}
use Rattle.chunk_files.specs.Keys.{Keys, format_of}
use Rattle.chunk_files.specs.declared.fault.ChunkFault.TheVariants.{NoHeader}
use Rattle.chunk_files.specs.Pieces.{pieces, first_pieces}
use Rattle.chunk_files.specs.Reading.{Reading, Whole, Wanting, Faulty, ends}
use Rattle.chunk_files.specs.Contents.{read_chunk, read_chunks, read_on, read_behind, read_by, readable, read_file}
use Rattle.chunk_files.proofs.LayoutSizes.{sizes_fit}
use Rattle.vault_read.specs.Contents.{limited_reading}
use Rattle.vault_faults.specs.Limits.{content_limit}
use Rattle.vault_spec.proofs.Endings.{whole_ends}

-- where reading stops for want of bytes, the file has more than are read
pub wanting_longer : (keys : Keys) (bytes : List ℕ) → (limited_reading keys bytes).ending ≡ Wanting → nat_lt content_limit (length bytes) ≡ true
wanting_longer keys bytes wanting = by_test (nat_lt content_limit (length bytes)) refl
  where
    by_test : (b : Bool) → nat_lt content_limit (length bytes) ≡ b → b ≡ true
    by_test true e = refl
    by_test false e = absurd (whole_ends keys (take content_limit bytes) (ap (λ goes_on. (read_file keys (take content_limit bytes) goes_on).ending) (sym e) ∙ wanting))

-- ---- a front of a file that ends at a fault ends as the file does

abbrev IsAlike : Reading → Reading → Type 0
IsAlike one two = one.ending ≢ Wanting → one.ending ≡ two.ending

on_alike : (read : Result (List ℕ) ChunkFault) (one two : Reading) → IsAlike one two → IsAlike (read_on read one) (read_on read two)
on_alike (Ok chunk) one two alike ends = alike ends
on_alike (Err fault) one two alike ends = refl

-- what is read where this many bytes are wanted, and are there or not
wanted_alike : (b : Bool) (one two : Reading) → (b ≡ false → IsAlike one two) → IsAlike (cond b (ends Wanting) one) two
wanted_alike true one two alike stops = absurd (stops refl)
wanted_alike false one two alike stops = alike refl stops

not_less : (a b : ℕ) → nat_lt a b ≡ false → b ≤ a
not_less a b e = grind (arith, nat_tests)

front_chunks : (f : Format) (header : Header) (m n number : ℕ) (front rest : List ℕ) → 0 < stored_size f → length (front ++ rest) ≤ n
    → IsAlike (read_chunks f header number (first_pieces m (stored_size f) front) true) (read_chunks f header number (first_pieces n (stored_size f) (front ++ rest)) false)
unfolding read_chunks first_pieces
front_chunks f header zero n number front rest some enough stops = absurd (stops refl)
front_chunks f header (suc m) n number [] rest some enough stops = absurd (stops refl)
front_chunks f header (suc m) zero number (x ∷ xs) rest some enough stops = absurd (omega (arith, enough))
front_chunks f header (suc m) (suc n) number (x ∷ xs) rest some enough stops =
    let size : ℕ = stored_size f in
    wanted_alike (nat_lt (length (take size (x ∷ xs))) size)
    (read_on (read_chunk f header number (take size (x ∷ xs))) (read_chunks f header (number + 1) (first_pieces m size (drop size (x ∷ xs))) true))
    (read_on (read_chunk f header number (take size (x ∷ xs ++ rest))) (read_chunks f header (number + 1) (first_pieces n size (drop size (x ∷ xs ++ rest))) false))
    (λ whole.
    let long : size ≤ length (x ∷ xs) =
    (let test : size ≤ length (take size (x ∷ xs)) = not_less (length (take size (x ∷ xs))) size whole in omega (arith, test, length-take size (x ∷ xs))) in
    let left : length (drop size (x ∷ xs) ++ rest) ≤ n =
    omega (arith, some, enough, long, length-append (drop size (x ∷ xs)) rest, length-append (x ∷ xs) rest, length-drop size (x ∷ xs)) in
    subst (λ first. IsAlike (read_on (read_chunk f header number (take size (x ∷ xs))) (read_chunks f header (number + 1) (first_pieces m size (drop size (x ∷ xs))) true))
    (read_on (read_chunk f header number first) (read_chunks f header (number + 1) (first_pieces n size (drop size (x ∷ xs ++ rest))) false)))
    (sym (take-append-le size (x ∷ xs) rest long))
    (subst (λ others. IsAlike (read_on (read_chunk f header number (take size (x ∷ xs))) (read_chunks f header (number + 1) (first_pieces m size (drop size (x ∷ xs))) true))
    (read_on (read_chunk f header number (take size (x ∷ xs))) (read_chunks f header (number + 1) (first_pieces n size others) false)))
    (sym (drop-append-le size (x ∷ xs) rest long))
    (on_alike (read_chunk f header number (take size (x ∷ xs))) _ _ (front_chunks f header m n (number + 1) (drop size (x ∷ xs)) rest some left)))) stops

front_behind : (f : Format) (told : Result Header ChunkFault) (front rest : List ℕ) → 0 < stored_size f → IsAlike (read_behind f told front true) (read_behind f told (front ++ rest) false)
unfolding pieces
front_behind f (Err fault) front rest some stops = refl
front_behind f (Ok header) front rest some stops = front_chunks f header (length front) (length (front ++ rest)) 0 front rest some (omega arith) stops

not_zero : (e : Bool) (b : ℕ) → ((suc b == 0) && e) ≡ false
not_zero e b = ap (λ t. t && e) (let none : (suc b == 0) ≡ false = grind (arith, nat_tests) in none)

-- a test that fails for a front of a file fails for the file
longer_not_empty : (e : Bool) (a b : ℕ) → a ≤ b → ((a == 0) && e) ≡ false → ((b == 0) && e) ≡ false
longer_not_empty e zero zero less none = none
longer_not_empty e zero (suc b) less none = not_zero e b
longer_not_empty e (suc a) zero less none = absurd (omega (arith, less))
longer_not_empty e (suc a) (suc b) less none = not_zero e b

longer_not_less : (a b h : ℕ) → a ≤ b → nat_lt a h ≡ false → nat_lt b h ≡ false
longer_not_less a b h less none = by_test (nat_lt b h) refl
  where
    by_test : (t : Bool) → nat_lt b h ≡ t → t ≡ false
    by_test false e = refl
    by_test true e = absurd (let long : h ≤ a = not_less a h none in let short : b < h = grind (arith, nat_tests) in omega (arith, less, long, short))

front_by : (f : Format) (front rest : List ℕ) → 0 < stored_size f → IsAlike (read_by f front true) (read_by f (front ++ rest) false)
unfolding read_by
front_by f front rest some =
    wanted_alike ((length front == 0) && f.empty_has_no_header)
    (cond (nat_lt (length front) f.header_size) (ends Wanting) (read_behind f (f.read_header (take f.header_size front)) (drop f.header_size front) true))
    (read_by f (front ++ rest) false) (λ not_empty.
    wanted_alike (nat_lt (length front) f.header_size) (read_behind f (f.read_header (take f.header_size front)) (drop f.header_size front) true)
    (read_by f (front ++ rest) false) (λ has_header.
    let long : f.header_size ≤ length front = not_less (length front) f.header_size has_header in
    let more : length front ≤ length (front ++ rest) = omega (arith, length-append front rest) in
    by_tests ((length (front ++ rest) == 0) && f.empty_has_no_header) (nat_lt (length (front ++ rest)) f.header_size)
    (longer_not_empty f.empty_has_no_header (length front) (length (front ++ rest)) more not_empty)
    (longer_not_less (length front) (length (front ++ rest)) f.header_size more has_header) long))
  where
    by_tests : (e l : Bool) → e ≡ false → l ≡ false → f.header_size ≤ length front
        → IsAlike (read_behind f (f.read_header (take f.header_size front)) (drop f.header_size front) true)
        (cond e (ends Whole) (cond l (ends (Faulty NoHeader)) (read_behind f (f.read_header (take f.header_size (front ++ rest))) (drop f.header_size (front ++ rest)) false)))
    by_tests true l p q long = cc
    by_tests false true p q long = cc
    by_tests false false p q long =
        subst (λ first. IsAlike (read_behind f (f.read_header (take f.header_size front)) (drop f.header_size front) true)
        (read_behind f (f.read_header first) (drop f.header_size (front ++ rest)) false))
        (sym (take-append-le f.header_size front rest long))
        (subst (λ others. IsAlike (read_behind f (f.read_header (take f.header_size front)) (drop f.header_size front) true)
        (read_behind f (f.read_header (take f.header_size front)) others false))
        (sym (drop-append-le f.header_size front rest long))
        (front_behind f (f.read_header (take f.header_size front)) (drop f.header_size front) rest some))

some_stored : (keys : Keys) → 0 < stored_size (format_of keys)
some_stored keys = omega (arith, (sizes_fit keys).some_full)

-- reading up to the limit ends as reading the whole file does, if it isn't for want of bytes
pub limited_is_whole : (keys : Keys) (bytes : List ℕ) → (limited_reading keys bytes).ending ≢ Wanting → (limited_reading keys bytes).ending ≡ (readable keys bytes).ending
limited_is_whole keys bytes = by_test (nat_lt content_limit (length bytes)) refl
  where
    by_test : (b : Bool) → nat_lt content_limit (length bytes) ≡ b → (read_file keys (take content_limit bytes) b).ending ≢ Wanting
        → (read_file keys (take content_limit bytes) b).ending ≡ (readable keys bytes).ending
    by_test true e stops =
        front_by (format_of keys) (take content_limit bytes) (drop content_limit bytes) (some_stored keys) stops
        ∙ ap (λ all. (readable keys all).ending) (take-append-drop content_limit bytes)
    by_test false e stops = ap (λ all. (readable keys all).ending) (take_all content_limit bytes (not_less content_limit (length bytes) e))
