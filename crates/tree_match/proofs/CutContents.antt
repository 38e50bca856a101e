-- A file that is read whole, of which no more than a limit is read: the front of its content, or all of it.
use Rattle.std.proofs.Common.{◌≡◌, ℕ, zero, suc, ◌+◌, ◌-◌, ◌<◌, ◌≤◌, ◌==◌, ◌&&◌, nat_lt, Bool, true, false, cond, List, [], ◌∷◌, ◌++◌, length, take, drop, Result, Ok, Err, refl, sym, ap, subst, ◌∙◌, arith, append_assoc}
use Rattle.std.proofs.lemmas.Bool.{eqb-true, lt-ltb, ltb-true, ltb-false, false≢true}
use Rattle.std.proofs.lemmas.List.{length-take, length-drop, take-take, drop-take, take_all}
use Rattle.std.specs.List.{concat}
use Rattle.chunk_files.specs.Contents.{read_behind, read_by, read_chunk, read_chunks, read_file, read_on, readable}
use Rattle.chunk_files.specs.declared.fault.ChunkFault.{ChunkFault}
use Rattle.chunk_files.specs.declared.fault.ChunkFault.TheVariants.{NoHeader}
use Rattle.chunk_files.specs.Format.{Format, Header, stored_size}
use Rattle.chunk_files.specs.Keys.{Keys, format_of}
use Rattle.chunk_files.specs.Pieces.{first_pieces, pieces}
use Rattle.chunk_files.specs.Reading.{Reading, Whole, Wanting, Faulty, chunk_before, ends}
use Rattle.chunk_files.proofs.LayoutSizes.{sizes_fit}

-- a reading that wants bytes gives the front of what another gives
pub record IsFront (one whole : Reading) : Type 0 where
  pub wanting : one.ending ≡ Wanting
  pub rest : List ℕ
  pub joined : concat whole.chunks ≡ concat one.chunks ++ rest

none_read : (whole : Reading) → IsFront (ends Wanting) whole
none_read whole = record { wanting = refl; rest = concat whole.chunks; joined = refl }

one_chunk : (chunk : List ℕ) (one whole : Reading) → IsFront one whole → IsFront (chunk_before chunk one) (chunk_before chunk whole)
one_chunk chunk one whole front = record {
  wanting = front.wanting;
  rest = front.rest;
  joined = ap (λ (ys : List ℕ). chunk ++ ys) front.joined ∙ sym (append_assoc chunk (concat one.chunks) front.rest);
}

next_read : (read : Result (List ℕ) ChunkFault) (one whole : Reading) → (read_on read whole).ending ≡ Whole → (whole.ending ≡ Whole → IsFront one whole) → IsFront (read_on read one) (read_on read whole)
next_read (Ok chunk) one whole ended front = one_chunk chunk one whole (front ended)
next_read (Err fault) one whole ended front = cc ended

-- ---- chunk by chunk

module _ (f : Format) (some : 0 < stored_size f) (header : Header) where
  chunks_front : (m n k number : ℕ) (bytes : List ℕ) → length bytes ≤ n → (read_chunks f header number (first_pieces n (stored_size f) bytes) false).ending ≡ Whole
      → IsFront (read_chunks f header number (first_pieces m (stored_size f) (take k bytes)) true) (read_chunks f header number (first_pieces n (stored_size f) bytes) false)
  unfolding first_pieces read_chunks
  chunks_front zero n k number bytes within ended = none_read _
  chunks_front (suc m) n zero number bytes within ended = none_read _
  chunks_front (suc m) n (suc k) number [] within ended = none_read _
  chunks_front (suc m) zero (suc k) number (b ∷ bytes) within ended = absurd (omega arith)
  chunks_front (suc m) (suc n) (suc k) number (b ∷ bytes) within ended =
      by (nat_lt (length (take (stored_size f) (take (suc k) (b ∷ bytes)))) (stored_size f)) refl (chunks_front m n)
    where
      size : ℕ
      size = stored_size f

      front : List ℕ
      front = take (suc k) (b ∷ bytes)

      whole : Reading
      whole = read_on (read_chunk f header number (take size (b ∷ bytes))) (read_chunks f header (number + 1) (first_pieces n size (drop size (b ∷ bytes))) false)

      Later : Type 0
      Later = (l next : ℕ) (xs : List ℕ) → length xs ≤ n → (read_chunks f header next (first_pieces n size xs) false).ending ≡ Whole
          → IsFront (read_chunks f header next (first_pieces m size (take l xs)) true) (read_chunks f header next (first_pieces n size xs) false)

      by : (short : Bool) → nat_lt (length (take size front)) size ≡ short → Later
          → IsFront (cond short (ends Wanting) (read_on (read_chunk f header number (take size front)) (read_chunks f header (number + 1) (first_pieces m size (drop size front)) true))) whole
      by true is later = none_read whole
      by false is later =
          let full : size ≤ length (take size front) = ltb-false (length (take size front)) size is in
          let enough : size ≤ suc k = omega (arith, full, length-take size front, length-take (suc k) (b ∷ bytes)) in
          let one : take size front ≡ take size (b ∷ bytes) = take-take size (suc k) (b ∷ bytes) enough in
          let sum : size + (suc k - size) ≡ suc k = omega (arith, enough) in
          let behind : drop size front ≡ take (suc k - size) (drop size (b ∷ bytes)) = ap (λ (l : ℕ). drop size (take l (b ∷ bytes))) (sym sum) ∙ drop-take size (suc k - size) (b ∷ bytes) in
          let fewer : length (drop size (b ∷ bytes)) ≤ n = omega (arith, some, within, length-drop size (b ∷ bytes)) in
          subst (λ (xs : List ℕ). IsFront (read_on (read_chunk f header number xs) (read_chunks f header (number + 1) (first_pieces m size (drop size front)) true)) whole) (sym one)
          (subst (λ (xs : List ℕ). IsFront (read_on (read_chunk f header number (take size (b ∷ bytes))) (read_chunks f header (number + 1) (first_pieces m size xs) true)) whole) (sym behind)
          (next_read (read_chunk f header number (take size (b ∷ bytes))) _ _ ended
          (later (suc k - size) (number + 1) (drop size (b ∷ bytes)) fewer)))

-- ---- a file

no_more : (m n : ℕ) (may : Bool) → m ≤ n → ((n == 0) && may) ≡ true → ((m == 0) && may) ≡ true
no_more m n may fewer is = by (n == 0) refl is
  where
    by : (b : Bool) → (n == 0) ≡ b → (b && may) ≡ true → ((m == 0) && may) ≡ true
    by true e h = let none : m ≡ 0 = omega (arith, fewer, eqb-true n 0 e) in subst (λ k. ((k == 0) && may) ≡ true) (sym none) h
    by false e h = absurd (false≢true h)

-- where neither test tells that the front wants bytes, neither tells it of the whole
either_test : (none none' short short' : Bool) (one whole : Reading) → (none' ≡ true → none ≡ true) → (short' ≡ true → short ≡ true)
    → (cond none' (ends Whole) (cond short' (ends (Faulty NoHeader)) whole)).ending ≡ Whole → (short ≡ false → whole.ending ≡ Whole → IsFront one whole)
    → IsFront (cond none (ends Wanting) (cond short (ends Wanting) one)) (cond none' (ends Whole) (cond short' (ends (Faulty NoHeader)) whole))
either_test true none' short short' one whole p q ended front = none_read _
either_test false true short short' one whole p q ended front = absurd (false≢true (p refl))
either_test false false true short' one whole p q ended front = none_read _
either_test false false false true one whole p q ended front = absurd (false≢true (q refl))
either_test false false false false one whole p q ended front = front refl ended

module _ (f : Format) (some : 0 < stored_size f) (k : ℕ) (bytes : List ℕ) where
  behind_front : (told : Result Header ChunkFault) (rest : List ℕ) (l : ℕ) → (read_behind f told rest false).ending ≡ Whole
      → IsFront (read_behind f told (take l rest) true) (read_behind f told rest false)
  unfolding pieces
  behind_front (Err fault) rest l ended = cc ended
  behind_front (Ok header) rest l ended = chunks_front f some header (length (take l rest)) (length rest) l 0 rest (omega arith) ended

  behind_both : f.header_size ≤ length (take k bytes) → (read_behind f (f.read_header (take f.header_size bytes)) (drop f.header_size bytes) false).ending ≡ Whole
      → IsFront (read_behind f (f.read_header (take f.header_size (take k bytes))) (drop f.header_size (take k bytes)) true) (read_behind f (f.read_header (take f.header_size bytes)) (drop f.header_size bytes) false)
  behind_both full ended =
      let size : ℕ = f.header_size in
      let enough : size ≤ k = omega (arith, full, length-take k bytes) in
      let one : take size (take k bytes) ≡ take size bytes = take-take size k bytes enough in
      let sum : size + (k - size) ≡ k = omega (arith, enough) in
      let behind : drop size (take k bytes) ≡ take (k - size) (drop size bytes) = ap (λ (l : ℕ). drop size (take l bytes)) (sym sum) ∙ drop-take size (k - size) bytes in
      let whole : Reading = read_behind f (f.read_header (take size bytes)) (drop size bytes) false in
      subst (λ (xs : List ℕ). IsFront (read_behind f (f.read_header xs) (drop size (take k bytes)) true) whole) (sym one)
      (subst (λ (xs : List ℕ). IsFront (read_behind f (f.read_header (take size bytes)) xs true) whole) (sym behind)
      (behind_front (f.read_header (take size bytes)) (drop size bytes) (k - size) ended))

  cut_front : (read_by f bytes false).ending ≡ Whole → IsFront (read_by f (take k bytes) true) (read_by f bytes false)
  unfolding read_by
  cut_front ended =
      let fewer : length (take k bytes) ≤ length bytes = omega (arith, length-take k bytes) in
      either_test ((length (take k bytes) == 0) && f.empty_has_no_header) ((length bytes == 0) && f.empty_has_no_header) (nat_lt (length (take k bytes)) f.header_size) (nat_lt (length bytes) f.header_size)
      _ _ (no_more (length (take k bytes)) (length bytes) f.empty_has_no_header fewer)
      (λ less. lt-ltb _ _ (omega (arith, fewer, ltb-true (length bytes) f.header_size less))) ended
      (λ enough ended. behind_both (ltb-false (length (take k bytes)) f.header_size enough) ended)

stores_some : (keys : Keys) → 0 < stored_size (format_of keys)
stores_some keys = omega (arith, (sizes_fit keys).some_full)

-- a content that is read to its end, or to the limit
pub data Partly (content : List ℕ) (r : Reading) : Type 0 where
  All : r.ending ≡ Whole → concat r.chunks ≡ content → Partly content r
  Front : r.ending ≡ Wanting → (rest : List ℕ) → content ≡ concat r.chunks ++ rest → Partly content r

pub partly_read : (limit : ℕ) (keys : Keys) (bytes : List ℕ) → (readable keys bytes).ending ≡ Whole
    → Partly (concat (readable keys bytes).chunks) (read_file keys (take limit bytes) (nat_lt limit (length bytes)))
partly_read limit keys bytes ended = by (nat_lt limit (length bytes)) refl
  where
    by : (more : Bool) → nat_lt limit (length bytes) ≡ more → Partly (concat (readable keys bytes).chunks) (read_file keys (take limit bytes) more)
    by true is = let front = cut_front (format_of keys) (stores_some keys) limit bytes ended in Front front.wanting front.rest front.joined
    by false is =
        let all : take limit bytes ≡ bytes = take_all limit bytes (ltb-false limit (length bytes) is) in
        subst (λ (xs : List ℕ). Partly (concat (readable keys bytes).chunks) (read_file keys xs false)) (sym all) (All ended refl)
