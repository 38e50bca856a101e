-- A stored chunk is of a chunk exactly where it is read as that chunk.
use Rattle.std.proofs.Common.{◌≡◌, ℕ, zero, suc, ◌+◌, ◌≤◌, ◌==◌, ◌&&◌, nat_lt, Bool, true, false, cond, List, [], ◌∷◌, length, take, drop, replicate, Some, None, Ok, Err, inl, inr, refl, sym, ap, ◌∙◌, arith}
use Rattle.std.specs.Prelude.{Option}
use Rattle.std.proofs.lemmas.Bool.{le-ltb, ltb-false, eq-eqb, eqb-true}
use Rattle.std.proofs.lemmas.List.{length-take, length-replicate, take-append-drop}
use Rattle.std.proofs.lemmas.List.Folds.{list_all-append}
use Rattle.std.proofs.Math.Bool.{and-false}
use Rattle.chunk_files.specs.declared.fault.ChunkFault.TheVariants.{ShortChunk, ZeroNonce}
use Rattle.chunk_files.specs.Zeros.{is_all_zero}
use Rattle.chunk_files.specs.Format.{Format, Header, stored_size}
use Rattle.chunk_files.specs.Contents.{is_hole, is_refused, opened_or_fault, read_chunk}
use Rattle.chunk_files.specs.FileOf.{IsSealedChunk, IsHole, IsStored}
use Rattle.chunk_files.proofs.Tests.{both-true}
use Rattle.chunk_files.proofs.Lawful.{IsLawful}

zeros-zero : (n : ℕ) → is_all_zero (replicate n 0) ≡ true
zeros-zero zero = refl
zeros-zero (suc n) = zeros-zero n

pub zero-zeros : (bytes : List ℕ) → is_all_zero bytes ≡ true → bytes ≡ replicate (length bytes) 0
zero-zeros [] all = refl
zero-zeros (x ∷ xs) all =
    let both = both-true (x == 0) (is_all_zero xs) all in
    rw (eqb-true x 0 both.0) (ap (λ (r : List ℕ). 0 ∷ r) (zero-zeros xs both.1))

-- bytes with something other than zero at their front aren't all zero
front-zero : (n : ℕ) (bytes : List ℕ) → is_all_zero (take n bytes) ≡ false → is_all_zero bytes ≡ false
front-zero n bytes some =
    ap is_all_zero (sym (take-append-drop n bytes)) ∙ list_all-append (λ (byte : ℕ). byte == 0) (take n bytes) (drop n bytes)
    ∙ ap (λ b. b && is_all_zero (drop n bytes)) some

-- where zeros are refused, what is accepted isn't all zero
accepted-some : (refuses none : Bool) → refuses ≡ true → (refuses && none) ≡ false → none ≡ false
accepted-some true none refused accepted = accepted
accepted-some false none refused accepted = cc

module _ (f : Format) (IsHead : Header → List ℕ → Type 0) (law : IsLawful f IsHead) (header : Header) (number : ℕ) where
  no-hole : (holes : Bool) (stored nonce : List ℕ) → f.has_holes ≡ holes → take f.nonce_size stored ≡ nonce → is_refused f nonce ≡ false → is_hole f stored ≡ false
  unfolding is_hole is_refused
  no-hole false stored nonce holes front accepted = rw holes refl
  no-hole true stored nonce holes front accepted =
      let some : is_all_zero nonce ≡ false = accepted-some f.refuses_zeros (is_all_zero nonce) (law.form.holes_refused holes) accepted in
      let zero : is_all_zero stored ≡ false = front-zero f.nonce_size stored (ap is_all_zero front ∙ some) in
      rw zero (and-false (f.has_holes && (length stored == stored_size f)))

  read-sealed : (stored chunk : List ℕ) → IsSealedChunk f header number stored chunk → read_chunk f header number stored ≡ Ok chunk
  unfolding read_chunk
  read-sealed stored chunk s =
      let front : take f.nonce_size stored ≡ s.nonce = ap (take f.nonce_size) s.is ∙ law.form.seal_nonce header number s.nonce chunk s.size in
      let hole : is_hole f stored ≡ false = no-hole f.has_holes stored s.nonce refl front s.accepted in
      let size : length stored ≡ f.seal_size + length chunk = ap length s.is ∙ law.seal_size header number s.nonce chunk s.size in
      let long : nat_lt (length stored) f.seal_size ≡ false = le-ltb (length stored) f.seal_size (omega arith) in
      let some : is_refused f (take f.nonce_size stored) ≡ false = ap (is_refused f) front ∙ s.accepted in
      let opens : f.opened_chunk header number stored ≡ Some chunk = ap (f.opened_chunk header number) s.is ∙ law.seal_opens header number s.nonce chunk s.size in
      rw (hole, long, some, opens) refl

  read-hole : (stored chunk : List ℕ) → IsHole f stored chunk → read_chunk f header number stored ≡ Ok chunk
  unfolding read_chunk is_hole
  read-hole stored chunk h =
      let size : (length stored == stored_size f) ≡ true = eq-eqb (length stored) (stored_size f) (ap length h.zeros ∙ length-replicate {A = ℕ} (stored_size f) 0) in
      let zero : is_all_zero stored ≡ true = ap is_all_zero h.zeros ∙ zeros-zero (stored_size f) in
      rw (h.allowed, size, zero) (ap Ok (sym h.plain))

  pub read-stored : (stored chunk : List ℕ) → IsStored f header number stored chunk → read_chunk f header number stored ≡ Ok chunk
  read-stored stored chunk of = elim of [ inl hole ↦ read-hole stored chunk hole | inr s ↦ read-sealed stored chunk s ]

  pub length-stored : (stored chunk : List ℕ) → IsStored f header number stored chunk → length stored ≡ f.seal_size + length chunk
  length-stored stored chunk of = elim of [
    | inl hole ↦ ap length hole.zeros ∙ length-replicate {A = ℕ} (stored_size f) 0
        ∙ omega (arith, ap length hole.plain, length-replicate {A = ℕ} f.full_size 0)
    | inr s ↦ ap length s.is ∙ law.seal_size header number s.nonce chunk s.size
  ]

  opened-stored : (stored chunk : List ℕ) (opened : Option (List ℕ)) → f.opened_chunk header number stored ≡ opened → f.seal_size ≤ length stored
      → is_refused f (take f.nonce_size stored) ≡ false → opened_or_fault number opened ≡ Ok chunk → IsStored f header number stored chunk
  opened-stored stored chunk None opens long accepted is = cc
  opened-stored stored chunk (Some plain) opens long accepted is =
      let same : plain ≡ chunk = cc in
      inr (record {
        nonce = take f.nonce_size stored;
        size = omega (arith, length-take f.nonce_size stored, law.form.nonce_within);
        accepted = accepted;
        is = law.opens_seal header number stored chunk long (opens ∙ ap Some same);
      })

  hole-of : (stored chunk : List ℕ) → is_hole f stored ≡ true → replicate f.full_size 0 ≡ chunk → IsHole f stored chunk
  unfolding is_hole
  hole-of stored chunk hole zeros =
      let all = both-true (f.has_holes && (length stored == stored_size f)) (is_all_zero stored) hole in
      let both = both-true f.has_holes (length stored == stored_size f) all.0 in
      record {
        allowed = both.0;
        zeros = zero-zeros stored all.1 ∙ ap (λ (n : ℕ). replicate n 0) (eqb-true (length stored) (stored_size f) both.1);
        plain = sym zeros;
      }

  by-tests : (stored chunk : List ℕ) (hole short refused : Bool) → is_hole f stored ≡ hole → nat_lt (length stored) f.seal_size ≡ short
      → is_refused f (take f.nonce_size stored) ≡ refused
      → cond hole (Ok (replicate f.full_size 0)) (cond short (Err (ShortChunk number)) (cond refused (Err (ZeroNonce number))
      (opened_or_fault number (f.opened_chunk header number stored)))) ≡ Ok chunk
      → IsStored f header number stored chunk
  by-tests stored chunk true short refused a b c is = inl (hole-of stored chunk a (let same : replicate f.full_size 0 ≡ chunk = cc in same))
  by-tests stored chunk false true refused a b c is = cc
  by-tests stored chunk false false true a b c is = cc
  by-tests stored chunk false false false a b c is =
      opened-stored stored chunk (f.opened_chunk header number stored) refl (ltb-false (length stored) f.seal_size b) c is

  pub stored-of-read : (stored chunk : List ℕ) → read_chunk f header number stored ≡ Ok chunk → IsStored f header number stored chunk
  unfolding read_chunk
  stored-of-read stored chunk is = by-tests stored chunk _ _ _ refl refl refl is
