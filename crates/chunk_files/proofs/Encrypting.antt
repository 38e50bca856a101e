-- Files that are encrypted chunk by chunk.
use Rattle.std.proofs.Common.{◌≡◌, ℕ, zero, suc, ◌+◌, ◌*◌, ◌<◌, ◌≤◌, nat_lt, ◌==◌, ◌&&◌, Bool, true, false, ◌⊎◌, List, [], ◌∷◌, ◌++◌, length, take, drop, inl, inr, refl, sym, ap, ◌∙◌, subst, arith, append-nil, append_assoc, length-append, length-drop}
use Rattle.std.specs.List.{All}
use Rattle.std.proofs.lemmas.Bool.{cases_lt, le-ltb, lt-ltb, eqb-true}
use Rattle.std.proofs.lemmas.Bool.Decides.{eqb_tells}
use Rattle.std.proofs.lemmas.List.{take-append-le, drop-append-le, take_all, drop_all, length-take, length-take-le, nil_from_length}
use Rattle.std.proofs.lemmas.List.Elements.{All-append}
use Rattle.chunk_files.specs.Format.{Format, Header}
use Rattle.chunk_files.specs.Keys.{Keys, format_of, IsHeaderOf}
use Rattle.chunk_files.specs.Pieces.{pieces}
use Rattle.chunk_files.specs.Contents.{is_refused}
use Rattle.chunk_files.specs.Encrypt.{sealed_chunks, header_and_chunks, has_no_bytes, encrypt_by, encrypt, AreAccepted, IsEncrypted}
use Rattle.chunk_files.specs.Encoding.{Encoding, HasMade, GoesOn, IsFrontOf, MoreDrawnGiveMore, MadeIsAFront, begun}
use Rattle.chunk_files.specs.FileOf.{AreStored, IsFileOf, EncryptedFilesAreFiles}
use Rattle.chunk_files.proofs.Tests.{both-true, some-bytes}
use Rattle.chunk_files.proofs.Lawful.{IsLaidOut, laid_out}
use Rattle.chunk_files.proofs.PiecesOf.{pieces-nil, pieces-next, pieces-one, pieces-append, length-pieces, concat-pieces}

All-one : (P : List ℕ → Type 0) (x : List ℕ) → P x → All P (x ∷ [])
All-one P x h zero d within = h
All-one P x h (suc k) d within = absurd (omega arith)

All-head : (P : List ℕ → Type 0) (x : List ℕ) (xs : List (List ℕ)) → All P (x ∷ xs) → P x
All-head P x xs all = all zero [] (omega arith)

All-tail : (P : List ℕ → Type 0) (x : List ℕ) (xs : List (List ℕ)) → All P (x ∷ xs) → All P xs
All-tail P x xs all = λ k d within. all (suc k) d (omega arith)

-- the next chunk stored, under the nonce at its front
pub record IsNext (f : Format) (header : Header) (number : ℕ) (chunk stored : List ℕ) : Type 0 where
  pub size : length (take f.nonce_size stored) ≡ f.nonce_size
  pub accepted : is_refused f (take f.nonce_size stored) ≡ false
  pub is : stored ≡ f.sealed_chunk header number (take f.nonce_size stored) chunk

module _ (f : Format) where
  -- ---- one chunk more

  sealed_chunks-append : (header : Header) (number : ℕ) (drawn nonce : List ℕ) (chunks : List (List ℕ)) (chunk : List ℕ)
      → length drawn ≡ f.nonce_size * length chunks → length nonce ≡ f.nonce_size
      → sealed_chunks f header number (drawn ++ nonce) (chunks ++ (chunk ∷ []))
      ≡ sealed_chunks f header number drawn chunks ++ f.sealed_chunk header (number + length chunks) nonce chunk
  unfolding sealed_chunks
  sealed_chunks-append header number drawn nonce [] chunk many size =
      let none : drawn ≡ [] = nil_from_length drawn (omega arith) in
      let enough : nat_lt (length nonce) f.nonce_size ≡ false = le-ltb (length nonce) f.nonce_size (omega arith) in
      let all : take f.nonce_size nonce ≡ nonce = take_all f.nonce_size nonce (omega arith) in
      let same : number + 0 ≡ number = omega arith in
      rw (none, enough, all, same) (append-nil (f.sealed_chunk header number nonce chunk))
  sealed_chunks-append header number drawn nonce (c ∷ cs) chunk many size =
      let n : ℕ = f.nonce_size in
      let long : n ≤ length drawn = omega arith in
      let enough : nat_lt (length drawn) n ≡ false = le-ltb (length drawn) n long in
      let enough' : nat_lt (length (drawn ++ nonce)) n ≡ false = le-ltb (length (drawn ++ nonce)) n (omega (arith, length-append drawn nonce)) in
      let rest : length (drop n drawn) ≡ n * length cs = omega (arith, length-drop n drawn) in
      let place : number + 1 + length cs ≡ number + suc (length cs) = omega arith in
      let more = sealed_chunks-append header (number + 1) (drop n drawn) nonce cs chunk rest size in
      rw (enough, enough', take-append-le n drawn nonce long, drop-append-le n drawn nonce long, more, place)
      (sym (append_assoc (f.sealed_chunk header number (take n drawn) c) (sealed_chunks f header (number + 1) (drop n drawn) cs) (f.sealed_chunk header (number + suc (length cs)) nonce chunk)))

  header_and_chunks-append : (drawn nonce : List ℕ) (chunks : List (List ℕ)) (chunk : List ℕ)
      → length drawn ≡ f.header_draw + f.nonce_size * length chunks → length nonce ≡ f.nonce_size
      → header_and_chunks f (drawn ++ nonce) (chunks ++ (chunk ∷ []))
      ≡ header_and_chunks f drawn chunks ++ f.sealed_chunk (f.new_told (take f.header_draw drawn)) (length chunks) nonce chunk
  unfolding header_and_chunks
  header_and_chunks-append drawn nonce chunks chunk many size =
      let h : ℕ = f.header_draw in
      let long : h ≤ length drawn = omega arith in
      let enough : nat_lt (length drawn) h ≡ false = le-ltb (length drawn) h long in
      let enough' : nat_lt (length (drawn ++ nonce)) h ≡ false = le-ltb (length (drawn ++ nonce)) h (omega (arith, length-append drawn nonce)) in
      let rest : length (drop h drawn) ≡ f.nonce_size * length chunks = omega (arith, length-drop h drawn) in
      let header : Header = f.new_told (take h drawn) in
      let more = sealed_chunks-append header 0 (drop h drawn) nonce chunks chunk rest size in
      let place : 0 + length chunks ≡ length chunks = omega arith in
      rw (enough, enough', take-append-le h drawn nonce long, drop-append-le h drawn nonce long, more, place)
      (sym (append_assoc (f.new_header (take h drawn)) (sealed_chunks f header 0 (drop h drawn) chunks) (f.sealed_chunk header (length chunks) nonce chunk)))

  accepted-more : (number : ℕ) (drawn nonce : List ℕ) → 0 < f.nonce_size → length drawn ≡ f.header_draw + f.nonce_size * number → length nonce ≡ f.nonce_size
      → AreAccepted f drawn → is_refused f nonce ≡ false → AreAccepted f (drawn ++ nonce)
  accepted-more number drawn nonce some many size accepted right =
      let P : List ℕ → Type 0 = λ part. is_refused f part ≡ false in
      let h : ℕ = f.header_draw in
      let n : ℕ = f.nonce_size in
      let long : h ≤ length drawn = omega arith in
      let rest : length (drop h drawn) ≡ n * number = omega (arith, length-drop h drawn) in
      let joined : pieces n (drop h (drawn ++ nonce)) ≡ pieces n (drop h drawn) ++ (nonce ∷ []) =
      ap (pieces n) (drop-append-le h drawn nonce long) ∙ pieces-append number n (drop h drawn) nonce some rest
      ∙ ap (λ (ps : List (List ℕ)). pieces n (drop h drawn) ++ ps) (pieces-one n nonce (omega arith) (omega arith)) in
      record {
        id = ap (is_refused f) (take-append-le h drawn nonce long) ∙ accepted.id;
        nonces = subst (All P) (sym joined) (All-append P (pieces n (drop h drawn)) (nonce ∷ []) accepted.nonces (All-one P nonce right));
      }

  -- ---- more drawn bytes

  sealed-front : (header : Header) (number : ℕ) (drawn more : List ℕ) (chunks : List (List ℕ))
      → IsFrontOf (sealed_chunks f header number drawn chunks) (sealed_chunks f header number (drawn ++ more) chunks)
  unfolding sealed_chunks
  sealed-front header number drawn more [] = record { behind = []; is = refl }
  sealed-front header number drawn more (c ∷ cs) =
      let n : ℕ = f.nonce_size in
      elim (cases_lt (length drawn) n) [
        | inl less ↦ rw (lt-ltb (length drawn) n less) (record { behind = _; is = refl })
        | inr long ↦
            let enough : nat_lt (length drawn) n ≡ false = le-ltb (length drawn) n long in
            let enough' : nat_lt (length (drawn ++ more)) n ≡ false = le-ltb (length (drawn ++ more)) n (omega (arith, length-append drawn more)) in
            let rest = sealed-front header (number + 1) (drop n drawn) more cs in
            rw (enough, enough', take-append-le n drawn more long, drop-append-le n drawn more long)
            (record {
              behind = rest.behind;
              is = ap (λ (r : List ℕ). f.sealed_chunk header number (take n drawn) c ++ r) rest.is
                  ∙ sym (append_assoc (f.sealed_chunk header number (take n drawn) c) (sealed_chunks f header (number + 1) (drop n drawn) cs) rest.behind);
            })
      ]

  header-front : (drawn more : List ℕ) (chunks : List (List ℕ)) → IsFrontOf (header_and_chunks f drawn chunks) (header_and_chunks f (drawn ++ more) chunks)
  unfolding header_and_chunks
  header-front drawn more chunks =
      let h : ℕ = f.header_draw in
      elim (cases_lt (length drawn) h) [
        | inl less ↦ rw (lt-ltb (length drawn) h less) (record { behind = _; is = refl })
        | inr long ↦
            let enough : nat_lt (length drawn) h ≡ false = le-ltb (length drawn) h long in
            let enough' : nat_lt (length (drawn ++ more)) h ≡ false = le-ltb (length (drawn ++ more)) h (omega (arith, length-append drawn more)) in
            let rest = sealed-front (f.new_told (take h drawn)) 0 (drop h drawn) more chunks in
            rw (enough, enough', take-append-le h drawn more long, drop-append-le h drawn more long)
            (record {
              behind = rest.behind;
              is = ap (λ (r : List ℕ). f.new_header (take h drawn) ++ r) rest.is
                  ∙ sym (append_assoc (f.new_header (take h drawn)) (sealed_chunks f (f.new_told (take h drawn)) 0 (drop h drawn) chunks) rest.behind);
            })
      ]

  -- ---- more chunks

  sealed-longer : (header : Header) (number : ℕ) (drawn : List ℕ) (chunks others : List (List ℕ))
      → length drawn ≡ f.nonce_size * length chunks
      → IsFrontOf (sealed_chunks f header number drawn chunks) (sealed_chunks f header number drawn (chunks ++ others))
  unfolding sealed_chunks
  sealed-longer header number drawn [] others many = record { behind = _; is = refl }
  sealed-longer header number drawn (c ∷ cs) others many =
      let n : ℕ = f.nonce_size in
      let long : n ≤ length drawn = omega arith in
      let enough : nat_lt (length drawn) n ≡ false = le-ltb (length drawn) n long in
      let rest' : length (drop n drawn) ≡ n * length cs = omega (arith, length-drop n drawn) in
      let rest = sealed-longer header (number + 1) (drop n drawn) cs others rest' in
      rw enough
      (record {
        behind = rest.behind;
        is = ap (λ (r : List ℕ). f.sealed_chunk header number (take n drawn) c ++ r) rest.is
            ∙ sym (append_assoc (f.sealed_chunk header number (take n drawn) c) (sealed_chunks f header (number + 1) (drop n drawn) cs) rest.behind);
      })

  header-longer : (drawn : List ℕ) (chunks others : List (List ℕ)) → length drawn ≡ f.header_draw + f.nonce_size * length chunks
      → IsFrontOf (header_and_chunks f drawn chunks) (header_and_chunks f drawn (chunks ++ others))
  unfolding header_and_chunks
  header-longer drawn chunks others many =
      let h : ℕ = f.header_draw in
      let long : h ≤ length drawn = omega arith in
      let enough : nat_lt (length drawn) h ≡ false = le-ltb (length drawn) h long in
      let rest' : length (drop h drawn) ≡ f.nonce_size * length chunks = omega (arith, length-drop h drawn) in
      let rest = sealed-longer (f.new_told (take h drawn)) 0 (drop h drawn) chunks others rest' in
      rw enough
      (record {
        behind = rest.behind;
        is = ap (λ (r : List ℕ). f.new_header (take h drawn) ++ r) rest.is
            ∙ sym (append_assoc (f.new_header (take h drawn)) (sealed_chunks f (f.new_told (take h drawn)) 0 (drop h drawn) chunks) rest.behind);
      })

  IsFrontOf-trans : (a b c : List ℕ) → IsFrontOf a b → IsFrontOf b c → IsFrontOf a c
  IsFrontOf-trans a b c first second = record {
    behind = first.behind ++ second.behind;
    is = second.is ∙ ap (λ (x : List ℕ). x ++ second.behind) first.is ∙ append_assoc a first.behind second.behind;
  }

  encrypt-front : (none : Bool) (drawn more content : List ℕ) → has_no_bytes f content ≡ none → IsFrontOf (encrypt_by f drawn content) (encrypt_by f (drawn ++ more) content)
  unfolding encrypt_by
  encrypt-front true drawn more content is = rw is (record { behind = []; is = refl })
  encrypt-front false drawn more content is = rw is (header-front drawn more (pieces f.full_size content))

pub more_drawn_give_more : MoreDrawnGiveMore
more_drawn_give_more keys drawn more content = encrypt-front (format_of keys) (has_no_bytes (format_of keys) content) drawn more content refl

module _ (e : Encoding) where
  abbrev fe : Format
  fe = format_of e.keys

  law : IsLaidOut fe (IsHeaderOf e.keys)
  law = laid_out e.keys

  made-front : (drawn more content rest file : List ℕ) → HasMade e drawn content file → has_no_bytes fe (content ++ rest) ≡ false
      → IsFrontOf file (encrypt e.keys (drawn ++ more) (content ++ rest))
  unfolding encrypt_by
  made-front drawn more content rest file made some =
      let chunks : List (List ℕ) = pieces fe.full_size content in
      let others : List (List ℕ) = pieces fe.full_size rest in
      let count : length chunks ≡ e.number = length-pieces e.number fe.full_size content law.some_full made.full in
      let many : length drawn ≡ fe.header_draw + fe.nonce_size * length chunks = rw count made.drawn_so_far in
      let joined : pieces fe.full_size (content ++ rest) ≡ chunks ++ others = pieces-append e.number fe.full_size content rest law.some_full made.full in
      rw (some, joined, made.is)
      (IsFrontOf-trans fe _ _ _ (header-longer fe drawn chunks others many) (header-front fe drawn more (chunks ++ others)))

  -- ---- the next chunk

  pub goes-on : (chunk stored : List ℕ) → 0 < length chunk → length chunk ≤ fe.full_size → IsNext fe e.header e.number chunk stored
      → GoesOn e (record e { number = e.number + 1 }) chunk stored
  unfolding encrypt_by
  goes-on chunk stored some last next drawn content file made =
      let nonce : List ℕ = take fe.nonce_size stored in
      let chunks : List (List ℕ) = pieces fe.full_size content in
      let count : length chunks ≡ e.number = length-pieces e.number fe.full_size content law.some_full made.full in
      let joined : pieces fe.full_size (content ++ chunk) ≡ chunks ++ (chunk ∷ []) =
      pieces-append e.number fe.full_size content chunk law.some_full made.full ∙ ap (λ (ps : List (List ℕ)). chunks ++ ps) (pieces-one fe.full_size chunk some last) in
      let many : length drawn ≡ fe.header_draw + fe.nonce_size * length chunks = rw count made.drawn_so_far in
      let same : stored ≡ fe.sealed_chunk (fe.new_told (take fe.header_draw drawn)) (length chunks) nonce chunk = rw (count, ← made.header) next.is in
      let is : file ++ stored ≡ header_and_chunks fe (drawn ++ nonce) (pieces fe.full_size (content ++ chunk)) =
      ap (λ (x : List ℕ). x ++ stored) made.is
      ∙ ap (λ (x : List ℕ). header_and_chunks fe drawn chunks ++ x) same
      ∙ sym (header_and_chunks-append fe drawn nonce chunks chunk many next.size)
      ∙ ap (header_and_chunks fe (drawn ++ nonce)) (sym joined) in
      let accepted : AreAccepted fe (drawn ++ nonce) = accepted-more fe e.number drawn nonce law.some_nonce made.drawn_so_far next.size made.accepted next.accepted in
      let whole : has_no_bytes fe (content ++ chunk) ≡ false = rw (some-bytes (content ++ chunk) (omega (arith, length-append content chunk))) refl in
      let long : fe.header_draw ≤ length drawn = omega (arith, made.drawn_so_far) in
      let after : length (pieces fe.full_size (content ++ chunk)) ≡ e.number + 1 = ap length joined ∙ length-append chunks (chunk ∷ []) ∙ omega (arith, count) in
      let sum : length (drawn ++ nonce) ≡ fe.header_draw + fe.nonce_size * (e.number + 1) = omega (arith, length-append drawn nonce, made.drawn_so_far, next.size) in (
        record {
          enough = rw (whole, after) sum;
          accepted = λ none. accepted;
          is = rw whole is;
        },
        λ full. record {
          drawn_so_far = sum;
          accepted = accepted;
          header = made.header ∙ ap fe.new_told (sym (take-append-le fe.header_draw drawn nonce long));
          full = omega (arith, length-append content chunk, made.full);
          is = is;
        },
      )

pub made_is_a_front : MadeIsAFront
made_is_a_front e drawn more content rest file made some = made-front e drawn more content rest file made some

-- ---- what a file begins with

module _ (keys : Keys) where
  abbrev fk : Format
  fk = format_of keys

  -- no bytes stand for no content
  pub empty-encrypted : fk.empty_has_no_header ≡ true → IsEncrypted keys [] [] []
  unfolding encrypt_by
  empty-encrypted allowed = record {
    enough = rw allowed refl;
    accepted = λ some. (let none : true ≡ false = rw allowed at some in cc);
    is = rw allowed refl;
  }

  pub header-made : (empty : Bool) (drawn file : List ℕ) → length drawn ≡ fk.header_draw → is_refused fk drawn ≡ false → file ≡ fk.new_header drawn
      → HasMade (begun keys empty (fk.new_told drawn)) drawn [] file
  unfolding header_and_chunks sealed_chunks
  header-made empty drawn file size some is =
      let enough : nat_lt (length drawn) fk.header_draw ≡ false = le-ltb (length drawn) fk.header_draw (omega arith) in
      let all : take fk.header_draw drawn ≡ drawn = take_all fk.header_draw drawn (omega arith) in
      let rest : drop fk.header_draw drawn ≡ [] = drop_all fk.header_draw drawn (omega arith) in
      record {
        drawn_so_far = omega arith;
        accepted = record {
          id = ap (is_refused fk) all ∙ some;
          nonces = subst (All (λ nonce. is_refused fk nonce ≡ false)) (sym (ap (pieces fk.nonce_size) rest ∙ pieces-nil fk.nonce_size [] refl)) (λ k d within. absurd (omega arith));
        };
        header = ap fk.new_told (sym all);
        full = omega arith;
        is = is ∙ rw (enough, all, pieces-nil fk.full_size [] refl) (sym (append-nil (fk.new_header drawn)));
      }

  -- a file that has a header and no chunk is the file of no content
  pub header-encrypted : (empty : Bool) (drawn file : List ℕ) → fk.empty_has_no_header ≡ false → HasMade (begun keys empty (fk.new_told drawn)) drawn [] file → IsEncrypted keys drawn [] file
  unfolding encrypt_by
  header-encrypted empty drawn file header made = record {
    enough = rw (header, pieces-nil fk.full_size [] refl) made.drawn_so_far;
    accepted = λ some. made.accepted;
    is = rw header made.is;
  }

  -- ---- what is encrypted is a file of its content

  chunks-stored : (most : ℕ) (header : Header) (number : ℕ) (drawn content : List ℕ) → length content ≤ most
      → length drawn ≡ fk.nonce_size * length (pieces fk.full_size content) → All (λ nonce. is_refused fk nonce ≡ false) (pieces fk.nonce_size drawn)
      → AreStored fk header number (sealed_chunks fk header number drawn (pieces fk.full_size content)) (pieces fk.full_size content)
  unfolding sealed_chunks
  chunks-stored most header number drawn [] within many accepted = rw (pieces-nil fk.full_size [] refl) refl
  chunks-stored zero header number drawn (x ∷ xs) within many accepted = absurd (omega arith)
  chunks-stored (suc most) header number drawn (x ∷ xs) within many accepted =
      let law : IsLaidOut fk (IsHeaderOf keys) = laid_out keys in
      let P : List ℕ → Type 0 = λ nonce. is_refused fk nonce ≡ false in
      let content : List ℕ = x ∷ xs in
      let n : ℕ = fk.nonce_size in
      let m : ℕ = fk.full_size in
      let chunk : List ℕ = take m content in
      let rest : List ℕ = drop m content in
      let next : pieces m content ≡ chunk ∷ pieces m rest = pieces-next m content law.some_full (omega arith) in
      let many' : length drawn ≡ n * suc (length (pieces m rest)) = many ∙ ap (λ (ps : List (List ℕ)). n * length ps) next in
      let long : n ≤ length drawn = omega arith in
      let enough : nat_lt (length drawn) n ≡ false = le-ltb (length drawn) n long in
      let first : pieces n drawn ≡ take n drawn ∷ pieces n (drop n drawn) = pieces-next n drawn law.some_nonce (omega (arith, law.some_nonce)) in
      let parts : All P (take n drawn ∷ pieces n (drop n drawn)) = subst (All P) first accepted in
      let shorter : length rest ≤ most = omega (arith, length-drop m content, law.some_full) in
      let behind : List ℕ = sealed_chunks fk header (number + 1) (drop n drawn) (pieces m rest) in
      let stored = chunks-stored most header (number + 1) (drop n drawn) rest shorter (omega (arith, length-drop n drawn)) (All-tail P (take n drawn) (pieces n (drop n drawn)) parts) in
      rw (next, enough) (
        full-or-last content law.some_full,
        (
          behind,
          record {
            stored = fk.sealed_chunk header number (take n drawn) chunk;
            parts = refl;
            of = inr (record {
              nonce = take n drawn;
              size = length-take-le n drawn long;
              accepted = All-head P (take n drawn) (pieces n (drop n drawn)) parts;
              is = refl;
            });
          },
          stored,
        ),
      )
    where
      full-or-last : (bytes : List ℕ) → 0 < fk.full_size → (length (take fk.full_size bytes) ≡ fk.full_size) ⊎ ((length (take fk.full_size bytes) ≤ fk.full_size) × (pieces fk.full_size (drop fk.full_size bytes) ≡ []))
      full-or-last bytes some = elim (cases_lt (length bytes) fk.full_size) [
        | inr long ↦ inl (omega (arith, length-take fk.full_size bytes))
        | inl less ↦ inr (omega (arith, length-take fk.full_size bytes), pieces-nil fk.full_size (drop fk.full_size bytes) (omega (arith, length-drop fk.full_size bytes)))
      ]

  file-of : (none : Bool) (drawn content file : List ℕ) → has_no_bytes fk content ≡ none → IsEncrypted keys drawn content file → IsFileOf keys file content
  unfolding encrypt_by header_and_chunks
  file-of true drawn content file is made =
      let both = both-true (length content == 0) fk.empty_has_no_header is in
      inl (record {
        allowed = both.1;
        stored = made.is ∙ rw is refl;
        plain = nil_from_length content (eqb-true (length content) 0 both.0);
      })
  file-of false drawn content file is made =
      let law : IsLaidOut fk (IsHeaderOf keys) = laid_out keys in
      let h : ℕ = fk.header_draw in
      let chunks : List (List ℕ) = pieces fk.full_size content in
      let many : length drawn ≡ h + fk.nonce_size * length chunks = made.enough ∙ rw is refl in
      let enough : nat_lt (length drawn) h ≡ false = le-ltb (length drawn) h (omega arith) in
      let accepted : AreAccepted fk drawn = made.accepted is in
      let header : Header = fk.new_told (take h drawn) in
      inr (record {
        header = header;
        head = fk.new_header (take h drawn);
        is_header = law.new_head (take h drawn) (length-take-le h drawn (omega arith)) accepted.id;
        behind = sealed_chunks fk header 0 (drop h drawn) chunks;
        parts = made.is ∙ rw (is, enough) refl;
        chunks = chunks;
        of = chunks-stored (length content) header 0 (drop h drawn) content (omega arith) (omega (arith, length-drop h drawn)) accepted.nonces;
        joined = sym (concat-pieces fk.full_size content law.some_full);
      })

pub encrypted_files_are_files : EncryptedFilesAreFiles
encrypted_files_are_files keys drawn content file made = file-of keys (has_no_bytes (format_of keys) content) drawn content file refl made
