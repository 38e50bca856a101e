-- A header and chunks are stored in a staged file: what each exit says.
use Rattle.std.proofs.Common.{◌≡◌, ◌≢◌, ℕ, ◌+◌, ◌<◌, ◌≤◌, ◌==◌, ◌&&◌, not, Bool, true, false, List, [], ◌∷◌, ◌++◌, length, take, replicate, Option, Result, Ok, Err, refl, sym, ap, ◌∙◌, subst, inl, inr, append_assoc, length-append, arith}
use Rattle.std.specs.List.{sum}
use Rattle.std.proofs.lemmas.Bool.{false_from_ne_true}
use Rattle.std.proofs.lemmas.List.{append-nil, length-take, nil_from_length, take-take}
use Rattle.std.proofs.Math.Nat.{min-le_left}
use Rattle.std.proofs.Math.Dec.{eqb-suc-zero}
use Rattle.port_model.specs.Draws.{ByteStream, Draws}
use Rattle.chunk_files.specs.declared.fault.EncodeFault.{EncodeFault}
use Rattle.chunk_files.specs.declared.fault.EncodeFault.TheVariants as encodes
use Rattle.chunk_files.specs.DrawFaults.{DrawFails}
use Rattle.chunk_files.specs.Encoding.{Encoding, HasMade, HasBegun, GoesOn, MadeIsAFront, begins_bare, begun, one_chunk_later}
use Rattle.chunk_files.specs.Encrypt.{AreAccepted, IsEncrypted, encrypt, has_no_bytes}
use Rattle.chunk_files.specs.Keys.{Keys, format_of}
use Rattle.chunk_files.proofs.LayoutSizes.{sizes_fit}
use Rattle.folder_spec.specs.declared.FolderFault.{FolderFault}
use Rattle.folder_spec.specs.declared.FolderFault.TheVariants as folder
use Rattle.folder_spec.specs.Path.{Path}
use Rattle.folder_spec.specs.Event.{Told}
use Rattle.folder_spec.specs.Written.{IsFrontOfOne}
use Rattle.folder_spec.specs.View.{FileOf}
use Rattle.folder_spec.specs.Seen.{IfSeen, ShowsFile}
use Rattle.folder_spec.proofs.Stages.{one_file}
use Rattle.folder_spec.proofs.Written.{shorter_front}
use Rattle.folder_staging.specs.Pieces.{IsWriting, Begins, Adds}
use Rattle.item_making.specs.Faults.{of_folder, of_encoding}
use Rattle.content_writing.specs.Streaming.{FailsToStore, IsMadeFor, StagesFront, IsNextChunk, FrontBy, MakesFront, BeginsContent, GoesOnWith, StoresChunk, WereAccepted}
use Rattle.item_making.specs.declared.fault.PutFault.{PutFault}
use Rattle.item_making.specs.declared.fault.PutFault.TheVariants as puts
use Rattle.content_writing.proofs.Drawing.{has_bytes, none_accepted, nonce_sealed, some_full, zeros_drawn, header_enough, none_in_front, whole_made, front_made, next_made, next_goes_on}
use Rattle.content_writing.proofs.Sixteens.{whole_drawn, zeros_behind}
use Rattle.content_writing.proofs.Standing.{staged_stages, stages_none}

pub folder_fails : (keys : Keys) (drawn : List ℕ) (fault : FolderFault) → FailsToStore keys drawn (of_folder fault)
folder_fails keys drawn folder.Failed = tt
folder_fails keys drawn folder.Refused = tt
folder_fails keys drawn folder.NoMemory = tt

abbrev failed : PutFault → Result (Unit {0}) PutFault
failed fault = Err fault

abbrev undrawn : EncodeFault → Result (Unit {0}) EncodeFault
undrawn fault = Err fault

zeros_alike : (fault : EncodeFault) → failed (of_encoding fault) ≢ failed puts.ZeroRandom → undrawn fault ≢ undrawn encodes.ZeroRandom
zeros_alike encodes.Random not same = cc same
zeros_alike encodes.ZeroRandom not same = not refl

pub no_bytes : (xs : List ℕ) → (length xs == 0) ≡ true → length xs ≡ 0
no_bytes [] is = refl
no_bytes (x ∷ xs) is = absurd (let clash : false ≡ true = sym (eqb-suc-zero (length xs)) ∙ is in cc)

pub some_bytes : (xs : List ℕ) → (length xs == 0) ≡ false → 0 < length xs
some_bytes [] is = absurd (let clash : true ≡ false = is in cc)
some_bytes (x ∷ xs) is = omega arith

-- ---- a chunk that is sealed

abbrev pub SealsBy : Encoding → Encoding → List ℕ → List ℕ → List ℕ → Result (Unit {0}) EncodeFault → Type 0
SealsBy e e' chunk drawn piece (Ok _) = GoesOnWith e e' chunk drawn piece
SealsBy e e' chunk drawn piece (Err fault) = (drawn0 content file : List ℕ) → HasMade e drawn0 content file → FailsToStore e.keys (drawn0 ++ drawn) (of_encoding fault)

-- the next chunk was sealed; or nothing was drawn that serves, and the piece is none
pub record Seals (e e' : Encoding) (chunk piece : List ℕ) (stream stream' : Option ByteStream) (result : Result (Unit {0}) EncodeFault) : Type 0 where
  pub drawn : List ℕ
  pub were_drawn : Draws stream stream' drawn
  pub fits : (drawn0 content file rest : List ℕ) → HasMade e drawn0 content file → IsNextChunk e.keys chunk rest
      → IsMadeFor e.keys (drawn0 ++ drawn) ((content ++ chunk) ++ rest) (file ++ piece)
  pub accepted : (drawn0 content file : List ℕ) → HasMade e drawn0 content file → result ≢ Err encodes.ZeroRandom → AreAccepted (format_of e.keys) (drawn0 ++ drawn)
  pub ends : SealsBy e e' chunk drawn piece result

module _ (law : MadeIsAFront) (e e' : Encoding) (chunk : List ℕ) (stream stream' : Option ByteStream) (some : 0 < length chunk) where
  unsealed : (extra : List ℕ) (fault : EncodeFault) → Draws stream stream' extra → length extra ≤ (format_of e.keys).nonce_size
      → (undrawn fault ≢ undrawn encodes.ZeroRandom → extra ≡ []) → SealsBy e e' chunk extra [] (undrawn fault) → Seals e e' chunk [] stream stream' (undrawn fault)
  unsealed extra fault drew few zeros fails = record {
    drawn = extra;
    were_drawn = drew;
    fits = λ drawn content file rest made next.
        subst (λ (f : List ℕ). IsMadeFor e.keys (drawn ++ extra) ((content ++ chunk) ++ rest) f) (sym (append-nil file))
        (subst (λ (c : List ℕ). IsMadeFor e.keys (drawn ++ extra) c file) (sym (append_assoc content chunk rest))
        (front_made law e drawn content file made extra (chunk ++ rest) few (omega (arith, length-append chunk rest, some))));
    accepted = λ drawn content file made not.
        subst (λ (d : List ℕ). AreAccepted (format_of e.keys) d) (sym (ap (λ (x : List ℕ). drawn ++ x) (zeros not) ∙ append-nil drawn)) made.accepted;
    ends = fails;
  }

  pub seal_undrawn : (n n' : ℕ) (fault : EncodeFault) → DrawFails (format_of e.keys) ((format_of e.keys).nonce_size ∷ []) stream stream' n n' fault → Seals e e' chunk [] stream stream' (Err fault)
  seal_undrawn n n' encodes.Random h =
      let first : h.1.made ≡ 0 = omega (arith, h.1.not_all) in
      let none : length h.1.drawn ≡ 0 = h.1.size ∙ ap (λ (made : ℕ). sum (take made ((format_of e.keys).nonce_size ∷ []))) first in
      unsealed h.1.drawn encodes.Random h.1.were_drawn (omega (arith, none)) (λ not. nil_from_length h.1.drawn none) (λ drawn content file made. tt)
  seal_undrawn n n' encodes.ZeroRandom h =
      unsealed (replicate 16 0) encodes.ZeroRandom h.1 (zeros_drawn e.keys h.0).0 (λ not. absurd (not refl))
      (λ drawn content file made. zeros_behind e.keys drawn h.0 (whole_drawn e e.keys drawn content file refl made h.0))

  pub sealed : (size : ℕ) (out : List ℕ) → GoesOn e e' chunk (take size out) → e' ≡ one_chunk_later e → size ≡ (format_of e.keys).seal_size + length chunk
      → Draws stream stream' (take (format_of e.keys).nonce_size out) → Seals e e' chunk (take size out) stream stream' (Ok tt)
  sealed size out goes_on next all drew =
      let nonce : ℕ = (format_of e.keys).nonce_size in
      let front : take nonce (take size out) ≡ take nonce out = take-take nonce size out (omega (arith, all, nonce_sealed e.keys)) in
      let few : length (take nonce (take size out)) ≤ nonce = omega (arith, length-take nonce (take size out), min-le_left nonce (length (take size out))) in
      record {
        drawn = take nonce (take size out);
        were_drawn = subst (λ (b : List ℕ). Draws stream stream' b) (sym front) drew;
        fits = λ drawn content file rest made how. next_made law e e' chunk (take size out) goes_on next some drawn content file rest made few how;
        accepted = λ drawn content file made not.
            (goes_on drawn content file made).0.accepted (has_bytes (format_of e.keys) (content ++ chunk) (omega (arith, length-append content chunk, some)));
        ends = next_goes_on law e e' chunk (take size out) goes_on next some;
      }

-- ---- the header, and behind it the first chunk

-- a header was made, or none
pub record IsHeaded (keys : Keys) (empty : Bool) (stream stream' : Option ByteStream) (made : List ℕ) (e : Encoding) : Type 0 where
  pub drawn : List ℕ
  pub were_drawn : Draws stream stream' drawn
  pub accepted : WereAccepted keys drawn
  pub same_keys : e.keys ≡ keys
  pub first : e.number ≡ 0
  pub is_open : empty ≡ false → e.is_open ≡ true
  pub whole : empty ≡ true → IsEncrypted keys drawn [] made
  pub goes_on : empty ≡ false → HasMade e drawn [] made

-- whether a content's file has no header, by its first chunk
bare_alike : (keys : Keys) (chunk rest : List ℕ) → IsNextChunk keys chunk rest → has_no_bytes (format_of keys) (chunk ++ rest) ≡ begins_bare keys (length chunk == 0)
bare_alike keys [] rest (inl full) = absurd (omega (arith, full, some_full keys))
bare_alike keys [] rest (inr none) = ap (λ (xs : List ℕ). has_no_bytes (format_of keys) xs) none
bare_alike keys (x ∷ xs) rest next =
    ap (λ (b : Bool). b && (format_of keys).empty_has_no_header) (eqb-suc-zero (length (xs ++ rest)) ∙ sym (eqb-suc-zero (length xs)))

module _ (keys : Keys) (chunk : List ℕ) (stream stream' : Option ByteStream) where
  -- nothing was drawn that serves
  front_none : (e : Encoding) (drawn : List ℕ) (fault : EncodeFault) → (begins_bare keys (length chunk == 0) ≡ true → ⊥) → Draws stream stream' drawn → length drawn ≤ (format_of keys).header_draw
      → (undrawn fault ≢ undrawn encodes.ZeroRandom → WereAccepted keys drawn) → FailsToStore keys drawn (of_encoding fault)
      → MakesFront keys chunk stream stream' e [] (Err fault)
  front_none e drawn fault bare drew few accepted fails = record {
    drawn = drawn;
    were_drawn = drew;
    fits = λ rest next. record {
      enough = header_enough (format_of keys) drawn (chunk ++ rest) (bare_alike keys chunk rest next ∙ false_from_ne_true (begins_bare keys (length chunk == 0)) bare) few;
      front = none_in_front (encrypt keys drawn (chunk ++ rest));
    };
    accepted = accepted;
    ends = fails;
  }

  pub front_undrawn : (e : Encoding) (n n' : ℕ) (fault : EncodeFault) → (begins_bare keys (length chunk == 0) ≡ true → ⊥)
      → DrawFails (format_of keys) (format_of keys).header_draws stream stream' n n' fault → MakesFront keys chunk stream stream' e [] (Err fault)
  front_undrawn e n n' encodes.Random bare h =
      let few : length h.1.drawn < (format_of keys).header_draw = omega (arith, h.1.size, (sizes_fit keys).drawn_by_some h.1.made h.1.not_all) in
      front_none e h.1.drawn encodes.Random bare h.1.were_drawn (omega (arith, few)) (λ not long. absurd (omega (arith, few, long))) tt
  front_undrawn e n n' encodes.ZeroRandom bare h =
      front_none e (replicate 16 0) encodes.ZeroRandom bare h.1 (zeros_drawn keys h.0).1 (λ not. absurd (not refl)) (zeros_behind keys [] h.0 (0, refl))

  -- of a content without bytes
  pub front_bare : (made : List ℕ) (e : Encoding) → length chunk ≡ 0 → IsHeaded keys true stream stream' made e → MakesFront keys chunk stream stream' e made (Ok tt)
  front_bare made e empty h =
      let none : [] ≡ chunk = sym (nil_from_length chunk empty) in
      let whole : IsEncrypted keys h.drawn chunk made = subst (λ (c : List ℕ). IsEncrypted keys h.drawn c made) none (h.whole refl) in
      let short : length chunk ≡ (format_of keys).full_size → ⊥ = λ full. omega (arith, full, empty, some_full keys) in
      record {
        drawn = h.drawn;
        were_drawn = h.were_drawn;
        fits = λ rest next. elim next [
          | inl full ↦ absurd (short full)
          | inr last ↦ subst (λ (c : List ℕ). IsMadeFor keys h.drawn c made) (sym (append-nil chunk) ∙ ap (λ (r : List ℕ). chunk ++ r) (sym last)) (whole_made keys h.drawn chunk made whole)
        ];
        accepted = λ not. h.accepted;
        ends = record {
          same_keys = h.same_keys;
          few = omega (arith, h.first);
          is_open = λ some. absurd (omega (arith, empty, some));
          whole = whole;
          goes_on = λ full. absurd (short full);
        };
      }

front_by : (keys : Keys) (chunk header piece : List ℕ) (stream stream1 : Option ByteStream) (e e' : Encoding) (result : Result (Unit {0}) EncodeFault) (h : IsHeaded keys false stream stream1 header e) (drawn : List ℕ)
    → 0 < length chunk → e'.number ≤ e.number + 1 → SealsBy e e' chunk drawn piece result → FrontBy keys chunk (h.drawn ++ drawn) (header ++ piece) e' result
front_by keys chunk header piece stream stream1 e e' (Ok done) h drawn some later ends = record {
  same_keys = ends.same_keys ∙ h.same_keys;
  few = omega (arith, later, h.first, some);
  is_open = λ _. ends.is_open ∙ h.is_open refl;
  whole = subst (λ (k : Keys). IsEncrypted k (h.drawn ++ drawn) chunk (header ++ piece)) h.same_keys (ends.whole h.drawn [] header (h.goes_on refl));
  goes_on = λ full. ends.goes_on h.drawn [] header (h.goes_on refl) (full ∙ ap (λ (k : Keys). (format_of k).full_size) (sym h.same_keys));
}
front_by keys chunk header piece stream stream1 e e' (Err fault) h drawn some later ends =
    subst (λ (k : Keys). FailsToStore k (h.drawn ++ drawn) (of_encoding fault)) h.same_keys (ends h.drawn [] header (h.goes_on refl))

-- of a content with bytes
pub front_sealed : (keys : Keys) (chunk header piece : List ℕ) (stream stream1 stream' : Option ByteStream) (e e' : Encoding) (result : Result (Unit {0}) EncodeFault)
    → ((first second third : Option ByteStream) (xs ys : List ℕ) → Draws first second xs → Draws second third ys → Draws first third (xs ++ ys))
    → 0 < length chunk → e'.number ≤ e.number + 1 → IsHeaded keys false stream stream1 header e → Seals e e' chunk piece stream1 stream' result
    → MakesFront keys chunk stream stream' e' (header ++ piece) result
front_sealed keys chunk header piece stream stream1 stream' e e' result compose some later h s = record {
  drawn = h.drawn ++ s.drawn;
  were_drawn = compose stream stream1 stream' h.drawn s.drawn h.were_drawn s.were_drawn;
  fits = λ rest next.
      subst (λ (k : Keys). IsMadeFor k (h.drawn ++ s.drawn) (chunk ++ rest) (header ++ piece)) h.same_keys
      (s.fits h.drawn [] header rest (h.goes_on refl) (subst (λ (k : Keys). IsNextChunk k chunk rest) (sym h.same_keys) next));
  accepted = λ not long. subst (λ (k : Keys). AreAccepted (format_of k) (h.drawn ++ s.drawn)) h.same_keys (s.accepted h.drawn [] header (h.goes_on refl) not);
  ends = front_by keys chunk header piece stream stream1 e e' result h s.drawn some later s.ends;
}

pub headed : (keys : Keys) (empty : Bool) (stream stream' : Option ByteStream) → (none : (s : Option ByteStream) → Draws s s []) (made : List ℕ) (e : Encoding) → e ≡ begun keys empty e.header
    → (begins_bare keys empty ≡ true → stream' ≡ stream) → (begins_bare keys empty ≡ true → IsEncrypted keys [] [] made)
    → (begins_bare keys empty ≡ false → HasBegun keys stream stream' e made) → IsHeaded keys empty stream stream' made e
headed keys empty stream stream' none made e first undrawn bare header = by_test (begins_bare keys empty) refl
  where
    empty_of : (b : Bool) → begins_bare keys b ≡ true → b ≡ true
    empty_of true h = refl
    empty_of false h = cc

    headerless : (b : Bool) → b ≡ true → begins_bare keys b ≡ false → (format_of keys).empty_has_no_header ≡ false
    headerless true is h = h
    headerless false is h = cc

    same : e.keys ≡ keys
    same = ap (λ (x : Encoding). x.keys) first

    opened : empty ≡ false → e.is_open ≡ true
    opened some = ap (λ (x : Encoding). x.is_open) first ∙ ap not some

    number : e.number ≡ 0
    number = ap (λ (x : Encoding). x.number) first

    by_test : (b : Bool) → begins_bare keys empty ≡ b → IsHeaded keys empty stream stream' made e
    by_test true is = record {
      drawn = [];
      were_drawn = subst (λ (s : Option ByteStream). Draws stream s []) (sym (undrawn is)) (none stream);
      accepted = none_accepted keys;
      same_keys = same;
      first = number;
      is_open = opened;
      whole = λ _. bare is;
      goes_on = λ some. absurd (let clash : false ≡ true = sym some ∙ empty_of empty is in cc);
    }
    by_test false is =
        let h : HasBegun keys stream stream' e made = header is in
        record {
          drawn = h.drawn;
          were_drawn = h.were_drawn;
          accepted = λ long. subst (λ (k : Keys). AreAccepted (format_of k) h.drawn) same h.made.accepted;
          same_keys = same;
          first = number;
          is_open = opened;
          whole = λ none_. h.whole (headerless empty none_ is);
          goes_on = λ _. h.made;
        }

-- ---- beginning

module _ (keys : Keys) (chunk : List ℕ) (at : Path) (stream stream' : Option ByteStream) (e : Encoding) (made : List ℕ) where
  -- its front was not made
  pub begin_unmade : (told : Option Told) (fault : EncodeFault) → MakesFront keys chunk stream stream' e made (Err fault) → BeginsContent keys chunk at stream stream' told told e (Err (of_encoding fault))
  begin_unmade told fault h = record {
    drawn = h.drawn;
    made = made;
    were_drawn = h.were_drawn;
    fits = h.fits;
    accepted = λ not. h.accepted (zeros_alike fault not);
    stages = stages_none at made told told refl;
    ends = h.ends;
  }

  module _ (h : MakesFront keys chunk stream stream' e made (Ok tt)) where
    accepted : WereAccepted keys h.drawn
    accepted = h.accepted (λ same. cc same)

    -- no file was begun
    pub begin_unbegun : (told told' : Option Told) (fault : FolderFault) → Begins at told told' (Err fault) → BeginsContent keys chunk at stream stream' told told' e (Err (of_folder fault))
    begin_unbegun told told' fault begins = record {
      drawn = h.drawn;
      made = made;
      were_drawn = h.were_drawn;
      fits = h.fits;
      accepted = λ not. accepted;
      stages = λ files front. (begins files (shorter_front files [] made front)).0;
      ends = folder_fails keys h.drawn fault;
    }

    module _ (told0 told told' : Option Told) (begins : Begins at told0 told (Ok tt)) where
      writing : (files : List (List ℕ)) → IsFrontOfOne files made → IsWriting files at [] told0 told
      writing files front = (begins files (shorter_front files [] made front)).1

      -- the front was not added
      pub begin_unadded : (fault : FolderFault) → Adds at made told told' (Err fault) → BeginsContent keys chunk at stream stream' told0 told' e (Err (of_folder fault))
      begin_unadded fault adds = record {
        drawn = h.drawn;
        made = made;
        were_drawn = h.were_drawn;
        fits = h.fits;
        accepted = λ not. accepted;
        stages = λ files front. (adds told0 files [] front (writing files front)).0;
        ends = folder_fails keys h.drawn fault;
      }

      pub begins_added : (done : Unit {0}) → Adds at made told told' (Ok done) → BeginsContent keys chunk at stream stream' told0 told' e (Ok done)
      begins_added done adds = record {
        drawn = h.drawn;
        made = made;
        were_drawn = h.were_drawn;
        fits = h.fits;
        accepted = λ not. accepted;
        stages = λ files front. (adds told0 files [] front (writing files front)).0;
        ends = (h.ends, λ files front. (adds told0 files [] front (writing files front)).1);
      }

-- a file that was begun is seen
pub begun_seen : (at : Path) (told told' : Option Told)
    → ((files : List (List ℕ)) (at : Path) (bytes : List ℕ) (before now : Option Told) → IsWriting files at bytes before now → IfSeen now (λ v. v at ≡ FileOf bytes))
    → Begins at told told' (Ok tt) → IfSeen told' (λ v. ShowsFile v at)
begun_seen at told told' law begins v is = ([], law ([] ∷ []) at [] told told' (begins ([] ∷ []) (one_file [])).1 v is)

-- ---- chunks

module _ (e e' : Encoding) (chunk : List ℕ) (at : Path) (stream stream' : Option ByteStream) where
  -- the chunk was not sealed
  pub store_unsealed : (told : Option Told) (fault : EncodeFault) → Seals e e' chunk [] stream stream' (Err fault) → StoresChunk e e' chunk at stream stream' told told (Err (of_encoding fault))
  store_unsealed told fault s = record {
    drawn = s.drawn;
    piece = [];
    were_drawn = s.were_drawn;
    fits = s.fits;
    accepted = λ drawn content file made not. s.accepted drawn content file made (zeros_alike fault not);
    stages = λ before made staged.
        subst (λ (m : List ℕ). StagesFront at m before told) (sym (append-nil made)) (staged_stages at made before told staged);
    staged = tt;
    ends = s.ends;
  }

  module _ (stored : List ℕ) (s : Seals e e' chunk stored stream stream' (Ok tt)) (told told' : Option Told) where
    were_accepted : (drawn content file : List ℕ) → HasMade e drawn content file → AreAccepted (format_of e.keys) (drawn ++ s.drawn)
    were_accepted drawn content file made = s.accepted drawn content file made (λ same. cc same)

    pub store_unadded : (fault : FolderFault) → Adds at stored told told' (Err fault) → StoresChunk e e' chunk at stream stream' told told' (Err (of_folder fault))
    store_unadded fault adds = record {
      drawn = s.drawn;
      piece = stored;
      were_drawn = s.were_drawn;
      fits = s.fits;
      accepted = λ drawn content file made not. were_accepted drawn content file made;
      stages = λ before made staged files front. (adds before files made front (staged files (shorter_front files made stored front))).0;
      staged = tt;
      ends = λ drawn content file made. folder_fails e.keys (drawn ++ s.drawn) fault;
    }

    pub stores_added : (done : Unit {0}) → Adds at stored told told' (Ok done) → StoresChunk e e' chunk at stream stream' told told' (Ok done)
    stores_added done adds = record {
      drawn = s.drawn;
      piece = stored;
      were_drawn = s.were_drawn;
      fits = s.fits;
      accepted = λ drawn content file made not. were_accepted drawn content file made;
      stages = λ before made staged files front. (adds before files made front (staged files (shorter_front files made stored front))).0;
      staged = λ before made staged files front. (adds before files made front (staged files (shorter_front files made stored front))).1;
      ends = s.ends;
    }
