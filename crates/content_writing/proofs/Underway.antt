-- How far the writing of a content has come, from call to call, and what each exit says.
use Rattle.std.proofs.Common.{◌≡◌, ◌⊎◌, ℕ, zero, suc, ◌<◌, ◌≤◌, List, [], ◌∷◌, ◌++◌, length, Option, Result, Ok, Err, refl, sym, ap, ◌∙◌, subst, inl, inr, append_assoc, arith}
use Rattle.std.proofs.lemmas.List.{append-nil, nil_from_length}
use Rattle.port_model.specs.Draws.{ByteStream, Draws}
use Rattle.chunk_files.specs.Encoding.{Encoding}
use Rattle.chunk_files.specs.Encrypt.{AreAccepted, IsEncrypted, encrypt}
use Rattle.chunk_files.specs.Keys.{Keys, format_of}
use Rattle.folder_spec.specs.declared.FolderFault.{FolderFault}
use Rattle.folder_spec.specs.Path.{Path}
use Rattle.folder_spec.specs.State.{present}
use Rattle.folder_spec.specs.Event.{Told, FromTo}
use Rattle.folder_spec.specs.Replace.{IsNewFile}
use Rattle.folder_spec.specs.View.{FileOf}
use Rattle.folder_spec.specs.Seen.{IfSeen, ShowsFile}
use Rattle.folder_spec.proofs.Stages.{one_file}
use Rattle.folder_staging.specs.Pieces.{IsWriting, Finishes}
use Rattle.item_making.specs.Ending.{Whole}
use Rattle.content_writing.specs.Content.{Coming, Gave, HasEnded}
use Rattle.item_making.specs.Faults.{of_folder}
use Rattle.content_writing.specs.Streaming.{Gathers, FailsToStore, IsMadeFor, StagesFront, IsStaged, BeginsContent, IsNextChunk, StoresChunk, Start, IsUnderway}
use Rattle.content_writing.specs.Writing.{WritesContent}
use Rattle.item_making.specs.declared.fault.PutFault.{PutFault}
use Rattle.content_writing.proofs.Comings.{gave_none, gave_more, ended_on, all_of, rest_of, rest_none, all_is, ending_is}
use Rattle.content_writing.proofs.Drawing.{none_accepted, encrypted_accepted, none_in_front, some_full}
use Rattle.content_writing.proofs.Standing.{stages_none, staged_stages}
use Rattle.content_writing.proofs.Exits.{ending_by, ends_as, ends_storing, ends_folder, ends_gathering}

short_or_full : (n m : ℕ) → n ≤ m → (n < m) ⊎ (n ≡ m)
short_or_full zero zero within = inr refl
short_or_full zero (suc m) within = inl (omega arith)
short_or_full (suc n) zero within = absurd (omega arith)
short_or_full (suc n) (suc m) within = elim (short_or_full n m (omega (arith, within))) [
  | inl short ↦ inl (omega (arith, short))
  | inr same ↦ inr (ap suc same)
]

none_or_some : (n : ℕ) → (n ≡ 0) ⊎ (0 < n)
none_or_some zero = inl refl
none_or_some (suc n) = inr (omega arith)

none_at_first : (keys : Keys) (content : List ℕ) → IsMadeFor keys [] content []
none_at_first keys content = record { enough = omega arith; front = none_in_front (encrypt keys [] content) }

module _ (w : Start) where
  abbrev full : ℕ
  full = (format_of w.keys).full_size

  -- ---- the first chunk, and the header

  pub first_fails : (gathered : List ℕ) (left : Option Coming) (told : Option Told) (fault : PutFault) → Draws w.stream w.stream [] → told ≡ w.told
      → Gathers full gathered w.coming left (Err fault) → WritesContent w.keys w.at w.coming left w.stream w.stream w.told told (Err fault)
  first_fails gathered left told fault draws same h =
      ends_as w gathered left h.gave (ending_by fault) [] [] w.stream told (Err fault) draws (none_at_first w.keys (gathered ++ rest_of w.coming left))
      (stages_none w.at [] w.told told same) (λ not. none_accepted w.keys)
      (ends_gathering w.keys w.at [] w.coming left w.told told full [] gathered gathered w.coming fault (gave_none w.coming) h.gave h.ends)

  next_chunk : (chunk rest : List ℕ) → length chunk ≤ full → (length chunk < full → rest ≡ []) → IsNextChunk w.keys chunk rest
  next_chunk chunk rest size last = elim (short_or_full (length chunk) full size) [ inl short ↦ inr (last short) | inr same ↦ inl same ]

  module _ (gathered : List ℕ) (left : Option Coming) (told0 told : Option Told) (stream : Option ByteStream) (size : length gathered ≤ full) (same : told0 ≡ w.told)
      (h : Gathers full gathered w.coming left (Ok tt)) where
    pub begin_fails : (e : Encoding) (fault : PutFault) → BeginsContent w.keys gathered w.at w.stream stream told0 told e (Err fault)
        → WritesContent w.keys w.at w.coming left w.stream stream w.told told (Err fault)
    begin_fails e fault b =
        ends_as w gathered left h.gave Whole b.drawn b.made stream told (Err fault) b.were_drawn
        (b.fits (rest_of w.coming left) (next_chunk gathered (rest_of w.coming left) size (λ short. rest_none Whole w.coming left (h.ends short))))
        (subst (λ (t : Option Told). StagesFront w.at b.made t told) same b.stages) (λ not. b.accepted not)
        (ends_storing w.keys w.at b.drawn (all_of gathered Whole w.coming).bytes (all_of gathered Whole w.coming).ending w.coming left w.told told fault b.ends)

    pub has_begun : (e : Encoding) → BeginsContent w.keys gathered w.at w.stream stream told0 told e (Ok tt) → IsUnderway w e gathered told stream left
    has_begun e b = record {
      drawn = b.drawn;
      content = gathered;
      made = b.made;
      same_keys = b.ends.0.same_keys;
      were_drawn = b.were_drawn;
      gave = h.gave;
      fits = b.fits;
      staged = subst (λ (t : Option Told). IsStaged w.at b.made t told) same b.ends.1;
      whole = b.ends.0.whole;
      goes_on = b.ends.0.goes_on;
      is_open = λ all. b.ends.0.is_open (omega (arith, all, some_full w.keys));
      size = size;
      last = h.ends;
    }

  -- ---- the next chunk, behind a full one

  module _ (e : Encoding) (chunk : List ℕ) (told0 : Option Told) (stream0 : Option ByteStream) (left : Option Coming) (i : IsUnderway w e chunk told0 stream0 left)
      (all : length chunk ≡ full) (more : List ℕ) (left' : Option Coming) (told' : Option Told) (same : told' ≡ told0) where
    abbrev given : List ℕ
    given = i.content ++ more

    staged_now : IsStaged w.at i.made w.told told'
    staged_now = subst (λ (t : Option Told). IsStaged w.at i.made w.told t) (sym same) i.staged

    pub next_fails : (fault : PutFault) → Gathers full more left left' (Err fault) → WritesContent w.keys w.at w.coming left' w.stream stream0 w.told told' (Err fault)
    next_fails fault h =
        let gave : Gave given w.coming left' = gave_more i.content more w.coming left left' i.gave h.gave in
        let rest : List ℕ = rest_of w.coming left' in
        let fits : IsMadeFor w.keys i.drawn (given ++ rest) i.made =
        subst (λ (c : List ℕ). IsMadeFor w.keys i.drawn c i.made) (sym (append_assoc i.content more rest)) (i.fits (more ++ rest) (inl all)) in
        ends_as w given left' gave (ending_by fault) i.drawn i.made stream0 told' (Err fault) i.were_drawn fits
        (staged_stages w.at i.made w.told told' staged_now)
        (λ not. encrypted_accepted w.keys i.drawn i.content i.made i.whole)
        (ends_gathering w.keys w.at i.drawn w.coming left' w.told told' full i.content more given left fault i.gave gave h.ends)

    module _ (h : Gathers full more left left' (Ok tt)) where
      gave_now : Gave given w.coming left'
      gave_now = gave_more i.content more w.coming left left' i.gave h.gave

      last_now : length more < full → HasEnded Whole w.coming left'
      last_now short = ended_on Whole i.content w.coming left left' i.gave (h.ends short)

      -- the full one was the last
      none_more : 0 < full → more ≡ [] → IsUnderway w e more told' stream0 left'
      none_more some_full none = record {
        drawn = i.drawn;
        content = i.content;
        made = i.made;
        same_keys = i.same_keys;
        were_drawn = i.were_drawn;
        gave = subst (λ (xs : List ℕ). Gave xs w.coming left') (ap (λ (xs : List ℕ). i.content ++ xs) none ∙ append-nil i.content) gave_now;
        fits = λ rest next. i.fits rest (inl all);
        staged = staged_now;
        whole = i.whole;
        goes_on = λ full_. absurd (omega (arith, full_, ap length none, some_full));
        is_open = λ full_. absurd (omega (arith, full_, ap length none, some_full));
        size = omega (arith, ap length none);
        last = last_now;
      }

      module _ (e' : Encoding) (told : Option Told) (stream : Option ByteStream)
          (compose : (first second third : Option ByteStream) (xs ys : List ℕ) → Draws first second xs → Draws second third ys → Draws first third (xs ++ ys)) (size : length more ≤ full) where
        module _ (result : Result (Unit {0}) PutFault) (s : StoresChunk e e' more w.at stream0 stream told' told result) where
          all_drawn : Draws w.stream stream (i.drawn ++ s.drawn)
          all_drawn = compose w.stream stream0 stream i.drawn s.drawn i.were_drawn s.were_drawn

          fits_on : (rest : List ℕ) → IsNextChunk w.keys more rest → IsMadeFor w.keys (i.drawn ++ s.drawn) (given ++ rest) (i.made ++ s.piece)
          fits_on rest next =
              subst (λ (k : Keys). IsMadeFor k (i.drawn ++ s.drawn) (given ++ rest) (i.made ++ s.piece)) i.same_keys
              (s.fits i.drawn i.content i.made rest (i.goes_on all) (subst (λ (k : Keys). IsNextChunk k more rest) (sym i.same_keys) next))

        pub store_fails : (fault : PutFault) → StoresChunk e e' more w.at stream0 stream told' told (Err fault)
            → WritesContent w.keys w.at w.coming left' w.stream stream w.told told (Err fault)
        store_fails fault s =
            ends_as w given left' gave_now Whole (i.drawn ++ s.drawn) (i.made ++ s.piece) stream told (Err fault) (all_drawn (Err fault) s)
            (fits_on (Err fault) s (rest_of w.coming left') (next_chunk more (rest_of w.coming left') size (λ short. rest_none Whole w.coming left' (last_now short))))
            (s.stages w.told i.made staged_now)
            (λ not long. subst (λ (k : Keys). AreAccepted (format_of k) (i.drawn ++ s.drawn)) i.same_keys (s.accepted i.drawn i.content i.made (i.goes_on all) not))
            (ends_storing w.keys w.at (i.drawn ++ s.drawn) (all_of given Whole w.coming).bytes (all_of given Whole w.coming).ending w.coming left' w.told told fault
            (subst (λ (k : Keys). FailsToStore k (i.drawn ++ s.drawn) fault) i.same_keys (s.ends i.drawn i.content i.made (i.goes_on all))))

        goes_on : StoresChunk e e' more w.at stream0 stream told' told (Ok tt) → IsUnderway w e' more told stream left'
        goes_on s = record {
          drawn = i.drawn ++ s.drawn;
          content = given;
          made = i.made ++ s.piece;
          same_keys = s.ends.same_keys ∙ i.same_keys;
          were_drawn = all_drawn (Ok tt) s;
          gave = gave_now;
          fits = fits_on (Ok tt) s;
          staged = s.staged w.told i.made staged_now;
          whole = subst (λ (k : Keys). IsEncrypted k (i.drawn ++ s.drawn) given (i.made ++ s.piece)) i.same_keys (s.ends.whole i.drawn i.content i.made (i.goes_on all));
          goes_on = λ full_. s.ends.goes_on i.drawn i.content i.made (i.goes_on all) (full_ ∙ ap (λ (k : Keys). (format_of k).full_size) (sym i.same_keys));
          is_open = λ _. s.ends.is_open ∙ i.is_open all;
          size = size;
          last = last_now;
        }

        pub next_underway : 0 < full → (length more ≡ 0 → (told ≡ told') × (stream ≡ stream0) × (e' ≡ e)) → (0 < length more → StoresChunk e e' more w.at stream0 stream told' told (Ok tt))
            → IsUnderway w e' more told stream left'
        next_underway some_full kept stores = elim (none_or_some (length more)) [
          | inl none ↦
              let k = kept none in
              subst (λ (x : Encoding). IsUnderway w x more told stream left') (sym k.2)
              (subst (λ (s : Option ByteStream). IsUnderway w e more told s left') (sym k.1)
              (subst (λ (t : Option Told). IsUnderway w e more t stream0 left') (sym k.0) (none_more some_full (nil_from_length more none))))
          | inr some ↦ goes_on (stores some)
        ]

  -- ---- the end

  module _ (e : Encoding) (chunk : List ℕ) (told0 told : Option Told) (stream : Option ByteStream) (left : Option Coming) (i : IsUnderway w e chunk told0 stream left)
      (short : length chunk < full) where
    ended : HasEnded Whole w.coming left
    ended = i.last short

    fits_all : IsMadeFor w.keys i.drawn (i.content ++ rest_of w.coming left) i.made
    fits_all = i.fits (rest_of w.coming left) (inr (rest_none Whole w.coming left ended))

    pub finish_fails : (fault : FolderFault) → Finishes w.at told0 told (Err fault) → WritesContent w.keys w.at w.coming left w.stream stream w.told told (Err (of_folder fault))
    finish_fails fault f =
        ends_as w i.content left i.gave Whole i.drawn i.made stream told (Err (of_folder fault)) i.were_drawn fits_all
        (λ files front. (f w.told files i.made (i.staged files front)).0) (λ not. encrypted_accepted w.keys i.drawn i.content i.made i.whole)
        (ends_folder w.keys w.at i.drawn (all_of i.content Whole w.coming).bytes (all_of i.content Whole w.coming).ending w.coming left w.told told fault)

    pub is_written : (done : Unit {0}) → Finishes w.at told0 told (Ok done) → WritesContent w.keys w.at w.coming left w.stream stream w.told told (Ok done)
    is_written done f =
        let same : i.content ≡ (all_of i.content Whole w.coming).bytes =
        sym (append-nil i.content) ∙ ap (λ (xs : List ℕ). i.content ++ xs) (sym (rest_none Whole w.coming left ended)) ∙ all_is i.content Whole w.coming left i.gave in
        let one = one_file i.made in
        let encrypted : IsEncrypted w.keys i.drawn (all_of i.content Whole w.coming).bytes i.made = subst (λ (c : List ℕ). IsEncrypted w.keys i.drawn c i.made) same i.whole in
        ends_as w i.content left i.gave Whole i.drawn i.made stream told (Ok done) i.were_drawn fits_all
        (λ files front. (f w.told files i.made (i.staged files front)).0) (λ not. encrypted_accepted w.keys i.drawn i.content i.made i.whole)
        (record {
          whole = ending_is i.content Whole w.coming left i.gave ended;
          ended = ended;
          encrypted = subst (λ (file : List ℕ). IsEncrypted w.keys i.drawn (all_of i.content Whole w.coming).bytes file) encrypted.is encrypted;
          file = subst (λ (file : List ℕ). FromTo (λ a b. IsNewFile file a.state b.state (present b.state w.at)) w.told told) encrypted.is (f w.told (i.made ∷ []) i.made (i.staged (i.made ∷ []) one)).1;
        })

  -- the staged file is seen
  pub staged_seen : (made : List ℕ) (told : Option Told)
      → ((files : List (List ℕ)) (at : Path) (bytes : List ℕ) (before now : Option Told) → IsWriting files at bytes before now → IfSeen now (λ v. v at ≡ FileOf bytes))
      → IsStaged w.at made w.told told → IfSeen told (λ v. ShowsFile v w.at)
  staged_seen made told law staged v is = (made, law (made ∷ []) w.at made w.told told (staged (made ∷ []) (one_file made)) v is)
