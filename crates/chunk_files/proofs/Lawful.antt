-- What each layout gives to the proofs that hold for all.
use Rattle.std.proofs.Common.{◌≡◌, ℕ, suc, ◌+◌, ◌<◌, ◌≤◌, ◌==◌, Bool, true, false, cond, List, [], ◌∷◌, length, take, drop, replicate, Some, None, Ok, Err, refl, sym, ap, ◌∙◌, arith, length-append, length-drop}
use Rattle.std.specs.Prelude.{Option, not}
use Rattle.std.proofs.lemmas.Bool.{eqb-true}
use Rattle.std.proofs.lemmas.List.{length-take, length-replicate}
use Rattle.chunk_files.specs.declared.fault.ChunkFault.{ChunkFault}
use Rattle.chunk_files.specs.declared.fault.ChunkFault.TheVariants.{HeaderVersion, ZeroId}
use Rattle.chunk_files.specs.declared.keys.Layout.{Layout}
use Rattle.chunk_files.specs.declared.keys.Layout.TheVariants.{Go, CmGcm, CmCtr}
use Rattle.chunk_files.specs.Zeros.{is_all_zero}
use Rattle.chunk_files.specs.Format.{Format, Header}
use Rattle.chunk_files.specs.Sealed.{sealed_text, opened_text, chunk_data}
use Rattle.chunk_files.specs.Gocryptfs.{header_version, file_id, go_header, read_go_header, IsGoHeader, go_format}
use Rattle.chunk_files.specs.CryptomatorGcm.{cm_header, told_by_plain, read_cm_header, IsCmHeader, new_plain, cm_gcm_format}
use Rattle.chunk_files.specs.CryptomatorCtr.{read_ctr_header, IsCtrHeader, ctr_chunk_data, cm_ctr_format}
use Rattle.chunk_files.specs.Tagged.{tagged_text, opened_tagged}
use Rattle.chunk_files.specs.Keys.{Keys, format_by, format_of, IsHeaderBy, IsHeaderOf}
use Rattle.chunk_files.specs.Contents.{is_refused}
use Rattle.chunk_files.proofs.Sealing.{GcmLaws, length-sealed_text, nonce-sealed_text, opened-sealed_text, sealed-opened_text, length-plain_text}
use Rattle.chunk_files.proofs.Tagging.{SealLaws, HasTagSize, length-tagged_text, nonce-tagged_text, opened-tagged_text, tagged-opened_text, length-restored_text}

-- what its form alone gives
pub record IsLaidOut (f : Format) (IsHead : Header → List ℕ → Type 0) : Type 0 where
  pub some_header : 0 < f.header_size
  pub some_full : 0 < f.full_size
  pub some_nonce : 0 < f.nonce_size
  pub nonce_within : f.nonce_size ≤ f.seal_size
  pub holes_refused : f.has_holes ≡ true → f.refuses_zeros ≡ true
  pub new_head : (drawn : List ℕ) → length drawn ≡ f.header_draw → is_refused f drawn ≡ false → IsHead (f.new_told drawn) (f.new_header drawn)
  pub seal_nonce : (header : Header) (number : ℕ) (nonce chunk : List ℕ) → length nonce ≡ f.nonce_size
      → take f.nonce_size (f.sealed_chunk header number nonce chunk) ≡ nonce

-- what the laws of the ciphers give beside it
pub record IsLawful (f : Format) (IsHead : Header → List ℕ → Type 0) : Type 0 where
  pub form : IsLaidOut f IsHead
  -- headers
  pub head_size : (header : Header) (bytes : List ℕ) → IsHead header bytes → length bytes ≡ f.header_size
  pub head_read : (header : Header) (bytes : List ℕ) → IsHead header bytes → f.read_header bytes ≡ Ok header
  pub read_head : (header : Header) (bytes : List ℕ) → length bytes ≡ f.header_size → f.read_header bytes ≡ Ok header → IsHead header bytes
  -- chunks
  pub seal_size : (header : Header) (number : ℕ) (nonce chunk : List ℕ) → length nonce ≡ f.nonce_size
      → length (f.sealed_chunk header number nonce chunk) ≡ f.seal_size + length chunk
  pub seal_opens : (header : Header) (number : ℕ) (nonce chunk : List ℕ) → length nonce ≡ f.nonce_size
      → f.opened_chunk header number (f.sealed_chunk header number nonce chunk) ≡ Some chunk
  pub opens_seal : (header : Header) (number : ℕ) (stored chunk : List ℕ) → f.seal_size ≤ length stored
      → f.opened_chunk header number stored ≡ Some chunk → stored ≡ f.sealed_chunk header number (take f.nonce_size stored) chunk

-- ---- gocryptfs

-- the cases of a header's test
none-cases : {A : Type 0} (version unset : Bool) (a b : ChunkFault) (told told' : A)
    → cond (not version) (Err a) (cond unset (Err b) (Ok told)) ≡ Ok told' → (version ≡ true) × (unset ≡ false) × (told ≡ told')
none-cases false unset a b told told' is = cc
none-cases true true a b told told' is = cc
none-cases true false a b told told' is = (refl, refl, (cc))

go-head-read : (key : List ℕ) (header : Header) (bytes : List ℕ) → IsGoHeader key header bytes → read_go_header key bytes ≡ Ok header
unfolding read_go_header
go-head-read key header bytes head = rw (head.is, head.some_bit, head.tells) refl

-- the first two bytes of a header of the format 2
two-bytes : (bytes : List ℕ) → 2 ≤ length bytes → header_version bytes ≡ 2 → bytes ≡ 0 ∷ 2 ∷ drop 2 bytes
two-bytes [] long version = absurd (omega arith)
two-bytes (a ∷ []) long version = absurd (omega arith)
two-bytes (a ∷ b ∷ rest) long version =
    let high : a ≡ 0 = omega arith in
    let low : b ≡ 2 = omega arith in
    rw (high, low) refl

go-read-head : (key : List ℕ) (header : Header) (bytes : List ℕ) → length bytes ≡ 18 → read_go_header key bytes ≡ Ok header → IsGoHeader key header bytes
unfolding read_go_header
go-read-head key header bytes size is =
    let cases = none-cases (header_version bytes == 2) (is_all_zero (file_id bytes)) (HeaderVersion (header_version bytes)) ZeroId (go_header key (file_id bytes)) header is in
    record {
      id = file_id bytes;
      sixteen = omega (arith, length-drop 2 bytes);
      some_bit = cases.1;
      is = two-bytes bytes (omega arith) (eqb-true (header_version bytes) 2 cases.0);
      tells = sym cases.2;
    }

go-laid-out : (key : List ℕ) → IsLaidOut (go_format key) (IsGoHeader key)
unfolding is_refused
go-laid-out key = record {
  some_header = omega arith;
  some_full = omega arith;
  some_nonce = omega arith;
  nonce_within = omega arith;
  holes_refused = λ holes. refl;
  new_head = λ drawn size some. record { id = drawn; sixteen = size; some_bit = some; is = refl; tells = refl };
  seal_nonce = λ header number nonce chunk size. nonce-sealed_text header.key (chunk_data header number) nonce chunk 16 size;
}

go-lawful : GcmLaws → (key : List ℕ) → IsLawful (go_format key) (IsGoHeader key)
go-lawful laws key = record {
  form = go-laid-out key;
  head_size = λ header bytes head. ap length head.is ∙ (let more : suc (suc (length head.id)) ≡ 18 = omega (arith, head.sixteen) in more);
  head_read = go-head-read key;
  read_head = go-read-head key;
  seal_size = λ header number nonce chunk size. length-sealed_text laws header.key (chunk_data header number) 16 nonce chunk size;
  seal_opens = λ header number nonce chunk size. opened-sealed_text laws header.key (chunk_data header number) 16 nonce chunk size;
  opens_seal = λ header number stored chunk long opens. sealed-opened_text laws header.key (chunk_data header number) 16 stored chunk long opens;
}

-- ---- Cryptomator with SIV_GCM

cm-head-size : GcmLaws → (key : List ℕ) (header : Header) (bytes : List ℕ) → IsCmHeader key header bytes → length bytes ≡ 68
cm-head-size laws key header bytes head =
    ap length head.is ∙ length-sealed_text laws key [] 12 head.nonce head.plain head.twelve ∙ ap (λ (n : ℕ). 28 + n) head.forty

cm-head-read : GcmLaws → (key : List ℕ) (header : Header) (bytes : List ℕ) → IsCmHeader key header bytes → read_cm_header key bytes ≡ Ok header
unfolding read_cm_header
cm-head-read laws key header bytes head =
    let nonce : take 12 bytes ≡ head.nonce = ap (take 12) head.is ∙ nonce-sealed_text key [] head.nonce head.plain 12 head.twelve in
    let opens : opened_text key [] 12 bytes ≡ Some head.plain = ap (opened_text key [] 12) head.is ∙ opened-sealed_text laws key [] 12 head.nonce head.plain head.twelve in
    rw (nonce, opens) (ap Ok (sym head.tells))

cm-told : GcmLaws → (key : List ℕ) (header : Header) (bytes : List ℕ) (opened : Option (List ℕ)) → length bytes ≡ 68 → opened_text key [] 12 bytes ≡ opened
    → told_by_plain (take 12 bytes) opened ≡ Ok header → IsCmHeader key header bytes
cm-told laws key header bytes None size opens is = cc
cm-told laws key header bytes (Some plain) size opens is =
    let long : 28 ≤ length bytes = omega arith in
    record {
      nonce = take 12 bytes;
      twelve = omega (arith, length-take 12 bytes);
      plain = plain;
      forty = omega (arith, length-plain_text laws key [] 12 bytes plain long opens);
      is = sealed-opened_text laws key [] 12 bytes plain long opens;
      tells = cc;
    }

cm-read-head : GcmLaws → (key : List ℕ) (header : Header) (bytes : List ℕ) → length bytes ≡ 68 → read_cm_header key bytes ≡ Ok header → IsCmHeader key header bytes
unfolding read_cm_header
cm-read-head laws key header bytes size is = cm-told laws key header bytes (opened_text key [] 12 bytes) size refl is

-- the plain text of a new header, whose content key is drawn behind a nonce of n bytes
forty-plain : (n : ℕ) (drawn : List ℕ) → length drawn ≡ n + 32 → length (new_plain (drop n drawn)) ≡ 40
forty-plain n drawn size = length-append (replicate 8 0xFF) (drop n drawn) ∙ omega (arith, length-replicate {A = ℕ} 8 0xFF, length-drop n drawn)

cm-new-head : (key drawn : List ℕ) → length drawn ≡ 44
    → IsCmHeader key (cm_header (take 12 drawn) (new_plain (drop 12 drawn))) (sealed_text key [] (take 12 drawn) (new_plain (drop 12 drawn)))
cm-new-head key drawn size = record {
  nonce = take 12 drawn;
  twelve = omega (arith, length-take 12 drawn);
  plain = new_plain (drop 12 drawn);
  forty = forty-plain 12 drawn size;
  is = refl;
  tells = refl;
}

cm-laid-out : (key : List ℕ) → IsLaidOut (cm_gcm_format key) (IsCmHeader key)
cm-laid-out key = record {
  some_header = omega arith;
  some_full = omega arith;
  some_nonce = omega arith;
  nonce_within = omega arith;
  holes_refused = λ holes. cc;
  new_head = λ drawn size some. cm-new-head key drawn size;
  seal_nonce = λ header number nonce chunk size. nonce-sealed_text header.key (chunk_data header number) nonce chunk 12 size;
}

cm-lawful : GcmLaws → (key : List ℕ) → IsLawful (cm_gcm_format key) (IsCmHeader key)
cm-lawful laws key = record {
  form = cm-laid-out key;
  head_size = cm-head-size laws key;
  head_read = cm-head-read laws key;
  read_head = cm-read-head laws key;
  seal_size = λ header number nonce chunk size. length-sealed_text laws header.key (chunk_data header number) 12 nonce chunk size;
  seal_opens = λ header number nonce chunk size. opened-sealed_text laws header.key (chunk_data header number) 12 nonce chunk size;
  opens_seal = λ header number stored chunk long opens. sealed-opened_text laws header.key (chunk_data header number) 12 stored chunk long opens;
}

-- ---- Cryptomator with SIV_CTRMAC

module _ (law : HasTagSize) (key mac : List ℕ) where
  ctr-head-size : (header : Header) (bytes : List ℕ) → IsCtrHeader key mac header bytes → length bytes ≡ 88
  ctr-head-size header bytes head =
      ap length head.is ∙ length-tagged_text law key mac [] head.nonce head.plain head.sixteen ∙ ap (λ (n : ℕ). 48 + n) head.forty

  ctr-head-read : (header : Header) (bytes : List ℕ) → IsCtrHeader key mac header bytes → read_ctr_header key mac bytes ≡ Ok header
  unfolding read_ctr_header
  ctr-head-read header bytes head =
      let nonce : take 16 bytes ≡ head.nonce = ap (take 16) head.is ∙ nonce-tagged_text key mac [] head.nonce head.plain head.sixteen in
      let opens : opened_tagged key mac [] bytes ≡ Some head.plain = ap (opened_tagged key mac []) head.is ∙ opened-tagged_text law key mac [] head.nonce head.plain head.sixteen in
      rw (nonce, opens) (ap Ok (sym head.tells))

  ctr-told : (header : Header) (bytes : List ℕ) (opened : Option (List ℕ)) → length bytes ≡ 88 → opened_tagged key mac [] bytes ≡ opened
      → told_by_plain (take 16 bytes) opened ≡ Ok header → IsCtrHeader key mac header bytes
  ctr-told header bytes None size opens is = cc
  ctr-told header bytes (Some plain) size opens is =
      let long : 48 ≤ length bytes = omega arith in
      record {
        nonce = take 16 bytes;
        sixteen = omega (arith, length-take 16 bytes);
        plain = plain;
        forty = omega (arith, length-restored_text law key mac [] bytes plain long opens);
        is = tagged-opened_text law key mac [] bytes plain long opens;
        tells = cc;
      }

  ctr-read-head : (header : Header) (bytes : List ℕ) → length bytes ≡ 88 → read_ctr_header key mac bytes ≡ Ok header → IsCtrHeader key mac header bytes
  unfolding read_ctr_header
  ctr-read-head header bytes size is = ctr-told header bytes (opened_tagged key mac [] bytes) size refl is

ctr-new-head : (key mac drawn : List ℕ) → length drawn ≡ 48
    → IsCtrHeader key mac (cm_header (take 16 drawn) (new_plain (drop 16 drawn))) (tagged_text key mac [] (take 16 drawn) (new_plain (drop 16 drawn)))
ctr-new-head key mac drawn size = record {
  nonce = take 16 drawn;
  sixteen = omega (arith, length-take 16 drawn);
  plain = new_plain (drop 16 drawn);
  forty = forty-plain 16 drawn size;
  is = refl;
  tells = refl;
}

ctr-laid-out : (key mac : List ℕ) → IsLaidOut (cm_ctr_format key mac) (IsCtrHeader key mac)
ctr-laid-out key mac = record {
  some_header = omega arith;
  some_full = omega arith;
  some_nonce = omega arith;
  nonce_within = omega arith;
  holes_refused = λ holes. cc;
  new_head = λ drawn size some. ctr-new-head key mac drawn size;
  seal_nonce = λ header number nonce chunk size. nonce-tagged_text header.key mac (ctr_chunk_data header number) nonce chunk size;
}

ctr-lawful : HasTagSize → (key mac : List ℕ) → IsLawful (cm_ctr_format key mac) (IsCtrHeader key mac)
ctr-lawful law key mac = record {
  form = ctr-laid-out key mac;
  head_size = ctr-head-size law key mac;
  head_read = ctr-head-read law key mac;
  read_head = ctr-read-head law key mac;
  seal_size = λ header number nonce chunk size. length-tagged_text law header.key mac (ctr_chunk_data header number) nonce chunk size;
  seal_opens = λ header number nonce chunk size. opened-tagged_text law header.key mac (ctr_chunk_data header number) nonce chunk size;
  opens_seal = λ header number stored chunk long opens. tagged-opened_text law header.key mac (ctr_chunk_data header number) stored chunk long opens;
}

-- ---- each of them

laid_out-by : (layout : Layout) (key mac : List ℕ) → IsLaidOut (format_by layout key mac) (IsHeaderBy layout key mac)
laid_out-by Go key mac = go-laid-out key
laid_out-by CmGcm key mac = cm-laid-out key
laid_out-by CmCtr key mac = ctr-laid-out key mac

pub laid_out : (keys : Keys) → IsLaidOut (format_of keys) (IsHeaderOf keys)
laid_out keys = laid_out-by keys.layout keys.key keys.mac

lawful-by : SealLaws → (layout : Layout) (key mac : List ℕ) → IsLawful (format_by layout key mac) (IsHeaderBy layout key mac)
lawful-by laws Go key mac = go-lawful laws.gcm key
lawful-by laws CmGcm key mac = cm-lawful laws.gcm key
lawful-by laws CmCtr key mac = ctr-lawful laws.tag_size key mac

pub lawful : SealLaws → (keys : Keys) → IsLawful (format_of keys) (IsHeaderOf keys)
lawful laws keys = lawful-by laws keys.layout keys.key keys.mac
