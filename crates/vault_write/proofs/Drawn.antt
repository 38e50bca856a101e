-- What a vault has drawn at each exit.
use Rattle.std.proofs.Common.{◌≡◌, ◌<◌, ℕ, zero, suc, true, false, List, [], ◌++◌, slice_index, replicate, Option, Result, Ok, Err, IsErrAnd, refl, sym, ap, ◌∙◌, inl, inr, subst, arith, append-nil}
use Rattle.std.proofs.lemmas.List.{length-replicate}
use Rattle.chunk_files.specs.Zeros.{is_all_zero}
use Rattle.item_making.specs.declared.fault.PutFault.{PutFault}
use Rattle.item_making.specs.declared.fault.PutFault.TheVariants as puts
use Rattle.port_model.specs.Draws.{ByteStream, Draws}
use Rattle.vault_write.specs.declared.drawing.GoParts.{GoParts}
use Rattle.vault_write.specs.Founding.{AreBytes, GoDrew, DrawsGo, DrawsCm, SomeDrew, DrawsSome}
use Rattle.vault_write.proofs.Exits.{at_fault}

abbrev Stream : Type 0
Stream = Option ByteStream

abbrev pub DrawsCompose : Type 0
DrawsCompose = (first second third : Option ByteStream) (xs ys : List ℕ) → Draws first second xs → Draws second third ys → Draws first third (xs ++ ys)

-- the random source failed
pub at_random : {T : Type 0} (P : Result T PutFault → Type 0) (result : Result T PutFault) {fault : PutFault} → IsErrAnd result (λ e. e ≡ fault) → fault ≡ puts.Random → P (Err puts.Random) → P result
at_random P result {fault} by_fault random holds = at_fault P result fault by_fault (subst (λ e. P (Err e)) (sym random) holds)

-- what isn't drawn may be anything
small_zeros : (n place : ℕ) → slice_index (replicate n 0) place < 256
small_zeros zero place = omega arith
small_zeros (suc n) zero = omega arith
small_zeros (suc n) (suc place) = small_zeros n place

zeros : (n : ℕ) → AreBytes n (replicate n 0)
zeros n = record { size = length-replicate n 0; small = small_zeros n }

-- ---- gocryptfs

pub go_none : (s s' : Stream) → Draws s s' [] → DrawsGo s s' (Err puts.Random)
go_none s s' none = record {
  draw = record { master = replicate 32 0; salt = replicate 32 0; nonce = replicate 16 0 };
  key = replicate 16 0;
  drawn = [];
  sizes = record { master = zeros 32; salt = zeros 32; nonce = zeros 16; root = zeros 16 };
  were_drawn = none;
  drew = inl refl;
  is = tt;
}

module _ (law : DrawsCompose) (s s1 : Stream) (master : List ℕ) (has_master : AreBytes 32 master) (one : Draws s s1 master) where
  pub go_one : (s' : Stream) → Draws s1 s' [] → DrawsGo s s' (Err puts.Random)
  go_one s' none = record {
    draw = record { master = master; salt = replicate 32 0; nonce = replicate 16 0 };
    key = replicate 16 0;
    drawn = master ++ [];
    sizes = record { master = has_master; salt = zeros 32; nonce = zeros 16; root = zeros 16 };
    were_drawn = law s s1 s' master [] one none;
    drew = inr (inl (append-nil master));
    is = tt;
  }

  module _ (s2 : Stream) (salt : List ℕ) (has_salt : AreBytes 32 salt) (two : Draws s1 s2 salt) where
    both : Draws s s2 (master ++ salt)
    both = law s s1 s2 master salt one two

    pub go_two : (s' : Stream) (fault : PutFault) → DrawsSome s2 s' (Err fault) → DrawsGo s s' (Err fault)
    go_two s' fault h = record {
      draw = record { master = master; salt = salt; nonce = h.bytes };
      key = replicate 16 0;
      drawn = master ++ salt ++ h.drawn;
      sizes = record { master = has_master; salt = has_salt; nonce = h.sizes; root = zeros 16 };
      were_drawn = law s s2 s' (master ++ salt) h.drawn both h.were_drawn;
      drew = by_fault fault h.drew;
      is = tt;
    }
      where
        by_fault : (fault : PutFault) → SomeDrew h.bytes h.drawn (Err fault)
            → GoDrew {T = GoParts} (record { master = master; salt = salt; nonce = h.bytes }) (replicate 16 0) (master ++ salt ++ h.drawn) (Err fault)
        by_fault puts.ZeroRandom k = inl (ap (λ x. master ++ salt ++ x) k.0, k.1)
        by_fault puts.Random k = inr (inr (inl (ap (λ x. master ++ salt ++ x) k ∙ append-nil (master ++ salt))))
        by_fault fault k = absurd k

    module _ (s3 : Stream) (nonce : List ℕ) (three : DrawsSome s2 s3 (Ok nonce)) where
      most : Draws s s3 (master ++ salt ++ three.drawn)
      most = law s s2 s3 (master ++ salt) three.drawn both three.were_drawn

      pub go_three : (s' : Stream) (fault : PutFault) → DrawsSome s3 s' (Err fault) → DrawsGo s s' (Err fault)
      go_three s' fault h = record {
        draw = record { master = master; salt = salt; nonce = three.bytes };
        key = h.bytes;
        drawn = master ++ salt ++ three.drawn ++ h.drawn;
        sizes = record { master = has_master; salt = has_salt; nonce = three.sizes; root = h.sizes };
        were_drawn = law s s3 s' (master ++ salt ++ three.drawn) h.drawn most h.were_drawn;
        drew = by_fault fault h.drew;
        is = tt;
      }
        where
          same : master ++ salt ++ three.drawn ≡ master ++ salt ++ three.bytes
          same = ap (λ x. master ++ salt ++ x) three.drew.1

          by_fault : (fault : PutFault) → SomeDrew h.bytes h.drawn (Err fault)
              → GoDrew {T = GoParts} (record { master = master; salt = salt; nonce = three.bytes }) (h.bytes) (master ++ salt ++ three.drawn ++ h.drawn) (Err fault)
          by_fault puts.ZeroRandom k = inr (ap (λ x. x ++ h.drawn) same ∙ ap (λ x. master ++ salt ++ three.bytes ++ x) k.0, three.drew.2, k.1)
          by_fault puts.Random k = inr (inr (inr (ap (λ x. x ++ h.drawn) same ∙ ap (λ x. master ++ salt ++ three.bytes ++ x) k ∙ append-nil (master ++ salt ++ three.bytes), three.drew.2)))
          by_fault fault k = absurd k

      pub go_all : (s' : Stream) (key : List ℕ) → DrawsSome s3 s' (Ok key) → DrawsGo s s' (Ok (record { draw = record { master = master; salt = salt; nonce = nonce }; key = key }))
      go_all s' key h = record {
        draw = record { master = master; salt = salt; nonce = three.bytes };
        key = h.bytes;
        drawn = master ++ salt ++ three.drawn ++ h.drawn;
        sizes = record { master = has_master; salt = has_salt; nonce = three.sizes; root = h.sizes };
        were_drawn = law s s3 s' (master ++ salt ++ three.drawn) h.drawn most h.were_drawn;
        drew = record {
          all = ap (λ x. master ++ salt ++ x ++ h.drawn) three.drew.1 ∙ ap (λ x. master ++ salt ++ three.bytes ++ x) h.drew.1;
          nonce = three.drew.2;
          root = h.drew.2;
        };
        is = ap (λ n. record { draw = record { master = master; salt = salt; nonce = n }; key = key }) three.drew.0
            ∙ ap (λ k. record { draw = record { master = master; salt = salt; nonce = three.bytes }; key = k }) h.drew.0;
      }

-- ---- Cryptomator

pub cm_none : (s s' : Stream) → Draws s s' [] → DrawsCm s s' (Err puts.Random)
cm_none s s' none = record {
  draw = record { enc = replicate 32 0; mac = replicate 32 0; salt = replicate 8 0; jti = replicate 16 0 };
  drawn = [];
  sizes = record { enc = zeros 32; mac = zeros 32; salt = zeros 8; jti = zeros 16 };
  were_drawn = none;
  drew = inl refl;
  is = tt;
}

module _ (law : DrawsCompose) (s s1 : Stream) (enc : List ℕ) (has_enc : AreBytes 32 enc) (one : Draws s s1 enc) where
  pub cm_one : (s' : Stream) → Draws s1 s' [] → DrawsCm s s' (Err puts.Random)
  cm_one s' none = record {
    draw = record { enc = enc; mac = replicate 32 0; salt = replicate 8 0; jti = replicate 16 0 };
    drawn = enc ++ [];
    sizes = record { enc = has_enc; mac = zeros 32; salt = zeros 8; jti = zeros 16 };
    were_drawn = law s s1 s' enc [] one none;
    drew = inr (inl (append-nil enc));
    is = tt;
  }

  module _ (s2 : Stream) (mac : List ℕ) (has_mac : AreBytes 32 mac) (two : Draws s1 s2 mac) where
    keys : Draws s s2 (enc ++ mac)
    keys = law s s1 s2 enc mac one two

    pub cm_two : (s' : Stream) → Draws s2 s' [] → DrawsCm s s' (Err puts.Random)
    cm_two s' none = record {
      draw = record { enc = enc; mac = mac; salt = replicate 8 0; jti = replicate 16 0 };
      drawn = enc ++ mac ++ [];
      sizes = record { enc = has_enc; mac = has_mac; salt = zeros 8; jti = zeros 16 };
      were_drawn = law s s2 s' (enc ++ mac) [] keys none;
      drew = inr (inr (inl (append-nil (enc ++ mac))));
      is = tt;
    }

    module _ (s3 : Stream) (salt : List ℕ) (has_salt : AreBytes 8 salt) (three : Draws s2 s3 salt) where
      three_parts : Draws s s3 (enc ++ mac ++ salt)
      three_parts = law s s2 s3 (enc ++ mac) salt keys three

      pub cm_three : (s' : Stream) → Draws s3 s' [] → DrawsCm s s' (Err puts.Random)
      cm_three s' none = record {
        draw = record { enc = enc; mac = mac; salt = salt; jti = replicate 16 0 };
        drawn = enc ++ mac ++ salt ++ [];
        sizes = record { enc = has_enc; mac = has_mac; salt = has_salt; jti = zeros 16 };
        were_drawn = law s s3 s' (enc ++ mac ++ salt) [] three_parts none;
        drew = inr (inr (inr (append-nil (enc ++ mac ++ salt))));
        is = tt;
      }

      pub cm_all : (s' : Stream) (jti : List ℕ) → AreBytes 16 jti → Draws s3 s' jti → DrawsCm s s' (Ok (record { enc = enc; mac = mac; salt = salt; jti = jti }))
      cm_all s' jti has_jti four = record {
        draw = record { enc = enc; mac = mac; salt = salt; jti = jti };
        drawn = enc ++ mac ++ salt ++ jti;
        sizes = record { enc = has_enc; mac = has_mac; salt = has_salt; jti = has_jti };
        were_drawn = law s s3 s' (enc ++ mac ++ salt) jti three_parts four;
        drew = refl;
        is = refl;
      }

-- ---- sixteen bytes

pub some_none : (s s' : Stream) → Draws s s' [] → DrawsSome s s' (Err puts.Random)
some_none s s' none = record { bytes = replicate 16 0; drawn = []; sizes = zeros 16; were_drawn = none; drew = refl }

pub some_zeros : (s s' : Stream) (bytes : List ℕ) → AreBytes 16 bytes → Draws s s' bytes → is_all_zero bytes ≡ true → DrawsSome s s' (Err puts.ZeroRandom)
some_zeros s s' bytes sizes drawn all = record { bytes = bytes; drawn = bytes; sizes = sizes; were_drawn = drawn; drew = (refl, all) }

pub some_bytes : (s s' : Stream) (bytes : List ℕ) → AreBytes 16 bytes → Draws s s' bytes → is_all_zero bytes ≡ false → DrawsSome s s' (Ok bytes)
some_bytes s s' bytes sizes drawn some = record { bytes = bytes; drawn = bytes; sizes = sizes; were_drawn = drawn; drew = (refl, refl, some) }
