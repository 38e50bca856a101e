-- What has been drawn for the new text, at each exit.
use Rattle.std.proofs.Common.{◌≡◌, ◌<◌, ℕ, zero, suc, true, false, List, [], ◌++◌, slice_index, replicate, Option, Result, Ok, Err, IsErrAnd, refl, sym, ◌∙◌, inl, inr, subst, arith, append-nil}
use Rattle.std.proofs.lemmas.List.{length-replicate}
use Rattle.chunk_files.specs.Zeros.{is_all_zero}
use Rattle.cryptomator_conf.specs.declared.conf.MasterFile.{MasterFile}
use Rattle.cryptomator_conf.specs.Keys as cryptomator
use Rattle.cryptomator_conf.specs.Laws as cm_laws
use Rattle.cryptomator_conf.specs.Text.{Rewraps}
use Rattle.gocrypt_conf.specs.declared.conf.GoConf.{GoConf}
use Rattle.gocrypt_conf.specs.Laws as go_laws
use Rattle.gocrypt_conf.specs.MasterKey as gocryptfs
use Rattle.gocrypt_conf.specs.Text.{Reseals}
use Rattle.kdf_suite.specs.ScryptCost.{IsCost}
use Rattle.port_model.specs.Draws.{ByteStream, Draws}
use Rattle.vault_read.specs.declared.fault.LoadFault.TheVariants as load
use Rattle.vault_spec.specs.Vault.{Vault}
use Rattle.vault_spec.specs.Vault as vault
use Rattle.vault_values.specs.declared.keys.CmKeys.{CmKeys}
use Rattle.vault_values.specs.declared.keys.GoKeys.{GoKeys}
use Rattle.passwd_core.specs.declared.drawing.GoFresh.{GoFresh}
use Rattle.passwd_core.specs.declared.fault.PassFault.{PassFault}
use Rattle.passwd_core.specs.declared.fault.PassFault.TheVariants as fault
use Rattle.passwd_core.specs.declared.reading.KeyFile.TheVariants.{Gocryptfs, Cryptomator}
use Rattle.passwd_core.specs.Drawing.{ForGocryptfs, ForCryptomator, AreBytes, HasSizes}
use Rattle.passwd_core.specs.KeyFiles.{UnlocksKeys, Rewrites, GivesKeys}
use Rattle.passwd_core.specs.Steps.{DrawsGo, DrewGo, DrawsText, DrewFor}

abbrev pub Stream : Type 0
Stream = Option ByteStream

abbrev pub DrawsCompose : Type 0
DrawsCompose = (first second third : Option ByteStream) (xs ys : List ℕ) → Draws first second xs → Draws second third ys → Draws first third (xs ++ ys)

-- what is promised at the fault is promised of the answer
pub at_fault : {T E : Type 0} (P : Result T E → Type 0) (result : Result T E) (fault : E) → IsErrAnd result (λ e. e ≡ fault) → P (Err fault) → P result
at_fault P (Err e) fault by_fault holds = subst (λ x. P (Err x)) (sym by_fault) holds
at_fault P (Ok value) fault by_fault holds = absurd by_fault

-- the random source failed
pub at_random : {T : Type 0} (P : Result T PassFault → Type 0) (result : Result T PassFault) {f : PassFault} → IsErrAnd result (λ e. e ≡ f) → f ≡ fault.Random → P (Err fault.Random) → P result
at_random P result {f} by_fault random holds = at_fault P result f by_fault (subst (λ e. P (Err e)) (sym random) holds)

-- what isn't drawn may be anything
small_zeros : (n place : ℕ) → slice_index (replicate n 0) place < 256
small_zeros zero place = omega arith
small_zeros (suc n) zero = omega arith
small_zeros (suc n) (suc place) = small_zeros n place

pub zeros : (n : ℕ) → AreBytes n (replicate n 0)
zeros n = (length-replicate n 0, small_zeros n)

-- ---- gocryptfs

pub go_none : (s s' : Stream) → Draws s s' [] → DrawsGo s s' (Err fault.Random)
go_none s s' none = record {
  fresh = ForGocryptfs (replicate 32 0) (replicate 16 0);
  drawn = [];
  sizes = (zeros 32, zeros 16);
  were_drawn = none;
  is_for = tt;
  drew = inl refl;
}

module _ (law : DrawsCompose) (s s1 : Stream) (salt : List ℕ) (has_salt : AreBytes 32 salt) (one : Draws s s1 salt) where
  pub go_salt : (s' : Stream) → Draws s1 s' [] → DrawsGo s s' (Err fault.Random)
  go_salt s' none = record {
    fresh = ForGocryptfs salt (replicate 16 0);
    drawn = salt ++ [];
    sizes = (has_salt, zeros 16);
    were_drawn = law s s1 s' salt [] one none;
    is_for = tt;
    drew = inr (append-nil salt);
  }

  pub go_zeros : (s' : Stream) (nonce : List ℕ) → AreBytes 16 nonce → Draws s1 s' nonce → is_all_zero nonce ≡ true → DrawsGo s s' (Err fault.ZeroRandom)
  go_zeros s' nonce has_nonce two all = record {
    fresh = ForGocryptfs salt nonce;
    drawn = salt ++ nonce;
    sizes = (has_salt, has_nonce);
    were_drawn = law s s1 s' salt nonce one two;
    is_for = tt;
    drew = (refl, all);
  }

  pub go_all : (s' : Stream) (nonce : List ℕ) → AreBytes 16 nonce → Draws s1 s' nonce → is_all_zero nonce ≡ false → DrawsGo s s' (Ok (record { salt = salt; nonce = nonce }))
  go_all s' nonce has_nonce two some = record {
    fresh = ForGocryptfs salt nonce;
    drawn = salt ++ nonce;
    sizes = (has_salt, has_nonce);
    were_drawn = law s s1 s' salt nonce one two;
    is_for = tt;
    drew = ((refl, λ all. (let no : true ≡ false = sym all ∙ some in cc)), refl);
  }

module _ (conf : GoConf) (pass new_pass : List ℕ) (s s' : Stream) where
  pub go_undrawn : (f : PassFault) → DrawsGo s s' (Err f) → DrawsText (Gocryptfs conf) pass new_pass s s' (Err f)
  go_undrawn f d = record {
    fresh = d.fresh;
    drawn = d.drawn;
    sizes = d.sizes;
    were_drawn = d.were_drawn;
    is_for = d.is_for;
    drew = by_fault f d.drew;
    text = tt;
    gives = tt;
  }
    where
      by_fault : (f : PassFault) → DrewGo d.fresh d.drawn (Err f) → DrewFor (Gocryptfs conf) pass d.fresh d.drawn (Err f)
      by_fault fault.ZeroRandom h = h
      by_fault fault.Random h = h
      by_fault (fault.Load why) h = absurd h
      by_fault fault.Failed h = absurd h
      by_fault fault.NoMemory h = absurd h

  module _ (parts : GoFresh) (d : DrawsGo s s' (Ok parts)) where
    no_keys : ((keys : GoKeys) → ¬ gocryptfs.Unlocks conf pass keys) → (opened : Vault) → ¬ UnlocksKeys (Gocryptfs conf) pass opened
    no_keys none (vault.Gocryptfs keys) h = none keys h
    no_keys none (vault.Cryptomator cm) h = h

    pub go_wrong : ((keys : GoKeys) → ¬ gocryptfs.Unlocks conf pass keys) → DrawsText (Gocryptfs conf) pass new_pass s s' (Err (fault.Load load.WrongPass))
    go_wrong none = record {
      fresh = d.fresh;
      drawn = d.drawn;
      sizes = d.sizes;
      were_drawn = d.were_drawn;
      is_for = d.is_for;
      drew = (d.drew.0, refl, no_keys none);
      text = tt;
      gives = tt;
    }

    pub go_no_memory : DrawsText (Gocryptfs conf) pass new_pass s s' (Err fault.NoMemory)
    go_no_memory = record {
      fresh = d.fresh;
      drawn = d.drawn;
      sizes = d.sizes;
      were_drawn = d.were_drawn;
      is_for = d.is_for;
      drew = d.drew.0;
      text = tt;
      gives = tt;
    }

    pub go_text : go_laws.ResealedTextReturns → IsCost conf.cost → (text : List ℕ) → Reseals conf pass new_pass conf.cost parts.salt parts.nonce text
        → DrawsText (Gocryptfs conf) pass new_pass s s' (Ok text)
    go_text law cost text reseals = record {
      fresh = d.fresh;
      drawn = d.drawn;
      sizes = d.sizes;
      were_drawn = d.were_drawn;
      is_for = d.is_for;
      drew = d.drew.0;
      text = subst (λ f. Rewrites (Gocryptfs conf) pass new_pass f text) (sym d.drew.1) reseals;
      gives = by_vault;
    }
      where
        sized : HasSizes (ForGocryptfs parts.salt parts.nonce)
        sized = subst HasSizes d.drew.1 d.sizes

        by_vault : (opened : Vault) → UnlocksKeys (Gocryptfs conf) pass opened → GivesKeys new_pass opened text
        by_vault (vault.Gocryptfs keys) unlocks = law conf pass new_pass conf.cost parts.salt parts.nonce text keys cost sized.0.0 sized.0.1 sized.1.0 sized.1.1 unlocks reseals
        by_vault (vault.Cryptomator cm) unlocks = absurd unlocks

-- ---- Cryptomator

module _ (file : MasterFile) (pass new_pass : List ℕ) (s s' : Stream) where
  pub cm_none : Draws s s' [] → DrawsText (Cryptomator file) pass new_pass s s' (Err fault.Random)
  cm_none none = record {
    fresh = ForCryptomator (replicate 8 0);
    drawn = [];
    sizes = zeros 8;
    were_drawn = none;
    is_for = tt;
    drew = refl;
    text = tt;
    gives = tt;
  }

  module _ (salt : List ℕ) (has_salt : AreBytes 8 salt) (one : Draws s s' salt) where
    none_zero : ¬ ⊥
    none_zero never = never

    no_cm_keys : ((keys : CmKeys) → cryptomator.AreKeys keys → ¬ cryptomator.Unlocks file pass keys) → (opened : Vault) → ¬ UnlocksKeys (Cryptomator file) pass opened
    no_cm_keys none (vault.Cryptomator cm) h = none cm.keys h.0 h.1
    no_cm_keys none (vault.Gocryptfs keys) h = h

    pub cm_wrong : ((keys : CmKeys) → cryptomator.AreKeys keys → ¬ cryptomator.Unlocks file pass keys) → DrawsText (Cryptomator file) pass new_pass s s' (Err (fault.Load load.WrongPass))
    cm_wrong none = record {
      fresh = ForCryptomator salt;
      drawn = salt;
      sizes = has_salt;
      were_drawn = one;
      is_for = tt;
      drew = ((refl, none_zero), refl, no_cm_keys none);
      text = tt;
      gives = tt;
    }

    pub cm_no_memory : DrawsText (Cryptomator file) pass new_pass s s' (Err fault.NoMemory)
    cm_no_memory = record {
      fresh = ForCryptomator salt;
      drawn = salt;
      sizes = has_salt;
      were_drawn = one;
      is_for = tt;
      drew = (refl, none_zero);
      text = tt;
      gives = tt;
    }

    pub cm_text : cm_laws.RewrappedTextReturns → IsCost file.cost → (text : List ℕ) → Rewraps file pass new_pass file.cost salt text
        → DrawsText (Cryptomator file) pass new_pass s s' (Ok text)
    cm_text law cost text rewraps = record {
      fresh = ForCryptomator salt;
      drawn = salt;
      sizes = has_salt;
      were_drawn = one;
      is_for = tt;
      drew = (refl, none_zero);
      text = rewraps;
      gives = by_vault;
    }
      where
        by_vault : (opened : Vault) → UnlocksKeys (Cryptomator file) pass opened → GivesKeys new_pass opened text
        by_vault (vault.Cryptomator cm) unlocks = law file pass new_pass file.cost salt text cm.keys cost has_salt.0 has_salt.1 unlocks.0 unlocks.1 rewraps
        by_vault (vault.Gocryptfs keys) unlocks = absurd unlocks
