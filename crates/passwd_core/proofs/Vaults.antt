-- How a vault was opened, and that it opens with another file of keys.
use Rattle.std.proofs.Common.{◌≡◌, ◌≢◌, ◌⊎◌, ℕ, Bool, true, false, not, ◌&&◌, List, [], ◌∷◌, codes, length, nat_le, Result, Ok, Err, MatchResult, refl, sym, ◌∙◌, subst, inl, inr}
use Rattle.std.proofs.lemmas.Bool.{leb-true, le-leb}
use Rattle.cryptomator_conf.specs.declared.conf.MasterFile.{MasterFile}
use Rattle.cryptomator_conf.specs.declared.conf.VaultFile.{VaultFile}
use Rattle.cryptomator_conf.specs.declared.fault.CmConfFault.{CmConfFault}
use Rattle.cryptomator_conf.specs.Keys.{AreKeys}
use Rattle.cryptomator_conf.specs.Keys as cryptomator
use Rattle.cryptomator_conf.specs.Laws as cm_laws
use Rattle.cryptomator_conf.specs.Master.{ReadsMaster}
use Rattle.cryptomator_conf.specs.Vault.{vault_in}
use Rattle.folder_spec.specs.Path.{Part, Path}
use Rattle.folder_spec.specs.View.{Found, NoEntry, Folder, FileOf, Special, View}
use Rattle.gocrypt_conf.specs.declared.conf.GoConf.{GoConf}
use Rattle.gocrypt_conf.specs.MasterKey as gocryptfs
use Rattle.gocrypt_conf.specs.Laws as go_laws
use Rattle.gocrypt_conf.specs.Tests.{ReadsAs}
use Rattle.vault_read.specs.Loading.{IsSmallFile}
use Rattle.vault_read.specs.Opened.{kind_of}
use Rattle.vault_read.specs.declared.vault.VaultKind.{VaultKind}
use Rattle.vault_read.specs.declared.vault.VaultKind.TheVariants as kind
use Rattle.vault_spec.specs.Format.{is_file}
use Rattle.vault_spec.specs.Vault.{Vault, Loaded, LoadRefusal, Either, OfFile, UnlocksGo, TestsGo, LoadsGo, Signs, UnlocksCm, TestsCm, LoadsCm, LoadsBy, LoadsFrom, IsVault, cm_vault, go_conf, master_file, vault_file, TooLarge, GoRefused, CmRefused}
use Rattle.vault_spec.specs.Vault as vault
use Rattle.vault_values.specs.declared.keys.CmKeys.{CmKeys}
use Rattle.vault_values.specs.declared.keys.GoKeys.{GoKeys}
use Rattle.passwd_core.specs.declared.reading.KeyFile.{KeyFile}
use Rattle.passwd_core.specs.declared.reading.KeyFile.TheVariants.{Gocryptfs, Cryptomator}
use Rattle.passwd_core.specs.KeyFiles.{key_name, HoldsKeys, UnlocksKeys, GivesKeys}

-- ---- what the tests of a vault say

abbrev Chosen : Bool → Type 0 → Type 0 → Type 0
Chosen test One Other = ((test ≡ true) × One) ⊎ ((test ≡ false) × Other)

chosen : (test : Bool) (One Other : Type 0) → Either test One Other → Chosen test One Other
chosen true One Other h = inl (refl, h)
chosen false One Other h = inr (refl, h)

either_true : (test : Bool) (One Other : Type 0) → test ≡ true → One → Either test One Other
either_true true One Other is h = h
either_true false One Other is h = cc is

small_file : (at : Path) (there : Found) (opened : Vault) (Next : List ℕ → Type 0) → OfFile at there (Ok opened) Next → (bytes : List ℕ) × IsSmallFile there bytes × Next bytes
small_file at NoEntry opened Next h = cc h
small_file at Folder opened Next h = cc h
small_file at Special opened Next h = cc h
small_file at (FileOf bytes) opened Next h = elim (chosen (nat_le (length bytes) 65536) (Next bytes) (Ok opened ≡ Err (TooLarge at)) h) as (λ _. (b : List ℕ) × IsSmallFile (FileOf bytes) b × Next b) [
  | inl few ↦ (bytes, (refl, leb-true (length bytes) 65536 few.0), few.1)
  | inr many ↦ (let no : Ok opened ≡ Err (TooLarge at) = many.1 in cc)
]

of_file : (at : Path) (there : Found) (bytes : List ℕ) (answer : Loaded) (Next : List ℕ → Type 0) → IsSmallFile there bytes → Next bytes → OfFile at there answer Next
of_file at there bytes answer Next (is, few) next =
    subst (λ (x : Found). OfFile at x answer Next) (sym is) (either_true (nat_le (length bytes) 65536) (Next bytes) (answer ≡ Err (TooLarge at)) (le-leb (length bytes) 65536 few) next)

from_folder : (root : Found) (w : View) (pass : List ℕ) (opened : Vault) → LoadsFrom root w pass (Ok opened) → (root ≡ Folder) × LoadsBy (w go_conf) (w vault_file) w pass (Ok opened)
from_folder NoEntry w pass opened h = cc h
from_folder (FileOf bytes) w pass opened h = cc h
from_folder Special w pass opened h = cc h
from_folder Folder w pass opened h = (refl, h)

-- which tests gave it
abbrev pub is_cm : View → Bool
is_cm w = not (is_file (w go_conf)) && is_file (w vault_file)

pub record OpenedGo (w : View) (pass : List ℕ) (opened : Vault) : Type 0 where
  pub keys : GoKeys
  pub is : opened ≡ vault.Gocryptfs keys
  pub bytes : List ℕ
  pub small : IsSmallFile (w go_conf) bytes
  pub conf : GoConf
  pub reads : ReadsAs bytes (Ok conf)
  pub unlocks : gocryptfs.Unlocks conf pass keys

pub record OpenedCm (w : View) (pass : List ℕ) (opened : Vault) : Type 0 where
  pub test : is_cm w ≡ true
  pub keys : CmKeys
  pub file : VaultFile
  pub is : opened ≡ vault.Cryptomator (cm_vault keys file)
  pub bytes : List ℕ
  pub small : IsSmallFile (w master_file) bytes
  pub master : MasterFile
  pub reads : ReadsMaster bytes (Ok master)
  pub are : AreKeys keys
  pub unlocks : cryptomator.Unlocks master pass keys
  pub vault_bytes : List ℕ
  pub vault_small : IsSmallFile (w vault_file) vault_bytes
  pub reads_vault : vault_in vault_bytes ≡ Ok file
  pub signs : Signs keys file (Ok opened)

tests_go : (w : View) (pass bytes : List ℕ) (opened : Vault) → IsSmallFile (w go_conf) bytes → TestsGo bytes pass (Ok opened) → OpenedGo w pass opened
tests_go w pass bytes opened small (Ok conf, reads, inl (keys, unlocks, is)) =
    record { keys = keys; is = cc is; bytes = bytes; small = small; conf = conf; reads = reads; unlocks = unlocks }
tests_go w pass bytes opened small (Ok conf, reads, inr (none, is)) = cc is
tests_go w pass bytes opened small (Err fault, reads, is) = cc is

module _ (w : View) (pass bytes vault_bytes : List ℕ) (opened : Vault) (test : is_cm w ≡ true) (small : IsSmallFile (w master_file) bytes) (vault_small : IsSmallFile (w vault_file) vault_bytes)
    (master : MasterFile) (reads : ReadsMaster bytes (Ok master)) where
  signed : (keys : CmKeys) (file : VaultFile) → Signs keys file (Ok opened) → opened ≡ vault.Cryptomator (cm_vault keys file)
  signed keys file (inl (same, is)) = cc is
  signed keys file (inr (other, is)) = cc is

  unlocked : (file : VaultFile) → vault_in vault_bytes ≡ Ok file → UnlocksCm master file pass (Ok opened) → OpenedCm w pass opened
  unlocked file reads_vault (inl (keys, are, unlocks, signs)) = record {
    test = test;
    keys = keys;
    file = file;
    is = signed keys file signs;
    bytes = bytes;
    small = small;
    master = master;
    reads = reads;
    are = are;
    unlocks = unlocks;
    vault_bytes = vault_bytes;
    vault_small = vault_small;
    reads_vault = reads_vault;
    signs = signs;
  }
  unlocked file reads_vault (inr (none, is)) = cc is

  by_vault : (read : Result VaultFile CmConfFault) → vault_in vault_bytes ≡ read
      → MatchResult read (λ file. UnlocksCm master file pass (Ok opened)) (λ fault. Ok opened ≡ Err (CmRefused vault_file fault)) → OpenedCm w pass opened
  by_vault (Ok file) is h = unlocked file is h
  by_vault (Err fault) is h = cc h

tests_cm : (w : View) (pass bytes vault_bytes : List ℕ) (opened : Vault) → is_cm w ≡ true → IsSmallFile (w master_file) bytes → IsSmallFile (w vault_file) vault_bytes
    → TestsCm bytes vault_bytes pass (Ok opened) → OpenedCm w pass opened
tests_cm w pass bytes vault_bytes opened test small vault_small (Ok master, reads, told) =
    by_vault w pass bytes vault_bytes opened test small vault_small master reads (vault_in vault_bytes) refl told
tests_cm w pass bytes vault_bytes opened test small vault_small (Err fault, reads, is) = cc is

opened_go : (w : View) (pass : List ℕ) (opened : Vault) → LoadsGo w pass (Ok opened) → OpenedGo w pass opened
opened_go w pass opened h =
    let there = small_file go_conf (w go_conf) opened (λ bytes. TestsGo bytes pass (Ok opened)) h in
    tests_go w pass there.0 opened there.1 there.2

opened_cm : (w : View) (pass : List ℕ) (opened : Vault) → is_cm w ≡ true → LoadsCm w pass (Ok opened) → OpenedCm w pass opened
opened_cm w pass opened test h =
    let first = small_file master_file (w master_file) opened (λ bytes. OfFile vault_file (w vault_file) (Ok opened) (λ more. TestsCm bytes more pass (Ok opened))) h in
    let second = small_file vault_file (w vault_file) opened (λ more. TestsCm first.0 more pass (Ok opened)) first.2 in
    tests_cm w pass first.0 second.0 opened test first.1 second.1 second.2

by_format : (w : View) (pass : List ℕ) (opened : Vault) → IsVault w pass opened → OpenedGo w pass opened ⊎ OpenedCm w pass opened
by_format w pass opened h =
    elim (chosen (is_cm w) (LoadsCm w pass (Ok opened)) (LoadsGo w pass (Ok opened)) (from_folder (w []) w pass opened h).1) as (λ _. OpenedGo w pass opened ⊎ OpenedCm w pass opened) [
      | inl cm ↦ inr (opened_cm w pass opened cm.0 cm.1)
      | inr go ↦ inl (opened_go w pass opened go.1)
    ]

pub root_is_folder : (w : View) (pass : List ℕ) (opened : Vault) → IsVault w pass opened → w [] ≡ Folder
root_is_folder w pass opened h = (from_folder (w []) w pass opened h).0

-- ---- the file that holds the keys

-- it is there, and the passphrase unlocks the vault's keys
pub record IsHeld (w : View) (pass : List ℕ) (opened : Vault) : Type 0 where
  pub file : KeyFile
  pub holds : HoldsKeys (kind_of opened) (w (key_name (kind_of opened) ∷ [])) file
  pub unlocks : UnlocksKeys file pass opened

pub held : (w : View) (pass : List ℕ) (opened : Vault) → IsVault w pass opened → IsHeld w pass opened
held w pass opened h = elim (by_format w pass opened h) as (λ _. IsHeld w pass opened) [
  | inl go ↦ subst (IsHeld w pass) (sym go.is) (record { file = Gocryptfs go.conf; holds = (go.bytes, go.small, go.reads); unlocks = go.unlocks })
  | inr cm ↦ subst (IsHeld w pass) (sym cm.is) (record { file = Cryptomator cm.master; holds = (cm.bytes, cm.small, cm.reads); unlocks = (cm.are, cm.unlocks) })
]

same_bytes : (there : Found) (one other : List ℕ) → IsSmallFile there one → IsSmallFile there other → one ≡ other
same_bytes there one other p q = let same : FileOf one ≡ FileOf other = sym p.0 ∙ q.0 in cc same

-- it says one thing
abbrev pub SayOne : Type 0
SayOne = (kind : VaultKind) (there : Found) (one other : KeyFile) → HoldsKeys kind there one → HoldsKeys kind there other → one ≡ other

pub says_one : go_laws.HaveOneAnswer → cm_laws.HaveOneAnswer → SayOne
says_one go_reads cm_reads kind.Gocryptfs there (Gocryptfs one) (Gocryptfs other) (bytes, small, reads) (bytes2, small2, reads2) =
    let same = go_reads bytes (Ok one) (Ok other) reads (subst (λ b. ReadsAs b (Ok other)) (sym (same_bytes there bytes bytes2 small small2)) reads2) in
    cc same
says_one go_reads cm_reads kind.Cryptomator there (Cryptomator one) (Cryptomator other) (bytes, small, reads) (bytes2, small2, reads2) =
    let same = cm_reads bytes (Ok one) (Ok other) reads (subst (λ b. ReadsMaster b (Ok other)) (sym (same_bytes there bytes bytes2 small small2)) reads2) in
    cc same
says_one go_reads cm_reads kind.Gocryptfs there (Cryptomator one) other p q = absurd p.2
says_one go_reads cm_reads kind.Gocryptfs there (Gocryptfs one) (Cryptomator other) p q = absurd q.2
says_one go_reads cm_reads kind.Cryptomator there (Gocryptfs one) other p q = absurd p.2
says_one go_reads cm_reads kind.Cryptomator there (Cryptomator one) (Gocryptfs other) p q = absurd q.2

-- ---- another file in its place

-- at the root all but that file is the same, and that is this one
pub record HasNewKeys (w w' : View) (opened : Vault) (text : List ℕ) : Type 0 where
  pub root : w' [] ≡ w []
  pub others : (name : Part) → name ≢ key_name (kind_of opened) → w' (name ∷ []) ≡ w (name ∷ [])
  pub new : w' (key_name (kind_of opened) ∷ []) ≡ FileOf text

load_go : (w' : View) (pass : List ℕ) (keys : GoKeys) (text : List ℕ) → w' [] ≡ Folder → w' go_conf ≡ FileOf text → go_laws.GivesBack pass keys text → IsVault w' pass (vault.Gocryptfs keys)
load_go w' pass keys text root new gives =
    let opened : Vault = vault.Gocryptfs keys in
    subst (λ x. LoadsFrom x w' pass (Ok opened)) (sym root)
    (subst (λ x. Either (not (is_file x) && is_file (w' vault_file)) (LoadsCm w' pass (Ok opened)) (OfFile go_conf x (Ok opened) (λ bytes. TestsGo bytes pass (Ok opened)))) (sym new)
    (of_file go_conf (FileOf text) text (Ok opened) (λ bytes. TestsGo bytes pass (Ok opened)) (refl, gives.short) (Ok gives.conf, gives.read, inl (keys, gives.unlocked, refl))))

load_cm : (w w' : View) (pass : List ℕ) (opened : Vault) (old : List ℕ) (cm : OpenedCm w old opened) (text : List ℕ) → w' [] ≡ Folder → w' go_conf ≡ w go_conf → w' vault_file ≡ w vault_file
    → w' master_file ≡ FileOf text → cm_laws.GivesBack pass cm.keys text → IsVault w' pass opened
load_cm w w' pass opened old cm text root same_go same_vault new gives =
    subst (λ x. LoadsFrom x w' pass (Ok opened)) (sym root)
    (either_true (is_cm w') (LoadsCm w' pass (Ok opened)) (LoadsGo w' pass (Ok opened)) test
    (of_file master_file (w' master_file) text (Ok opened) (λ bytes. OfFile vault_file (w' vault_file) (Ok opened) (λ more. TestsCm bytes more pass (Ok opened))) (new, gives.short)
    (of_file vault_file (w' vault_file) cm.vault_bytes (Ok opened) (λ more. TestsCm text more pass (Ok opened)) (same_vault ∙ cm.vault_small.0, cm.vault_small.1)
    (Ok gives.file, gives.read, signed_vault))))
  where
    test : is_cm w' ≡ true
    test = subst (λ x. not (is_file x) && is_file (w' vault_file) ≡ true) (sym same_go) (subst (λ x. not (is_file (w go_conf)) && is_file x ≡ true) (sym same_vault) cm.test)

    signed_vault : MatchResult (vault_in cm.vault_bytes) (λ file. UnlocksCm gives.file file pass (Ok opened)) (λ fault. Ok opened ≡ Err (CmRefused vault_file fault))
    signed_vault = subst (λ r. MatchResult r (λ file. UnlocksCm gives.file file pass (Ok opened)) (λ fault. Ok opened ≡ Err (CmRefused vault_file fault))) (sym cm.reads_vault)
        (inl (cm.keys, cm.are, gives.unlocked, cm.signs))

pub opens_anew : (w w' : View) (pass new_pass : List ℕ) (opened : Vault) (text : List ℕ) → IsVault w pass opened → HasNewKeys w w' opened text → GivesKeys new_pass opened text → IsVault w' new_pass opened
opens_anew w w' pass new_pass opened text is new gives = elim (by_format w pass opened is) as (λ _. IsVault w' new_pass opened) [
  | inl go ↦ by_go go
  | inr cm ↦ by_cm cm
]
  where
    root : w' [] ≡ Folder
    root = new.root ∙ root_is_folder w pass opened is

    by_go : OpenedGo w pass opened → IsVault w' new_pass opened
    by_go go =
        let fresh : HasNewKeys w w' (vault.Gocryptfs go.keys) text = subst (λ v. HasNewKeys w w' v text) go.is new in
        let given : go_laws.GivesBack new_pass go.keys text = subst (λ v. GivesKeys new_pass v text) go.is gives in
        subst (IsVault w' new_pass) (sym go.is) (load_go w' new_pass go.keys text root fresh.new given)

    by_cm : OpenedCm w pass opened → IsVault w' new_pass opened
    by_cm cm =
        let fresh : HasNewKeys w w' (vault.Cryptomator (cm_vault cm.keys cm.file)) text = subst (λ v. HasNewKeys w w' v text) cm.is new in
        let given : cm_laws.GivesBack new_pass cm.keys text = subst (λ v. GivesKeys new_pass v text) cm.is gives in
        load_cm w w' new_pass opened pass cm text root (fresh.others (codes "gocryptfs.conf") (λ e. cc e)) (fresh.others (codes "vault.cryptomator") (λ e. cc e)) fresh.new given
