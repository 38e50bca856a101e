-- Why a vault isn't opened for a command, and that there is one answer.
use Rattle.std.proofs.Common.{◌≡◌, ◌≢◌, ℕ, Bool, true, false, List, length, Ok, Err, nat_le, cond, inl, inr, refl, sym, ap, ◌∙◌, subst}
use Rattle.std.specs.Prelude.{◌⊎◌, MatchResult}
use Rattle.std.proofs.lemmas.Bool.{leb-true, le-leb}
use Rattle.folder_spec.specs.Path.{Path}
use Rattle.folder_spec.specs.View.{Found, NoEntry, Folder, FileOf, Special, View}
use Rattle.folder_spec.specs.Seen.{under}
use Rattle.vault_read.specs.declared.fault.LoadFault.{LoadFault}
use Rattle.vault_read.specs.declared.fault.LoadFault.TheVariants as load
use Rattle.vault_read.specs.declared.looking.SmallFile.TheVariants.{Missing, Other, TooLarge, Whole}
use Rattle.vault_read.specs.Looking.{small_file}
use Rattle.vault_read.specs.Loading.{RefusesLoading}
use Rattle.vault_read.specs.Laws.{HaveOneAnswer}
use Rattle.vault_spec.specs.Vault.{Vault, Loads, Either}
use Rattle.vault_spec.specs.Vault as vault
use Rattle.open_for_reading.specs.Faults.{of_load}
use Rattle.open_for_reading.specs.Opening.{IsPhrase, Opens, passphrase_in, OfPassFile, OfVault, OfOpened, answer_to_refusal}
use Rattle.open_for_reading.specs.Refusing.{Unless, RefusesPass, RefusesOpening}
use Rattle.open_for_reading.specs.Shown.{Shown, refused}
use Rattle.command_answers.specs.declared.answer.Answer.{Answer}
use Rattle.command_answers.specs.declared.answer.Answer.TheVariants.{OutOfMemory, Refused, NotFound, WrongKind, Limit}
use Rattle.command_answers.specs.declared.answer.Named.TheVariants as named
use Rattle.command_answers.specs.declared.answer.Refusal.TheVariants as refusal
use Rattle.command_answers.specs.declared.answer.Limit.TheVariants as limit

-- ---- what was seen of a passphrase's file

by_size : (bytes : List ℕ) (b : Bool) → cond b (Whole bytes) TooLarge ≡ TooLarge → b ≡ false
by_size bytes false is = refl
by_size bytes true is = cc

size_of : (bytes other : List ℕ) (b : Bool) → Whole bytes ≡ cond b (Whole other) TooLarge → (b ≡ true) × (bytes ≡ other)
size_of bytes other true is = (refl, cc)
size_of bytes other false is = cc

no_whole : (other : List ℕ) (b : Bool) → Missing ≢ cond b (Whole other) TooLarge
no_whole other true is = cc
no_whole other false is = cc

no_other : (other : List ℕ) (b : Bool) → Other ≢ cond b (Whole other) TooLarge
no_other other true is = cc
no_other other false is = cc

pub pass_missing : (at : Path) (there : Found) → Missing ≡ small_file 2048 there → OfPassFile at there (refused (NotFound (named.Folder at))) (λ phrase. ⊥)
pass_missing at NoEntry is = refl
pass_missing at Folder is = cc
pass_missing at Special is = cc
pass_missing at (FileOf bytes) is = absurd (no_whole bytes (nat_le (length bytes) 2048) is)

pub pass_other : (at : Path) (there : Found) → Other ≡ small_file 2048 there → OfPassFile at there (refused (WrongKind (named.Folder at))) (λ phrase. ⊥)
pass_other at NoEntry is = cc
pass_other at Folder is = refl
pass_other at Special is = refl
pass_other at (FileOf bytes) is = absurd (no_other bytes (nat_le (length bytes) 2048) is)

pub pass_large : (at : Path) (there : Found) → TooLarge ≡ small_file 2048 there → OfPassFile at there (refused (Limit limit.PassFile)) (λ phrase. ⊥)
pass_large at NoEntry is = cc
pass_large at Folder is = cc
pass_large at Special is = cc
pass_large at (FileOf bytes) is =
    subst (λ b. Either b ⊥ (refused (Limit limit.PassFile) ≡ refused (Limit limit.PassFile))) (sym (by_size bytes (nat_le (length bytes) 2048) (sym is))) refl

pub pass_whole : (bytes : List ℕ) (there : Found) → Whole bytes ≡ small_file 2048 there → IsPhrase there (passphrase_in bytes)
pass_whole bytes NoEntry is = cc
pass_whole bytes Folder is = cc
pass_whole bytes Special is = cc
pass_whole bytes (FileOf other) is =
    let parts : (nat_le (length other) 2048 ≡ true) × (bytes ≡ other) = size_of bytes other (nat_le (length other) 2048) is in
    (other, refl, leb-true (length other) 2048 parts.0, ap passphrase_in parts.1)

-- ---- what follows

either : (P P' Q : Type 0) (b : Bool) → (P → P') → Either b P Q → Either b P' Q
either P P' Q true f x = f x
either P P' Q false f x = x

pub pass_then : (at : Path) (there : Found) (shown : Shown) (P Q : List ℕ → Type 0) → ((phrase : List ℕ) → P phrase → Q phrase) → OfPassFile at there shown P → OfPassFile at there shown Q
pass_then at NoEntry shown P Q f x = x
pass_then at Folder shown P Q f x = x
pass_then at Special shown P Q f x = x
pass_then at (FileOf bytes) shown P Q f x =
    either (P (passphrase_in bytes)) (Q (passphrase_in bytes)) (shown ≡ refused (Limit limit.PassFile)) (nat_le (length bytes) 2048) (f (passphrase_in bytes)) x

pub vault_by : (root : Path) (shown : Shown) (P Q : Vault → Type 0) (loaded : vault.Loaded) → ((vault : Vault) → P vault → Q vault)
    → MatchResult loaded P (λ refusal. shown ≡ refused (answer_to_refusal root refusal)) → MatchResult loaded Q (λ refusal. shown ≡ refused (answer_to_refusal root refusal))
vault_by root shown P Q (Ok vault) f x = f vault x
vault_by root shown P Q (Err refusal) f x = x

pub opened_then : (v : View) (root pass : Path) (shown : Shown) (P Q : Vault → Type 0) → ((vault : Vault) → P vault → Q vault) → OfOpened v root pass shown P → OfOpened v root pass shown Q
opened_then v root pass shown P Q f x =
    pass_then pass (v pass) shown (λ phrase. OfVault v root phrase shown P) (λ phrase. OfVault v root phrase shown Q)
    (λ phrase of. (of.0, of.1, vault_by root shown P Q of.0 f of.2)) x

pub pass_gives : (at : Path) (there : Found) (shown : Shown) (P : List ℕ → Type 0) (phrase : List ℕ) → IsPhrase there phrase → P phrase → OfPassFile at there shown P
pass_gives at there shown P phrase is holds =
    subst (λ x. OfPassFile at x shown P) (sym is.1)
    (subst (λ b. Either b (P (passphrase_in is.0)) (shown ≡ refused (Limit limit.PassFile))) (sym (le-leb (length is.0) 2048 is.2)) (subst P is.3 holds))

pub pass_taken : (at : Path) (there : Found) (shown : Shown) (P : List ℕ → Type 0) (phrase : List ℕ) → IsPhrase there phrase → OfPassFile at there shown P → P phrase
pass_taken at there shown P phrase is of =
    subst P (sym is.3)
    (subst (λ b. Either b (P (passphrase_in is.0)) (shown ≡ refused (Limit limit.PassFile))) (le-leb (length is.0) 2048 is.2)
    (subst (λ x. OfPassFile at x shown P) is.1 of))

-- what holds of the vault that is opened follows
pub opened_gives : (v : View) (root pass : Path) (shown : Shown) (P : Vault → Type 0) (vault : Vault) → Opens v root pass vault → P vault → OfOpened v root pass shown P
opened_gives v root pass shown P vault opens holds =
    pass_gives pass (v pass) shown (λ phrase. OfVault v root phrase shown P) opens.0 opens.1 (Ok vault, opens.2, holds)

-- ---- refusals

pub unless_then : (P Q : Type 0) (answer : Answer) → (P → Q) → Unless answer P → Unless answer Q
unless_then P Q answer f (inl failed) = inl failed
unless_then P Q answer f (inr (inl memory)) = inr (inl memory)
unless_then P Q answer f (inr (inr x)) = inr (inr (f x))

pub unless_opened : (v : View) (root pass : Path) (answer : Answer) (P : Vault → Type 0) → RefusesOpening v root pass answer → Unless answer (OfOpened v root pass (refused answer) P)
unless_opened v root pass answer P = unless_then (OfOpened v root pass (refused answer) (λ vault. ⊥)) (OfOpened v root pass (refused answer) P) answer (opened_then v root pass (refused answer) (λ vault. ⊥) P (λ vault none. absurd none))

pub pass_refused : (v : View) (root pass : Path) (answer : Answer) → RefusesPass pass (v pass) answer → RefusesOpening v root pass answer
pass_refused v root pass answer =
    unless_then (OfPassFile pass (v pass) (refused answer) (λ phrase. ⊥)) (OfOpened v root pass (refused answer) (λ vault. ⊥)) answer (pass_then pass (v pass) (refused answer) (λ phrase. ⊥) (λ phrase. OfVault v root phrase (refused answer) (λ vault. ⊥)) (λ phrase none. absurd none))

-- a refusal to load, as it is answered
pub loading_refused : (root : Path) (v : View) (phrase : List ℕ) (fault : LoadFault) → RefusesLoading root (Loads (under root v) phrase) fault
    → Unless (of_load root fault) (OfVault v root phrase (refused (of_load root fault)) (λ vault. ⊥))
loading_refused root v phrase (load.Missing at) refuses =
    inr (inr (Err (vault.Missing refuses.0), refuses.2, ap (λ p. refused (NotFound (named.Folder p))) refuses.1))
loading_refused root v phrase (load.WrongKind at) refuses =
    inr (inr (Err (vault.WrongKind refuses.0), refuses.2, ap (λ p. refused (WrongKind (named.Folder p))) refuses.1))
loading_refused root v phrase (load.TooLarge at) refuses =
    inr (inr (Err (vault.TooLarge refuses.0), refuses.2, ap (λ p. refused (Limit (limit.Length p))) refuses.1))
loading_refused root v phrase (load.Go fault) refuses = inr (inr (Err (vault.GoRefused fault), refuses, refl))
loading_refused root v phrase (load.Cm at fault) refuses =
    inr (inr (Err (vault.CmRefused refuses.0 fault), refuses.2, ap (λ p. refused (Refused p (refusal.Cryptomator fault))) refuses.1))
loading_refused root v phrase load.WrongPass refuses = inr (inr (Err vault.WrongPass, refuses, refl))
loading_refused root v phrase load.BadSignature refuses = inr (inr (Err vault.BadSignature, refuses, refl))
loading_refused root v phrase load.Failed refuses = inl refl
loading_refused root v phrase load.NoMemory refuses = inr (inl refl)

pub load_refused : (root pass : Path) (v : View) (phrase : List ℕ) (fault : LoadFault) (answer : Answer) → IsPhrase (v pass) phrase → RefusesLoading root (Loads (under root v) phrase) fault
    → (answer ≡ OutOfMemory) ⊎ (answer ≡ of_load root fault) → RefusesOpening v root pass answer
load_refused root pass v phrase fault answer is refuses (inl memory) = inr (inl memory)
load_refused root pass v phrase fault answer is refuses (inr same) =
    subst (λ a. RefusesOpening v root pass a) (sym same)
    (unless_then (OfVault v root phrase (refused (of_load root fault)) (λ vault. ⊥)) (OfOpened v root pass (refused (of_load root fault)) (λ vault. ⊥)) (of_load root fault) (pass_gives pass (v pass) (refused (of_load root fault)) (λ phrase. OfVault v root phrase (refused (of_load root fault)) (λ vault. ⊥)) phrase is)
    (loading_refused root v phrase fault refuses))

-- ---- one answer

module _ (R : Shown → Shown → Type 0) (of_one : (a b : Shown) → a ≡ b → R a b) where
  pass_alike : (at : Path) (there : Found) (a b : Shown) (P Q : List ℕ → Type 0) → ((phrase : List ℕ) → P phrase → Q phrase → R a b) → OfPassFile at there a P → OfPassFile at there b Q → R a b
  pass_alike at NoEntry a b P Q f x y = of_one a b (x ∙ sym y)
  pass_alike at Folder a b P Q f x y = of_one a b (x ∙ sym y)
  pass_alike at Special a b P Q f x y = of_one a b (x ∙ sym y)
  pass_alike at (FileOf bytes) a b P Q f x y = by (nat_le (length bytes) 2048) x y
    where
      by : (t : Bool) → Either t (P (passphrase_in bytes)) (a ≡ refused (Limit limit.PassFile)) → Either t (Q (passphrase_in bytes)) (b ≡ refused (Limit limit.PassFile)) → R a b
      by true x y = f (passphrase_in bytes) x y
      by false x y = of_one a b (x ∙ sym y)

  vault_alike : (root : Path) (a b : Shown) (P Q : Vault → Type 0) (loaded : vault.Loaded) → ((vault : Vault) → P vault → Q vault → R a b)
      → MatchResult loaded P (λ refusal. a ≡ refused (answer_to_refusal root refusal)) → MatchResult loaded Q (λ refusal. b ≡ refused (answer_to_refusal root refusal)) → R a b
  vault_alike root a b P Q (Ok vault) f x y = f vault x y
  vault_alike root a b P Q (Err refusal) f x y = of_one a b (x ∙ sym y)

  -- what follows of the opened vault decides
  pub opened_alike : HaveOneAnswer → (v : View) (root pass : Path) (a b : Shown) (P Q : Vault → Type 0) → ((vault : Vault) → P vault → Q vault → R a b)
      → OfOpened v root pass a P → OfOpened v root pass b Q → R a b
  opened_alike law v root pass a b P Q f =
      pass_alike pass (v pass) a b (λ phrase. OfVault v root phrase a P) (λ phrase. OfVault v root phrase b Q)
      (λ phrase x y. vault_alike root a b P Q x.0 f x.2
      (subst (λ l. MatchResult l Q (λ refusal. b ≡ refused (answer_to_refusal root refusal))) (law (under root v) phrase y.0 x.0 y.1 x.1) y.2))

pub opened_one : HaveOneAnswer → (v : View) (root pass : Path) (a b : Shown) (P Q : Vault → Type 0) → ((vault : Vault) → P vault → Q vault → a ≡ b)
    → OfOpened v root pass a P → OfOpened v root pass b Q → a ≡ b
opened_one = opened_alike (λ a b. a ≡ b) (λ a b is. is)

either_by : (P Q : Type 0) (b : Bool) → b ≡ true → Either b P Q → P
either_by P Q true is x = x
either_by P Q false is x = cc

-- what follows is said of the vault that is opened
pub opened_is : HaveOneAnswer → (v : View) (root pass : Path) (shown : Shown) (P : Vault → Type 0) (vault : Vault) → Opens v root pass vault → OfOpened v root pass shown P → P vault
opened_is law v root pass shown P vault opens of =
    let phrase = opens.1 in
    let there : OfPassFile pass (FileOf phrase.0) shown (λ p. OfVault v root p shown P) = subst (λ x. OfPassFile pass x shown (λ p. OfVault v root p shown P)) phrase.1 of in
    let loaded : OfVault v root (passphrase_in phrase.0) shown P = either_by (OfVault v root (passphrase_in phrase.0) shown P) (shown ≡ refused (Limit limit.PassFile)) (nat_le (length phrase.0) 2048) (le-leb (length phrase.0) 2048 phrase.2) there in
    subst (λ l. MatchResult l P (λ refusal. shown ≡ refused (answer_to_refusal root refusal)))
    (law (under root v) (passphrase_in phrase.0) loaded.0 (Ok vault) loaded.1 (subst (λ p. Loads (under root v) p (Ok vault)) phrase.3 opens.2)) loaded.2
