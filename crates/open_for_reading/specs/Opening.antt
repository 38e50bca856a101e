-- Opening a vault for a command: the passphrase in its file, and then the tests of the vault. The first test that fails is the answer.
use Rattle.std.specs.Prelude.{◌≡◌, ◌≤◌, ℕ, Bool, ◌==◌, List, ◌++◌, length, nat_le, Ok, MatchResult}
use Rattle.std.specs.List.{before_first}
use Rattle.folder_spec.specs.Path.{Path}
use Rattle.folder_spec.specs.View.{Found, NoEntry, Folder, FileOf, Special, View}
use Rattle.folder_spec.specs.Seen.{under}
use Rattle.vault_spec.specs.Vault.{Vault, LoadRefusal, Loads, Either, go_conf, vault_file}
use Rattle.vault_spec.specs.Vault as vault
use Rattle.open_for_reading.specs.Shown.{Shown, refused}
use Rattle.command_answers.specs.declared.answer.Answer.{Answer}
use Rattle.command_answers.specs.declared.answer.Answer.TheVariants.{Refused, WrongPass, NotFound, WrongKind, Limit}
use Rattle.command_answers.specs.declared.answer.Named.TheVariants as named
use Rattle.command_answers.specs.declared.answer.Refusal.TheVariants as refusal
use Rattle.command_answers.specs.declared.answer.Limit.TheVariants as limit

abbrev pub is_newline : ℕ → Bool
is_newline byte = byte == 10

-- the bytes before the first newline, or all where there is none
abbrev pub passphrase_in : List ℕ → List ℕ
passphrase_in bytes = before_first is_newline bytes

-- what follows of the passphrase in the file that is found there, of at most 2,048 bytes
abbrev pub OfPassFile : Path → Found → Shown → (List ℕ → Type 0) → Type 0
OfPassFile at NoEntry shown next = shown ≡ refused (NotFound (named.Folder at))
OfPassFile at Folder shown next = shown ≡ refused (WrongKind (named.Folder at))
OfPassFile at Special shown next = shown ≡ refused (WrongKind (named.Folder at))
OfPassFile at (FileOf bytes) shown next = Either (nat_le (length bytes) 2048) (next (passphrase_in bytes)) (shown ≡ refused (Limit limit.PassFile))

-- the answer to a vault that isn't opened
abbrev pub answer_to_refusal : Path → LoadRefusal → Answer
answer_to_refusal root (vault.Missing at) = NotFound (named.Folder (root ++ at))
answer_to_refusal root (vault.WrongKind at) = WrongKind (named.Folder (root ++ at))
answer_to_refusal root (vault.TooLarge at) = Limit (limit.Length (root ++ at))
answer_to_refusal root (vault.GoRefused fault) = Refused (root ++ go_conf) (refusal.Gocryptfs fault)
answer_to_refusal root (vault.CmRefused at fault) = Refused (root ++ at) (refusal.Cryptomator fault)
answer_to_refusal root vault.WrongPass = WrongPass root
answer_to_refusal root vault.BadSignature = Refused (root ++ vault_file) refusal.Signature

-- what follows of the vault that the root and the passphrase are
abbrev pub OfVault : View → Path → List ℕ → Shown → (Vault → Type 0) → Type 0
OfVault v root pass shown next =
    (loaded : vault.Loaded) × Loads (under root v) pass loaded
    × MatchResult loaded next (λ refusal. shown ≡ refused (answer_to_refusal root refusal))

-- what follows of the vault that the root and the passphrase in a file are
abbrev pub OfOpened : View → Path → Path → Shown → (Vault → Type 0) → Type 0
OfOpened v root pass shown next = OfPassFile pass (v pass) shown (λ phrase. OfVault v root phrase shown next)

-- the passphrase in the file that is found
abbrev pub IsPhrase : Found → List ℕ → Type 0
IsPhrase there phrase = (bytes : List ℕ) × (there ≡ FileOf bytes) × (length bytes ≤ 2048) × (phrase ≡ passphrase_in bytes)

-- the root and the passphrase in the file are this vault
abbrev pub Opens : View → Path → Path → Vault → Type 0
Opens v root pass vault = (phrase : List ℕ) × IsPhrase (v pass) phrase × Loads (under root v) phrase (Ok vault)
