-- What is drawn for the new file, in order: of a gocryptfs vault a salt of 32 bytes and then a nonce of 16, of a Cryptomator vault a salt
-- of 8.
use Rattle.std.specs.Prelude.{◌≡◌, ◌⊎◌, true, ℕ, List, [], ◌++◌, length, Option, None, Result, Ok, Err}
use Rattle.base64.specs.GeneralPurpose.{IsBytes}
use Rattle.chunk_files.specs.Zeros.{is_all_zero}
use Rattle.passwd_core.specs.declared.fault.PassFault.{PassFault}
use Rattle.passwd_core.specs.declared.fault.PassFault.TheVariants.{Load, ZeroRandom, Random, Failed, NoMemory}

pub data Fresh : Type 0 where
  ForGocryptfs : List ℕ → List ℕ → Fresh
  ForCryptomator : List ℕ → Fresh

abbrev pub bytes_of : Fresh → List ℕ
bytes_of (ForGocryptfs salt nonce) = salt ++ nonce
bytes_of (ForCryptomator salt) = salt

-- so many bytes
abbrev pub AreBytes : ℕ → List ℕ → Type 0
AreBytes count bytes = (length bytes ≡ count) × IsBytes bytes

abbrev pub HasSizes : Fresh → Type 0
HasSizes (ForGocryptfs salt nonce) = AreBytes 32 salt × AreBytes 16 nonce
HasSizes (ForCryptomator salt) = AreBytes 8 salt

-- the nonce is zeros
abbrev pub HasZeroNonce : Fresh → Type 0
HasZeroNonce (ForGocryptfs salt nonce) = is_all_zero nonce ≡ true
HasZeroNonce (ForCryptomator salt) = ⊥

-- all of it was drawn, and the nonce isn't zeros
abbrev pub DrewAll : Fresh → List ℕ → Type 0
DrewAll fresh drawn = (drawn ≡ bytes_of fresh) × ¬ HasZeroNonce fresh

-- all of it was drawn, and the nonce is zeros
abbrev pub DrewZeros : Fresh → List ℕ → Type 0
DrewZeros fresh drawn = (drawn ≡ bytes_of fresh) × HasZeroNonce fresh

-- what was drawn up to the part at which the source failed
abbrev pub DrewFront : Fresh → List ℕ → Type 0
DrewFront (ForGocryptfs salt nonce) drawn = (drawn ≡ []) ⊎ (drawn ≡ salt)
DrewFront (ForCryptomator salt) drawn = drawn ≡ []

-- What was drawn, by the answer. Nothing is, where no vault is opened; but where nothing is told, the file may be another one when it is
-- read again.
abbrev pub Drew : {Told : Type 0} → Option Told → Fresh → List ℕ → Result (Unit {0}) PassFault → Type 0
Drew told fresh drawn (Ok done) = DrewAll fresh drawn
Drew told fresh drawn (Err (Load fault)) = (drawn ≡ []) ⊎ ((told ≡ None) × DrewAll fresh drawn)
Drew told fresh drawn (Err ZeroRandom) = DrewZeros fresh drawn
Drew told fresh drawn (Err Random) = DrewFront fresh drawn
Drew told fresh drawn (Err Failed) = (drawn ≡ []) ⊎ DrewAll fresh drawn
Drew told fresh drawn (Err NoMemory) = (drawn ≡ []) ⊎ DrewAll fresh drawn
