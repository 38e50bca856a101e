-- Zeros among what is drawn, and drawing that goes on.
use Rattle.std.proofs.Common.{◌≡◌, ◌≢◌, ◌∙◌, ◌⊎◌, ℕ, zero, suc, ◌==◌, ◌&&◌, Bool, true, false, List, [], ◌∷◌, ◌++◌, length, take, drop, replicate, Option, Result, Err, inl, inr, refl, sym, ap, subst, append_assoc}
use Rattle.std.proofs.lemmas.Bool.{eqb-true}
use Rattle.std.proofs.lemmas.List.{take-append-drop}
use Rattle.chunk_files.specs.Keys.{Keys}
use Rattle.chunk_files.specs.Zeros.{is_all_zero}
use Rattle.content_writing.specs.Writing.{DrewZeros, sixteen}
use Rattle.item_making.specs.declared.fault.PutFault.{PutFault}
use Rattle.item_making.specs.declared.fault.PutFault.TheVariants as put
use Rattle.cryptomator_conf.specs.declared.conf.CmDraw.{CmDraw}
use Rattle.folder_spec.specs.Path.{Path}
use Rattle.gocrypt_conf.specs.declared.conf.GoDraw.{GoDraw}
use Rattle.port_model.specs.Draws.{ByteStream, Draws}
use Rattle.vault_write.specs.Founding.{AreBytes, CmDrew, DrewGoZeros, GoDrew, IsGoDraw}
use Rattle.demo_core.specs.Drawing.{Drew, HasZeroRun}

-- ---- sixteen zeros in a row

pub run_before : (xs ys : List ℕ) → HasZeroRun xs → HasZeroRun (xs ++ ys)
run_before xs ys run = record {
  front = run.front;
  back = run.back ++ ys;
  is = ap (λ l. l ++ ys) run.is ∙ append_assoc (run.front ++ replicate 16 0) run.back ys;
}

pub run_behind : (xs ys : List ℕ) → HasZeroRun ys → HasZeroRun (xs ++ ys)
run_behind xs ys run = record {
  front = xs ++ run.front;
  back = run.back;
  is = ap (λ l. xs ++ l) run.is ∙ sym (append_assoc xs (run.front ++ replicate 16 0) run.back) ∙ ap (λ l. l ++ run.back) (sym (append_assoc xs run.front (replicate 16 0)));
}

run_first : (bytes : List ℕ) → take 16 bytes ≡ replicate 16 0 → HasZeroRun bytes
run_first bytes zeros = record {
  front = [];
  back = drop 16 bytes;
  is = sym (take-append-drop 16 bytes) ∙ ap (λ l. l ++ drop 16 bytes) zeros;
}

run_sixteen : (number : ℕ) (bytes : List ℕ) → sixteen number bytes ≡ replicate 16 0 → HasZeroRun bytes
run_sixteen zero bytes zeros = run_first bytes zeros
run_sixteen (suc number) bytes zeros =
    subst HasZeroRun (take-append-drop 16 bytes) (run_behind (take 16 bytes) (drop 16 bytes) (run_sixteen number (drop 16 bytes) zeros))

pub run_refused : (keys : Keys) (drawn : List ℕ) → DrewZeros keys drawn → HasZeroRun drawn
run_refused keys drawn drew = run_sixteen drew.0 drawn drew.1.zeros

both_true : (a b : Bool) → (a && b) ≡ true → (a ≡ true) × (b ≡ true)
both_true true true all = (refl, refl)
both_true true false all = cc
both_true false b all = cc

all_zeros : (bytes : List ℕ) → is_all_zero bytes ≡ true → bytes ≡ replicate (length bytes) 0
all_zeros [] all = refl
all_zeros (x ∷ xs) all =
    let both = both_true (x == 0) (is_all_zero xs) all in
    rw (eqb-true x 0 both.0) (ap (λ (r : List ℕ). 0 ∷ r) (all_zeros xs both.1))

run_zeros : (bytes : List ℕ) → AreBytes 16 bytes → is_all_zero bytes ≡ true → HasZeroRun bytes
run_zeros bytes are zeros = record { front = []; back = []; is = all_zeros bytes zeros ∙ ap (λ n. replicate n 0) are.size }

-- ---- a vault

go_zeros : (d : GoDraw) (key drawn : List ℕ) → IsGoDraw d key → DrewGoZeros d key drawn → HasZeroRun drawn
go_zeros d key drawn are drew = elim drew [
  | inl nonce ↦ subst HasZeroRun (sym nonce.0) (run_behind (d.master ++ d.salt) d.nonce (run_zeros d.nonce are.nonce nonce.1))
  | inr root ↦ subst HasZeroRun (sym root.0) (run_behind (d.master ++ d.salt ++ d.nonce) key (run_zeros key are.root root.2))
]

pub go_drew : (d : GoDraw) (key drawn : List ℕ) (result : Result (Unit {0}) PutFault) → IsGoDraw d key → GoDrew d key drawn result → result ≡ Err put.ZeroRandom → HasZeroRun drawn
go_drew d key drawn result are drew is = go_zeros d key drawn are (subst (GoDrew {T = Unit {0}} d key drawn) is drew)

pub cm_drew : (d : CmDraw) (drawn : List ℕ) (result : Result (Unit {0}) PutFault) → CmDrew d drawn result → result ≡ Err put.ZeroRandom → HasZeroRun drawn
cm_drew d drawn result drew is = absurd (subst (CmDrew {T = Unit {0}} d drawn) is drew)

-- ---- drawing goes on

abbrev pub Compose : Type 0
Compose = (first second third : Option ByteStream) (xs ys : List ℕ) → Draws first second xs → Draws second third ys → Draws first third (xs ++ ys)

-- where zeros end the whole, they end its first or its second part
pub drew_then : Compose → (whole part rest : Type 0) (first second third : Option ByteStream) → (whole → part ⊎ rest) → Drew part first second → Drew rest second third → Drew whole first third
drew_then compose whole part rest first second third reason one other = record {
  drawn = one.drawn ++ other.drawn;
  were_drawn = compose first second third one.drawn other.drawn one.were_drawn other.were_drawn;
  run = λ zeros. elim (reason zeros) [
    | inl here ↦ run_before one.drawn other.drawn (one.run here)
    | inr there ↦ run_behind one.drawn other.drawn (other.run there)
  ];
}

-- for another reason
pub drew_for : (whole part : Type 0) (first second : Option ByteStream) → (whole → part) → Drew part first second → Drew whole first second
drew_for whole part first second reason drew = record { drawn = drew.drawn; were_drawn = drew.were_drawn; run = λ zeros. drew.run (reason zeros) }

-- nothing is drawn
pub drew_nothing : ((stream : Option ByteStream) → Draws stream stream []) → (whole : Type 0) (first second : Option ByteStream) → second ≡ first → ¬ whole → Drew whole first second
drew_nothing none whole first second is reason = record {
  drawn = [];
  were_drawn = subst (λ s. Draws first s []) (sym is) (none first);
  run = λ zeros. absurd (reason zeros);
}

pub not_zeros : (at : Path) (why : PutFault) → (why ≡ put.Taken at) ⊎ ((why ≡ put.Failed) ⊎ (why ≡ put.NoMemory)) → why ≢ put.ZeroRandom
not_zeros at why cause zeros = elim cause [
  | inl taken ↦ let never : put.Taken at ≡ put.ZeroRandom = sym taken ∙ zeros in cc never
  | inr (inl failed) ↦ let never : put.Failed ≡ put.ZeroRandom = sym failed ∙ zeros in cc never
  | inr (inr memory) ↦ let never : put.NoMemory ≡ put.ZeroRandom = sym memory ∙ zeros in cc never
]
