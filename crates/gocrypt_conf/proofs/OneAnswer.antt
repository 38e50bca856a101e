-- Bytes have one answer, and a passphrase unlocks one pair of keys.
use Rattle.std.proofs.Common.{◌≡◌, ℕ, List, Option, Some, None, Result, Ok, Err, MatchResult, inl, inr, sym, ◌∙◌}
use Rattle.gocrypt_conf.specs.declared.fault.GoConfFault.{GoConfFault}
use Rattle.gocrypt_conf.specs.Fields.{Fields, fields_in}
use Rattle.gocrypt_conf.specs.Tests.{ReadConf, Must, NoWrongFlag, Checks, wrong_flag}
use Rattle.gocrypt_conf.specs.Laws.{HaveOneAnswer}

must_once : (fact : Type 0) (fault : GoConfFault) (a b : ReadConf) (x y : Type 0) → (x → y → a ≡ b) → Must fact fault a x → Must fact fault b y → a ≡ b
must_once fact fault a b x y next (inl p) (inl q) = next p.1 q.1
must_once fact fault a b x y next (inl p) (inr q) = absurd (q.0 p.0)
must_once fact fault a b x y next (inr p) (inl q) = absurd (p.0 q.0)
must_once fact fault a b x y next (inr p) (inr q) = p.1 ∙ sym q.1

flag_once : (found : Option (List ℕ)) (a b : ReadConf) (x y : Type 0) → (x → y → a ≡ b) → NoWrongFlag found a x → NoWrongFlag found b y → a ≡ b
flag_once None a b x y next p q = next p q
flag_once (Some flag) a b x y next p q = p ∙ sym q

checks_once : (fields : Fields) (a b : ReadConf) → Checks fields a → Checks fields b → a ≡ b
unfolding Checks
checks_once fields a b =
    must_once _ _ a b _ _
    (flag_once (wrong_flag fields.flags) a b _ _
    (must_once _ _ a b _ _
    (must_once _ _ a b _ _
    (must_once _ _ a b _ _ (λ p q. p ∙ sym q)))))

match_once : (fields : Result Fields GoConfFault) (a b : ReadConf)
    → MatchResult fields (λ f. Checks f a) (λ fault. a ≡ Err fault) → MatchResult fields (λ f. Checks f b) (λ fault. b ≡ Err fault) → a ≡ b
match_once (Ok fields) a b p q = checks_once fields a b p q
match_once (Err fault) a b p q = p ∙ sym q

pub reads_once : HaveOneAnswer
reads_once bytes a b p q = match_once (fields_in bytes) a b p q
