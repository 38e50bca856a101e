-- Bytes have one answer.
use Rattle.std.proofs.Common.{◌≡◌, Result, Ok, Err, MatchResult, inl, inr, sym, ◌∙◌}
use Rattle.cryptomator_conf.specs.declared.conf.MasterFile.{MasterFile}
use Rattle.cryptomator_conf.specs.declared.fault.CmConfFault.{CmConfFault}
use Rattle.cryptomator_conf.specs.Laws.{HaveOneAnswer}
use Rattle.cryptomator_conf.specs.Master.{MasterFields, Checks, master_fields_in}

checks_once : (fields : MasterFields) (a b : Result MasterFile CmConfFault) → Checks fields a → Checks fields b → a ≡ b
checks_once fields a b (inl p) (inl q) = p.1 ∙ sym q.1
checks_once fields a b (inl p) (inr q) = absurd (q.0 p.0)
checks_once fields a b (inr p) (inl q) = absurd (p.0 q.0)
checks_once fields a b (inr p) (inr q) = p.1 ∙ sym q.1

match_once : (fields : Result MasterFields CmConfFault) (a b : Result MasterFile CmConfFault)
    → MatchResult fields (λ f. Checks f a) (λ fault. a ≡ Err fault) → MatchResult fields (λ f. Checks f b) (λ fault. b ≡ Err fault) → a ≡ b
match_once (Ok fields) a b p q = checks_once fields a b p q
match_once (Err fault) a b p q = p ∙ sym q

pub reads_once : HaveOneAnswer
reads_once bytes a b p q = match_once (master_fields_in bytes) a b p q
