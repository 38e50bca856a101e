use Rattle.std.proofs.Common.{◌≡◌, ◌∙◌, refl, sym, subst}
use Rattle.std.proofs.lemmas.Result.{err_from_is_err_and}
use Rattle.folder_spec.specs.Seen.{IsSeen, seen, under}
use Rattle.vault_read.specs.declared.vault.VaultKind.TheVariants as kind
use Rattle.vault_spec.specs.Vault.{IsVault}
use Rattle.demo_core.specs.Making.{StandsNew, phrase}
use Rattle.demo_core.proofs.Chances.{load_chance}
use Rattle.demo_core.proofs.Standing.{holds_new, new_kind, seen_alone}
use Rattle.demo_core.proofs.making.load.Goals as goal

pub returns-clause-holds : goal.returns-clause-holds
returns-clause-holds g c seed a told stands =
    let vault = c.in_ok-load.field-0 in
    let root : vault.root ≡ _ = c.in_ok-load.ensures.root ∙ c.in_ok-at.ensures.is in
    holds_new c.roots_have_one_answer.ensures vault kind.Gocryptfs seed a.state
    (subst (λ r. IsVault (under r (seen a.state)) phrase vault.vault) (sym c.in_ok-load.ensures.root)
    (c.in_ok-load.ensures.vault (seen a.state) (subst (λ t. IsSeen t (seen a.state)) (sym told ∙ c.load.ensures.looks.told) refl)))
    (subst (λ r. StandsNew kind.Gocryptfs r a.state) (sym root) stands)

pub returns-clause-kind : goal.returns-clause-kind
returns-clause-kind g c a told stands =
    let vault = c.in_ok-load.field-0 in
    let root : vault.root ≡ _ = c.in_ok-load.ensures.root ∙ c.in_ok-at.ensures.is in
    new_kind c.roots_have_one_answer.ensures kind.Gocryptfs vault.root vault.vault a.state
    (subst (λ r. IsVault (under r (seen a.state)) phrase vault.vault) (sym c.in_ok-load.ensures.root)
    (c.in_ok-load.ensures.vault (seen a.state) (subst (λ t. IsSeen t (seen a.state)) (sym told ∙ c.load.ensures.looks.told) refl)))
    (subst (λ r. StandsNew kind.Gocryptfs r a.state) (sym root) stands)

pub returns-in_err-load-clause-chance : goal.returns-in_err-load-clause-chance
returns-in_err-load-clause-chance g c =
    let why = c.in_err-load.field-0.0 in
    let p = err_from_is_err_and c.from_residual-in_err-load.result c.from_residual-in_err-load.ensures.1 in
    rw (p.1, p.2) (λ a told stands.
    let root = c.in_ok-at.at in
    let new : StandsNew kind.Gocryptfs root a.state = subst (λ r. StandsNew kind.Gocryptfs r a.state) (sym c.in_ok-at.ensures.is) stands in
    load_chance c.roots_have_one_answer.ensures (under root (seen a.state)) phrase new.vault
    (subst (λ u. IsVault u phrase new.vault) (sym (seen_alone root a.state new.view new.alone)) new.new.opens) root why
    (c.in_err-load.ensures.fault (seen a.state) (subst (λ t. IsSeen t (seen a.state)) (sym told ∙ c.load.ensures.looks.told) refl)))
