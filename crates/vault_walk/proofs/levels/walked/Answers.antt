use Rattle.std.proofs.Common.{◌≡◌, ◌+◌, ◌≤◌, ℕ, suc, List, length, sym, ◌∙◌, subst, arith}
use Rattle.std.proofs.lemmas.Result.{err_from_is_err_and}
use Rattle.folder_spec.specs.Seen.{IsSeen, under}
use Rattle.folder_spec.specs.View.{View}
use Rattle.vault_spec.specs.Format.{Format}
use Rattle.vault_spec.specs.Vault.{format_of}
use Rattle.vault_walk.specs.Levels.{HasWalked}
use Rattle.vault_walk.specs.Survey.{depth_limit, item_limit, HasTooMany}
use Rattle.vault_walk.specs.Walking.{Way}
use Rattle.vault_walk.specs.declared.levels.Walk.{Walk}
use Rattle.vault_walk.proofs.Answering.{answers_on}
use Rattle.vault_walk.proofs.Counting.{within_limit}
use Rattle.vault_walk.proofs.levels.walked.Goals as goal

at_end : (f : Format) (v : View) (n : ℕ) (walk : Walk) (waiting : List Way) → n ≤ 64 → 64 ≤ n → HasWalked f v n walk waiting → HasWalked f v depth_limit walk waiting
at_end f v n walk waiting most least h = let is : n ≡ depth_limit = omega (arith, most, least) in subst (λ k. HasWalked f v k walk waiting) is h

few_items : (f : Format) (v : View) (walk : Walk) (waiting : List Way) → HasWalked f v depth_limit walk waiting → length walk.items.items ≤ item_limit → ¬ HasTooMany f v
few_items f v walk waiting h size = within_limit f v walk.visits.items waiting walk.items.items h.walked h.tells.items size

pub returns-in_err-waiting-clause-answers : goal.returns-in_err-waiting-clause-answers
returns-in_err-waiting-clause-answers g c =
    let inv = c.loop-depth.invariant in
    let p = err_from_is_err_and c.from_residual-in_err-waiting.result c.from_residual-in_err-waiting.ensures.1 in
    rw (p.1, p.2)
    (answers_on ℕ ℕ _ _ _ _ (g.F.Folder.faults c.args.folder.now) (g.F.Folder.faults c.loop-depth.folder) (g.F.Folder.faults c.next_level.new.folder) c.in_err-waiting.field-0.0
    (λ many v is. many v (subst (λ t. IsSeen t v) (sym inv.told) is) c.loop-depth._depth c.loop-depth-test.true (inv.walked v is)) (λ none. absurd none) inv.counts
    c.in_err-waiting.ensures.answers)

pub loop-depth-preserved : goal.loop-depth-preserved
loop-depth-preserved g c =
    let inv = c.loop-depth.invariant in
    let counts = c.in_ok-waiting.ensures.answers in
    let n = c.loop-depth._depth in
    let more : suc n ≡ n + 1 = omega arith in
    record {
      told = c.in_ok-waiting.ensures.told ∙ inv.told;
      counts = omega (arith, inv.counts, counts);
      fits = c.in_ok-waiting.ensures.fits;
      size = c.in_ok-waiting.ensures.size inv.size;
      walked = λ v is.
          subst (λ k. HasWalked (format_of c.args.vault.now.vault) (under c.args.vault.now.root v) k c.next_level.new.self c.in_ok-waiting.waiting.items) more
          (c.in_ok-waiting.ensures.walks v (subst (λ t. IsSeen t v) (sym inv.told) is) n (inv.walked v is));
    }

pub returns-in_err-last_level-clause-answers : goal.returns-in_err-last_level-clause-answers
returns-in_err-last_level-clause-answers g c =
    let inv = c.loop-depth.invariant in
    let f = format_of c.args.vault.now.vault in
    let root = c.args.vault.now.root in
    let p = err_from_is_err_and c.from_residual-in_err-last_level.result c.from_residual-in_err-last_level.ensures.1 in
    rw (p.1, p.2)
    (answers_on ℕ ℕ _ _ _ _ (g.F.Folder.faults c.args.folder.now) (g.F.Folder.faults c.loop-depth.folder) (g.F.Folder.faults c.last_level.new.folder) c.in_err-last_level.field-0.0
    (λ none. absurd none)
    (λ deep v is.
    let h = at_end f (under root v) c.loop-depth._depth c.loop-depth.walk c.loop-depth.waiting.items c.loop-depth.auto._depth-end c.loop-depth-test.false (inv.walked v is) in
    record { items = few_items f (under root v) c.loop-depth.walk c.loop-depth.waiting.items h inv.size; deep = deep v (subst (λ t. IsSeen t v) (sym inv.told) is) h })
    inv.counts c.in_err-last_level.ensures.answers)

pub returns-clause-walked : goal.returns-clause-walked
returns-clause-walked g c v is =
    let inv = c.loop-depth.invariant in
    let f = format_of c.args.vault.now.vault in
    let w = under c.args.vault.now.root v in
    let h = at_end f w c.loop-depth._depth c.loop-depth.walk c.loop-depth.waiting.items c.loop-depth.auto._depth-end c.loop-depth-test.false (inv.walked v is) in
    c.in_ok-last_level.ensures.walks v (subst (λ t. IsSeen t v) (sym inv.told) is) h

pub returns-clause-within : goal.returns-clause-within
returns-clause-within g c v is =
    let inv = c.loop-depth.invariant in
    let f = format_of c.args.vault.now.vault in
    let w = under c.args.vault.now.root v in
    let h = at_end f w c.loop-depth._depth c.loop-depth.walk c.loop-depth.waiting.items c.loop-depth.auto._depth-end c.loop-depth-test.false (inv.walked v is) in
    record { items = few_items f w c.loop-depth.walk c.loop-depth.waiting.items h inv.size; depth = c.in_ok-last_level.ensures.shallow v (subst (λ t. IsSeen t v) (sym inv.told) is) h }
