use Rattle.std.proofs.Common.{◌≡◌, ◌∙◌, List, [], ◌∷◌, ℕ, take, ap, subst, sym, arith, refl}
use Rattle.std.proofs.lemmas.List.{take_all}
use Rattle.std.proofs.lemmas.Result.{err_from_is_err_and}
use Rattle.port_model.specs.Draws.{Draws}
use Rattle.chunk_files.specs.declared.keys.Layout.TheVariants.{Go, CmGcm, CmCtr}
use Rattle.chunk_files.specs.Format.{Format}
use Rattle.chunk_files.specs.Keys.{format_by}
use Rattle.chunk_files.specs.Zeros.{is_all_zero}
use Rattle.chunk_files.specs.Contents.{is_refused}
use Rattle.chunk_files.proofs.FailedDraws.{fault-by}
use Rattle.chunk_files.proofs.draw.draw_nonce.Goals as goal

pub returns-in_ok-bytes-in-Go-clause-accepted : goal.returns-in_ok-bytes-in-Go-clause-accepted
unfolding is_refused
returns-in_ok-bytes-in-Go-clause-accepted g c =
    let bytes : List ℕ = c.in_ok-bytes-in-Go.bytes in
    let all : take 16 bytes ≡ bytes = take_all 16 bytes (omega (arith, c.in_ok-bytes-in-Go.ensures.sixteen)) in
    rw (← c.layout.ensures, c.in-Go.is) (ap is_all_zero all ∙ c.in_ok-bytes-in-Go.ensures.some_bit)

pub returns-in_ok-nonce-in-CmGcm-clause-accepted : goal.returns-in_ok-nonce-in-CmGcm-clause-accepted
unfolding is_refused
returns-in_ok-nonce-in-CmGcm-clause-accepted g c = rw (← c.layout.ensures, c.in-CmGcm.is) refl

pub returns-in_ok-bytes-in-CmCtr-clause-accepted : goal.returns-in_ok-bytes-in-CmCtr-clause-accepted
unfolding is_refused
returns-in_ok-bytes-in-CmCtr-clause-accepted g c = rw (← c.layout.ensures, c.in-CmCtr.is) refl

pub returns-in_ok-bytes-in-Go-clause-drawn : goal.returns-in_ok-bytes-in-Go-clause-drawn
returns-in_ok-bytes-in-Go-clause-drawn g c =
    let bytes : List ℕ = c.in_ok-bytes-in-Go.bytes in
    let all : take 16 bytes ≡ bytes = take_all 16 bytes (omega (arith, c.in_ok-bytes-in-Go.ensures.sixteen)) in
    subst (λ (b : List ℕ). Draws (g.R.Randoms.left c.args.random.now) (g.R.Randoms.left c.draw_some.new.random) b) (sym all) c.in_ok-bytes-in-Go.ensures.drawn

pub returns-in_ok-nonce-in-CmGcm-clause-drawn : goal.returns-in_ok-nonce-in-CmGcm-clause-drawn
returns-in_ok-nonce-in-CmGcm-clause-drawn g c =
    subst (λ (b : List ℕ). Draws (g.R.Randoms.left c.args.random.now) (g.R.Randoms.left c.draw.new.random) b) (sym c.padded.ensures) c.in_ok-nonce-in-CmGcm.ensures.drawn

pub returns-in_ok-bytes-in-CmCtr-clause-drawn : goal.returns-in_ok-bytes-in-CmCtr-clause-drawn
returns-in_ok-bytes-in-CmCtr-clause-drawn g c =
    let bytes : List ℕ = c.in_ok-bytes-in-CmCtr.bytes in
    let all : take 16 bytes ≡ bytes = take_all 16 bytes (omega (arith, c.in_ok-bytes-in-CmCtr.ensures.size)) in
    subst (λ (b : List ℕ). Draws (g.R.Randoms.left c.args.random.now) (g.R.Randoms.left c.draw-in-CmCtr.new.random) b) (sym all) c.in_ok-bytes-in-CmCtr.ensures.drawn

pub returns-in_err-bytes-in-Go-clause-fault : goal.returns-in_err-bytes-in-Go-clause-fault
returns-in_err-bytes-in-Go-clause-fault g c =
    let keys = c.args.keys.now in
    let p = err_from_is_err_and c.from_residual.result c.from_residual.ensures.1 in
    rw (p.1, p.2) (fault-by (λ (f : Format). f.nonce_size ∷ []) keys Go _ _ _ _ (sym c.layout.ensures ∙ c.in-Go.is) c.in_err-bytes-in-Go.field-0.0 (c.in_err-bytes-in-Go.ensures.fault keys.key))

pub returns-in_err-nonce-in-CmGcm-clause-fault : goal.returns-in_err-nonce-in-CmGcm-clause-fault
returns-in_err-nonce-in-CmGcm-clause-fault g c =
    let keys = c.args.keys.now in
    let p = err_from_is_err_and c.from_residual-in_err-nonce-in-CmGcm.result c.from_residual-in_err-nonce-in-CmGcm.ensures.1 in
    rw (p.1, p.2)
    (fault-by (λ (f : Format). f.nonce_size ∷ []) keys CmGcm _ _ _ _ (sym c.layout.ensures ∙ c.in-CmGcm.is) c.in_err-nonce-in-CmGcm.field-0.0 (c.in_err-nonce-in-CmGcm.ensures.fault (format_by CmGcm keys.key keys.mac) []))

pub returns-in_err-bytes-in-CmCtr-clause-fault : goal.returns-in_err-bytes-in-CmCtr-clause-fault
returns-in_err-bytes-in-CmCtr-clause-fault g c =
    let keys = c.args.keys.now in
    let p = err_from_is_err_and c.from_residual-in_err-bytes-in-CmCtr.result c.from_residual-in_err-bytes-in-CmCtr.ensures.1 in
    rw (p.1, p.2)
    (fault-by (λ (f : Format). f.nonce_size ∷ []) keys CmCtr _ _ _ _ (sym c.layout.ensures ∙ c.in-CmCtr.is) c.in_err-bytes-in-CmCtr.field-0.0 (c.in_err-bytes-in-CmCtr.ensures.fault (format_by CmCtr keys.key keys.mac) []))
