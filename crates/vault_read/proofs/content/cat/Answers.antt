use Rattle.std.proofs.Common.{◌≡◌, ◌∙◌, inl, sym, ap, subst}
use Rattle.std.proofs.lemmas.Result.{err_from_is_err_and}
use Rattle.std.proofs.KnownBytes.{Keeps-refl}
use Rattle.folder_spec.specs.View.{FileOf}
use Rattle.folder_spec.specs.Seen.{IsSeen}
use Rattle.vault_spec.specs.Vault.{format_of}
use Rattle.vault_read.specs.Contents.{Reader, still}
use Rattle.vault_read.proofs.WrittenContents.{cat_fault_found, cats_unfound, cats_read}
use Rattle.vault_read.proofs.content.cat.Goals as goal

pub write_all-requires : goal.write_all-requires
write_all-requires g c = record {
  file = λ v seen.
      let place = c.in_ok-at.ensures.place v (subst (λ t. IsSeen t v) c.in_ok-at.ensures.looks.told seen) in
      let same : c.in_ok-reader.reader.at ≡ c.in_ok-at.at = ap (λ (r : Reader). r.at) c.in_ok-reader.ensures.reader in
      (place.3.0, ap v same ∙ place.3.1, c.in_ok-reader.ensures.suits place.3.0);
}

pub returns-in_err-at-clause-cats : goal.returns-in_err-at-clause-cats
returns-in_err-at-clause-cats g c =
    let p = err_from_is_err_and c.from_residual.result c.from_residual.ensures.1 in
    let vault = c.args.vault.now in
    rw (p.1, p.2)
    (λ v seen. cats_unfound (format_of vault.vault) vault.root v c.args.path.now c.in_err-at.field-0.0 (g.O.Sink.taken c.args.out.now) (c.in_err-at.ensures.fault v seen))

pub returns-in_err-reader-clause-cats : goal.returns-in_err-reader-clause-cats
returns-in_err-reader-clause-cats g c =
    let p = err_from_is_err_and c.from_residual-in_err-reader.result c.from_residual-in_err-reader.ensures.1 in
    rw (p.1, p.2) (λ v seen. inl (Keeps-refl (g.O.Sink.taken c.args.out.now)))

pub returns-in_err-chunk-clause-cats : goal.returns-in_err-chunk-clause-cats
returns-in_err-chunk-clause-cats g c =
    let p = err_from_is_err_and c.from_residual-in_err-chunk.result c.from_residual-in_err-chunk.ensures.1 in
    rw (p.1, p.2) (λ v seen. inl (Keeps-refl (g.O.Sink.taken c.args.out.now)))

pub returns-clause-cats : goal.returns-clause-cats
returns-clause-cats g c = λ v seen.
    let vault = c.args.vault.now in
    let place = c.in_ok-at.ensures.place v seen in
    let bytes = place.3.0 in
    let reader = c.in_ok-reader.reader in
    let same : reader.at ≡ c.in_ok-at.at = ap (λ (r : Reader). r.at) c.in_ok-reader.ensures.reader in
    let file : v reader.at ≡ FileOf bytes = ap v same ∙ place.3.1 in
    cats_read (format_of vault.vault) vault.root v c.args.path.now c.write_all.result (g.O.Sink.taken c.args.out.now) (g.O.Sink.taken c.write_all.new.out) reader.at (still reader.decoding bytes)
    (record { rest = place.0; bytes = bytes; stands = place.2; place = same ∙ place.1; file = file; gives = c.in_ok-reader.ensures.still bytes })
    (c.write_all.ensures.writes v (subst (λ t. IsSeen t v) (sym c.in_ok-at.ensures.looks.told) seen) bytes file)

pub returns-in_err-at-clause-nothing : goal.returns-in_err-at-clause-nothing
returns-in_err-at-clause-nothing g c = λ fault is. Keeps-refl (g.O.Sink.taken c.args.out.now)

pub returns-in_err-at-clause-fault : goal.returns-in_err-at-clause-fault
returns-in_err-at-clause-fault g c =
    let p = err_from_is_err_and c.from_residual.result c.from_residual.ensures.1 in
    rw (p.1, p.2) (cat_fault_found c.in_err-at.field-0.0)
