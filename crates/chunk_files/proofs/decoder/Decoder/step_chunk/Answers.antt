use Rattle.std.proofs.Common.{◌≡◌, ◌∙◌, ◌<◌, ◌≤◌, ℕ, List, false, true, length, min, take, ap, ap₂, arith, refl, sym}
use Rattle.chunk_files.specs.declared.keys.Layout.{Layout}
use Rattle.chunk_files.specs.Format.{stored_size}
use Rattle.chunk_files.specs.Contents.{read_chunk}
use Rattle.chunk_files.specs.Keys.{format_by, format_of}
use Rattle.chunk_files.specs.declared.told.Told.{Told}
use Rattle.chunk_files.specs.Told.{header_of, header_told}
use Rattle.chunk_files.proofs.Decodings.{chunk-read-at, chunks-none, chunks-wanting, some-stored, some-told}
use Rattle.chunk_files.proofs.decoder.Decoder.step_chunk.Goals as goal
use Rattle.chunk_files.proofs.decoder.Decoder.step_chunk.Goals.{else-held-stored-via-then-held-stored+else-not-self, else-held-stored-via-else-held-stored}

pub returns-then-not-self-clause-gives : goal.returns-then-not-self-clause-gives
returns-then-not-self-clause-gives c =
    let d = c.self.inside in
    let stored : c.stored-stored.result ≡ stored_size (format_of d.keys) = c.stored-stored.ensures d.keys.key d.keys.mac ∙ ap (λ (l : Layout). stored_size (format_by l d.keys.key d.keys.mac)) c.layout.ensures in
    let less : length d.held < stored_size (format_of d.keys) = omega (arith, c.len-held.ensures.count, stored) in
    rw (← c.self.view_is) (c.if-not-self.true, chunks-wanting d.keys (header_told d.is_told d.told.value) _ d.number d.held (some-told d.is_told d.told.value (rw (← c.self.view_is) at c.requires)) less, λ more goes_on follow. refl)

pub returns-then-held-eq0-clause-gives : goal.returns-then-held-eq0-clause-gives
returns-then-held-eq0-clause-gives c =
    let d = c.self.inside in
    let stored : c.stored-stored.result ≡ stored_size (format_of d.keys) = c.stored-stored.ensures d.keys.key d.keys.mac ∙ ap (λ (l : Layout). stored_size (format_by l d.keys.key d.keys.mac)) c.layout.ensures in
    let some : 0 < stored_size (format_of d.keys) = some-stored d.keys in
    let ended : d.ended ≡ true = elim c.else-held-stored.branch [
      | else-held-stored-via-then-held-stored+else-not-self w ↦ w.if-not-self.false
      | else-held-stored-via-else-held-stored w ↦ absurd (omega (arith, stored, some, w.if-held-stored.false, c.if-held-eq0.true))
    ] in
    let none : length d.held ≡ 0 = sym c.len-held.ensures.count ∙ c.if-held-eq0.true in
    rw (← c.self.view_is) (ended, chunks-none d.keys (header_told d.is_told d.told.value) _ d.number d.held (some-told d.is_told d.told.value (rw (← c.self.view_is) at c.requires)) none, λ more goes_on follow. refl)

pub returns-in-Ok-clause-gives : goal.returns-in-Ok-clause-gives
returns-in-Ok-clause-gives c =
    let d = c.self.inside in
    let stored : c.stored-stored.result ≡ stored_size (format_of d.keys) = c.stored-stored.ensures d.keys.key d.keys.mac ∙ ap (λ (l : Layout). stored_size (format_by l d.keys.key d.keys.mac)) c.layout.ensures in
    let some : 0 < length d.held = omega (arith, c.len-held.ensures.count) in
    let whole : d.ended ≡ false → stored_size (format_of d.keys) ≤ length d.held = λ on. elim c.else-held-stored.branch [
      | else-held-stored-via-then-held-stored+else-not-self w ↦ absurd (let no : true ≡ false = sym w.if-not-self.false ∙ on in cc)
      | else-held-stored-via-else-held-stored w ↦ omega (arith, stored, w.if-held-stored.false, c.len-held.ensures.count)
    ] in
    let size : c.min-size.result ≡ min (length d.held) (stored_size (format_of d.keys)) = c.min-size.ensures ∙ ap₂ min c.len-held.ensures.count stored in
    let bytes = ap₂ (λ (b : List ℕ) (t : Told). read_chunk (format_of d.keys) (header_of t) d.number (take c.min-size.result b)) (sym c.bytes.ensures) (sym c.deref.ensures) in
    rw (← c.self.view_is, c.skip.ensures) (
      c.in-Ok.ensures.1,
      λ more goes_on follow.
          chunk-read-at d.keys (header_told d.is_told d.told.value) _ d.number _ d.held more d.ended goes_on c.min-size.result (some-told d.is_told d.told.value (rw (← c.self.view_is) at c.requires)) some whole size (bytes ∙ c.in-Ok.ensures.0) follow,
    )

pub returns-in-Err-clause-gives : goal.returns-in-Err-clause-gives
returns-in-Err-clause-gives c =
    let d = c.self.inside in
    let stored : c.stored-stored.result ≡ stored_size (format_of d.keys) = c.stored-stored.ensures d.keys.key d.keys.mac ∙ ap (λ (l : Layout). stored_size (format_by l d.keys.key d.keys.mac)) c.layout.ensures in
    let some : 0 < length d.held = omega (arith, c.len-held.ensures.count) in
    let whole : d.ended ≡ false → stored_size (format_of d.keys) ≤ length d.held = λ on. elim c.else-held-stored.branch [
      | else-held-stored-via-then-held-stored+else-not-self w ↦ absurd (let no : true ≡ false = sym w.if-not-self.false ∙ on in cc)
      | else-held-stored-via-else-held-stored w ↦ omega (arith, stored, w.if-held-stored.false, c.len-held.ensures.count)
    ] in
    let size : c.min-size.result ≡ min (length d.held) (stored_size (format_of d.keys)) = c.min-size.ensures ∙ ap₂ min c.len-held.ensures.count stored in
    let bytes = ap₂ (λ (b : List ℕ) (t : Told). read_chunk (format_of d.keys) (header_of t) d.number (take c.min-size.result b)) (sym c.bytes.ensures) (sym c.deref.ensures) in
    rw (← c.self.view_is) (
      λ more goes_on follow. chunk-read-at d.keys (header_told d.is_told d.told.value) _ d.number _ d.held more d.ended goes_on c.min-size.result (some-told d.is_told d.told.value (rw (← c.self.view_is) at c.requires)) some whole size (bytes ∙ c.in-Err.ensures.0) follow,
      λ more goes_on follow. refl,
    )
