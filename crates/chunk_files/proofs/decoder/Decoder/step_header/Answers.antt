use Rattle.std.proofs.Common.{◌≡◌, ◌∙◌, ◌<◌, ◌≤◌, ◌==◌, ◌&&◌, ℕ, List, ◌++◌, None, length, take, ap, ap₂, arith, refl, sym}
use Rattle.chunk_files.specs.declared.keys.Layout.{Layout}
use Rattle.chunk_files.specs.Keys.{format_by, format_of}
use Rattle.chunk_files.specs.declared.told.Told.{Told}
use Rattle.chunk_files.specs.Told.{header_of, header_told}
use Rattle.chunk_files.specs.Decoding.{Decoding, read_at}
use Rattle.chunk_files.proofs.Decodings.{before-header-at, header-fault-at, header-told-at}
use Rattle.chunk_files.proofs.decoder.Decoder.step_header.Goals as goal

pub returns-then-held-size-clause-step : goal.returns-then-held-size-clause-step
returns-then-held-size-clause-step c =
    let d = c.self.inside in
    let size : c.header_size-size.result ≡ (format_of d.keys).header_size = c.header_size-size.ensures d.keys.key d.keys.mac ∙ ap (λ (l : Layout). (format_by l d.keys.key d.keys.mac).header_size) c.layout-layout.ensures in
    let less : length d.held < (format_of d.keys).header_size = omega (arith, c.len-held.ensures.count, size) in
    let whole : c.is_whole_file.result ≡ ((length d.held == 0) && (format_of d.keys).empty_has_no_header) =
    c.is_whole_file.ensures d.keys.key d.keys.mac ∙ ap₂ (λ (n : ℕ) (l : Layout). (n == 0) && (format_by l d.keys.key d.keys.mac).empty_has_no_header) c.len-held.ensures.count c.layout-layout.ensures in
    let none : header_told d.is_told d.told.value ≡ None = ap (λ (x : Decoding). x.header) c.self.view_is ∙ c.requires in
    rw (← c.self.view_is, c.before_header.ensures) (before-header-at d.keys (header_told d.is_told d.told.value) d.number d.taken d.held d.ended c.is_whole_file.result none less whole)

pub returns-in-Ok-clause-read : goal.returns-in-Ok-clause-read
returns-in-Ok-clause-read c =
    let d = c.self.inside in
    let size : c.header_size-size.result ≡ (format_of d.keys).header_size = c.header_size-size.ensures d.keys.key d.keys.mac ∙ ap (λ (l : Layout). (format_by l d.keys.key d.keys.mac).header_size) c.layout-layout.ensures in
    let long : (format_of d.keys).header_size ≤ length d.held = omega (arith, c.len-held.ensures.count, size) in
    let none : header_told d.is_told d.told.value ≡ None = ap (λ (x : Decoding). x.header) c.self.view_is ∙ c.requires in
    let first : d.number ≡ 0 = c.self.invariant.0.none_before_the_header none in
    let read = c.in-Ok.ensures.told ∙ ap₂ (λ (n : ℕ) (b : List ℕ). (format_of d.keys).read_header (take n b)) size c.bytes.ensures in
    rw (← c.self.view_is, c.skip.ensures, size) (λ nothing. (λ more goes_on follow. header-told-at d.keys (header_told d.is_told d.told.value) (header_of c.read_header.new.told) d.number d.held more goes_on none first long read, refl))

pub returns-in-Err-clause-step : goal.returns-in-Err-clause-step
returns-in-Err-clause-step c =
    let d = c.self.inside in
    let size : c.header_size-size.result ≡ (format_of d.keys).header_size = c.header_size-size.ensures d.keys.key d.keys.mac ∙ ap (λ (l : Layout). (format_by l d.keys.key d.keys.mac).header_size) c.layout-layout.ensures in
    let long : (format_of d.keys).header_size ≤ length d.held = omega (arith, c.len-held.ensures.count, size) in
    let none : header_told d.is_told d.told.value ≡ None = ap (λ (x : Decoding). x.header) c.self.view_is ∙ c.requires in
    let read = c.in-Err.ensures.told ∙ ap₂ (λ (n : ℕ) (b : List ℕ). (format_of d.keys).read_header (take n b)) size c.bytes.ensures in
    rw (← c.self.view_is) (
      λ more goes_on follow. header-fault-at d.keys (header_told d.is_told d.told.value) c.in-Err.fault d.number d.held more goes_on none long read,
      λ more goes_on follow. ap (λ (t : Told). read_at d.keys (header_told d.is_told t) d.number (d.held ++ more) goes_on) (sym (c.in-Err.ensures.unchanged ∙ c.deref_mut.ensures.value)),
    )
