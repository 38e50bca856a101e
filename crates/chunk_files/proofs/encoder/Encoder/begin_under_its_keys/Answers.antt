use Rattle.std.proofs.Common.{◌≡◌, ◌∙◌, true, sym, ap}
use Rattle.chunk_files.specs.declared.keys.Layout.{Layout}
use Rattle.chunk_files.specs.Keys.{format_by, format_of}
use Rattle.chunk_files.proofs.Encrypting.{empty-encrypted}
use Rattle.chunk_files.proofs.encoder.Encoder.begin_under_its_keys.Goals as goal

pub returns-then-empty_has_no_header-clause-bare_file : goal.returns-then-empty_has_no_header-clause-bare_file
returns-then-empty_has_no_header-clause-bare_file g c = λ bare.
    let keys = c.self.inside.keys in
    let allowed : (format_of keys).empty_has_no_header ≡ true =
    ap (λ (l : Layout). (format_by l keys.key keys.mac).empty_has_no_header) (sym c.layout.ensures) ∙ sym (c.empty_has_no_header.ensures keys.key keys.mac) ∙ c.if-empty_has_no_header.true in
    rw (← c.self.view_is) (empty-encrypted keys allowed)
