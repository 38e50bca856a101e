use Rattle.std.proofs.Common.{◌≡◌, ◌∙◌, ◌<◌, ℕ, List, Err, length, take, sym, ap, subst, arith}
use Rattle.std.specs.Io.KnownBytes.{Appends}
use Rattle.std.proofs.lemmas.Result.{err_from_is_err_and}
use Rattle.port_model.specs.Told.{AppendsPrefix}
use Rattle.folder_spec.specs.Path.{Path}
use Rattle.folder_spec.specs.Seen.{IsSeen}
use Rattle.vault_read.specs.Contents.{Gives, still}
use Rattle.vault_read.proofs.WrittenContents.{cat_fault_read, written_fault, written_end, written_bytes, written_sink}
use Rattle.vault_read.proofs.content.write_all.Goals as goal

pub returns-in_err-count-clause-writes : goal.returns-in_err-count-clause-writes
returns-in_err-count-clause-writes g c =
    let i = c.chunks.invariant in
    let p = err_from_is_err_and c.from_residual.result c.from_residual.ensures.1 in
    rw (p.1, p.2)
    (λ v seen bytes file.
    let gives = c.in_err-count.ensures.gives v (subst (λ t. IsSeen t v) (sym i.told) seen) bytes (ap v i.at ∙ file) in
    written_fault (still c.args.reader.now.decoding bytes) (g.O.Sink.taken c.args.out.now) c.chunks.total (g.O.Sink.taken c.chunks.out) c.args.reader.now.at c.in_err-count.field-0.0
    c.next.new.out (still c.chunks.reader.decoding bytes) (still c.next.new.self.decoding bytes) (i.written v seen bytes file)
    (subst (λ (a : Path). Gives a (Err c.in_err-count.field-0.0) c.next.new.out (still c.chunks.reader.decoding bytes) (still c.next.new.self.decoding bytes)) i.at gives))

pub returns-then-count-eq0-clause-writes : goal.returns-then-count-eq0-clause-writes
returns-then-count-eq0-clause-writes g c = λ v seen bytes file.
    let i = c.chunks.invariant in
    let gives = c.in_ok-count.ensures.gives v (subst (λ t. IsSeen t v) (sym i.told) seen) bytes (ap v i.at ∙ file) in
    written_end (still c.args.reader.now.decoding bytes) (g.O.Sink.taken c.args.out.now) c.chunks.total (g.O.Sink.taken c.chunks.out) c.in_ok-count.count
    c.next.new.out (still c.chunks.reader.decoding bytes) (still c.next.new.self.decoding bytes) (i.written v seen bytes file) c.if-count-eq0.true gives

pub chunks-preserved : goal.chunks-preserved
chunks-preserved g c =
    let i = c.chunks.invariant in
    let e = c.in_ok-count.ensures in
    let n = c.in_ok-count.count in
    let some : 0 < n = omega (arith, c.if-count-eq0.false) in
    let size : length c.next.new.out ≡ 32816 = ap length (sym c.bytes.ensures.value) ∙ c.bytes.ensures.size in
    record {
      told = e.looks.told ∙ i.told;
      at = e.at ∙ i.at;
      file = λ v seen. e.suits v (subst (λ t. IsSeen t v) (sym i.told) seen);
      written = λ v seen bytes file.
          let gives = e.gives v (subst (λ t. IsSeen t v) (sym i.told) seen) bytes (ap v i.at ∙ file) in
          let piece : Appends (g.O.Sink.taken c.chunks.out) (g.O.Sink.taken c.put.new.self) (take n c.next.new.out) =
          subst (λ (b : List ℕ). Appends (g.O.Sink.taken c.chunks.out) (g.O.Sink.taken c.put.new.self) (take n b)) c.bytes.ensures.value c.in-Ok.ensures.whole in
          written_bytes (still c.args.reader.now.decoding bytes) (g.O.Sink.taken c.args.out.now) c.chunks.total (g.O.Sink.taken c.chunks.out) n
          c.next.new.out (still c.chunks.reader.decoding bytes) (still c.next.new.self.decoding bytes) (i.written v seen bytes file) some e.size gives (g.O.Sink.taken c.put.new.self) piece;
      fits = omega (arith, i.fits, e.number some, e.size, size);
      grows = omega (arith, i.grows, e.looks.blames.grows);
      counted = omega (arith, i.counted, c.in-Ok.ensures.counted);
    }

pub returns-in-Err-clause-writes : goal.returns-in-Err-clause-writes
returns-in-Err-clause-writes g c = λ v seen bytes file.
    let i = c.chunks.invariant in
    let n = c.in_ok-count.count in
    let some : 0 < n = omega (arith, c.if-count-eq0.false) in
    let gives = c.in_ok-count.ensures.gives v (subst (λ t. IsSeen t v) (sym i.told) seen) bytes (ap v i.at ∙ file) in
    let piece : AppendsPrefix (g.O.Sink.taken c.chunks.out) (g.O.Sink.taken c.put.new.self) (take n c.next.new.out) =
    subst (λ (b : List ℕ). AppendsPrefix (g.O.Sink.taken c.chunks.out) (g.O.Sink.taken c.put.new.self) (take n b)) c.bytes.ensures.value c.in-Err.ensures.fault_takes_a_prefix in
    written_sink (still c.args.reader.now.decoding bytes) (g.O.Sink.taken c.args.out.now) c.chunks.total (g.O.Sink.taken c.chunks.out) n
    c.next.new.out (still c.chunks.reader.decoding bytes) (still c.next.new.self.decoding bytes) (i.written v seen bytes file) some gives (g.O.Sink.taken c.put.new.self) piece

pub returns-in_err-count-clause-fault : goal.returns-in_err-count-clause-fault
returns-in_err-count-clause-fault g c =
    let p = err_from_is_err_and c.from_residual.result c.from_residual.ensures.1 in
    rw (p.1, p.2) (cat_fault_read c.chunks.reader.at c.in_err-count.field-0.0 c.in_err-count.ensures.fault)
