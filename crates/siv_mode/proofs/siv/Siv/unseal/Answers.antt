use Rattle.std.proofs.Common.{◌∙◌, sym, ap}
use Rattle.siv_mode.specs.S2v.{s2v, associated}
use Rattle.siv_mode.proofs.Seals.{opened-is, vector-is, opens-where}
use Rattle.siv_mode.proofs.siv.Siv.unseal.Goals as goal

pub returns-then-not-same_bytes-clause-bad_tag : goal.returns-then-not-same_bytes-clause-bad_tag
returns-then-not-same_bytes-clause-bad_tag g c = λ is plain opens.
    let mac = g.C.Cipher.image c.args.self.now.mac in
    let ctr = g.C.Cipher.image c.args.self.now.ctr in
    let sixteen_mac = g.met.C.Cipher.length_image c.args.self.now.mac in
    let twice = c.counter_mode_undoes_itself.ensures.in_sixteen_bytes ctr (g.met.C.Cipher.length_image c.args.self.now.ctr) in
    let strings = associated c.args.ad in
    let bytes = c.args.sealed.now in
    let vector = c.whole-vector.ensures ∙ c.split_at.ensures.front in
    let text = rw (vector, c.split_at.ensures.back) at c.in_ok-text.ensures in
    let plain_is = opened-is mac ctr sixteen_mac twice strings bytes plain opens in
    let right = vector-is mac ctr sixteen_mac strings bytes plain opens in
    let same = c.same_bytes.ensures.1 (c.s2v.ensures ∙ ap (s2v mac strings) (c.as_slice.ensures.value ∙ text ∙ plain_is) ∙ sym right ∙ sym vector) in
    cc

pub returns-clause-opened : goal.returns-clause-opened
returns-clause-opened g c =
    let mac = g.C.Cipher.image c.args.self.now.mac in
    let ctr = g.C.Cipher.image c.args.self.now.ctr in
    let twice = c.counter_mode_undoes_itself.ensures.in_sixteen_bytes ctr (g.met.C.Cipher.length_image c.args.self.now.ctr) in
    let strings = associated c.args.ad in
    let vector = c.whole-vector.ensures ∙ c.split_at.ensures.front in
    let text = rw (vector, c.split_at.ensures.back) at c.in_ok-text.ensures in
    let right = sym (ap (s2v mac strings) c.as_slice.ensures.value) ∙ sym c.s2v.ensures ∙ c.same_bytes.ensures.0 c.if-not-same_bytes.false ∙ vector in
    opens-where mac ctr twice strings c.args.sealed.now _ text right
