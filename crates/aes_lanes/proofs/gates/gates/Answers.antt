use Rattle.std.proofs.Common.{◌≡◌, ℕ, ◌+◌, ◌*◌, ◌/◌, ◌%◌, ap, ap₂, ◌∙◌, arith, bit_xor}
use Rattle.aes_lanes.specs.Field.{sbox}
use Rattle.aes_lanes.specs.Planes.{byte_of, byte_at}
use Rattle.aes_lanes.specs.PlaneList.{list_of}
use Rattle.aes_lanes.proofs.PlaneBits.{eight_same}
use Rattle.aes_lanes.proofs.PlaneWords.{AreWords-words, AreWords-set, IsPlane-plane, bit-word, bit-plane, more_places, fewer_left}
use Rattle.aes_lanes.proofs.gates.gates.Goals as goal

pub loop-place-init : goal.loop-place-init
loop-place-init c =
    let s = c.args.s.now in
    record {
      words0 = AreWords-words s.p0;
      words1 = AreWords-words s.p1;
      words2 = AreWords-words s.p2;
      words3 = AreWords-words s.p3;
      words4 = AreWords-words s.p4;
      words5 = AreWords-words s.p5;
      words6 = AreWords-words s.p6;
      words7 = AreWords-words s.p7;
      done = λ m w lm lw. absurd (omega arith);
      rest = λ m w lm le lw. ap byte_of (eight_same
          (bit-word s.p0 w m s.plane0 lw lm) (bit-word s.p1 w m s.plane1 lw lm) (bit-word s.p2 w m s.plane2 lw lm) (bit-word s.p3 w m s.plane3 lw lm)
          (bit-word s.p4 w m s.plane4 lw lm) (bit-word s.p5 w m s.plane5 lw lm) (bit-word s.p6 w m s.plane6 lw lm) (bit-word s.p7 w m s.plane7 lw lm));
    }

pub loop-place-preserved : goal.loop-place-preserved
loop-place-preserved c =
    let l = c.loop-place in
    let i = l.invariant in
    let made = c.gates_of-made.result in
    let fits = c.gates_of-made.type_inv in
    let s = list_of c.args.s.now in
    record {
      words0 = AreWords-set l.y0 l.place made.b0 i.words0 (omega arith) (omega (arith, fits));
      words1 = AreWords-set l.y1 l.place made.b1 i.words1 (omega arith) (omega (arith, fits));
      words2 = AreWords-set l.y2 l.place made.b2 i.words2 (omega arith) (omega (arith, fits));
      words3 = AreWords-set l.y3 l.place made.b3 i.words3 (omega arith) (omega (arith, fits));
      words4 = AreWords-set l.y4 l.place made.b4 i.words4 (omega arith) (omega (arith, fits));
      words5 = AreWords-set l.y5 l.place made.b5 i.words5 (omega arith) (omega (arith, fits));
      words6 = AreWords-set l.y6 l.place made.b6 i.words6 (omega arith) (omega (arith, fits));
      words7 = AreWords-set l.y7 l.place made.b7 i.words7 (omega arith) (omega (arith, fits));
      done =
          more_places l.place l.y0 l.y1 l.y2 l.y3 l.y4 l.y5 l.y6 l.y7 made.b0 made.b1 made.b2 made.b3 made.b4 made.b5 made.b6 made.b7 (omega arith)
          i.words0 i.words1 i.words2 i.words3 i.words4 i.words5 i.words6 i.words7 (λ x. bit_xor (sbox x) 0x63) (λ m w. byte_at s (m % 8) (8 * w + m / 8))
          c.gates_of-made.ensures i.rest i.done;
      rest =
          fewer_left l.place l.y0 l.y1 l.y2 l.y3 l.y4 l.y5 l.y6 l.y7 made.b0 made.b1 made.b2 made.b3 made.b4 made.b5 made.b6 made.b7 (omega arith)
          i.words0 i.words1 i.words2 i.words3 i.words4 i.words5 i.words6 i.words7 (λ m w. byte_at s (m % 8) (8 * w + m / 8)) i.rest;
    }

pub invariant_of-result : goal.invariant_of-result
invariant_of-result c =
    let l = c.loop-place in
    record {
      plane0 = IsPlane-plane l.y0;
      plane1 = IsPlane-plane l.y1;
      plane2 = IsPlane-plane l.y2;
      plane3 = IsPlane-plane l.y3;
      plane4 = IsPlane-plane l.y4;
      plane5 = IsPlane-plane l.y5;
      plane6 = IsPlane-plane l.y6;
      plane7 = IsPlane-plane l.y7;
    }

pub returns : goal.returns
returns c k p lk lp =
    let l = c.loop-place in
    let i = l.invariant in
    let s = list_of c.args.s.now in
    let m : ℕ = 8 * (p % 8) + k in
    let bit_is : m % 8 ≡ k = omega arith in
    let place_is : 8 * (p / 8) + m / 8 ≡ p = omega arith in
    ap byte_of (eight_same (bit-plane l.y0 p k i.words0 lp lk) (bit-plane l.y1 p k i.words1 lp lk) (bit-plane l.y2 p k i.words2 lp lk) (bit-plane l.y3 p k i.words3 lp lk)
    (bit-plane l.y4 p k i.words4 lp lk) (bit-plane l.y5 p k i.words5 lp lk) (bit-plane l.y6 p k i.words6 lp lk) (bit-plane l.y7 p k i.words7 lp lk))
    ∙ i.done m (p / 8) (omega arith) (omega arith)
    ∙ ap₂ (λ j q. bit_xor (sbox (byte_at s j q)) 0x63) bit_is place_is
