-- What is barred, step by step.
use Rattle.std.proofs.Common.{IsTrue}
use Rattle.host_ports.specs.Ground.{Bars, KeepsBars}

pub keeps_same : (a : Bars) → KeepsBars a a
keeps_same a = record { changes = λ is. is; settles = λ is. is; reads = λ is. is }

pub keeps_after : {a b c : Bars} → KeepsBars a b → KeepsBars b c → KeepsBars a c
keeps_after {a} {b} {c} x y = record {
  changes = λ is. y.changes (x.changes is);
  settles = λ is. y.settles (x.settles is);
  reads = λ is. y.reads (x.reads is);
}

pub keeps_with : (a b : Bars) → (IsTrue a.changes → IsTrue b.changes) → (IsTrue a.settles → IsTrue b.settles) → (IsTrue a.reads → IsTrue b.reads) → KeepsBars a b
keeps_with a b changes settles reads = record { changes = changes; settles = settles; reads = reads }
