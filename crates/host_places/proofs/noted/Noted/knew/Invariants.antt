use Rattle.host_places.proofs.noted.Noted.knew.Given as goal

abbrev pub invariant-loop-known : goal.invariant-loop-known
invariant-loop-known l = Unit {0}
