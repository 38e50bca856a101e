use Rattle.host_places.proofs.noted.Noted.knew_above.Given as goal

abbrev pub invariant-loop-dir : goal.invariant-loop-dir
invariant-loop-dir l = Unit {0}
