use Rattle.std.proofs.Common.{◌≡◌, ◌≤◌}
use Rattle.run_samples.specs.Found.{AreFaultless, EachIsMade}
use Rattle.run_samples.proofs.sampling.sample.Given as goal

abbrev pub invariant-loop-sample : goal.invariant-loop-sample
invariant-loop-sample g l =
    record {
      machine : l.machine ≡ l.program;
      made : AreFaultless l.program l.setup l.question l.asked l.property l.made;
      few : l.made ≤ l._sample;
      each : EachIsMade l.setup l.question l.asked → l.made ≡ l._sample;
    }
