use Rattle.std.proofs.Common.{◌≡◌, length}
use Rattle.chains.specs.Chains.{pillar_at}
use Rattle.chains.proofs.Reading.{Walk}
use Rattle.chains.proofs.read.chain_to.Given as goal

abbrev pub invariant-loop : goal.invariant-loop
invariant-loop g l = record { walk : Walk (length l.before) (pillar_at l.before) l.v l.p l.pillars.items; long : length l.pillars.items ≡ l.index }
