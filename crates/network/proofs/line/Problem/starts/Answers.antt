use Rattle.std.proofs.Common.{ℕ, ◌<◌, length, rules, tests, arith}
use Rattle.chains.specs.Measures.{Steps, no_steps}
use Rattle.network.specs.Line.{Start}
use Rattle.network.specs.Lines.{line_of}
use Rattle.network.proofs.FromFn.{from_fn_at}
use Rattle.network.proofs.line.Problem.starts.Goals as goal

pub returns : goal.returns
returns c = λ j h. from_fn_at (λ (i : ℕ) (x : Steps). i < length c.args.self.now.links.now → Start (line_of c.args.self.now) i x) (λ i y s k. search (rules, tests)) c.from_fn.ensures.items j no_steps (omega (arith, c.args.self.now.shaped.few)) h
