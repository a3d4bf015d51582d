-- What a whole input gives.
use Rattle.std.specs.Prelude.{◌≡◌, ℕ, ◌<◌, ◌≤◌, List, [], ◌∷◌, ◌++◌, length, Err, Result}
use Rattle.yard.specs.declared.force.InForce.{InForce}
use Rattle.yard.specs.Force.{opened_at}
use Rattle.frames.specs.Lines.{lines_of}
use Rattle.service.specs.declared.fault.ServeFault.{ServeFault}
use Rattle.service.specs.declared.fault.ServeFault.TheVariants.{Memory}
use Rattle.service.specs.Serving.{LineServed, reply_text}

-- lines served one after the other, each on what is in force after the one before
abbrev pub AllServed : InForce → List (List ℕ) → List ℕ → Type 0
AllServed F [] out = out ≡ []
AllServed F (l ∷ ls) out = (r : Result (Unit {0}) ServeFault) × (rest : List ℕ) × (G : InForce) × LineServed F l r G × AllServed G ls rest × (out ≡ reply_text r ++ rest)

-- an input of at most 32,768 bytes has its lines served on a new plan; a longer one is only refused
pub record Gives (input out : List ℕ) : Type 0 where
  pub over : 32768 < length input → out ≡ reply_text (Err Memory)
  pub within : length input ≤ 32768 → AllServed (opened_at 1) (lines_of input) out
