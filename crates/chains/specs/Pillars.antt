-- What a list of pillars holds. Assumes nothing.
use Rattle.std.specs.Prelude.{ℕ, List, take}
use Rattle.chains.specs.declared.pillars.Pillars.{Pillars}

-- the pillars of a list, from the first on
abbrev pub listed : Pillars → List ℕ
listed p = take p.count p.places
