-- Points, sites and lengths on the trench grid.
use Rattle.std.specs.Prelude.{◌≡◌, ℕ, ◌+◌, ◌/◌, ◌%◌, ◌≤◌, ℤ, ◌+ℤ◌, ◌-ℤ◌, unsigned_abs}

-- a crossing of trenches or the middle of a trench square, by twice its x and twice its y: both even or both odd, each at most 200,000 from 0
abbrev pub IsSite : ℤ → ℤ → Type 0
IsSite hx hy = (unsigned_abs hx % 2 ≡ unsigned_abs hy % 2) × (unsigned_abs hx ≤ 200000) × (unsigned_abs hy ≤ 200000)

-- the length between two spots in steps, |x − x'| + |y − y'|, by their halves
abbrev pub distance : ℤ → ℤ → ℤ → ℤ → ℕ
distance hx hy hx' hy' = (unsigned_abs (hx -ℤ hx') + unsigned_abs (hy -ℤ hy')) / 2

-- the reading of a spot: its sum x + y and its difference x − y, here by its halves
abbrev pub IsReading : ℤ → ℤ → ℤ × ℤ → Type 0
IsReading hx hy r = (r.0 +ℤ r.0 ≡ hx +ℤ hy) × (r.1 +ℤ r.1 ≡ hx -ℤ hy)

-- no site has this reading: its halves would be more than 200,000 from 0
abbrev pub FarReading : ℤ → ℤ → Type 0
FarReading s d = (unsigned_abs (s +ℤ d) ≤ 200000) × (unsigned_abs (s -ℤ d) ≤ 200000) → ⊥
