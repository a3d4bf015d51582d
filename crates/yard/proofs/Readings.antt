-- Sums, differences and lengths of sites, by their halves.
use Rattle.std.proofs.Common.{◌≡◌, ◌+◌, ◌/◌, ◌%◌, max, ℤ, pos, ◌+ℤ◌, ◌-ℤ◌, nat_abs, arith}
use lib.Signed.{quot_z}
use Rattle.std.proofs.lemmas.Int.{ints}
use Rattle.yard.specs.Grid.{IsReading, distance}

-- the sum and the difference of a site's halves are even
pub half_sum : (z w : ℤ) → nat_abs z % 2 ≡ nat_abs w % 2 → quot_z (z +ℤ w) (pos 2) +ℤ quot_z (z +ℤ w) (pos 2) ≡ z +ℤ w
half_sum z w e = omega (arith, ints)

pub half_gap : (z w : ℤ) → nat_abs z % 2 ≡ nat_abs w % 2 → quot_z (z -ℤ w) (pos 2) +ℤ quot_z (z -ℤ w) (pos 2) ≡ z -ℤ w
half_gap z w e = omega (arith, ints)

-- the larger of two numbers, by their sum and their difference
larger : (p q : ℤ) → max (nat_abs p) (nat_abs q) ≡ (nat_abs (p +ℤ q) + nat_abs (p -ℤ q)) / 2
larger p q = omega (arith, ints)

-- the larger gap between two readings is the length between their sites
pub larger_gap : (a b c d : ℤ) (p q : ℤ × ℤ) → IsReading a b p → IsReading c d q →
    max (nat_abs (p.0 -ℤ q.0)) (nat_abs (p.1 -ℤ q.1)) ≡ distance a b c d
larger_gap a b c d p q r s =
    let sum : (p.0 -ℤ q.0) +ℤ (p.1 -ℤ q.1) ≡ a -ℤ c = omega (arith, ints) in
    let difference : (p.0 -ℤ q.0) -ℤ (p.1 -ℤ q.1) ≡ b -ℤ d = omega (arith, ints) in
    rw (← sum, ← difference) (larger (p.0 -ℤ q.0) (p.1 -ℤ q.1))
