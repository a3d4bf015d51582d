-- Reaches that are limited, and their sums. Assumes nothing.
use Rattle.std.specs.Prelude.{Some, None}
use Rattle.std.proofs.Common.{◌≡◌, ℕ, ◌+◌, ◌^◌, ◌<◌, ◌≤◌, true, List, ◌∷◌, refl, arith}
use Rattle.std.proofs.lemmas.Bool.Decides.{nat_tests}
use Rattle.chains.specs.Measures.{add_steps, fewer, Steps}
use Rattle.network.specs.Layout.{Within}
use Rattle.network.specs.Chain.{AddTo}

-- a reach that is limited to r
pub within_limited : (d r : ℕ) (s : Steps) → s ≡ Some r → Within d s → d ≤ r
within_limited d r s e h = rw e at h

-- the first of some reaches that add up
pub add_first : (s : Steps) (more : List Steps) (t : ℕ) → AddTo (s ∷ more) t → (r : ℕ) × (u : ℕ) × (s ≡ Some r) × AddTo more u × (t ≡ r + u)
add_first (Some r) more t h = (r, h.0, refl, h.1, h.2)
add_first None more t h = absurd h

pub add_cons : (s : Steps) (more : List Steps) (r u t : ℕ) → s ≡ Some r → AddTo more u → t ≡ r + u → AddTo (s ∷ more) t
add_cons s more r u t e h k = rw e (u, h, k)

-- a sum that is limited has limited parts, and is their sum: it did not saturate
pub add_parts : (x y : Steps) (z : ℕ) → add_steps x y ≡ Some z → (a : ℕ) × (b : ℕ) × (x ≡ Some a) × (y ≡ Some b) × (a + b ≡ z)
add_parts (Some a) (Some b) z e = (a, b, refl, refl, grind (arith, nat_tests))
add_parts (Some a) None z e = absurd (let n : ◌≡◌ {A = ℕ} 0 1 = cc in omega arith)
add_parts None y z e = absurd (let n : ◌≡◌ {A = ℕ} 0 1 = cc in omega arith)

-- as good as something limited
pub limited_under : (s : Steps) (w : ℕ) → fewer s (Some w) ≡ true → (x : ℕ) × (s ≡ Some x) × (x ≤ w)
limited_under (Some x) w e = (x, refl, grind (arith, nat_tests))
limited_under None w e = absurd (let n : ◌≡◌ {A = ℕ} 0 1 = cc in omega arith)

-- where the sum would saturate, it is beyond the width anyway
pub under_sum : (x w a r : ℕ) → x ≤ w → w < 2 ^ 64 → fewer (Some x) (add_steps (Some a) (Some r)) ≡ true → x ≤ a + r
under_sum x w a r h k e = grind (arith, nat_tests)

pub limited_same : (x y : ℕ) → Some x ≡ Some y → x ≡ y
limited_same x y e = cc
