-- The reach of a run at a level is exact.
use Rattle.std.specs.Prelude.{Some, None}
use Rattle.std.proofs.Common.{◌≡◌, ℕ, zero, suc, ◌-◌, ◌*◌, ◌/◌, ◌≤◌, Some, None, Option, sym, refl, subst, mul_comm, le-div_iff_mul-le, arith}
use Rattle.chains.specs.Measures.{Steps}
use Rattle.network.specs.Layout.{Within}
use Rattle.yard.specs.declared.force.Terms.{Terms}
use Rattle.runs.specs.Pricing.{KeepsLimit, paid_reach, nearer, reach_at, Exact}

-- a length within the smaller of two reaches is within both
near_both : (a b : Steps) (n : ℕ) → Within n a → Within n b → Within n (nearer a b)
near_both None b n h k = k
near_both (Some a) None n h k = h
near_both (Some a) (Some b) n h k = omega arith

near_one : (a b : Steps) (n : ℕ) → Within n (nearer a b) → Within n a
near_one None b n h = tt
near_one (Some a) None n h = h
near_one (Some a) (Some b) n h = omega arith

near_other : (a b : Steps) (n : ℕ) → Within n (nearer a b) → Within n b
near_other None b n h = h
near_other (Some a) None n h = tt
near_other (Some a) (Some b) n h = omega arith

pub within_limit : (o : Option ℕ) (n : ℕ) → KeepsLimit n o → Within n o
within_limit (Some l) n h = h
within_limit None n h = tt

limit_within : (o : Option ℕ) (n : ℕ) → Within n o → KeepsLimit n o
limit_within (Some l) n h = h
limit_within None n h = tt

-- what is left of the level pays for the steps within the paid reach, and for no others
paid : (rate left n : ℕ) → rate * n ≤ left → Within n (paid_reach rate left)
paid zero left n h = tt
paid (suc r) left n h = (le-div_iff_mul-le {k = suc r} {x = n} {y = left} (omega arith)).1 (omega (arith, mul_comm n (suc r)))

pays : (rate left n : ℕ) → Within n (paid_reach rate left) → rate * n ≤ left
pays zero left n h = omega arith
pays (suc r) left n h = omega (arith, mul_comm n (suc r), (le-div_iff_mul-le {k = suc r} {x = n} {y = left} (omega arith)).0 h)

pub reach_exact : (t : Terms) (level : ℕ) → Exact t level (reach_at t level)
reach_exact t level = record {
  enough = λ f n p k. near_both t.limit (paid_reach t.rate (level - t.fixed)) n (within_limit t.limit n k) (paid t.rate (level - t.fixed) n (omega arith));
  cheap = λ f n w. omega (arith, pays t.rate (level - t.fixed) n (near_other t.limit (paid_reach t.rate (level - t.fixed)) n w));
  kept = λ n w. limit_within t.limit n (near_one t.limit (paid_reach t.rate (level - t.fixed)) n w);
}

paid_is : (rate left : ℕ) → (rate ≡ 0 → ⊥) → paid_reach rate left ≡ Some (left / rate)
paid_is zero left h = absurd (h refl)
paid_is (suc r) left h = refl

pub reached : (t : Terms) (level : ℕ) (r : Steps) → r ≡ reach_at t level → Exact t level r
reached t level r e = subst (Exact t level) (sym e) (reach_exact t level)
