-- The greatest positions on both axes, and a chain that is too short on one. Assumes nothing.
use Rattle.std.specs.Prelude.{Some, None}
use Rattle.std.proofs.Common.{◌≡◌, ℕ, max, List, get_or, ℤ, pos, ◌-ℤ◌, nat_abs, Ok, sym, subst, arith}
use Rattle.std.proofs.Math.Path.{fun_ext}
use Rattle.chains.specs.Measures.{Steps}
use Rattle.network.specs.Layout.{Layout, Within, Meets, InField, Greatest}
use Rattle.network.specs.Axes.{MeetsOn, GreatestOn, SolvedOn}
use Rattle.network.specs.declared.answer.Positions.{Positions}
use Rattle.network.specs.Networks.{position_in, Placed}

within_both : (s : Steps) (d e : ℕ) → Within d s → Within e s → Within (max d e) s
within_both (Some r) d e h k = omega arith
within_both None d e h k = tt

within_left : (s : Steps) (d e : ℕ) → Within (max d e) s → Within d s
within_left (Some r) d e h = omega arith
within_left None d e h = tt

within_right : (s : Steps) (d e : ℕ) → Within (max d e) s → Within e s
within_right (Some r) d e h = omega arith
within_right None d e h = tt

module _ (L : Layout) where
  on_first : (z : ℕ → ℤ × ℤ) → InField L z → Meets L z → MeetsOn L (λ i. (L.point i).0) (λ j. (z j).0)
  on_first z F M = record {
    field = F.s;
    feeders = λ i j hi hj. within_left (L.feeder i j) (nat_abs ((L.point i).0 -ℤ (z j).0)) (nat_abs ((L.point i).1 -ℤ (z j).1)) (M.feeders i j hi hj);
    links = λ j k hj hk. within_left (L.link j k) (nat_abs ((z j).0 -ℤ (z k).0)) (nat_abs ((z j).1 -ℤ (z k).1)) (M.links j k hj hk);
  }

  on_second : (z : ℕ → ℤ × ℤ) → InField L z → Meets L z → MeetsOn L (λ i. (L.point i).1) (λ j. (z j).1)
  on_second z F M = record {
    field = F.t;
    feeders = λ i j hi hj. within_right (L.feeder i j) (nat_abs ((L.point i).0 -ℤ (z j).0)) (nat_abs ((L.point i).1 -ℤ (z j).1)) (M.feeders i j hi hj);
    links = λ j k hj hk. within_right (L.link j k) (nat_abs ((z j).0 -ℤ (z k).0)) (nat_abs ((z j).1 -ℤ (z k).1)) (M.links j k hj hk);
  }

  pub greatest_both : (x y : ℕ → ℤ) → GreatestOn L (λ i. (L.point i).0) x → GreatestOn L (λ i. (L.point i).1) y → Greatest L (λ j. (x j, y j))
  greatest_both x y G H = record {
    field = record { s = G.meets.field; t = H.meets.field };
    meets = record {
      feeders = λ i j hi hj. within_both (L.feeder i j) (nat_abs ((L.point i).0 -ℤ x j)) (nat_abs ((L.point i).1 -ℤ y j)) (G.meets.feeders i j hi hj) (H.meets.feeders i j hi hj);
      links = λ j k hj hk. within_both (L.link j k) (nat_abs (x j -ℤ x k)) (nat_abs (y j -ℤ y k)) (G.meets.links j k hj hk) (H.meets.links j k hj hk);
    };
    greatest = λ other F M j h. (G.greatest (λ k. (other k).0) (on_first other F M) j h, H.greatest (λ k. (other k).1) (on_second other F M) j h);
  }

  -- the positions of both axes as pairs, and 0 behind them
  pub placed_both : (s t : List ℤ) (P : Positions) → SolvedOn L (λ i. (L.point i).0) (Ok s) → SolvedOn L (λ i. (L.point i).1) (Ok t) → ((j : ℕ) → position_in P j ≡ (get_or s j (pos 0), get_or t j (pos 0))) → Placed L P
  placed_both s t P G H e = record {
    greatest = subst (Greatest L) (sym (fun_ext e)) (greatest_both (λ j. get_or s j (pos 0)) (λ j. get_or t j (pos 0)) G.0 H.0);
    behind = λ j h. rw (e j, G.1 j h, H.1 j h);
  }
