-- Being tied is a measure. Assumes nothing.
use Rattle.std.specs.Prelude.{◌≡◌, Bool, true, false, not, ◌&&◌, ◌||◌, ◌⊎◌, refl}
use Rattle.std.proofs.Common.{ap, inl, inr}
use Rattle.std.proofs.Math.Bool.{and-true, and_assoc, or-not_self, or-true}
use Rattle.chains.specs.Laws.{Laws}
use Rattle.chains.specs.Measures.{no_tie, both_tied, rather, of_yes}

abbrev at_least : Bool → Bool → Bool
at_least a b = a || not b

trans_at : (a b c : Bool) → at_least a b ≡ true → at_least b c ≡ true → at_least a c ≡ true
trans_at true b c h k = refl
trans_at false true c h k = cc
trans_at false false c h k = k

anti_at : (a b : Bool) → at_least a b ≡ true → at_least b a ≡ true → a ≡ b
anti_at true true h k = refl
anti_at true false h k = cc
anti_at false true h k = cc
anti_at false false h k = refl

total_at : (a b : Bool) → (at_least a b ≡ true) ⊎ (at_least b a ≡ true)
total_at true b = inl refl
total_at false true = inr refl
total_at false false = inl refl

keeps_at : (a a' b b' : Bool) → at_least a a' ≡ true → at_least b b' ≡ true → at_least (a && b) (a' && b') ≡ true
keeps_at true true b b' h k = k
keeps_at true false b b' h k = or-true b
keeps_at false true b b' h k = cc
keeps_at false false b b' h k = refl

further_at : (a b : Bool) → at_least a (a && b) ≡ true
further_at true b = refl
further_at false b = refl

pub tied_laws : Laws no_tie both_tied rather
tied_laws = record {
  left = λ x. refl;
  right = λ x. ap of_yes (and-true x.yes);
  assoc = λ x y z. ap of_yes (and_assoc x.yes y.yes z.yes);
  reflexive = λ x. or-not_self x.yes;
  transitive = λ x y z. trans_at x.yes y.yes z.yes;
  antisymmetric = λ x y h k. ap of_yes (anti_at x.yes y.yes h k);
  total = λ x y. total_at x.yes y.yes;
  keeps = λ x x' y y'. keeps_at x.yes x'.yes y.yes y'.yes;
  further = λ x y. further_at x.yes y.yes;
}
