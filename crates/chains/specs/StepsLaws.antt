-- Steps are a measure. Assumes nothing.
use Rattle.std.specs.Prelude.{◌≡◌, true, ◌⊎◌, refl, Some, None}
use Rattle.std.proofs.Common.{inl, inr, arith}
use Rattle.std.proofs.lemmas.Bool.Decides.{nat_tests}
use Rattle.chains.specs.Laws.{Laws}
use Rattle.chains.specs.Measures.{no_steps, add_steps, fewer, Steps}

left : (x : Steps) → add_steps no_steps x ≡ x
left (Some a) = grind (arith, nat_tests)
left None = refl

right : (x : Steps) → add_steps x no_steps ≡ x
right (Some a) = grind (arith, nat_tests)
right None = refl

assoc : (x y z : Steps) → add_steps (add_steps x y) z ≡ add_steps x (add_steps y z)
assoc (Some a) (Some b) (Some c) = grind (arith, nat_tests)
assoc (Some a) (Some b) None = grind (arith, nat_tests)
assoc (Some a) None z = refl
assoc None y z = refl

reflexive : (x : Steps) → fewer x x ≡ true
reflexive (Some a) = grind (arith, nat_tests)
reflexive None = refl

transitive : (x y z : Steps) → fewer x y ≡ true → fewer y z ≡ true → fewer x z ≡ true
transitive (Some a) (Some b) (Some c) h k = grind (arith, nat_tests)
transitive (Some a) None (Some c) h k = cc
transitive (Some a) (Some b) None h k = refl
transitive (Some a) None None h k = refl
transitive None (Some b) (Some c) h k = cc
transitive None (Some b) None h k = refl
transitive None None (Some c) h k = cc
transitive None None None h k = refl

antisymmetric : (x y : Steps) → fewer x y ≡ true → fewer y x ≡ true → x ≡ y
antisymmetric (Some a) (Some b) h k = grind (arith, nat_tests)
antisymmetric (Some a) None h k = cc
antisymmetric None (Some b) h k = cc
antisymmetric None None h k = refl

total : (x y : Steps) → (fewer x y ≡ true) ⊎ (fewer y x ≡ true)
total (Some a) (Some b) = grind (arith, nat_tests)
total (Some a) None = inl refl
total None (Some b) = inr refl
total None None = inl refl

to_unlimited : (x : Steps) → fewer x None ≡ true
to_unlimited (Some a) = refl
to_unlimited None = refl

keeps : (x x' y y' : Steps) → fewer x x' ≡ true → fewer y y' ≡ true → fewer (add_steps x y) (add_steps x' y') ≡ true
keeps x None y y' h k = to_unlimited (add_steps x y)
keeps x (Some a') y None h k = to_unlimited (add_steps x y)
keeps (Some a) (Some a') (Some b) (Some b') h k = grind (arith, nat_tests)
keeps (Some a) (Some a') None (Some b') h k = cc
keeps None (Some a') y (Some b') h k = cc

further : (x y : Steps) → fewer x (add_steps x y) ≡ true
further (Some a) (Some b) = grind (arith, nat_tests)
further (Some a) None = refl
further None y = refl

pub steps_laws : Laws no_steps add_steps fewer
steps_laws = record {
  left = left;
  right = right;
  assoc = assoc;
  reflexive = reflexive;
  transitive = transitive;
  antisymmetric = antisymmetric;
  total = total;
  keeps = keeps;
  further = further;
}
