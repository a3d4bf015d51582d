-- The ranges of a plan's entries hold on a new plan, and stay under its edits.
use Rattle.std.proofs.Common.{◌≡◌, ℕ, zero, suc, Bool, true, List, [], ◌∷◌, get_or, set, replicate, Some, None, Option, refl}
use Rattle.yard.specs.declared.force.Mast.{Mast}
use Rattle.yard.specs.declared.force.Terms.{Terms}
use Rattle.yard.specs.Force.{new_terms, opened_at, mast_terms}
use Rattle.yard.specs.Edits.{kept_terms}
use Rattle.yard.specs.Sound.{foot_on_grid, on_grid, fair, fair_if, feeder_fair}

-- what a test says of each entry of a row it says after one entry is replaced
set_passes : {A : Type 0} (test : A → Bool) (d : A) (xs : List A) (i : ℕ) (x : A) → test x ≡ true →
    ((k : ℕ) → test (get_or xs k d) ≡ true) → (k : ℕ) → test (get_or (set xs i x) k d) ≡ true
set_passes test d [] i x new all k = all k
set_passes test d (y ∷ xs) zero x new all zero = new
set_passes test d (y ∷ xs) zero x new all (suc k) = all (suc k)
set_passes test d (y ∷ xs) (suc i) x new all zero = all zero
set_passes test d (y ∷ xs) (suc i) x new all (suc k) = set_passes test d xs i x new (λ j. all (suc j)) k

-- and of a row of equal entries, if it says so of the one
replicate_passes : {A : Type 0} (test : A → Bool) (d x : A) (n : ℕ) → test x ≡ true → test d ≡ true →
    (k : ℕ) → test (get_or (replicate n x) k d) ≡ true
replicate_passes test d x zero e f k = f
replicate_passes test d x (suc n) e f zero = e
replicate_passes test d x (suc n) e f (suc k) = replicate_passes test d x n e f k

-- no mast stands on a new plan
pub opened_near : (n m : ℕ) → on_grid (opened_at n) m ≡ true
opened_near n = replicate_passes foot_on_grid None None 40 refl refl

pub opened_feeders : (n m p : ℕ) → feeder_fair (opened_at n) m p ≡ true
opened_feeders n m p = replicate_passes (λ o. fair_if (mast_terms o p)) None None 40 refl refl m

-- a mast's place gets another mast
pub near_set : (masts : List (Option Mast)) (m : ℕ) (a : Mast) → foot_on_grid (Some a) ≡ true →
    ((k : ℕ) → foot_on_grid (get_or masts k None) ≡ true) → (k : ℕ) → foot_on_grid (get_or (set masts m (Some a)) k None) ≡ true
near_set masts m a = set_passes foot_on_grid None masts m (Some a)

pub feeders_set : (masts : List (Option Mast)) (m : ℕ) (a : Mast) → ((p : ℕ) → fair (get_or a.feeders p new_terms) ≡ true) →
    ((k p : ℕ) → fair_if (mast_terms (get_or masts k None) p) ≡ true) → (k p : ℕ) → fair_if (mast_terms (get_or (set masts m (Some a)) k None) p) ≡ true
feeders_set masts m a new all k p = set_passes (λ o. fair_if (mast_terms o p)) None masts m (Some a) (new p) (λ j. all j p) k

-- the terms that a raised mast has
pub kept_fair : (o : Option Mast) → ((p : ℕ) → fair_if (mast_terms o p) ≡ true) → (p : ℕ) → fair (get_or (kept_terms o) p new_terms) ≡ true
kept_fair (Some a) all p = all p
kept_fair None all p = replicate_passes fair new_terms new_terms 12 refl refl p

-- one feeder gets other terms
pub feeder_set_fair : (ts : List Terms) (p : ℕ) (t : Terms) → fair t ≡ true → ((k : ℕ) → fair (get_or ts k new_terms) ≡ true) → (k : ℕ) → fair (get_or (set ts p t) k new_terms) ≡ true
feeder_set_fair = set_passes fair new_terms
