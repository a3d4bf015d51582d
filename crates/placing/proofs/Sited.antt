-- Sites and their halves, one pillar after the other.
use Rattle.std.proofs.Common.{◌≡◌, ℕ, zero, suc, ◌+◌, ◌*◌, ◌<◌, ◌≤◌, List, [], ◌∷◌, ◌++◌, length, get_or, take, drop, set, ℤ, sym, refl, ap, ◌∙◌, add-one, arith}
use Rattle.std.proofs.lemmas.List.{take_more, drop-drop, length-drop, length-take, length-map, map_push}
use Rattle.yard.specs.declared.site.Site.{Site}
use Rattle.runs.specs.Spots.{Spot}
use Rattle.runs.specs.Levels.{Placing}
use Rattle.runs.specs.Dearest.{site_spot, spots_of}
use Rattle.placing.specs.Steps.{halves_of}

halves_push : (P : Placing) (s : Spot) → halves_of (P ++ (s ∷ [])) ≡ halves_of P ++ (s.hx ∷ s.hy ∷ [])
halves_push [] s = refl
halves_push (t ∷ P) s = ap (λ l. t.hx ∷ t.hy ∷ l) (halves_push P s)

pub length-halves : (P : Placing) → length (halves_of P) ≡ 2 * length P
length-halves [] = refl
length-halves (s ∷ P) = omega (arith, length-halves P)

put_two : (p d : List ℤ) (n : ℕ) (x y : ℤ) → length p ≡ n → 2 ≤ length d → set (set (p ++ d) n x) (suc n) y ≡ (p ++ (x ∷ y ∷ [])) ++ drop 2 d
put_two [] [] n x y e h = absurd (omega arith)
put_two [] (a ∷ []) n x y e h = absurd (omega arith)
put_two [] (a ∷ b ∷ d) n x y e h = rw (← e)
put_two (q ∷ p) d zero x y e h = absurd (omega arith)
put_two (q ∷ p) d (suc n) x y e h = ap (λ r. q ∷ r) (put_two p d n x y (omega arith) h)

-- the halves of one site more
pub halves_more : (sites : List Site) (was list : List ℤ) (p : ℕ) (s : Site) → p < length sites → s ≡ get_or sites p s → 2 * length sites ≤ length was →
    list ≡ halves_of (spots_of (take p sites)) ++ drop (2 * p) was →
    set (set list (2 * p) s.hx) (2 * p + 1) s.hy ≡ halves_of (spots_of (take (p + 1) sites)) ++ drop (2 * (p + 1)) was
halves_more sites was list p s h e room inv =
    let front = halves_of (spots_of (take p sites)) in
    let few : length (take p sites) ≡ p = simp length-take (omega arith) in
    let long : length front ≡ 2 * p = length-halves (spots_of (take p sites)) ∙ ap (λ n. 2 * n) (length-map (take p sites) site_spot ∙ few) in
    let grown : halves_of (spots_of (take (p + 1) sites)) ≡ front ++ (s.hx ∷ s.hy ∷ []) =
    ap (λ l. halves_of (spots_of l)) (take_more sites p s h ∙ ap (λ t. take p sites ++ (t ∷ [])) (sym e)) ∙ ap halves_of (map_push site_spot (take p sites) s) ∙ halves_push (spots_of (take p sites)) (site_spot s) in
    let two : 2 ≤ length (drop (2 * p) was) = simp length-drop (omega arith) in
    let behind : drop 2 (drop (2 * p) was) ≡ drop (2 * (p + 1)) was = drop-drop 2 (2 * p) was ∙ ap (λ n. drop n was) (omega arith) in
    rw (inv, add-one (2 * p)) (put_two front (drop (2 * p) was) (2 * p) s.hx s.hy long two ∙ ap (λ l. l ++ drop 2 (drop (2 * p) was)) (sym grown) ∙ ap (λ l. halves_of (spots_of (take (p + 1) sites)) ++ l) behind)
