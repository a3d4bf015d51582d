-- The lines of an input served one after the other.
use Rattle.std.proofs.Common.{◌≡◌, ℕ, ◌-◌, ◌≤◌, List, [], ◌∷◌, ◌++◌, length, take, Result, sym, refl, ap, ◌∙◌, subst, ⊎_elim, arith}
use native.Mathlib.Nat.{sub-zero}
use Rattle.std.proofs.lemmas.List.{append_assoc, append-nil, take_at}
use Rattle.std.proofs.lemmas.Bool.{cases_lt}
use Rattle.yard.specs.declared.force.InForce.{InForce}
use Rattle.yard.specs.Force.{opened_at}
use Rattle.frames.specs.Lines.{lines_of}
use Rattle.frames.specs.Writing.{over_head}
use Rattle.frames.proofs.Rereading.{reads_once}
use Rattle.service.specs.declared.fault.ServeFault.{ServeFault}
use Rattle.service.specs.Serving.{LineServed, outcome, force_after, reply_text}
use Rattle.service.specs.Output.{AllServed, Gives}

-- what serving wrote is the head of the buffer
pub head_of : (text was now : List ℕ) (n : ℕ) → n ≡ length text → now ≡ over_head text was → take (n - 0) now ≡ text
head_of text was now n e f = rw (sub-zero n, f) (take_at text _ n (sym e))

module _ (first : InForce) (all : List (List ℕ)) (out : List ℕ) (F : InForce) (left : List (List ℕ))
    (inv : (more : List ℕ) → AllServed F left more → AllServed first all (out ++ more)) where
  -- one line more
  pub one_more : (line : List ℕ) (after : List (List ℕ)) (r : Result (Unit {0}) ServeFault) (G : InForce) (grown : List ℕ) → left ≡ line ∷ after → LineServed F line r G →
      grown ≡ out ++ reply_text r → (more : List ℕ) → AllServed G after more → AllServed first all (grown ++ more)
  one_more line after r G grown e s g more h =
      subst (AllServed first all) (sym (ap (λ l. l ++ more) g ∙ append_assoc out (reply_text r) more))
      (inv (reply_text r ++ more) (subst (λ (ls : List (List ℕ)). AllServed F ls (reply_text r ++ more)) (sym e) (r, more, G, s, h, refl)))

  -- and at the end none
  pub no_more : left ≡ [] → AllServed first all out
  no_more e = subst (AllServed first all) (append-nil out) (inv [] (subst (λ (ls : List (List ℕ)). AllServed F ls []) (sym e) refl))

pub all_given : (input out : List ℕ) → length input ≤ 32768 → AllServed (opened_at 1) (lines_of input) out → Gives input out
all_given input out few all = record { over = λ h. absurd (omega arith); within = λ _. all }

-- a line is served in one way
served_once : (F : InForce) (line : List ℕ) (r s : Result (Unit {0}) ServeFault) (G H : InForce) → LineServed F line r G → LineServed F line s H → (r ≡ s) × (G ≡ H)
served_once F line r s G H a b =
    let same = reads_once line a.reading a.reads b.reading b.reads in
    (a.outcome_is ∙ ap (outcome F) same ∙ sym b.outcome_is, a.after_is ∙ ap (force_after F) same ∙ sym b.after_is)

all_once : (F : InForce) (ls : List (List ℕ)) (out other : List ℕ) → AllServed F ls out → AllServed F ls other → out ≡ other
all_once F [] out other a b = a ∙ sym b
all_once F (l ∷ ls) out other (r, rest, G, h, more, e) (s, tail, H, k, further, f) =
    let same = served_once F l r s G H h k in
    let ends = all_once H ls rest tail (subst (λ (K : InForce). AllServed K ls rest) same.1 more) further in
    e ∙ ap (λ t. reply_text t ++ rest) same.0 ∙ ap (λ t. reply_text s ++ t) ends ∙ sym f

-- and so is an input
pub gives_once : (input out other : List ℕ) → Gives input out → Gives input other → out ≡ other
gives_once input out other a b =
    ⊎_elim (λ h. a.over h ∙ sym (b.over h)) (λ h. all_once (opened_at 1) (lines_of input) out other (a.within h) (b.within h)) (cases_lt 32768 (length input))
