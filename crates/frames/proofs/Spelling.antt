-- A line read byte by byte, and a frame taken apart.
use Rattle.std.proofs.Common.{◌≡◌, ℕ, suc, ◌+◌, ◌-◌, ◌*◌, ◌/◌, ◌%◌, ◌<◌, ◌≤◌, true, List, [], ◌∷◌, ◌++◌, length, get_or, take, drop, is_some, refl, zero, Some, None, Option, Err, sym, ap, ◌∙◌, subst, ⊎_elim, arith, sum}
use Rattle.std.specs.List.{AllByRecursion}
use Rattle.std.specs.Simd.{first_chunks}
use Rattle.std.specs.Option.{ok_or}
use Rattle.std.proofs.lemmas.List.{drop-drop, length-append, flat_map_more, take_more, drop_more, take_all, length-take, length-drop, get_or-take}
use Rattle.std.proofs.Math.Seq.{take-add}
use Rattle.std.proofs.ByRecursion.{All-push}
use Rattle.std.proofs.lemmas.Bool.{cases_lt}
use Rattle.frames.specs.declared.fault.LineFault.{LineFault}
use Rattle.frames.specs.declared.fault.LineFault.TheVariants.{Length, NoDigit}
use Rattle.frames.specs.declared.fault.FrameFault.TheVariants.{Kind}
use Rattle.frames.specs.declared.call.Call.{Call}
use Rattle.frames.specs.Digits.{digit_of, digit_char, byte_digits, hex}
use Rattle.frames.specs.Spelling.{DigitRead}
use Rattle.frames.specs.Frames.{check_byte, framed, call_bytes, call_frame}
use Rattle.frames.specs.Reading.{BadLength, LineRefused, Spells, Decodes, FrameReads}
use Rattle.frames.proofs.Values.{pair_back, hex_digits}
use Rattle.frames.proofs.Framing.{length-hex, length-framed}
use Rattle.std.proofs.lemmas.List.Sums.{sum_by_push}

abbrev pub Small : List ℕ → Type 0
Small = AllByRecursion (λ b. b < 256)

-- the bytes so far have the digits of the line's front
pub record SoFar (line : List ℕ) (i : ℕ) (bytes : List ℕ) : Type 0 where
  pub digits : hex bytes ≡ take (2 * i) line
  pub small : Small bytes
  pub many : length bytes ≡ i

-- the pair of characters at an even place
pair_at : (k i : ℕ) (xs d : List ℕ) → i < k → 2 * k ≤ length xs → get_or (first_chunks 2 k xs) i d ≡ take 2 (drop (2 * i) xs)
pair_at zero i xs d h l = absurd (omega arith)
pair_at (suc k) zero xs d h l = refl
pair_at (suc k) (suc i) xs d h l =
    let two : 2 * suc i ≡ 2 + 2 * i = omega arith in
    pair_at k i (drop 2 xs) d (omega arith) (simp length-drop (omega arith)) ∙ ap (take 2) (drop-drop (2 * i) 2 xs ∙ ap (λ n. drop n xs) (sym two))

-- one pair more, of a line of whole pairs
module _ (line : List ℕ) (pairs : List (List ℕ)) (chunked : pairs ≡ first_chunks 2 (length line / 2) line) (many : length pairs ≡ length line / 2)
    (bytes : List ℕ) (i : ℕ) (inv : SoFar line i bytes) (h : i < length pairs) where
  piece : get_or pairs i [] ≡ take 2 (drop (2 * i) line)
  piece = ap (λ p. get_or p i []) chunked ∙ pair_at (length line / 2) i line [] (omega arith) (omega arith)

  pair : get_or pairs i [] ≡ get_or line (2 * i) 0 ∷ get_or line (2 * i + 1) 0 ∷ []
  pair = piece ∙ ap (take 2) (drop_more line (2 * i) 0 (omega arith) ∙ ap (λ l. get_or line (2 * i) 0 ∷ l) (drop_more line (2 * i + 1) 0 (omega arith)))

  high_is : get_or (get_or pairs i []) 0 0 ≡ get_or line (2 * i) 0
  high_is = ap (λ p. get_or p 0 0) pair

  low_is : get_or (get_or pairs i []) 1 0 ≡ get_or line (2 * i + 1) 0
  low_is = ap (λ p. get_or p 1 0) pair

  -- what stands before the pair is digits
  front : (j : ℕ) → j < 2 * i → is_some (digit_of (get_or line j 0)) ≡ true
  front j b =
      let same : get_or line j 0 ≡ get_or (hex bytes) j 0 = sym (get_or-take (2 * i) line j 0 b) ∙ ap (λ l. get_or l j 0) (sym inv.digits) in
      ap (λ x. is_some (digit_of x)) same ∙ hex_digits bytes inv.small j (omega (arith, length-hex bytes, inv.many))

  pub high_refused : (BadLength line → ⊥) → (f : LineFault) → DigitRead (2 * i) (get_or (get_or pairs i []) 0 0) (Err f) → LineRefused line f
  high_refused good (NoDigit k) r = (good, omega arith, ap digit_of (ap (λ j. get_or line j 0) r.0 ∙ sym high_is) ∙ r.1, λ j b. front j (omega arith))
  high_refused good (Length n) r = absurd r

  pub low_refused : (BadLength line → ⊥) → (d : ℕ) → digit_of (get_or (get_or pairs i []) 0 0) ≡ Some d → (f : LineFault) → DigitRead (2 * i + 1) (get_or (get_or pairs i []) 1 0) (Err f) → LineRefused line f
  low_refused good d e (NoDigit k) r = (good, omega arith, ap digit_of (ap (λ j. get_or line j 0) r.0 ∙ sym low_is) ∙ r.1, before)
    where
      last : (j : ℕ) → j ≡ 2 * i → is_some (digit_of (get_or line j 0)) ≡ true
      last j s = ap (λ x. is_some (digit_of x)) (ap (λ n. get_or line n 0) s ∙ sym high_is) ∙ ap is_some e

      before : (j : ℕ) → j < k → is_some (digit_of (get_or line j 0)) ≡ true
      before j b = ⊎_elim (front j) (λ l. last j (omega arith)) (cases_lt j (2 * i))
  low_refused good d e (Length n) r = absurd r

  pub spelled_on : (high low : ℕ) (now : List ℕ) → now ≡ bytes ++ ((16 * high + low) ∷ []) → digit_of (get_or (get_or pairs i []) 0 0) ≡ Some high → digit_of (get_or (get_or pairs i []) 1 0) ≡ Some low → SoFar line (i + 1) now
  spelled_on high low now e at after =
      let b = 16 * high + low in
      let p = pair_back (get_or (get_or pairs i []) 0 0) (get_or (get_or pairs i []) 1 0) high low at after in
      let whole : byte_digits b ≡ get_or pairs i [] = ap (λ x. x ∷ digit_char (b % 16) ∷ []) (p.1 ∙ high_is) ∙ ap (λ y. get_or line (2 * i) 0 ∷ y ∷ []) (p.2 ∙ low_is) ∙ sym pair in
      let two : 2 * (i + 1) ≡ 2 * i + 2 = omega arith in
      let both : take (2 * (i + 1)) line ≡ take (2 * i) line ++ get_or pairs i [] = ap (λ n. take n line) two ∙ take-add (2 * i) 2 line ∙ ap (λ d. take (2 * i) line ++ d) (sym piece) in
      record {
        digits = ap hex e ∙ sym (flat_map_more byte_digits [] bytes b) ∙ ap (λ l. l ++ byte_digits b) inv.digits ∙ ap (λ d. take (2 * i) line ++ d) whole ∙ sym both;
        small = subst Small (sym e) (All-push (λ x. x < 256) bytes b inv.small p.0);
        many = ap length e ∙ length-append bytes (b ∷ []) ∙ ap (λ n. n + 1) inv.many;
      }

pub all_spelled : (line bytes : List ℕ) (i : ℕ) → SoFar line i bytes → (BadLength line → ⊥) → length line ≤ 2 * i → Spells line bytes
all_spelled line bytes i inv good last = record { good_length = good; digits = inv.digits ∙ take_all (2 * i) line last; small = inv.small }

-- a frame is its kind, its fields and its last byte
parted : (ys : List ℕ) → 0 < length ys → ys ≡ take (length ys - 1) ys ++ (get_or ys (length ys - 1) 0 ∷ [])
parted ys h =
    let n = length ys - 1 in
    let whole : take (n + 1) ys ≡ ys = take_all (n + 1) ys (omega arith) in
    sym whole ∙ take_more ys n 0 (omega arith)

check_known : (t b : ℕ) → b < 256 → (t + b) % 256 ≡ 0 → b ≡ (256 - t % 256) % 256
check_known t b h e = omega arith

pub frame_whole : (frame : List ℕ) (c : Call) → 2 ≤ length frame → ((i : ℕ) → get_or frame i 0 < 256) → sum frame % 256 ≡ 0 →
    call_bytes c ≡ get_or frame 0 0 ∷ take (length frame - 1 - 1) (drop 1 frame) → call_frame c ≡ frame
frame_whole [] c h s e k = absurd (omega arith)
frame_whole (x ∷ ys) c h s e k =
    let n : suc (length ys) - 1 - 1 ≡ length ys - 1 = omega arith in
    let body = x ∷ take (length ys - 1) ys in
    let last = get_or ys (length ys - 1) 0 in
    let whole : x ∷ ys ≡ body ++ (last ∷ []) = ap (λ l. x ∷ l) (parted ys (omega arith)) in
    let known : call_bytes c ≡ body = k ∙ ap (λ m. x ∷ take m ys) n in
    let adds : sum (x ∷ ys) ≡ sum body + last = ap sum whole ∙ sum_by_push (λ b. b) body last in
    let check : last ≡ check_byte body = check_known (sum body) last (s (suc (length ys - 1))) (ap (λ m. m % 256) (sym adds) ∙ e) in
    ap framed known ∙ ap (λ b. body ++ (b ∷ [])) (sym check) ∙ sym whole

pub well_long : (line : List ℕ) → (length line ≡ 0 → ⊥) → (length line % 2 ≡ 1 → ⊥) → length line ≤ 64 → BadLength line → ⊥
well_long line some even few = ⊎_elim some (⊎_elim even (λ h. omega arith))

pub frame_read : (frame : List ℕ) (o : Option Call) → 2 ≤ length frame → ((i : ℕ) → get_or frame i 0 < 256) → sum frame % 256 ≡ 0 →
    Decodes (get_or frame 0 0) (take (length frame - 1 - 1) (drop 1 frame)) o → FrameReads frame (ok_or o Kind)
frame_read frame (Some c) h s e d = (frame_whole frame c h s e d.bytes, d.fits)
frame_read frame None h s e d =
    let n : length (take (length frame - 1 - 1) (drop 1 frame)) ≡ length frame - 2 = simp (length-take, length-drop) (omega arith) in
    (e, λ c k l. d c k (omega (arith, length-framed (call_bytes c), l)))
