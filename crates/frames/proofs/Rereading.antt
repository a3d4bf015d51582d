-- Every call comes back from its line.
use Rattle.std.proofs.Common.{◌≡◌, ℕ, ◌+◌, ◌-◌, ◌%◌, ◌<◌, ◌≤◌, List, [], ◌∷◌, length, get_or, drop, ℤ, is_some, None, Ok, Err, Result, sym, refl, ap, ap₂, ◌∙◌, subst, ⊎_elim, arith, lit≤, w32, SFits, to_z, of_z, sum}
use Rattle.std.specs.List.{AllByRecursion}
use Rattle.std.specs.Int.{from_be_bytes, to_be_bytes, w16}
use Rattle.std.proofs.lemmas.Int.{to_z-of_z, ints}
use Rattle.std.proofs.lemmas.Nat.{from_be_bytes-to_be_bytes_2, from_be_bytes-to_be_bytes_4}
use Rattle.std.proofs.lemmas.List.{same_from_push}
use Rattle.std.proofs.ByRecursion.{All-push}
use Rattle.std.proofs.lemmas.Bool.{cases_lt, false≢true}
use Rattle.yard.specs.declared.edit.EntryTerms.{EntryTerms}
use Rattle.yard.specs.declared.edit.Edit.TheVariants.{Open, Raise, Strike, Feeder, Link}
use Rattle.frames.specs.declared.field.Field.{Field}
use Rattle.frames.specs.declared.field.Field.TheVariants.{Byte, Half, Word, Signed}
use Rattle.frames.specs.declared.call.Call.{Call}
use Rattle.frames.specs.declared.call.Call.TheVariants.{Edit, Place, Why, Dearest, Nearest}
use Rattle.frames.specs.declared.kind.CallKind.{CallKind}
use Rattle.frames.specs.declared.kind.CallKind.TheVariants as kind
use Rattle.frames.specs.declared.fault.LineFault.{LineFault}
use Rattle.frames.specs.declared.fault.LineFault.TheVariants.{Length, NoDigit}
use Rattle.frames.specs.declared.fault.FrameFault.{FrameFault}
use Rattle.frames.specs.declared.fault.FrameFault.TheVariants.{Line, Sum, Kind}
use Rattle.frames.specs.Kinds.{call_code}
use Rattle.frames.specs.Digits.{digit_of, hex}
use Rattle.frames.specs.Fields.{spelled}
use Rattle.frames.specs.Frames.{check_byte, framed, term_fields, kind_of, fields_of, call_bytes, call_frame, call_line}
use Rattle.frames.specs.Reading.{BadLength, LineRefused, FrameRefused, Spells, FieldFits, Fits, FrameReads, Reads, LineRead}
use Rattle.frames.proofs.Codes.{kind_back}
use Rattle.frames.proofs.Values.{hex_same, hex_digits}
use Rattle.frames.proofs.Framing.{length-hex, length-framed}
use Rattle.std.proofs.lemmas.List.Sums.{sum_by_push}
use Rattle.frames.proofs.Spelling.{Small, well_long}

-- the number in four bytes from a place on
abbrev word_at : ℕ → List ℕ → ℕ
word_at i bytes = from_be_bytes w32 (drop i bytes)

abbrev terms_from : List ℕ → EntryTerms
terms_from b = record { rate = from_be_bytes w16 b; fixed = word_at 2 b; limit = word_at 6 b }

-- the call of a kind and the bytes of its fields
abbrev call_by : CallKind → List ℕ → Call
call_by kind.Open b = Edit (Open (get_or b 0 0))
call_by kind.Raise b = Edit (Raise (get_or b 0 0) (to_z w32 (word_at 1 b)) (to_z w32 (word_at 5 b)))
call_by kind.Strike b = Edit (Strike (get_or b 0 0))
call_by kind.Feeder b = Edit (Feeder (get_or b 0 0) (get_or b 1 0) (terms_from (drop 2 b)))
call_by kind.Link b = Edit (Link (get_or b 0 0) (get_or b 1 0) (terms_from (drop 2 b)))
call_by kind.Place b = Place
call_by kind.Why b = Why
call_by kind.Dearest b = Dearest (get_or b 0 0)
call_by kind.Nearest b = Nearest (get_or b 0 0) (get_or b 1 0)

signed_back : (z : ℤ) → SFits w32 z → to_z w32 (from_be_bytes w32 (to_be_bytes w32 (of_z w32 z))) ≡ z
signed_back z f = ap (to_z w32) (from_be_bytes-to_be_bytes_4 (of_z w32 z) (omega (arith, ints))) ∙ to_z-of_z w32 z f

terms_back : (t : EntryTerms) → AllByRecursion FieldFits (term_fields t) → terms_from (spelled (term_fields t)) ≡ t
terms_back t h =
    ap (λ n. record { rate = n; fixed = word_at 2 (spelled (term_fields t)); limit = word_at 6 (spelled (term_fields t)) }) (from_be_bytes-to_be_bytes_2 t.rate h.0)
    ∙ ap (λ n. record { rate = t.rate; fixed = n; limit = word_at 6 (spelled (term_fields t)) }) (from_be_bytes-to_be_bytes_4 t.fixed h.1.0)
    ∙ ap (λ n. record { rate = t.rate; fixed = t.fixed; limit = n }) (from_be_bytes-to_be_bytes_4 t.limit h.1.1.0)

call_back : (c : Call) → Fits c → call_by (kind_of c) (spelled (fields_of c)) ≡ c
call_back (Edit (Open n)) h = refl
call_back (Edit (Raise m x y)) h = ap₂ (λ u v. Edit (Raise m u v)) (signed_back x h.1.0) (signed_back y h.1.1.0)
call_back (Edit (Strike m)) h = refl
call_back (Edit (Feeder m p t)) h = ap (λ u. Edit (Feeder m p u)) (terms_back t h.1.1)
call_back (Edit (Link p q t)) h = ap (λ u. Edit (Link p q u)) (terms_back t h.1.1)
call_back Place h = refl
call_back Why h = refl
call_back (Dearest k) h = refl
call_back (Nearest p k) h = refl

-- no two calls have the same bytes
pub same_call : (c d : Call) → Fits c → Fits d → call_bytes c ≡ call_bytes d → c ≡ d
same_call c d h k e =
    let codes : call_code (kind_of c) ≡ call_code (kind_of d) = ap (λ l. get_or l 0 0) e in
    let here = (kind_back (kind_of c)).0 in
    let there = (kind_back (kind_of d)).0 in
    let kinds : kind_of c ≡ kind_of d = cc in
    sym (call_back c h) ∙ ap (λ n. call_by n (spelled (fields_of c))) kinds ∙ ap (λ l. call_by (kind_of d) (drop 1 l)) e ∙ call_back d k

below : (n : ℕ) → n % 256 < 256
below n = omega arith

spelled_small : (fs : List Field) → AllByRecursion FieldFits fs → Small (spelled fs)
spelled_small [] h = tt
spelled_small (Byte n ∷ fs) h = (h.0, spelled_small fs h.1)
spelled_small (Half n ∷ fs) h = (below _, (below _, spelled_small fs h.1))
spelled_small (Word n ∷ fs) h = (below _, (below _, (below _, (below _, spelled_small fs h.1))))
spelled_small (Signed z ∷ fs) h = (below _, (below _, (below _, (below _, spelled_small fs h.1))))

pub frame_short : (c : Call) → length (call_frame c) ≤ 32
frame_short (Edit (Open n)) = lit≤ tt
frame_short (Edit (Raise m x y)) = lit≤ tt
frame_short (Edit (Strike m)) = lit≤ tt
frame_short (Edit (Feeder m p t)) = lit≤ tt
frame_short (Edit (Link p q t)) = lit≤ tt
frame_short Place = lit≤ tt
frame_short Why = lit≤ tt
frame_short (Dearest k) = lit≤ tt
frame_short (Nearest p k) = lit≤ tt

pub frame_small : (c : Call) → Fits c → Small (call_frame c)
frame_small c h = All-push (λ b. b < 256) (call_bytes c) (check_byte (call_bytes c)) ((kind_back (kind_of c)).1, spelled_small (fields_of c) h) (below _)

-- nor the same line
pub same_line : (c d : Call) → Fits c → Fits d → call_line c ≡ call_line d → c ≡ d
same_line c d h k e =
    same_call c d h k (same_from_push (call_bytes c) (call_bytes d) _ _ (hex_same (call_frame c) (call_frame d) (frame_small c h) (frame_small d k) e)).0

frame_adds : (bytes : List ℕ) → sum (framed bytes) % 256 ≡ 0
frame_adds bytes = closes (sum bytes) (sum (framed bytes)) (sum_by_push (λ b. b) bytes (check_byte bytes))
  where
    closes : (t n : ℕ) → n ≡ t + (256 - t % 256) % 256 → n % 256 ≡ 0
    closes t n e = omega arith

well_lined : (c : Call) → BadLength (call_line c) → ⊥
well_lined c = well_long (call_line c) (λ z. omega (arith, length-hex (call_frame c), length-framed (call_bytes c))) (λ z. omega (arith, length-hex (call_frame c))) (omega (arith, length-hex (call_frame c), frame_short c))

-- a line that spells the bytes of a frame is read as the frame is
pub line_reads : (line bytes : List ℕ) → Spells line bytes → (r : Result Call FrameFault) → FrameReads bytes r → Reads line r
line_reads line bytes spells (Ok c) h = (ap hex h.0 ∙ spells.digits, h.1)
line_reads line bytes spells (Err (Line f)) h = absurd h
line_reads line bytes spells (Err (Sum n)) h = (bytes, spells, h.0, h.1)
line_reads line bytes spells (Err Kind) h = (bytes, spells, h.0, h.1)

-- a line spells one row of bytes, and every character of it is a digit
spelled_once : (line xs ys : List ℕ) → Spells line xs → Spells line ys → xs ≡ ys
spelled_once line xs ys s t = hex_same xs ys s.small t.small (s.digits ∙ sym t.digits)

every_digit : (line bytes : List ℕ) → Spells line bytes → (k : ℕ) → k < length line → digit_of (get_or line k 0) ≡ None → ⊥
every_digit line bytes s k h e =
    let long : k < length (hex bytes) = subst (λ (l : List ℕ). k < length l) (sym s.digits) h in
    false≢true (sym (ap is_some e) ∙ ap (λ l. is_some (digit_of (get_or l k 0))) (sym s.digits) ∙ hex_digits bytes s.small k long)

call_spells : (line : List ℕ) (c : Call) → Reads line (Ok c) → Spells line (call_frame c)
call_spells line c h = record { good_length = subst (λ (l : List ℕ). BadLength l → ⊥) h.0 (well_lined c); digits = h.0; small = frame_small c h.1 }

-- the rows of lines and those of frames do not both refuse, and each row tells one place
not_spelled : (line bytes : List ℕ) (f : LineFault) → LineRefused line f → Spells line bytes → ⊥
not_spelled line bytes (Length n) h s = s.good_length h.0
not_spelled line bytes (NoDigit k) h s = every_digit line bytes s k h.1 h.2

first_bad : (line : List ℕ) (j k : ℕ) → LineRefused line (NoDigit j) → LineRefused line (NoDigit k) → j < k → ⊥
first_bad line j k h g l = false≢true (sym (ap is_some h.2) ∙ g.3 j l)

line_once : (line : List ℕ) (f g : LineFault) → LineRefused line f → LineRefused line g → f ≡ g
line_once line (Length m) (Length n) h g = ap Length (h.1 ∙ sym g.1)
line_once line (Length m) (NoDigit k) h g = absurd (g.0 h.0)
line_once line (NoDigit j) (Length n) h g = absurd (h.0 g.0)
line_once line (NoDigit j) (NoDigit k) h g =
    ap NoDigit (⊎_elim (λ l. absurd (first_bad line j k h g l)) (λ l. ⊎_elim (λ m. absurd (first_bad line k j g h m)) (λ m. omega arith) (cases_lt k j)) (cases_lt j k))

sums_clash : (line : List ℕ) (n : ℕ) → FrameRefused line (Sum n) → (bytes : List ℕ) → Spells line bytes → sum bytes % 256 ≡ 0 → ⊥
sums_clash line n h bytes s e = h.2 (ap (λ l. sum l % 256) (spelled_once line h.0 bytes h.1 s) ∙ e)

refused_once : (line : List ℕ) (f g : FrameFault) → FrameRefused line f → FrameRefused line g → f ≡ g
refused_once line (Line f) (Line g) h k = ap Line (line_once line f g h k)
refused_once line (Line f) (Sum n) h k = absurd (not_spelled line k.0 f h k.1)
refused_once line (Line f) Kind h k = absurd (not_spelled line k.0 f h k.1)
refused_once line (Sum n) (Line g) h k = absurd (not_spelled line h.0 g k h.1)
refused_once line (Sum m) (Sum n) h k = ap Sum (omega (arith, h.3, k.3, ap length (spelled_once line h.0 k.0 h.1 k.1)))
refused_once line (Sum m) Kind h k = absurd (sums_clash line m h k.0 k.1 k.2)
refused_once line Kind (Line g) h k = absurd (not_spelled line h.0 g k h.1)
refused_once line Kind (Sum n) h k = absurd (sums_clash line n k h.0 h.1 h.2)
refused_once line Kind Kind h k = refl

-- no call's line is refused
call_taken : (line : List ℕ) (c : Call) (f : FrameFault) → Reads line (Ok c) → FrameRefused line f → ⊥
call_taken line c (Line f) h k = not_spelled line (call_frame c) f k (call_spells line c h)
call_taken line c (Sum n) h k = sums_clash line n k (call_frame c) (call_spells line c h) (frame_adds (call_bytes c))
call_taken line c Kind h k =
    let known = spelled_once line k.0 (call_frame c) k.1 (call_spells line c h) in
    k.3 c (ap (λ l. get_or l 0 0) (sym known)) (ap length (sym known))

-- a line has one reading
pub reads_once : (line : List ℕ) (r : Result Call FrameFault) → Reads line r → (s : Result Call FrameFault) → Reads line s → r ≡ s
reads_once line (Ok c) h (Ok d) k = ap Ok (same_line c d h.1 k.1 (h.0 ∙ sym k.0))
reads_once line (Ok c) h (Err f) k = absurd (call_taken line c f h k)
reads_once line (Err f) h (Ok c) k = absurd (call_taken line c f k h)
reads_once line (Err f) h (Err g) k = ap Err (refused_once line f g h k)

pub line_read : (line : List ℕ) (r : Result Call FrameFault) → Reads line r → LineRead line r
line_read line r h = record { reads = h; once = reads_once line r h; rereads = λ c k e. reads_once line r h (Ok c) (sym e, k) }
