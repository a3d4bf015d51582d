-- What writing a line leaves in the caller's buffer.
use Rattle.std.specs.Prelude.{◌≡◌, ℕ, ◌<◌, ◌≤◌, min, List, ◌++◌, length, drop, Some, None, Option}

-- text written over the head of a buffer: the bytes behind it stay
abbrev pub over_head : List ℕ → List ℕ → List ℕ
over_head text was = text ++ drop (length text) was

-- a line of at most 64 characters and its line feed stands at the head, or it is longer or has no room, and nothing is written
abbrev pub Wrote : List ℕ → List ℕ → Option ℕ → List ℕ → Type 0
Wrote text was (Some n) now = (length text ≤ min 65 (length was)) × (n ≡ length text) × (now ≡ over_head text was)
Wrote text was None now = (min 65 (length was) < length text) × (now ≡ was)
