-- An input of lines: what is answered while its bytes are taken one after another, and what the code keeps from byte to byte.
use Rattle.std.specs.Prelude.{ℕ, ◌+◌, ◌≤◌, ◌<◌, ◌≡◌, cond, List, [], ◌∷◌, ◌++◌, eqb, ltb, length, take, set}
use Rattle.std.proofs.Math.Seq.{slice}
use Rattle.lines.specs.Text.{newline}
use Rattle.writing.specs.Wrote.{Wrote}
use Rattle.requests.specs.Requests.{response_to, line_room}
use Rattle.stream.specs.declared.inner.Progress.{Progress}
use Rattle.stream.specs.declared.inner.Pending.{Pending}
use Rattle.stream.specs.declared.inner.Pending.TheVariants.{Buffered, Outgrown}

-- what is written while bytes are taken, after `pending` was read of a line that has not ended
unfoldable pub answered : List ℕ → List ℕ → List ℕ
answered pending [] = []
answered pending (b ∷ bs) = cond (eqb b newline) (response_to pending ++ answered [] bs) (answered (pending ++ (b ∷ [])) bs)

-- and what is pending after them
unfoldable pub pending_after : List ℕ → List ℕ → List ℕ
pending_after pending [] = pending
pending_after pending (b ∷ bs) = cond (eqb b newline) (pending_after [] bs) (pending_after (pending ++ (b ∷ [])) bs)

-- a last line without a newline counts
unfoldable pub last_answer : List ℕ → List ℕ
last_answer [] = []
last_answer (b ∷ bs) = response_to (b ∷ bs)

abbrev pub output_of : List ℕ → List ℕ
output_of input = answered [] input ++ last_answer (pending_after [] input)

-- ---- what is kept of a line that has not ended: the line buffer, how much of it is the line's, and whether the line outgrew it

pub record Kept : Type 0 where
  pub line : List ℕ
  pub pending : Pending

abbrev pub kept : List ℕ → Pending → Kept
kept line p = record { line = line; pending = p }

-- how many bytes of the line buffer are the line's
abbrev pub buffered : Pending → ℕ
buffered (Buffered have) = have
buffered (Outgrown have) = have

-- what is pending stands at the start of the line buffer, or is longer than any request
abbrev StandsAs : List ℕ → List ℕ → Pending → Type 0
StandsAs pending line (Buffered have) = pending ≡ take have line
StandsAs pending line (Outgrown have) = line_room < length pending

pub record Holds (pending : List ℕ) (k : Kept) : Type 0 where
  pub stands : StandsAs pending k.line k.pending

-- a byte more: a newline leaves nothing pending, and another byte is stored while there is room; no other byte of the buffer changes
abbrev pub joined : List ℕ → Pending → ℕ → Kept
joined line (Buffered have) b = cond (ltb have (length line)) (kept (set line have b) (Buffered (have + 1))) (kept line (Outgrown have))
joined line (Outgrown have) b = cond (ltb have (length line)) (kept (set line have b) (Outgrown (have + 1))) (kept line (Outgrown have))

unfoldable pub kept_with : Kept → ℕ → Kept
kept_with k b = cond (eqb b newline) (kept k.line (Buffered 0)) (joined k.line k.pending b)

unfoldable pub kept_after : Kept → List ℕ → Kept
kept_after k [] = k
kept_after k (b ∷ bs) = kept_after (kept_with k b) bs

-- ---- a block that is taken in parts

-- room enough for any response
abbrev pub response_room : ℕ
response_room = 256

-- the state lies inside the block, the line buffer and the output buffer
pub record Inside (block line out : List ℕ) (s : Progress) : Type 0 where
  pub at_inside : s.at ≤ length block
  pub line_sized : length line ≡ line_room
  pub pending_inside : buffered s.pending ≤ line_room
  pub filled_inside : s.filled ≤ length out

-- before each byte that was taken there was room for one more response
abbrev pub Roomy : List ℕ → List ℕ → List ℕ → Progress → ℕ → Type 0
Roomy pending block out s end =
    (m : ℕ) → s.at ≤ m → m < end → s.filled + length (answered pending (slice s.at m block)) + response_room ≤ length out

-- the taking ends before the block's end only where there is no room
abbrev pub Stops : List ℕ → List ℕ → Progress → Type 0
Stops block out r = r.at < length block → length out < r.filled + response_room

-- the bytes of the block between two states were taken: whatever was pending, what was written answers them
pub record Took (block line out : List ℕ) (s : Progress) (line' out' : List ℕ) (r : Progress) : Type 0 where
  pub onward : s.at ≤ r.at
  pub inside : Inside block line' out' r
  pub keeps : kept line' r.pending ≡ kept_after (kept line s.pending) (slice s.at r.at block)
  pub wrote : (pending : List ℕ) → Holds pending (kept line s.pending) →
      Wrote out s.filled (answered pending (slice s.at r.at block)) out' r.filled
  pub roomy : (pending : List ℕ) → Holds pending (kept line s.pending) → Roomy pending block out s r.at

-- ---- an input that is taken in parts, each from what the one before it left: its bytes so far, those written, and what is kept
pub data Taken : List ℕ → List ℕ → Kept → Type 0 where
  begun : (line : List ℕ) → Taken [] [] (kept line (Buffered 0))
  more : {input output block line out line' out' : List ℕ} {s r : Progress} → Taken input output (kept line s.pending) → Inside block line out s →
      Took block line out s line' out' r → Taken (input ++ slice s.at r.at block) (output ++ slice s.filled r.filled out')
      (kept line' r.pending)
