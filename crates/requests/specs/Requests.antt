-- The line that answers a line.
use Rattle.std.specs.Prelude.{ℕ, cond, List, [], ◌∷◌, ◌++◌, leb, length, ℤ}
use Rattle.refusal.specs.Answer.{Answer}
use Rattle.lines.specs.Text.{word, rest, same_bytes, newline}
use Rattle.parameters.specs.Kinds.{Arguments, these, no_arguments, arguments}
use Rattle.replies.specs.Replies.{reply_text, question}
use Rattle.calls.specs.Table.{Row, calls, text_calls, bytes}
use Rattle.text_calls.specs.Texts.{reply_by_text}

abbrev pub reply_with : (List ℤ → Answer (List ℕ)) → Arguments → List ℕ
reply_with answers no_arguments = question
reply_with answers (these zs) = reply_text (answers zs)

-- the call that the first word names answers to the numbers that follow, or to the text
unfoldable pub reply_by : List Row → List ℕ → List ℕ
reply_by [] line = reply_by_text text_calls line
reply_by (r ∷ rs) line = cond (same_bytes (word line) (bytes r.name)) (reply_with r.answers (arguments r.takes (rest line))) (reply_by rs line)

-- a longer line is no request
abbrev pub line_room : ℕ
line_room = 1000

-- an empty line is answered by an empty line
unfoldable pub reply_to : List ℕ → List ℕ
reply_to [] = []
reply_to (b ∷ bs) = cond (leb (length (b ∷ bs)) line_room) (reply_by calls (b ∷ bs)) question

abbrev pub response_to : List ℕ → List ℕ
response_to line = reply_to line ++ (newline ∷ [])
