-- What answers a line whose first word names a call that takes a text.
use Rattle.std.specs.Prelude.{ℕ, cond, List, [], ◌∷◌}
use Rattle.refusal.specs.Answer.{Answer}
use Rattle.lines.specs.Text.{word, rest, same_bytes}
use Rattle.replies.specs.Replies.{reply_text, question}
use Rattle.calls.specs.Table.{TextRow, bytes}

-- a call that takes a text takes all that follows the space behind its name; without the space there is no text
abbrev pub reply_on_text : (List ℕ → Answer (List ℕ)) → List ℕ → List ℕ
reply_on_text answers [] = question
reply_on_text answers (b ∷ text) = reply_text (answers text)

unfoldable pub reply_by_text : List TextRow → List ℕ → List ℕ
reply_by_text [] line = question
reply_by_text (r ∷ rs) line = cond (same_bytes (word line) (bytes r.name)) (reply_on_text r.answers (rest line)) (reply_by_text rs line)
