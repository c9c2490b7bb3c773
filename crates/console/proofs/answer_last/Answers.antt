-- Where nothing is pending, nothing is filled.
use Rattle.std.proofs.Common.{◌≡◌, [], refl}
use Rattle.stream.specs.Stream.{last_answer, kept, Holds}
use Rattle.stream.proofs.Stream.{holds_none}
use Rattle.console.proofs.answer_last.Goals as goal

pub returns : goal.returns
unfolding last_answer
returns c =
    λ e.
    let held : Holds [] (kept c.args.line.now c.args.pending) = rw e (holds_none c.args.line.now) in
    let none : c.end_input-filled.result ≡ 0 = (c.end_input-filled.ensures.wrote [] held).ends in
    c.write_out.ensures (rw none refl)
