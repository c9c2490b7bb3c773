-- `writing::inner::put_integer` meets its contract: a space, then `-` where the number is negative, then at most nineteen digits.
use Rattle.std.proofs.Common.{◌∷◌, List, ℕ, sym, ap, arith}
use Rattle.std.proofs.lemmas.Int.{ints, to_z-of_z}
use Rattle.lines.specs.Text.{space}
use Rattle.writing.proofs.Digits.{few_digits}
use Rattle.writing.proofs.Values.{decimal_plus, decimal_minus}
use Rattle.writing.proofs.Writing.{after, wrote_as}
use Rattle.writing.proofs.inner.put_integer.Goals as goal
use Rattle.writing.proofs.inner.put_integer.Goals.{then-z-lt0, else-z-lt0}

pub put_digits-requires : goal.put_digits-requires
put_digits-requires c =
    let few = few_digits 20 18 c.unsigned_abs.result (omega arith) in
    let gap = c.put_byte-next.ensures in
    elim c.if-z-lt0.branch [
      | then-z-lt0 w ↦ let sign = w.put_byte-next-then-z-lt0.ensures in omega arith
      | else-z-lt0 w ↦ omega arith
    ]

pub returns : goal.returns
returns c =
    let size = simp (to_z-of_z, c.ranges.z) at c.unsigned_abs.ensures.value in
    let few = few_digits 20 18 c.unsigned_abs.result (omega arith) in
    let gap = c.put_byte-next.ensures in
    let written = c.put_digits.ensures in
    elim c.if-z-lt0.branch [
      | then-z-lt0 w ↦
          let sign = w.put_byte-next-then-z-lt0.ensures in (
            wrote_as (after gap (after sign (rw (w.out-is, w.next-is) at written)))
                (rw size (ap (λ (t : List ℕ). space ∷ t) (sym (decimal_minus c.args.z (omega (arith, ints)))))),
            omega arith,
          )
      | else-z-lt0 w ↦ (
        wrote_as (after gap (rw (w.out-is, w.next-is) at written))
            (rw size (ap (λ (t : List ℕ). space ∷ t) (sym (decimal_plus c.args.z (omega (arith, ints)))))),
        omega arith,
      )
    ]
