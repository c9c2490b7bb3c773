-- One number: that of the sign.
use Rattle.std.proofs.Common.{arith, ◌≡◌, refl, w64, to_z, of_z, negsuc, ◌+ℤ◌}
use denote.Enum.Declared.{tag_of}
use Rattle.date_duration.specs.contracts.Sign.{the_type}
use Rattle.date_duration.specs.declared.Sign.{Sign}
use Rattle.date_duration.specs.declared.Sign.TheVariants as S
use Rattle.replies.specs.Replies.{sign_number}
use Rattle.replies.proofs.Laws.{one_value}
use Rattle.replies.proofs.inner.kinds.SignValues.put.Goals as goal

cast_is : (s : Sign) → to_z w64 (of_z w64 (to_z w64 (tag_of the_type s) +ℤ negsuc 0)) ≡ sign_number s
cast_is S.Negative = refl
cast_is S.Zero = refl
cast_is S.Positive = refl

pub returns : goal.returns
returns c = (one_value _ (rw (cast_is c.args.self) at c.put_integer.ensures.0), omega arith)
