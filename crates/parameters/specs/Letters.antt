-- The types of parameters as the letters that the code has for them.
use Rattle.std.specs.Prelude.{ℕ, ◌-◌, ◌^◌, cond, List, [], ◌∷◌, eqb, pos, neg_ℤ}
use Rattle.parameters.specs.Kinds.{Kind}
use Rattle.parameters.specs.declared.Bounds.{Bounds}

abbrev bounds : ℕ → ℕ → Bounds
bounds b h = record { below = b; high = h }

-- i, l, b, s, w, f, m, r, and u for the rest
unfoldable pub bounds_of : ℕ → Bounds
bounds_of letter =
    cond (eqb letter 105) (bounds (2 ^ 31) (2 ^ 31 - 1))
    (cond (eqb letter 108) (bounds (2 ^ 63) (2 ^ 63 - 1))
    (cond (eqb letter 98) (bounds 0 255)
    (cond (eqb letter 115) (bounds 0 65535)
    (cond (eqb letter 119) (bounds 0 (2 ^ 64 - 1))
    (cond (eqb letter 102) (bounds 0 1)
    (cond (eqb letter 109) (bounds 0 8)
    (cond (eqb letter 114) (bounds 0 64) (bounds 0 9))))))))

abbrev pub letter_kind : ℕ → Kind
letter_kind letter = record { low = neg_ℤ (pos (bounds_of letter).below); high = pos (bounds_of letter).high }

unfoldable pub letters_kinds : List ℕ → List Kind
letters_kinds [] = []
letters_kinds (l ∷ ls) = letter_kind l ∷ letters_kinds ls
