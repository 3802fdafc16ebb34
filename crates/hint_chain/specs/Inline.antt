-- Few literals in an array of fixed length: the places behind the last one hold the blank literal 1.
use Rattle.std.specs.Prelude.{◌≡◌, ℕ, ◌-◌, ◌≤◌, ℤ, pos, List, ◌++◌, length, take, drop, replicate}
use Rattle.std.proofs.Common.{sym, ap, ◌∙◌, arith, take-append-drop, length-take-le}

-- the array of this length that begins with these literals
abbrev pub padded : ℕ → List ℤ → List ℤ
padded places literals = literals ++ replicate (places - length literals) (pos 1)

-- the array's first literals count, and the others are blank
pub record IsPadded (places : ℕ) (array : List ℤ) (count : ℕ) : Type 0 where
  pub within : count ≤ places
  pub full : length array ≡ places
  pub blank : drop count array ≡ replicate (places - count) (pos 1)

-- the literals that count give the array and their number back
pub length-counted : (places : ℕ) (array : List ℤ) (count : ℕ) → IsPadded places array count → length (take count array) ≡ count
length-counted places array count p = length-take-le count array (omega (arith, p.within, p.full))

pub padded-counted : (places : ℕ) (array : List ℤ) (count : ℕ) → IsPadded places array count → padded places (take count array) ≡ array
padded-counted places array count p =
    ap (λ k. take count array ++ replicate (places - k) (pos 1)) (length-counted places array count p)
    ∙ ap (λ ys. take count array ++ ys) (sym p.blank)
    ∙ take-append-drop count array
