-- The entries of a set, one more at a time.
use Rattle.std.proofs.Common.{◌≡◌, ◌∙◌, ◌+◌, ◌<◌, ℕ, List, [], ◌∷◌, ◌++◌, length, take, ap, arith}
use Rattle.std.specs.Prelude.{slice_index_or}
use Rattle.std.proofs.lemmas.List.{length-take-le, take_more}
use Rattle.node_table.specs.declared.node.Node.{Node}
use Rattle.reconstruction.specs.declared.entries.Kept.{Kept}
use Rattle.reconstruction.specs.Entries.{kept_set}

-- a set with one variable more
pub set_more : (later : ℕ) (xs : List ℕ) (x : ℕ) (node : Node) → kept_set later (xs ++ x ∷ []) node
    ≡ kept_set later xs node ++ record { variable = x; later = later + length xs; node = node } ∷ []
set_more later [] x node = ap (λ (n : ℕ). record { variable = x; later = n; node = node } ∷ []) (omega arith)
set_more later (y ∷ xs) x node =
    ap (λ (l : List Kept). record { variable = y; later = later; node = node } ∷ l) (set_more (later + 1) xs x node
    ∙ ap (λ (n : ℕ). kept_set (later + 1) xs node ++ record { variable = x; later = n; node = node } ∷ []) (omega arith))

pub kept_more : (set : List ℕ) (place d : ℕ) (node : Node) → place < length set
    → kept_set 0 (take (place + 1) set) node
    ≡ kept_set 0 (take place set) node ++ record { variable = slice_index_or set place d; later = place; node = node } ∷ []
kept_more set place d node inside =
    ap (λ (l : List ℕ). kept_set 0 l node) (take_more set place d inside) ∙ set_more 0 (take place set) (slice_index_or set place d) node
    ∙ ap (λ (n : ℕ). kept_set 0 (take place set) node ++ record { variable = slice_index_or set place d; later = n; node = node } ∷ [])
    (omega (arith, length-take-le place set (omega (arith, inside))))
