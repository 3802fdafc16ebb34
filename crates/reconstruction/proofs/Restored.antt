-- Stored entries give the values that their nodes gave.
use Rattle.std.proofs.Common.{◌≡◌, ◌∙◌, List, [], ◌∷◌, ◌++◌, map, reverse, take, refl, sym, ap, subst}
use Rattle.std.specs.List.{AllZip}
use Rattle.std.proofs.lemmas.List.{reverse-append}
use Rattle.cnf_base.specs.Truth.{Assignment}
use Rattle.node_table.specs.Diagram.{Graph}
use Rattle.node_table.specs.Value.{by_level, value_of}
use Rattle.reconstruction.specs.declared.cells.Cell.{Cell}
use Rattle.reconstruction.specs.declared.entries.Entry.{Entry}
use Rattle.reconstruction.specs.declared.entries.Kept.{Kept}
use Rattle.reconstruction.specs.Cells.{cell_value}
use Rattle.reconstruction.specs.Laws.{Restored}
use Rattle.reconstruction.specs.SetBack.{set_cells_back, set_nodes_back}
use Rattle.reconstruction.specs.SetsBack.{one_back_by}
use Rattle.reconstruction.specs.Entries.{later_kept, later_stored}
use Rattle.reconstruction.specs.Stack.{AreStored, IsStored}

-- the same variables
same_variables : (graph : Graph) (cells : List Cell) (trail : List Kept) (entries : List Entry) → AreStored graph cells trail entries
    → map (λ (e : Entry). e.variable) entries ≡ map (λ (k : Kept). k.variable) trail
same_variables graph cells [] [] are = refl
same_variables graph cells [] (entry ∷ entries) are = absurd are
same_variables graph cells (kept ∷ trail) [] are = absurd are
same_variables graph cells (kept ∷ trail) (entry ∷ entries) are = λ i. are.0.variable i ∷ same_variables graph cells trail entries are.1 i

one_same : (graph : Graph) (cells : List Cell) (kept : Kept) (entry : Entry) (older : List Kept) (before : List Entry)
    → IsStored graph cells kept entry → AreStored graph cells older before → (a : Assignment)
    → one_back_by (λ b. cell_value cells b entry.key) a entry.variable (later_stored before entry)
    ≡ one_back_by (λ b. value_of graph (by_level graph.order b) kept.node) a kept.variable (later_kept older kept)
one_same graph cells kept entry older before is are a = λ i.
    one_back_by (λ b. is.value b i) a (is.variable i) (take (is.later i) (same_variables graph cells older before are i))

all_same : (graph : Graph) (cells : List Cell) (trail : List Kept) (entries : List Entry) → AreStored graph cells trail entries
    → (a : Assignment) → set_cells_back cells a entries ≡ set_nodes_back graph a trail
all_same graph cells [] [] are a = refl
all_same graph cells [] (entry ∷ entries) are a = absurd are
all_same graph cells (kept ∷ trail) [] are a = absurd are
all_same graph cells (kept ∷ trail) (entry ∷ entries) are a =
    all_same graph cells trail entries are.1 (one_back_by (λ b. cell_value cells b entry.key) a entry.variable (later_stored entries entry))
    ∙ ap (λ (b : Assignment). set_nodes_back graph b trail) (one_same graph cells kept entry trail entries are.0 are.1 a)

reversed : {X Y : Type 0} (R : X → Y → Type 0) (xs : List X) (ys : List Y) → AllZip R xs ys → AllZip R (reverse xs) (reverse ys)
reversed {X} {Y} R [] [] all = tt
reversed {X} {Y} R [] (y ∷ ys) all = absurd all
reversed {X} {Y} R (x ∷ xs) [] all = absurd all
reversed {X} {Y} R (x ∷ xs) (y ∷ ys) all =
    subst (λ (list : List X). AllZip R list (reverse (y ∷ ys))) (sym (reverse-append (x ∷ []) xs))
    (subst (λ (list : List Y). AllZip R (reverse xs ++ x ∷ []) list) (sym (reverse-append (y ∷ []) ys))
    (pushed (reverse xs) (reverse ys) (reversed R xs ys all.1)))
  where
    pushed : (us : List X) (vs : List Y) → AllZip R us vs → AllZip R (us ++ x ∷ []) (vs ++ y ∷ [])
    pushed [] [] zip = (all.0, tt)
    pushed [] (v ∷ vs) zip = absurd zip
    pushed (u ∷ us) [] zip = absurd zip
    pushed (u ∷ us) (v ∷ vs) zip = (zip.0, pushed us vs zip.1)

pub restored : Restored
restored graph cells trail entries are a =
    all_same graph cells (reverse trail) (reverse entries) (reversed (IsStored graph cells) trail entries are) a
