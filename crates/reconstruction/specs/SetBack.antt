-- Quantified variables set back by stored terms. (Bryant, Heule: Generating Extended Resolution Proofs with a BDD-Based SAT Solver,
-- 2021, section 5.)
use Rattle.std.specs.Prelude.{List, [], ◌∷◌}
use Rattle.cnf_base.specs.Truth.{Assignment}
use Rattle.node_table.specs.Diagram.{Graph}
use Rattle.node_table.specs.Value.{by_level, value_of}
use Rattle.reconstruction.specs.declared.cells.Cell.{Cell}
use Rattle.reconstruction.specs.declared.entries.Entry.{Entry}
use Rattle.reconstruction.specs.declared.entries.Kept.{Kept}
use Rattle.reconstruction.specs.Cells.{cell_value}
use Rattle.reconstruction.specs.SetsBack.{one_back_by}
use Rattle.reconstruction.specs.Entries.{later_kept, later_stored}

-- the variables of a list of entries, the last quantified one first: each false where some values of those that were quantified with
-- it and come behind it in the order make the stored term true so, else true
abbrev pub set_cells_back : List Cell → Assignment → List Entry → Assignment
set_cells_back cells a [] = a
set_cells_back cells a (entry ∷ older) =
    set_cells_back cells (one_back_by (λ b. cell_value cells b entry.key) a entry.variable (later_stored older entry)) older

-- the same by nodes
abbrev pub set_nodes_back : Graph → Assignment → List Kept → Assignment
set_nodes_back graph a [] = a
set_nodes_back graph a (kept ∷ older) =
    set_nodes_back graph (one_back_by (λ b. value_of graph (by_level graph.order b) kept.node) a kept.variable (later_kept older kept)) older
