-- The next literal of a list that is sorted by levels: a repetition adds nothing, any other comes before the rest.
use Rattle.std.proofs.Common.{◌≡◌, ◌≢◌, ℕ, ◌<◌, ◌+◌, Bool, true, false, ◌||◌, ℤ, pos, List, [], ◌∷◌, Option, is_some, length, map, drop}
use Rattle.std.proofs.Common.{int_eq, refl, sym, ap, ◌∙◌, subst, arith, inl, inr}
use Rattle.std.specs.Prelude.{nat_lt, slice_index_or}
use Rattle.std.specs.List.{list_any}
use Rattle.std.specs.List.Sorted.{IsNonDecreasingBy}
use Rattle.std.proofs.lemmas.Bool.{cases_lt, ltb-true}
use Rattle.std.proofs.lemmas.List.{drop_more, drop_all}
use Rattle.std.proofs.lemmas.List.Elements.{All-get_or}
use Rattle.std.proofs.lemmas.List.Sums.{AllPass-from_list_all}
use Rattle.lrat_rules.specs.State.{Live}
use Rattle.lrat_rules.specs.Chain.{literals_of}
use Rattle.hint_chain.specs.declared.unit.UnitPart.{UnitPart}
use Rattle.hint_chain.specs.Units.{IsUnitPath}
use Rattle.node_table.specs.declared.node.Node.{Node}
use Rattle.node_table.specs.declared.node.Node.TheVariants.{False, True, Inner}
use Rattle.node_table.specs.declared.node.Branch.{Branch}
use Rattle.node_table.specs.Diagram.{Graph, IsBelow, level_in, levels}
use Rattle.clause_terms.specs.declared.placed.Placed.{Placed}
use Rattle.clause_terms.specs.Placed.{literal_at, placed_holds, HasNoOpposites, are_of_levels}
use Rattle.clause_terms.specs.ClauseDiagram.{IsBefore, IsDiagramOf}

abbrev pub SameSetLaw : Type 0
SameSetLaw = (live : Live) (path : List UnitPart) (nodes clause other : List ℤ)
    → ((x : ℤ) → literals_of other x ≡ literals_of clause x) → IsUnitPath live path nodes clause → IsUnitPath live path nodes other

pub or_again : (t r : Bool) → (t || r) ≡ (t || (t || r))
or_again true r = refl
or_again false r = refl

repeated : SameSetLaw → (graph : Graph) (live : Live) (q : Placed) (rest : List Placed) (node : Node) (path : List UnitPart)
    → IsDiagramOf graph live (q ∷ rest) node path → IsDiagramOf graph live (q ∷ q ∷ rest) node path
repeated same_set graph live q rest node path diagram =
    let top = diagram.top in
    record {
      value = λ a. diagram.value a ∙ or_again (placed_holds a q) (list_any (placed_holds a) rest);
      top = record {
        key = top.key;
        branch = top.branch;
        nodes = top.nodes;
        named = top.named;
        stands = top.stands;
        of_level = top.of_level;
        lies = top.lies;
        unit = same_set live path (pos top.branch.variable ∷ top.nodes) (map (literal_at graph) (q ∷ rest))
            (map (literal_at graph) (q ∷ q ∷ rest))
            (λ x. sym (or_again (int_eq x (literal_at graph q)) (literals_of (map (literal_at graph) rest) x))) top.unit;
      };
    }

pub same_placed : (p q : Placed) → p.level ≡ q.level → p.negative ≡ q.negative → p ≡ q
same_placed p q level negative = λ i. record { level = level i; negative = negative i }

pub skipped : SameSetLaw → (graph : Graph) (live : Live) (placed : List Placed) (i : ℕ) (d : Placed) → i + 1 < length placed
    → HasNoOpposites placed
    → (slice_index_or placed i d).level ≡ (slice_index_or placed (i + 1) d).level → (node : Node) (path : List UnitPart)
    → IsDiagramOf graph live (drop (i + 1) placed) node path → IsDiagramOf graph live (drop i placed) node path
skipped same_set graph live placed i d small signs level node path diagram =
    let one : drop i placed ≡ slice_index_or placed i d ∷ drop (i + 1) placed = drop_more placed i d (omega (arith, small)) in
    let two : drop (i + 1) placed ≡ slice_index_or placed (i + 1) d ∷ drop (i + 1 + 1) placed = drop_more placed (i + 1) d small in
    let same : slice_index_or placed i d ≡ slice_index_or placed (i
    + 1) d = same_placed (slice_index_or placed i d) (slice_index_or placed (i + 1) d) level (signs i d small level) in
    let whole : drop i placed ≡ slice_index_or placed (i + 1) d ∷ slice_index_or placed (i + 1) d ∷ drop (i + 1 + 1) placed =
    one ∙ ((λ k. same k ∷ drop (i + 1) placed) ∙ ap (λ rest. slice_index_or placed (i + 1) d ∷ rest) two) in
    subst (λ (list : List Placed). IsDiagramOf graph live list node path) (sym whole)
    (repeated same_set graph live (slice_index_or placed (i + 1) d) (drop (i + 1 + 1) placed) node path
    (subst (λ (list : List Placed). IsDiagramOf graph live list node path) two diagram))

pub before_rest : (placed : List Placed) (i : ℕ) (d : Placed) → i < length placed → IsNonDecreasingBy (λ (p : Placed). p.level) placed
    → (i + 1 < length placed → (slice_index_or placed i d).level ≢ (slice_index_or placed (i + 1) d).level)
    → IsBefore (slice_index_or placed i d).level (drop (i + 1) placed)
before_rest placed i d small sorted other = elim (cases_lt (i + 1) (length placed)) [
  | inl more ↦ subst (λ (list : List Placed). IsBefore (slice_index_or placed i d).level list) (sym (drop_more placed (i + 1) d more))
      (let differ = other more in omega (arith, differ, sorted i (i + 1) d (omega arith) more))
  | inr done ↦ subst (λ (list : List Placed). IsBefore (slice_index_or placed i d).level list) (sym (drop_all (i + 1) placed done)) tt
]

pub level_within : (graph : Graph) (placed : List Placed) (i : ℕ) (d : Placed) → i < length placed → are_of_levels graph placed ≡ true
    → (slice_index_or placed i d).level < levels graph
level_within graph placed i d small of_levels =
    ltb-true (slice_index_or placed i d).level (levels graph)
    (All-get_or (λ (p : Placed). nat_lt p.level (levels graph) ≡ true) placed i d small
    (AllPass-from_list_all (λ (p : Placed). nat_lt p.level (levels graph)) placed of_levels))

-- the diagram of later literals stands below, and is never True
pub below_first : (graph : Graph) (live : Live) (level : ℕ) → level < levels graph → (placed : List Placed) → IsBefore level placed
    → (node : Node) (path : List UnitPart)
    → IsDiagramOf graph live placed node path → IsBelow graph level node
below_first graph live level small [] before node path diagram = subst (IsBelow graph level) (sym diagram.top.0)
    (record { stands = refl; below = small })
below_first graph live level small (first ∷ placed) before node path diagram =
    let top = diagram.top in
    let less : level < top.branch.level = omega (arith, before, top.of_level) in
    subst (IsBelow graph level) (sym top.named) (record {
      stands = ap is_some top.stands;
      below = subst (λ (o : Option Branch). level < level_in (levels graph) o) (sym top.stands) less;
    })

pub never_true : (graph : Graph) (live : Live) (placed : List Placed) (node : Node) (path : List UnitPart)
    → IsDiagramOf graph live placed node path → node ≢ True
never_true graph live [] node path diagram is = let other : False ≡ True = sym diagram.top.0 ∙ is in cc
never_true graph live (first ∷ placed) node path diagram is = let other : Inner diagram.top.key ≡ True = sym diagram.top.named ∙ is in cc
