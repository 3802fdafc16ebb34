-- A node that was made leaves the table tied: the node is reduced and defined, and no other variable came.
use Rattle.std.proofs.Common.{◌≡◌, ℕ, zero, suc, ◌+◌, ◌<◌, ◌≤◌, Bool, true, false, ℤ, pos, negsuc, List, [], ◌∷◌, length, Option, None}
use Rattle.std.proofs.Common.{◌++◌, Some, is_some, refl, sym, ap, ◌∙◌, subst, arith, inl, inr}
use Rattle.std.specs.Prelude.{◌≢◌, nat_abs, neg_ℤ, not, slice_index_or}
use Rattle.cnf_base.specs.ProofText.{given_if}
use Rattle.lrat_rules.specs.State.{State, Live, clause_at}
use Rattle.hint_chain.specs.declared.atom.Atom.{Atom}
use Rattle.hint_chain.specs.declared.atom.Atom.TheVariants.{Always, Never, Of}
use Rattle.hint_chain.specs.Atoms.{neg_atom, clause_from_atoms, high_up, low_up, high_down, low_down}
use Rattle.node_table.specs.declared.node.Node.{Node}
use Rattle.node_table.specs.declared.node.Node.TheVariants.{False, True, Inner}
use Rattle.node_table.specs.declared.node.Branch.{Branch}
use Rattle.node_table.specs.Diagram.{Graph, IsBelow, KeepsNodes, FitsIn, branch_at, is_node, levels, variable_at, with_branch}
use Rattle.node_table.specs.Defined.{IsDefined, atom_of, atom_in, clause_named, is_false_node, is_true_node, one_if, definition_count}
use Rattle.node_table.specs.Defined.{Definition, with_some, with_definitions}
use Rattle.node_table.specs.Tied.{IsTied, IsOwned, IsOverNodes}
use Rattle.node_table.specs.Table.{IsWanted, new_branch, node_definitions}
use Rattle.node_table.proofs.Values.{branch_of_node}
use Rattle.node_table.proofs.Grown.{is_node-kept, IsReduced-joined, KeepsNodes-joined, joined_at, joined_cases}
use Rattle.node_table.proofs.Stands.{IsOverAtom, FourStand, each_some, four_stand, over_clause, top_some}

-- Which of the clauses there are. The atom of a node is Never for False alone, and Always for True alone.
pub some_up : (graph : Graph) (u x : ℤ) (node : Node) → is_node graph node ≡ true
    → is_some (clause_from_atoms (Of u ∷ Of x ∷ neg_atom (atom_of graph node) ∷ [])) ≡ not (is_false_node node)
some_up graph u x False is = refl
some_up graph u x True is = refl
some_up graph u x (Inner key) is = let branch = branch_of_node graph key is in
    ap (λ o. is_some (clause_from_atoms (Of u ∷ Of x ∷ neg_atom (atom_in o) ∷ []))) branch.1

pub some_down : (graph : Graph) (u x : ℤ) (node : Node) → is_node graph node ≡ true
    → is_some (clause_from_atoms (Of u ∷ Of x ∷ atom_of graph node ∷ [])) ≡ not (is_true_node node)
some_down graph u x False is = refl
some_down graph u x True is = refl
some_down graph u x (Inner key) is = let branch = branch_of_node graph key is in
    ap (λ o. is_some (clause_from_atoms (Of u ∷ Of x ∷ atom_in o ∷ []))) branch.1

-- atoms of nodes stay
atom_of-kept : (old new : Graph) → KeepsNodes old new → (node : Node) → is_node old node ≡ true → atom_of new node ≡ atom_of old node
atom_of-kept old new keeps False is = refl
atom_of-kept old new keeps True is = refl
atom_of-kept old new keeps (Inner key) is =
    let branch = branch_of_node old key is in
    ap atom_in (keeps.nodes key.index branch.0 branch.1) ∙ sym (ap atom_in branch.1)

-- Defined clauses that stay: each is none under no number, or stays under its own.
stays_named : (live later : Live) → ((id : ℕ) (clause : List ℤ) → clause_at live id ≡ Some clause → clause_at later id ≡ Some clause)
    → (b : Bool) (id : ℕ) (o : Option (List ℤ)) → is_some o ≡ b → clause_named live (given_if b id) ≡ o → clause_named later (given_if b id)
    ≡ o
stays_named live later stays true id None some is = absurd (let e : false ≡ true = some in cc)
stays_named live later stays true id (Some clause) some is = stays id clause is
stays_named live later stays false id o some is = is

pub IsDefined-kept : (old new : Graph) → KeepsNodes old new → (live later : Live)
    → ((id : ℕ) (clause : List ℤ) → clause_at live id ≡ Some clause → clause_at later id ≡ Some clause)
    → (b : Branch) → is_node old b.high ≡ true → is_node old b.low ≡ true → IsDefined live old b → IsDefined later new b
IsDefined-kept old new keeps live later stays b high_stands low_stands defined =
    let x : variable_at old b.level ≡ variable_at new b.level = ap (λ (order : List ℕ). slice_index_or order b.level 0) (sym keeps.order) in
    let high : atom_of old b.high ≡ atom_of new b.high = sym (atom_of-kept old new keeps b.high high_stands) in
    let low : atom_of old b.low ≡ atom_of new b.low = sym (atom_of-kept old new keeps b.low low_stands) in
    let u = pos b.variable in
    let y = pos (variable_at old b.level) in
    record {
      hu = stays_named live later stays (not (is_false_node b.high)) b.first (clause_from_atoms (high_up u y (atom_of old b.high)))
          (some_up old u (neg_ℤ y) b.high high_stands) defined.hu
          ∙ (λ i. clause_from_atoms (high_up u (pos (x i)) (high i)));
      lu = stays_named live later stays (not (is_false_node b.low)) _ (clause_from_atoms (low_up u y (atom_of old b.low)))
          (some_up old u y b.low low_stands) defined.lu
          ∙ (λ i. clause_from_atoms (low_up u (pos (x i)) (low i)));
      hd = stays_named live later stays (not (is_true_node b.high)) _ (clause_from_atoms (high_down u y (atom_of old b.high)))
          (some_down old (neg_ℤ u) (neg_ℤ y) b.high high_stands) defined.hd
          ∙ (λ i. clause_from_atoms (high_down u (pos (x i)) (high i)));
      ld = stays_named live later stays (not (is_true_node b.low)) _ (clause_from_atoms (low_down u y (atom_of old b.low)))
          (some_down old (neg_ℤ u) y b.low low_stands) defined.ld
          ∙ (λ i. clause_from_atoms (low_down u (pos (x i)) (low i)));
    }

-- an owned variable stays owned
IsOwned-kept : (old new : Graph) → KeepsNodes old new → (variable : ℕ) → IsOwned old variable → IsOwned new variable
IsOwned-kept old new keeps variable owned = record {
  key = owned.key;
  branch = owned.branch;
  stands = keeps.nodes owned.key owned.branch owned.stands;
  own = owned.own;
}

pub IsOverNodes-kept : (old new : Graph) → KeepsNodes old new → (clause : List ℤ) → IsOverNodes old clause → IsOverNodes new clause
IsOverNodes-kept old new keeps clause over literal among above =
    IsOwned-kept old new keeps (nat_abs literal) (over literal among
    (subst (λ (order : List ℕ). length order < nat_abs literal) keeps.order above))

-- the atoms of a node's clauses are over the graph that has it
abs-neg : (x : ℤ) → nat_abs (neg_ℤ x) ≡ nat_abs x
abs-neg (pos zero) = refl
abs-neg (pos (suc n)) = refl
abs-neg (negsuc n) = refl

pub over_own : (graph : Graph) (own : ℤ) → IsOwned graph (nat_abs own) → IsOverAtom graph (Of own)
over_own graph own owned literal is above = let same : own ≡ literal = (let e : Of own ≡ Of literal = is in cc) in
    subst (λ (n : ℤ). IsOwned graph (nat_abs n)) same owned

pub over_input : (graph : Graph) (own : ℤ) → nat_abs own ≤ levels graph → IsOverAtom graph (Of own)
over_input graph own small literal is above = let same : own ≡ literal = (let e : Of own ≡ Of literal = is in cc) in
    absurd (omega (arith, above, small, ap nat_abs same))

pub over_node : (graph : Graph) (node : Node) → is_node graph node ≡ true → IsOverAtom graph (atom_of graph node)
over_node graph False stands literal is above = absurd (let e : Never ≡ Of literal = is in cc)
over_node graph True stands literal is above = absurd (let e : Always ≡ Of literal = is in cc)
over_node graph (Inner key) stands literal is above =
    let branch = branch_of_node graph key stands in
    over_own graph (pos branch.0.variable) (record { key = key.index; branch = branch.0; stands = branch.1; own = refl }) literal
    (sym (ap atom_in branch.1) ∙ is) above

pub over_neg : (graph : Graph) (atom : Atom) → IsOverAtom graph atom → IsOverAtom graph (neg_atom atom)
over_neg graph Always over literal is above = absurd (let e : Never ≡ Of literal = is in cc)
over_neg graph Never over literal is above = absurd (let e : Always ≡ Of literal = is in cc)
over_neg graph (Of own) over literal is above =
    let same : neg_ℤ own ≡ literal = (let e : Of (neg_ℤ own) ≡ Of literal = is in cc) in
    let size : nat_abs own ≡ nat_abs literal = sym (abs-neg own) ∙ ap nat_abs same in
    subst (IsOwned graph) size (over own refl (omega (arith, above, size)))

-- the four clauses of a new node stand under its numbers
new_is_defined : (graph : Graph) (state after : State) (level : ℕ) (high low : Node) (variable : ℕ) → is_node graph high ≡ true
    → is_node graph low ≡ true
    → FourStand state (clause_from_atoms (high_up (pos variable) (pos (variable_at graph level)) (atom_of graph high)))
    (clause_from_atoms (low_up (pos variable) (pos (variable_at graph level)) (atom_of graph low)))
    (clause_from_atoms (high_down (pos variable) (pos (variable_at graph level)) (atom_of graph high)))
    (clause_from_atoms (low_down (pos variable) (pos (variable_at graph level)) (atom_of graph low))) after
    → IsDefined after.live graph (new_branch state level high low variable)
new_is_defined graph state after level high low variable high_stands low_stands four =
    let u = pos variable in
    let y = pos (variable_at graph level) in
    let first = state.top + 1 in
    let p1 = some_up graph u (neg_ℤ y) high high_stands in
    let p2 = some_up graph u y low low_stands in
    let p3 = some_down graph (neg_ℤ u) (neg_ℤ y) high high_stands in
    let p4 = some_down graph (neg_ℤ u) y low low_stands in
    record {
      hu = (λ i. clause_named after.live (given_if (sym p1 i) first)) ∙ four.one;
      lu = (λ i. clause_named after.live (given_if (sym p2 i) (first + one_if (sym p1 i)))) ∙ four.two;
      hd = (λ i. clause_named after.live (given_if (sym p3 i) (first + one_if (sym p1 i) + one_if (sym p2 i)))) ∙ four.three;
      ld = (λ i. clause_named after.live (given_if (sym p4 i) (first + one_if (sym p1 i) + one_if (sym p2 i) + one_if (sym p3 i))))
          ∙ four.four;
    }

-- each of these clauses is over the nodes
abbrev pub AreDefinitionsOver : Graph → List Definition → Type 0
AreDefinitionsOver graph [] = Unit {0}
AreDefinitionsOver graph (d ∷ more) = ((clause : List ℤ) → d.clause ≡ Some clause → IsOverNodes graph clause)
    × AreDefinitionsOver graph more

pub definitions_over-front : (graph : Graph) (some more : List Definition) → AreDefinitionsOver graph (some ++ more)
    → AreDefinitionsOver graph some
definitions_over-front graph [] more over = tt
definitions_over-front graph (d ∷ some) more over = (over.0, definitions_over-front graph some more over.1)

written_over : (graph : Graph) (state : State) (all : List Definition) → AreDefinitionsOver graph all
    → ((id : ℕ) (clause : List ℤ) → clause_at state.live id ≡ Some clause → IsOverNodes graph clause)
    → (id : ℕ) (clause : List ℤ) → clause_at (with_definitions state all).live id ≡ Some clause → IsOverNodes graph clause
written_over graph state [] over before = before
written_over graph state (d ∷ all) over before = written_over graph (with_some state d.clause) all over.1
    (each_some (IsOverNodes graph) state d.clause over.0 before)

-- those of a new node are over it, a variable of the formula and its children
module _ (old new : Graph) (state : State) (level : ℕ) (high low : Node) (variable : ℕ) (keeps : KeepsNodes old new)
    (small : variable_at old level ≤ levels old) (high_stands : is_node old high ≡ true) (low_stands : is_node old low ≡ true)
    (owned : IsOwned new variable) where
  over_u : IsOverAtom new (Of (pos variable))
  over_u = over_own new (pos variable) owned

  over_y : IsOverAtom new (Of (pos (variable_at old level)))
  over_y = over_input new (pos (variable_at old level)) (omega (arith, small, ap length keeps.order))

  over_child : (node : Node) → is_node old node ≡ true → IsOverAtom new (atom_of old node)
  over_child node stands = subst (IsOverAtom new) (atom_of-kept old new keeps node stands)
      (over_node new node (is_node-kept old new keeps node stands))

  pub node_definitions_over : AreDefinitionsOver new (node_definitions old state level high low variable)
  node_definitions_over =
      let x = pos (variable_at old level) in
      let own = pos variable in
      let not_u = over_neg new (Of own) over_u in
      let not_y = over_neg new (Of x) over_y in
      let over_high = over_child high high_stands in
      let over_low = over_child low low_stands in (
        over_clause new (high_up own x (atom_of old high)) (over_u, (not_y, (over_neg new (atom_of old high) over_high, tt))),
        (
          over_clause new (low_up own x (atom_of old low)) (over_u, (over_y, (over_neg new (atom_of old low) over_low, tt))),
          (
            over_clause new (high_down own x (atom_of old high)) (not_u, (not_y, (over_high, tt))),
            (over_clause new (low_down own x (atom_of old low)) (not_u, (over_y, (over_low, tt))), tt),
          ),
        ),
      )

pub made_is_tied : (old : Graph) (state : State) → IsTied old state → (level : ℕ) (high low : Node) → level < levels old
    → IsBelow old level high → IsBelow old level low → IsWanted old level high low
    → (variable : ℕ) → levels old < variable → ((key : ℕ) (b : Branch) → branch_at old key ≡ Some b → b.variable ≢ variable)
    → (key : ℕ) → branch_at old key ≡ None
    → IsTied (with_branch old key (new_branch state level high low variable))
    (with_definitions state (node_definitions old state level high low variable))
made_is_tied old state tied level high low small high_below low_below wanted variable above own key unused =
    let branch = new_branch state level high low variable in
    let new = with_branch old key branch in
    let after = with_definitions state (node_definitions old state level high low variable) in
    let keeps = KeepsNodes-joined old key branch unused in
    let u = pos variable in
    let y = pos (variable_at old level) in
    let fits : FitsIn old branch = record {
      level = small;
      high = high_below;
      low = low_below;
      differ = wanted.differ;
      alone = λ other b is alike. wanted.missing other b is alike.level alike.high alike.low;
    } in
    let four = four_stand state tied.numbers (clause_from_atoms (high_up u y (atom_of old high))) (clause_from_atoms (low_up u y (atom_of old low)))
    (clause_from_atoms (high_down u y (atom_of old high))) (clause_from_atoms (low_down u y (atom_of old low))) in
    let owned : IsOwned new variable = record { key = key; branch = branch; stands = joined_at old key branch; own = refl } in
    let variable_small : variable_at old level ≤ levels old = (tied.ordered.within level small).1 in
    record {
      reduced = IsReduced-joined old tied.reduced key branch unused fits above own;
      ordered = tied.ordered;
      defined = λ other b is. elim (joined_cases old key branch other b is) [
        | inl here ↦ subst (IsDefined after.live new) (sym here.1)
            (IsDefined-kept old new keeps after.live after.live (λ id clause at. at) branch high_below.stands low_below.stands
            (new_is_defined old state after level high low variable high_below.stands low_below.stands four))
        | inr there ↦ IsDefined-kept old new keeps state.live after.live four.grows.clauses b (tied.reduced.high other b there).stands
            (tied.reduced.low other b there).stands (tied.defined other b there)
      ];
      over_nodes = written_over new state (node_definitions old state level high low variable)
          (node_definitions_over old new state level high low variable keeps variable_small high_below.stands low_below.stands owned)
          (λ id clause at. IsOverNodes-kept old new keeps clause (tied.over_nodes id clause at));
      numbers = four.grows.numbers;
    }

at_most_one : (b : Bool) → one_if b ≤ 1
at_most_one true = omega arith
at_most_one false = omega arith

at_most_four : (a b c d : ℕ) → a ≤ 1 → b ≤ 1 → c ≤ 1 → d ≤ 1 → a + b + c + d ≤ 4
at_most_four a b c d one two three four = omega (arith, one, two, three, four)

pub few_definitions : (high low : Node) → definition_count high low ≤ 4
few_definitions high low =
    at_most_four (one_if (not (is_false_node high))) (one_if (not (is_false_node low))) (one_if (not (is_true_node high)))
    (one_if (not (is_true_node low)))
    (at_most_one (not (is_false_node high))) (at_most_one (not (is_false_node low))) (at_most_one (not (is_true_node high)))
    (at_most_one (not (is_true_node low)))

-- so many numbers are given for them
pub definitions_top : (graph : Graph) (state : State) (level : ℕ) (high low : Node) (variable : ℕ) → is_node graph high ≡ true
    → is_node graph low ≡ true
    → (with_definitions state (node_definitions graph state level high low variable)).top ≡ state.top + definition_count high low
definitions_top graph state level high low variable high_stands low_stands =
    let u = pos variable in
    let y = pos (variable_at graph level) in
    let one = with_some state (clause_from_atoms (high_up u y (atom_of graph high))) in
    let two = with_some one (clause_from_atoms (low_up u y (atom_of graph low))) in
    let three = with_some two (clause_from_atoms (high_down u y (atom_of graph high))) in
    let hu = top_some state (clause_from_atoms (high_up u y (atom_of graph high)))
    ∙ ap (λ b. state.top + one_if b) (some_up graph u (neg_ℤ y) high high_stands) in
    let lu = top_some one (clause_from_atoms (low_up u y (atom_of graph low))) ∙ ap (λ b. one.top + one_if b) (some_up graph u y low low_stands) in
    let hd = top_some two (clause_from_atoms (high_down u y (atom_of graph high)))
    ∙ ap (λ b. two.top + one_if b) (some_down graph (neg_ℤ u) (neg_ℤ y) high high_stands) in
    let ld = top_some three (clause_from_atoms (low_down u y (atom_of graph low)))
    ∙ ap (λ b. three.top + one_if b) (some_down graph (neg_ℤ u) y low low_stands) in
    omega (arith, hu, lu, hd, ld)
