-- What is left to show of `Marks::of`.
use Rattle.std.proofs.Common.{◌≡◌, ◌+◌, ◌-◌, ◌++◌, ℕ, Bool, false, List, [], length, get_or, take, replicate, None, true, rules, sym, ap}
use Rattle.std.proofs.Common.{◌∙◌, subst, arith}
use Rattle.std.proofs.lemmas.List.{nil_from_length, take_all, take_more}
use Rattle.std.proofs.lemmas.List.Elements.{Contains-get_or}
use Rattle.node_table.specs.declared.node.Node.{Node}
use Rattle.node_table.specs.declared.node.Node.TheVariants.{False}
use Rattle.node_table.specs.Diagram.{Graph, branch_at, is_node}
use Rattle.node_table.specs.Marking.{Marking, marking, with_node}
use Rattle.node_table.proofs.Marked.{AreMarked, AreMarked-more, AreMarks-from, AreReached-from, IsMarking, IsMarking-node, IsMarking-start}
use Rattle.node_table.proofs.Marked.{IsMarking-step, has_mark, have_marks, left-less, root_is_reached, with_children-stays, with_node-marks}
use Rattle.node_table.proofs.Marked.{with_node-stays}
use Rattle.node_table.proofs.marks.Marks.of.Goals as goal

all_false : (count : ℕ) (items : List Bool) (len : ℕ) → items ≡ [] → len ≡ 0
    → take count items ++ replicate (count - len) false ≡ replicate count false
all_false count items len empty none =
    let rest : count - len ≡ count = omega (arith, none) in
    ap (λ (xs : List Bool). take count xs ++ replicate (count - len) false) empty
    ∙ ap (λ (xs : List Bool). xs ++ replicate (count - len) false) (take_all count [] (omega arith))
    ∙ ap (λ (n : ℕ). replicate n false) rest

pub roots-init : goal.roots-init
roots-init c =
    let graph = c.args.diagram.now in
    let roots = c.args.roots.now in
    let filled = c.in_ok-resize.ensures.items in
    let marks : c.resize.new.self.items ≡ replicate c.key_end.result false =
    filled ∙ all_false c.key_end.result c.new-marked.result.items _ c.new-marked.ensures.items c.new-marked.ensures.len in
    record {
      known = subst (IsMarking graph roots None) (λ i. marking (sym marks i) (sym c.new-waiting.ensures.items i))
          (IsMarking-start graph roots c.key_end.result c.key_end.ensures);
      roots = λ node among. absurd (omega (arith, among.1));
    }

pub mark_node-requires : goal.mark_node-requires
mark_node-requires c =
    let roots = c.args.roots.now in
    has_mark c.args.diagram.now roots None (marking c.roots.marked.items c.roots.waiting.items) c.roots.invariant.known
    (get_or roots c.roots.root-index False)
    (c.requires.roots _ (Contains-get_or roots c.roots.root-index False c.roots-test.true))

pub roots-preserved : goal.roots-preserved
roots-preserved c =
    let graph = c.args.diagram.now in
    let roots = c.args.roots.now in
    let now = marking c.roots.marked.items c.roots.waiting.items in
    let known = c.roots.invariant.known in
    let index = c.roots.root-index in
    let root = get_or roots index False in
    let among = Contains-get_or roots index False c.roots-test.true in
    let stands : is_node graph root ≡ true = c.requires.roots root among in
    let has = has_mark graph roots None now known root stands in
    let made = c.in_ok-mark_node.ensures in
    let all : AreMarked (with_node root now).marks (take (index + 1) roots) =
    subst (AreMarked (with_node root now).marks) (sym (take_more roots index False c.roots-test.true))
    (AreMarked-more (with_node root now).marks (take index roots) root
    (λ node is. with_node-stays root now has node (c.roots.invariant.roots node is)) (with_node-marks root now has)) in
    record {
      known = subst (IsMarking graph roots None) (sym made) (IsMarking-node graph roots None now known root stands
          (root_is_reached graph roots root among));
      roots = subst (λ (m : Marking). AreMarked m.marks (take (index + 1) roots)) (sym made) all;
    }

pub nodes-init : goal.nodes-init
nodes-init c = record {
  known = c.roots.invariant.known;
  roots = subst (AreMarked c.roots.marked.items) (take_all c.roots.root-index c.args.roots.now c.roots-test.false) c.roots.invariant.roots;
}

pub mark_children-requires : goal.mark_children-requires
mark_children-requires c =
    have_marks c.args.diagram.now c.args.roots.now c.diagram_law.ensures.reduced None
    (marking c.nodes.marked.items c.nodes.waiting.items) c.nodes.invariant.known c.in-Some.key

pub nodes-smaller : goal.nodes-smaller
nodes-smaller c =
    let graph = c.args.diagram.now in
    let has = have_marks graph c.args.roots.now c.diagram_law.ensures.reduced None
    (marking c.nodes.marked.items c.nodes.waiting.items) c.nodes.invariant.known c.in-Some.key in
    left-less c.nodes.marked.items c.nodes.waiting.items c.pop.new.self.items c.in-Some.key (branch_at graph c.in-Some.key)
    (marking c.mark_children.new.marked.items c.mark_children.new.waiting.items) c.in-Some.ensures.items has c.in_ok-mark_children.ensures

pub nodes-preserved : goal.nodes-preserved
nodes-preserved c =
    let graph = c.args.diagram.now in
    let roots = c.args.roots.now in
    let marks = c.nodes.marked.items in
    let key = c.in-Some.key in
    let reduced = c.diagram_law.ensures.reduced in
    let known = c.nodes.invariant.known in
    let has = have_marks graph roots reduced None (marking marks c.nodes.waiting.items) known key in
    let made = c.in_ok-mark_children.ensures in
    record {
      known = subst (IsMarking graph roots None) (sym made)
          (IsMarking-step graph roots reduced marks c.pop.new.self.items key
          (subst (λ (waits : List ℕ). IsMarking graph roots None (marking marks waits)) c.in-Some.ensures.items known));
      roots = subst (λ (m : Marking). AreMarked m.marks roots) (sym made)
          (λ node is. with_children-stays (branch_at graph key) (marking marks c.pop.new.self.items) has node
          (c.nodes.invariant.roots node is));
    }

-- in the end no key waits
ended : (graph : Graph) (roots : List Node) (marks : List Bool) (waits : List ℕ) → length waits ≡ 0
    → IsMarking graph roots None (marking marks waits) → IsMarking graph roots None (marking marks [])
ended graph roots marks waits none known = subst (λ (list : List ℕ). IsMarking graph roots None (marking marks list))
    (nil_from_length waits none) known

pub returns-clause-reached : goal.returns-clause-reached
returns-clause-reached c =
    let none : length c.nodes.waiting.items ≡ 0 = search rules in
    let known = ended c.args.diagram.now c.args.roots.now c.nodes.marked.items c.nodes.waiting.items none c.nodes.invariant.known in
    AreReached-from c.args.diagram.now c.args.roots.now c.nodes.marked.items known c.nodes.invariant.roots

pub returns-clause-marks : goal.returns-clause-marks
returns-clause-marks c =
    let none : length c.nodes.waiting.items ≡ 0 = search rules in
    AreMarks-from c.args.diagram.now c.args.roots.now c.nodes.marked.items
    (ended c.args.diagram.now c.args.roots.now c.nodes.marked.items c.nodes.waiting.items none c.nodes.invariant.known)
