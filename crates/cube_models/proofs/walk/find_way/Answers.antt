-- What is left to show of `find_way`.
use Rattle.std.proofs.Common.{◌≡◌, ◌∙◌, ℕ, true, false, List, None, Some, ap, arith, subst, sym}
use Rattle.std.specs.Prelude.{slice_set}
use Rattle.node_table.specs.declared.node.Node.{Node}
use Rattle.node_table.specs.declared.node.Node.TheVariants.{True}
use Rattle.node_table.specs.Made.{inner}
use Rattle.cube_models.specs.Denied.{IsShutBy}
use Rattle.cube_models.specs.Way.{Leads, is_marked, next_in, sign_at}
use Rattle.cube_models.proofs.Denied.{AreDead, dead_more, not_ended, shut_at_end}
use Rattle.cube_models.proofs.Searches.{down_to, fewer_back, fewer_to, is_true_node, last_of, marked_more, step_back, step_out}
use Rattle.cube_models.proofs.Ways.{next_unmarked}
use Rattle.cube_models.proofs.walk.find_way.Goals as goal

pub index_mut-requires : goal.index_mut-requires
index_mut-requires g c =
    let last = last_of c.cofactor_law.ensures c.args.table.now.graph c.table_law.ensures.reduced c.args.signs.now c.args.round c.args.node
    c.nodes.marks.items c.nodes.path.items c.pop.new.self.items c.in-Some.key c.requires.node c.nodes.invariant.known
    c.in-Some.ensures.items in
    omega (arith, last.small, c.nodes.marks.ok.0)

pub nodes-smaller-in_default-next_node : goal.nodes-smaller-in_default-next_node
nodes-smaller-in_default-next_node g c =
    let graph = c.args.table.now.graph in
    let marks = c.nodes.marks.items in
    let path = c.nodes.path.items in
    let rest = c.pop.new.self.items in
    let last = last_of c.cofactor_law.ensures graph c.table_law.ensures.reduced c.args.signs.now c.args.round c.args.node
    marks path rest c.in-Some.key c.requires.node c.nodes.invariant.known c.in-Some.ensures.items in
    fewer_back graph c.args.signs.now c.args.round c.args.node marks path rest c.in-Some.key c.in-Some.ensures.items last

pub nodes-preserved-in_default-next_node : goal.nodes-preserved-in_default-next_node
nodes-preserved-in_default-next_node g c =
    let graph = c.args.table.now.graph in
    let marks = c.nodes.marks.items in
    let path = c.nodes.path.items in
    let rest = c.pop.new.self.items in
    let last = last_of c.cofactor_law.ensures graph c.table_law.ensures.reduced c.args.signs.now c.args.round c.args.node
    marks path rest c.in-Some.key c.requires.node c.nodes.invariant.known c.in-Some.ensures.items in
    let none : next_in graph c.args.signs.now marks c.args.round last.branch ≡ None =
    subst (λ (m : List ℕ). next_in graph c.args.signs.now m c.args.round last.branch ≡ None) c.deref.ensures.value
    (sym (c.next_node.ensures last.branch last.stands) ∙ c.in_default-next_node.is) in
    record {
      known = step_back c.cofactor_law.ensures graph c.table_law.ensures.reduced c.args.signs.now c.args.round c.args.node
          marks path rest c.in-Some.key c.requires.node c.nodes.invariant.known c.in-Some.ensures.items last none;
      dead = subst (AreDead graph c.args.signs.now c.args.round (slice_set marks c.in-Some.key c.args.round))
          (sym c.in_ok-push-2.ensures.items)
          (dead_more graph c.args.signs.now c.args.round c.args.node marks rest c.nodes.dead.items c.in-Some.key c.nodes.invariant.dead last
          none);
      shut = λ end. subst (λ (list : List ℕ). IsShutBy list c.args.node) (sym c.in_ok-push-2.ensures.items)
          (shut_at_end graph (next_in graph c.args.signs.now marks c.args.round) c.args.node rest c.nodes.dead.items c.in-Some.key last.way
          end);
      marked = marked_more c.args.marks.now.items marks c.args.round c.in-Some.key last.small c.nodes.invariant.marked;
    }

pub returns-in_default-child : goal.returns-in_default-child
returns-in_default-child g c =
    let graph = c.args.table.now.graph in
    let signs = c.args.signs.now in
    let round = c.args.round in
    let marks = c.nodes.marks.items in
    let path = c.nodes.path.items in
    let rest = c.pop.new.self.items in
    let key = c.in-Some.key in
    let child = c.in-Some-next_node.child in
    let last = last_of c.cofactor_law.ensures graph c.table_law.ensures.reduced signs round c.args.node
    marks path rest key c.requires.node c.nodes.invariant.known c.in-Some.ensures.items in
    let goes : next_in graph signs marks round last.branch ≡ Some child =
    subst (λ (m : List ℕ). next_in graph signs m round last.branch ≡ Some child) c.deref.ensures.value
    (sym (c.next_node.ensures last.branch last.stands) ∙ c.in-Some-next_node.is) in
    let is_true : child ≡ True = is_true_node marks round child
    (next_unmarked (is_marked marks round) (sign_at graph signs) last.branch child goes) c.in_default-child.not-Inner in
    record {
      found = λ found. subst (λ (l : List ℕ). Leads graph (next_in graph signs marks round) c.args.node l True)
          (sym c.in_ok-push-3.ensures.items) (step_out graph signs round c.args.node marks rest key child last goes is_true);
      marks = c.nodes.invariant.known.known;
      none = λ no a agrees. absurd (let e : true ≡ false = no in cc);
      denied = λ no. absurd (let e : true ≡ false = no in cc);
      shut = λ no. absurd (let e : true ≡ false = no in cc);
      marked = c.nodes.invariant.marked;
    }

pub nodes-smaller : goal.nodes-smaller
nodes-smaller g c =
    let graph = c.args.table.now.graph in
    let signs = c.args.signs.now in
    let round = c.args.round in
    let marks = c.nodes.marks.items in
    let path = c.nodes.path.items in
    let rest = c.pop.new.self.items in
    let key = c.in-Some.key in
    let below = c.in-Inner-child.below.index in
    let mid = c.push-in-Some.new.self.items in
    let new = c.push-in-Some-2.new.self.items in
    let reduced = c.table_law.ensures.reduced in
    let last = last_of c.cofactor_law.ensures graph reduced signs round c.args.node
    marks path rest key c.requires.node c.nodes.invariant.known c.in-Some.ensures.items in
    let goes : next_in graph signs marks round last.branch ≡ Some (inner below) =
    subst (λ (m : List ℕ). next_in graph signs m round last.branch ≡ Some (inner below)) c.deref.ensures.value
    (sym (c.next_node.ensures last.branch last.stands) ∙ c.in-Some-next_node.is ∙ ap (λ (n : Node). Some n) c.in-Inner-child.is) in
    let known = down_to graph signs round c.args.node marks path rest mid new key below c.nodes.invariant.known last goes
    c.in_ok-push-3.ensures.items c.in_ok-push-4.ensures.items in
    fewer_to graph signs round c.args.node marks path rest mid new key below c.in-Some.ensures.items c.in_ok-push-3.ensures.items
    c.in_ok-push-4.ensures.items (last_of c.cofactor_law.ensures graph reduced signs round c.args.node marks new mid below c.requires.node
    known c.in_ok-push-4.ensures.items)

pub nodes-preserved : goal.nodes-preserved
nodes-preserved g c =
    let graph = c.args.table.now.graph in
    let signs = c.args.signs.now in
    let round = c.args.round in
    let marks = c.nodes.marks.items in
    let path = c.nodes.path.items in
    let rest = c.pop.new.self.items in
    let key = c.in-Some.key in
    let below = c.in-Inner-child.below.index in
    let last = last_of c.cofactor_law.ensures graph c.table_law.ensures.reduced signs round c.args.node
    marks path rest key c.requires.node c.nodes.invariant.known c.in-Some.ensures.items in
    let goes : next_in graph signs marks round last.branch ≡ Some (inner below) =
    subst (λ (m : List ℕ). next_in graph signs m round last.branch ≡ Some (inner below)) c.deref.ensures.value
    (sym (c.next_node.ensures last.branch last.stands) ∙ c.in-Some-next_node.is ∙ ap (λ (n : Node). Some n) c.in-Inner-child.is) in
    record {
      known = down_to graph signs round c.args.node marks path rest c.push-in-Some.new.self.items c.push-in-Some-2.new.self.items key below
          c.nodes.invariant.known last goes c.in_ok-push-3.ensures.items c.in_ok-push-4.ensures.items;
      dead = c.nodes.invariant.dead;
      shut = λ end. not_ended c.push-in-Some.new.self.items c.push-in-Some-2.new.self.items below c.in_ok-push-4.ensures.items end;
      marked = c.nodes.invariant.marked;
    }
