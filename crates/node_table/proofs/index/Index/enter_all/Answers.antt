-- What is left to show of `Index::enter_all`.
use Rattle.std.proofs.Common.{◌<◌, ◌+◌, ◌^◌, ◌∙◌, ℕ, List, length, subst, arith}
use Rattle.node_table.specs.declared.stored.StoredNode.{StoredNode}
use Rattle.node_table.proofs.IndexKeys.{IsPartOf, all_left, next_stored, one_fewer_left, room_for_next}
use Rattle.node_table.proofs.index.Index.enter_all.Goals as goal

pub entries-init : goal.entries-init
entries-init c =
    let left = c.into_iter-key-iterator.ensures.into_iter_gives ∙ c.iter-key-items.ensures.rest in
    record {
      can = tt;
      finite = tt;
      part = all_left c.args.self.now c.args.nodes.now _ left c.requires.counted c.requires.free
          c.requires.room;
    }

pub overflow_cast-key : goal.overflow_cast-key
overflow_cast-key c =
    let part = subst (λ (left : List (ℕ × StoredNode)). IsPartOf
    (length c.args.self.now.places.items) c.entries.self c.args.nodes.now left) c.in-Some.ensures.steps c.entries.invariant.part in
    let small : c.in-Some.key + 1 < 2 ^ 32 = c.requires.keys _ _ (next_stored _ _ _ _ _ _ part) in
    omega (arith, small)

pub enter-requires-clause-room : goal.enter-requires-clause-room
enter-requires-clause-room c =
    let part = subst (λ (left : List (ℕ × StoredNode)). IsPartOf
    (length c.args.self.now.places.items) c.entries.self c.args.nodes.now left) c.in-Some.ensures.steps c.entries.invariant.part in
    room_for_next _ _ _ _ _ _ part

pub enter-requires-clause-key : goal.enter-requires-clause-key
enter-requires-clause-key c =
    let part = subst (λ (left : List (ℕ × StoredNode)). IsPartOf
    (length c.args.self.now.places.items) c.entries.self c.args.nodes.now left) c.in-Some.ensures.steps c.entries.invariant.part in
    c.requires.keys _ _ (next_stored _ _ _ _ _ _ part)

pub entries-preserved : goal.entries-preserved
entries-preserved c =
    let part = subst (λ (left : List (ℕ × StoredNode)). IsPartOf
    (length c.args.self.now.places.items) c.entries.self c.args.nodes.now left) c.in-Some.ensures.steps c.entries.invariant.part in
    record { can = tt; finite = tt; part = one_fewer_left _ _ _ _ _ _ _ c.enter.ensures part }
