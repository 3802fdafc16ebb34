-- What is left to show of `remove_unmarked`.
use Rattle.std.proofs.Common.{ℕ, List, ◌+◌, sym, subst, ◌∙◌}
use Rattle.node_table.specs.declared.stored.StoredNode.{StoredNode}
use Rattle.node_table.proofs.Sweeping.{IsSweeping, sweep_passes, sweep_takes}
use Rattle.node_table.proofs.sweep.remove_unmarked.Goals as goal

pub keys-preserved-in_default : goal.keys-preserved-in_default
keys-preserved-in_default c = record {
  sweeping = sweep_passes _ _ _ _ _ _ _ _ c.keys.invariant.sweeping c.remove_at.ensures.here c.remove_at.ensures.others
      c.in_default.ensures.value c.in_default.ensures.count;
  capacity = c.keys.invariant.capacity;
}

pub keys-preserved : goal.keys-preserved
keys-preserved c =
    let number : ℕ × StoredNode → ℕ = λ entry. entry.1.variable in
    record {
      sweeping = subst (λ (now : List ℕ). IsSweeping number c.args.marks.now c.args.nodes.now c.remove_at.new.nodes c.args.freed.now.items
          now (c.keys.key + 1)) (sym c.push_reserved.ensures.items)
          (sweep_takes number _ _ _ _ _ _ _ c.keys.invariant.sweeping c.remove_at.ensures.here c.remove_at.ensures.others c.in-Some.node
          c.in-Some.ensures.value c.in-Some.ensures.count);
      capacity = c.push_reserved.ensures.capacity ∙ c.keys.invariant.capacity;
    }
