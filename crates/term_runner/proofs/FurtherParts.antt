-- The functions of a graph's nodes and a further one that is that of none: more parts than there are nodes.
use Rattle.std.proofs.Common.{◌≡◌, ℕ, ◌≤◌, Bool, true, false, List, length, arith, ◌⊎◌, ◌-◌, Contains, inl, inr, map, take}
use Rattle.std.proofs.lemmas.List.Elements.{Contains-append_cases, Contains-append_left, Contains-append_right}
use Rattle.cnf_base.specs.Formula.{Formula}
use Rattle.node_table.specs.Diagram.{Graph, IsReduced}
use Rattle.node_table.specs.Value.{Levels}
use Rattle.node_table.specs.Table.{live_nodes}
use Rattle.node_table.specs.Laws.{Canonical}
use Rattle.schedule_plan.specs.declared.plan.Move.{Move}
use Rattle.schedule_plan.specs.Plan.{Stage, Term}
use Rattle.schedule_plan.specs.SetMove.{IsGiven}
use Rattle.bdd_terms.specs.Parts.{AreMore, part_at}
use Rattle.term_runner.specs.Width.{HasWidth, HasWidthWith, IsPartInHand, IsWiderWith, roots}
use Rattle.term_runner.specs.WholeWidth.{IsWholePart, IsWiderWhole}
use Rattle.term_runner.specs.Nodes.{RunsShort}
use Rattle.term_runner.proofs.InHand.{stacked_root}
use Rattle.bdd_terms.proofs.Reclaimed.{in_map}
use Rattle.bdd_terms.proofs.MoreParts.{are_more}

-- a plan that runs short of nodes is wider than their number
pub is_wider : Canonical → (trail : Bool) (formula : Formula) (order : List ℕ) (moves : List Move) (graph : Graph) → IsReduced graph
    → RunsShort trail formula order moves graph → (number : ℕ) → live_nodes graph ≡ number → IsWiderWith trail formula order moves number
is_wider canonical trail formula order moves graph reduced short number live = record {
  count = short.count;
  before = short.before;
  after = short.after;
  move = short.move;
  more = are_more canonical graph reduced (IsPartInHand trail formula order short.before short.after) short.in_hand short.further short.is_part
      short.nowhere number live;
}

-- what is wider than a number is wider than a lesser one
pub wider_less : (trail : Bool) (formula : Formula) (order : List ℕ) (moves : List Move) (few number : ℕ) → few ≤ number
    → IsWiderWith trail formula order moves number → IsWiderWith trail formula order moves few
wider_less trail formula order moves few number less wider = record {
  count = wider.count;
  before = wider.before;
  after = wider.after;
  move = wider.move;
  more = record {
    parts = wider.more.parts;
    more = omega (arith, less, wider.more.more);
    are = wider.more.are;
    essential = wider.more.essential;
    differ = wider.more.differ;
  };
}

-- what is wider by some parts is wider by more
more_by : (one other : (Levels → Bool) → Type 0) → ((part : Levels → Bool) → one part → other part) → (number : ℕ) → AreMore one number
    → AreMore other number
more_by one other by number more = record {
  parts = more.parts;
  more = more.more;
  are = λ place small. by (part_at more.parts place) (more.are place small);
  essential = more.essential;
  differ = more.differ;
}

-- what is wider beside the trail is wider with it
beside : (trail : Bool) (formula : Formula) (order : List ℕ) (before after : Stage) (part : Levels → Bool)
    → IsPartInHand false formula order before after part → IsPartInHand trail formula order before after part
beside trail formula order before after part is = elim is [
  | inl own ↦ inl (record {
    term = own.term;
    in_hand = elim own.in_hand [ inl stacked ↦ inl (stacked_root trail before own.term stacked) | inr result ↦ inr result ];
    is_part = own.is_part;
  })
  | inr behind ↦ inr behind
]

pub width_beside : (trail : Bool) (formula : Formula) (order : List ℕ) (moves : List Move) (number : ℕ)
    → HasWidthWith trail formula order moves number → HasWidth formula order moves number
width_beside trail formula order moves number has wider = has (record {
  count = wider.count;
  before = wider.before;
  after = wider.after;
  move = wider.move;
  more = more_by _ _ (beside trail formula order wider.before wider.after) number wider.more;
})

-- where all terms count whole no fewer are in hand
whole_part : (trail : Bool) (formula : Formula) (order : List ℕ) (before after : Stage) (part : Levels → Bool)
    → IsPartInHand trail formula order before after part → IsWholePart formula order before after part
whole_part trail formula order before after part is = elim is [
  | inl own ↦ record {
    term = own.term;
    there = elim own.in_hand [
      | inl root ↦ whole_root trail own.term root
      | inr result ↦ inr (inr (Contains-append_left (take 1 after.stack) (map (λ (kept : ℕ × Term). kept.1)
          (take (length after.trail - length before.trail) after.trail)) own.term result))
    ];
    is_part = own.is_part;
  }
  | inr behind ↦ record {
    term = behind.kept.1;
    there = inr (inr (Contains-append_right (take 1 after.stack) (map (λ (kept : ℕ × Term). kept.1)
        (take (length after.trail - length before.trail) after.trail)) behind.kept.1
        (in_map (λ (kept : ℕ × Term). kept.1) (take (length after.trail - length before.trail) after.trail) behind.kept behind.fresh)));
    is_part = behind.is_part;
  }
]
  where
    whole_root : (trail : Bool) (term : Term) → Contains (roots trail before) term
        → Contains before.stack term ⊎ (Contains (map (λ (kept : ℕ × Term). kept.1) before.trail) term ⊎ IsGiven before after term)
    whole_root false term there = inl there
    whole_root true term there = elim (Contains-append_cases before.stack (map (λ (kept : ℕ × Term). kept.1) before.trail) term there) [
      | inl stacked ↦ inl stacked
      | inr kept ↦ inr (inl kept)
    ]

pub wider_whole : (trail : Bool) (formula : Formula) (order : List ℕ) (moves : List Move) (number : ℕ)
    → IsWiderWith trail formula order moves number → IsWiderWhole formula order moves number
wider_whole trail formula order moves number wider = record {
  count = wider.count;
  before = wider.before;
  after = wider.after;
  move = wider.move;
  more = more_by _ _ (whole_part trail formula order wider.before wider.after) number wider.more;
}
