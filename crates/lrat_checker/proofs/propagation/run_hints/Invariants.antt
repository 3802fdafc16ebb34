-- What the loops of `run_hints` keep.
use Rattle.std.proofs.Common.{◌≡◌, ◌+◌, drop}
use Rattle.std.specs.Prelude.{IsTrue}
use Rattle.lrat_rules.specs.Chain.{chain as chain_of}
use Rattle.lrat_rules.specs.FalseLiterals.{set_of, before_of}
use Rattle.lrat_checker.specs.Cuts.{used}
use Rattle.lrat_checker.specs.Memory.{forces_literal}
use Rattle.lrat_checker.proofs.propagation.run_hints.Given as goal

-- what the rest gives is what the whole gives, and where the rest forces a literal, the whole does
abbrev pub invariant-loop-hint : goal.invariant-loop-hint
invariant-loop-hint l = record {
  rest : chain_of l.live (set_of l.chain) (drop l.hint-index l.hints) ≡ chain_of l.live (set_of l.fn.chain) l.hints;
  forced : IsTrue (forces_literal l.live (set_of l.chain) (drop l.hint-index l.hints))
      → IsTrue (forces_literal l.live (set_of l.fn.chain) l.hints);
  same_group : before_of l.chain ≡ before_of l.fn.chain;
  count : l.used ≡ l.hint-index;
  taken : l.hint-index + used l.live (set_of l.chain) (drop l.hint-index l.hints) ≡ used l.live (set_of l.fn.chain) l.hints;
}
