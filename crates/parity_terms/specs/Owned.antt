-- Whose the terms are that are out of a runner.
use Rattle.std.specs.Prelude.{◌≡◌, ◌&&◌, Bool, true, false, List, ◌∷◌}
use Rattle.std.specs.List.{count_by}
use Rattle.node_table.specs.declared.node.Node.{Node}
use Rattle.node_table.specs.declared.node.Node.TheVariants.{True}
use Rattle.node_table.specs.declared.node.Justification.{Justification}
use Rattle.node_table.specs.declared.node.Justification.TheVariants.{Trivial}
use Rattle.bdd_terms.specs.declared.held.HeldTerm.{HeldTerm}

-- True, which needs no clause, is never among the terms that are out.
abbrev pub takes_place : Node → Justification → Bool
takes_place True Trivial = false
takes_place node unit = true

-- These terms are all that are out: of each kind as many.
abbrev pub Owns : List HeldTerm → List HeldTerm → Type 0
Owns terms out = (is_one : HeldTerm → Bool)
    → count_by (λ held. takes_place held.node held.unit && is_one held) terms ≡ count_by is_one out

-- some terms are
pub record AreOwned (out : List HeldTerm) : Type 0 where
  pub terms : List HeldTerm
  pub owns : Owns terms out

-- this one is among them
pub record IsOwned (held : HeldTerm) (out : List HeldTerm) : Type 0 where
  pub rest : List HeldTerm
  pub owns : Owns (held ∷ rest) out
