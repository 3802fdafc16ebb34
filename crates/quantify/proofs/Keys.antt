-- When the keys of two entries are the same, and what an entry tells.
use Rattle.std.proofs.Common.{◌≡◌, ◌&&◌, ◌==◌, Bool, true, false, refl, eqb-true}
use Rattle.node_table.specs.declared.node.Node.{Node}
use Rattle.node_table.specs.contracts.node.NodePartialEq.TheImpl as node_equality
use Rattle.operations.specs.Caches.{TellsKeys}
use Rattle.operations.specs.Pairs.{Pair, equal_pairs, same_node, same_pair}
use Rattle.quantify.specs.ExistsCache.{Question, quantification, same_question}
use Rattle.quantify.specs.OrCache.{disjunction}

both_true : (a b : Bool) → (a && b) ≡ true → (a ≡ true) × (b ≡ true)
both_true true b is = (refl, is)
both_true false b is = cc

tells_disjunction : (one other : Pair × Node) → disjunction one ≡ disjunction other → one ≡ other
tells_disjunction one other is =
    let first : one.0.0 ≡ other.0.0 = cc in
    let second : one.0.1 ≡ other.0.1 = cc in
    let node : one.1 ≡ other.1 = cc in
    λ i. ((first i, second i), node i)

pub tells_pairs : TellsKeys same_pair disjunction
tells_pairs = record { same = equal_pairs; own = tells_disjunction }

tells_quantification : (one other : Question × Node) → quantification one ≡ quantification other → one ≡ other
tells_quantification one other is =
    let first : one.0.0 ≡ other.0.0 = cc in
    let level : one.0.1 ≡ other.0.1 = cc in
    let node : one.1 ≡ other.1 = cc in
    λ i. ((first i, level i), node i)

pub tells_questions : TellsKeys same_question quantification
tells_questions = record {
  same = λ one other is.
      let both = both_true (node_equality.ghosts.eq one.0 other.0) (one.1 == other.1) is in
      let first = same_node one.0 other.0 both.0 in
      let second = eqb-true one.1 other.1 both.1 in
      λ i. (first i, second i);
  own = tells_quantification;
}
