-- The parts of both sides close, and the low clause is given.
use Rattle.std.proofs.Common.{◌≡◌, ◌<◌, ◌∙◌, ◌∷◌, ℕ, pos, neg_ℤ, true, [], Some, Result, refl, arith, ap, sym}
use Rattle.std.proofs.Common.{subst}
use Rattle.lrat_rules.specs.Soundness.{is_nonzero}
use Rattle.hint_chain.specs.Atoms.{clause_from_atoms}
use Rattle.node_table.specs.declared.error.TableError.{TableError}
use Rattle.node_table.specs.declared.error.TableError.TheVariants.{WriteFault}
use Rattle.node_table.specs.declared.node.Justification.{Justification}
use Rattle.node_table.specs.declared.node.Justification.TheVariants.{Clause}
use Rattle.node_table.specs.Defined.{atom_of}
use Rattle.node_table.specs.Diagram.{Graph, variable_at}
use Rattle.node_table.specs.HandedOn.{handed_on, same_error}
use Rattle.node_table.specs.Justification.{IsJustified}
use Rattle.operations.specs.Accounts.{GivesOne, given_just}
use Rattle.operations.specs.Additions.{AreBoth}
use Rattle.operations.specs.Results.{implication_atoms}
use Rattle.operations.specs.Sides.{High, Low, cofactor_at}
use Rattle.imply.proofs.ImplicationClauses.{high_apart, high_clause, is_open, low_apart, owned}
use Rattle.imply.proofs.additions.justify.Given.{Over}
use Rattle.imply.proofs.additions.justify.Goals as goal
use Rattle.imply.proofs.additions.justify.Goals.{After-as_slice}

nonzero_variable : (n : ℕ) → 0 < n → is_nonzero (pos n) ≡ true
nonzero_variable n positive = grind (arith, positive)

-- what both additions stand on
abbrev both : (g : Over) (c : After-as_slice g) → AreBoth c.args.table.now.graph c.args.table.now.book.state.live c.args.operands.now.level
    c.as_slice.result.now c.parts_of-high.result.0 c.parts_of-high.result.1
both g c =
    let graph = c.args.table.now.graph in
    let o = c.args.operands.now in
    let clause = c.as_slice.result.now in
    let split = c.requires.split in
    let tied = c.requires.sound.tied in
    let is : clause_from_atoms (implication_atoms graph o.u o.v) ≡ Some clause = c.implication_clause-clause.ensures
    ∙ ap Some (sym c.as_slice.ensures.literals) in
    let x = pos (variable_at graph o.level) in
    let within = c.operand_law.ensures.level graph tied.reduced o split in
    let high = c.parts_of-high.ensures.high in
    let low = c.parts_of-high.ensures.low in
    let behind = high_clause c.literal_law.ensures c.operand_law.ensures graph tied.reduced o split clause is in
    let apart = low_apart c.literal_law.ensures c.operand_law.ensures graph tied.reduced o split clause is in
    let both_apart = high_apart c.literal_law.ensures c.operand_law.ensures graph tied.reduced o split clause is tied.ordered in record {
      highs = high.sides;
      lows = low.sides;
      within = within;
      some = λ empty. c.literal_law.ensures.some graph o.u (atom_of graph o.v ∷ []) split.first (is ∙ ap Some empty);
      short = omega (arith, c.clause_law.ensures.short (implication_atoms graph o.u o.v) clause is);
      apart = apart;
      owned = owned c.literal_law.ensures c.operand_law.ensures graph tied.reduced o split clause is;
      on_high = c.implication_law.ensures.high x (atom_of graph o.u) (atom_of graph o.v)
          (atom_of graph (cofactor_at High graph o.level o.u)) (atom_of graph (cofactor_at High graph o.level o.v))
          (neg_ℤ x ∷ clause) _ high.sides behind (c.closing_law.ensures.consistent (neg_ℤ x ∷ clause) both_apart) high.kept;
      on_low = c.implication_law.ensures.low x (atom_of graph o.u) (atom_of graph o.v)
          (atom_of graph (cofactor_at Low graph o.level o.u)) (atom_of graph (cofactor_at Low graph o.level o.v))
          clause _ low.sides (nonzero_variable (variable_at graph o.level) (tied.ordered.within o.level within).0) is
          (c.closing_law.ensures.consistent clause apart) (c.closing_law.ensures.apart x clause both_apart).1 low.kept;
      high_live = high.are.stand;
      low_live = low.are.stand;
    }

pub add_both-requires-clause-both : goal.add_both-requires-clause-both
add_both-requires-clause-both g c = both g (goal.at.add_both-requires-clause-both g c).After-as_slice

pub returns-in_err-id-clause-gives : goal.returns-in_err-id-clause-gives
returns-in_err-id-clause-gives g c untorn =
    let old = c.args.table.now in
    let new = c.add_both.new.table in
    let came = c.in_err-id.field-0.0 in
    let is = c.from_residual.ensures.1 in
    subst (λ (r : Result Justification TableError). GivesOne old new (given_just r)) (sym (handed_on _ came came is refl))
    (c.in_err-id.ensures.gives (λ fault. untorn (handed_on _ came WriteFault is (same_error fault))))

pub returns-clause-justified : goal.returns-clause-justified
returns-clause-justified g c =
    let graph = c.args.table.now.graph in
    let o = c.args.operands.now in
    let clause = c.as_slice.result.now in
    let is : clause_from_atoms (implication_atoms graph o.u o.v) ≡ Some clause = c.implication_clause-clause.ensures
    ∙ ap Some (sym c.as_slice.ensures.literals) in
    subst (λ (new : Graph). IsJustified c.add_both.new.table.book.state.live (implication_atoms new o.u o.v) (Clause c.in_ok-id.id))
    (sym c.in_ok-id.ensures.nodes) (
      is_open c.literal_law.ensures c.operand_law.ensures graph c.requires.sound.tied.reduced o c.requires.split,
      c.in_ok-id.ensures.clause ∙ sym is,
    )

pub returns-clause-told : goal.returns-clause-told
returns-clause-told g c = record {
  clause = c.as_slice.result.now;
  high = c.parts_of-high.ensures.high.sides;
  low = c.parts_of-high.ensures.low.sides;
  is = c.implication_clause-clause.ensures ∙ ap Some (sym c.as_slice.ensures.literals);
  on_high = c.parts_of-high.ensures.high.are;
  on_low = c.parts_of-high.ensures.low.are;
  adds = c.in_ok-id.ensures.told (both g (goal.at.returns-clause-told g c).After-as_slice);
}
