-- The parts of both sides close, and the low clause is given.
use Rattle.std.proofs.Common.{◌≡◌, ◌<◌, ◌∙◌, ◌∷◌, ℕ, pos, neg_ℤ, true, [], Some, Result, refl, arith, ap, sym, subst}
use Rattle.lrat_rules.specs.Soundness.{is_nonzero}
use Rattle.hint_chain.specs.Atoms.{clause_from_atoms, neg_atom}
use Rattle.hint_chain.specs.Closing.{are_among}
use Rattle.node_table.specs.declared.error.TableError.{TableError}
use Rattle.node_table.specs.declared.error.TableError.TheVariants.{WriteFault}
use Rattle.node_table.specs.declared.node.Justification.{Justification}
use Rattle.node_table.specs.declared.node.Justification.TheVariants.{Clause}
use Rattle.node_table.specs.Defined.{atom_of}
use Rattle.node_table.specs.Diagram.{Graph, variable_at}
use Rattle.node_table.specs.HandedOn.{handed_on, same_error}
use Rattle.node_table.specs.Justification.{IsJustified}
use Rattle.operations.specs.Accounts.{GivesOne, given_just}
use Rattle.operations.specs.Additions.{AreBoth}
use Rattle.operations.specs.Results.{conjunction_atoms}
use Rattle.operations.specs.Sides.{High, Low, cofactor_at}
use Rattle.apply_and.proofs.Closed.{high_apart, high_clause, is_open, low_apart}
use Rattle.apply_and.proofs.ConjunctionClauses.{conjunction_owned}
use Rattle.apply_and.proofs.additions.justify.Given.{Over}
use Rattle.apply_and.proofs.additions.justify.Goals as goal
use Rattle.apply_and.proofs.additions.justify.Goals.{After-as_slice}

nonzero_variable : (n : ℕ) → 0 < n → is_nonzero (pos n) ≡ true
nonzero_variable n positive = grind (arith, positive)

-- what both additions stand on
abbrev both : (g : Over) (c : After-as_slice g) → AreBoth c.args.table.now.graph c.args.table.now.book.state.live c.args.operands.now.level
    c.as_slice.result.now c.parts_of-high.result.0 c.parts_of-high.result.1
both g c =
    let graph = c.args.table.now.graph in
    let live = c.args.table.now.book.state.live in
    let o = c.args.operands.now in
    let w = c.args.w in
    let clause = c.as_slice.result.now in
    let split = c.requires.split in
    let sides = c.requires.sides in
    let tied = c.requires.sound.tied in
    let is : clause_from_atoms (conjunction_atoms graph o.u o.v w) ≡ Some clause = sym c.conjunction_clause.ensures ∙ c.in-Some.is
    ∙ ap Some (sym c.as_slice.ensures.literals) in
    let among : are_among (conjunction_atoms graph o.u o.v w) clause
    ≡ true = c.clause_law.ensures.among (conjunction_atoms graph o.u o.v w) clause is in
    let x = pos (variable_at graph o.level) in
    let within = c.operand_law.ensures.level graph tied.reduced o split in
    let high = c.parts_of-high.ensures.high in
    let low = c.parts_of-high.ensures.low in
    let behind = high_clause c.literal_law.ensures c.operand_law.ensures graph tied.reduced tied.ordered live o split w High c.args.high.now
    sides.on_high clause is among in
    let apart = low_apart c.literal_law.ensures c.operand_law.ensures graph tied.reduced tied.ordered live o split w High c.args.high.now
    sides.on_high clause is among in
    let both_apart = high_apart c.literal_law.ensures c.operand_law.ensures graph tied.reduced tied.ordered live o split w High
    c.args.high.now sides.on_high clause is among in record {
      highs = high.sides;
      lows = low.sides;
      within = within;
      some = λ empty. c.literal_law.ensures.some graph o.u (neg_atom (atom_of graph o.v) ∷ atom_of graph w ∷ []) split.first
          (is ∙ ap Some empty);
      short = c.clause_law.ensures.short (conjunction_atoms graph o.u o.v w) clause is;
      apart = apart;
      owned = conjunction_owned c.literal_law.ensures graph o.u o.v w clause among;
      on_high = c.conjunction_law.ensures.high x (atom_of graph o.u) (atom_of graph o.v) (atom_of graph w)
          (atom_of graph (cofactor_at High graph o.level o.u)) (atom_of graph (cofactor_at High graph o.level o.v))
          (atom_of graph (cofactor_at High graph o.level w)) (neg_ℤ x ∷ clause) _ high.sides behind
          (c.closing_law.ensures.consistent (neg_ℤ x ∷ clause) both_apart) high.kept;
      on_low = c.conjunction_law.ensures.low x (atom_of graph o.u) (atom_of graph o.v) (atom_of graph w)
          (atom_of graph (cofactor_at Low graph o.level o.u)) (atom_of graph (cofactor_at Low graph o.level o.v))
          (atom_of graph (cofactor_at Low graph o.level w)) clause _ low.sides
          (nonzero_variable (variable_at graph o.level) (tied.ordered.within o.level within).0) is
          (c.closing_law.ensures.consistent clause apart) (c.closing_law.ensures.apart x clause both_apart).1 low.kept;
      high_live = high.are.stand;
      low_live = low.are.stand;
    }

pub add_both-requires-clause-both : goal.add_both-requires-clause-both
add_both-requires-clause-both g c = both g (goal.at.add_both-requires-clause-both g c).After-as_slice

pub returns-in_default-clause-gives : goal.returns-in_default-clause-gives
returns-in_default-clause-gives g c untorn = c.high_clause_law.ensures.none c.args.table.now c.requires.sound

pub returns-in_err-id-clause-gives : goal.returns-in_err-id-clause-gives
returns-in_err-id-clause-gives g c untorn =
    let old = c.args.table.now in
    let new = c.add_both.new.table in
    let came = c.in_err-id.field-0.0 in
    let is = c.from_residual.ensures.1 in
    subst (λ (r : Result Justification TableError). GivesOne old new (given_just r)) (sym (handed_on _ came came is refl))
    (c.in_err-id.ensures.gives (λ fault. untorn (handed_on _ came WriteFault is (same_error fault))))

pub returns-clause-justified : goal.returns-clause-justified
returns-clause-justified g c =
    let graph = c.args.table.now.graph in
    let o = c.args.operands.now in
    let tied = c.requires.sound.tied in
    let clause = c.as_slice.result.now in
    let is : clause_from_atoms (conjunction_atoms graph o.u o.v c.args.w) ≡ Some clause = sym c.conjunction_clause.ensures
    ∙ c.in-Some.is ∙ ap Some (sym c.as_slice.ensures.literals) in
    let among : are_among (conjunction_atoms graph o.u o.v c.args.w) clause
    ≡ true = c.clause_law.ensures.among (conjunction_atoms graph o.u o.v c.args.w) clause is in
    subst (λ (new : Graph). IsJustified c.add_both.new.table.book.state.live (conjunction_atoms new o.u o.v c.args.w) (Clause c.in_ok-id.id))
    (sym c.in_ok-id.ensures.nodes) (
      is_open c.literal_law.ensures c.operand_law.ensures graph tied.reduced tied.ordered c.args.table.now.book.state.live o
          c.requires.split c.args.w High c.args.high.now c.requires.sides.on_high clause is among,
      c.in_ok-id.ensures.clause ∙ sym is,
    )

pub returns-clause-told : goal.returns-clause-told
returns-clause-told g c id same = record {
  clause = c.as_slice.result.now;
  high = c.parts_of-high.ensures.high.sides;
  low = c.parts_of-high.ensures.low.sides;
  is = sym c.conjunction_clause.ensures ∙ c.in-Some.is ∙ ap Some (sym c.as_slice.ensures.literals);
  on_high = c.parts_of-high.ensures.high.are;
  on_low = c.parts_of-high.ensures.low.are;
  adds = c.in_ok-id.ensures.told (both g (goal.at.returns-clause-told g c).After-as_slice);
}
