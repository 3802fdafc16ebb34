-- The low clause is given, and the high one is retired, also where the low one is refused.
use Rattle.std.proofs.Common.{rules, arith, ◌≡◌, ◌≢◌, ◌∙◌, ◌+◌, ◌++◌, ℕ, ℤ, pos, neg_ℤ, false, List, [], ◌∷◌, Option, None, Some, Result, Err, length, ap, refl, sym}
use Rattle.std.proofs.Common.{subst}
use Rattle.lrat_rules.specs.Chain.{literals_of, with_literal}
use Rattle.lrat_rules.specs.Strict.{RefutesStrictly}
use Rattle.lrat_rules.specs.State.{Live, clause_at}
use Rattle.hint_chain.specs.declared.part.Part.{Part}
use Rattle.hint_chain.specs.Greedy.{AreLiveParts}
use Rattle.hint_chain.specs.Step.{Spells, parts_in}
use Rattle.node_table.specs.declared.error.TableError.{TableError}
use Rattle.node_table.specs.declared.error.TableError.TheVariants.{WriteFault}
use Rattle.node_table.specs.Diagram.{Graph, variable_at}
use Rattle.node_table.specs.HandedOn.{handed_on, same_error}
use Rattle.node_table.specs.Table.{TableState, IsUsedUp}
use Rattle.node_table.specs.Tied.{IsOverNodes, KeepsClauses}
use Rattle.operations.specs.Accounts.{GivesOne, given_clause}
use Rattle.operations.specs.Additions.{AddsFrom, high_of}
use Rattle.operations.proofs.additions.add_both.Goals as goal

not_empty : (literal : ℤ) (rest clause : List ℤ) → clause ≡ literal ∷ rest → clause ≡ [] → ⊥
not_empty literal rest clause is empty = cc

abbrev part_of : ℕ → List ℤ → Part
part_of id clause = record { id = id; clause = clause }

-- parts that are live stay so
parts_kept : (old new : Live) → KeepsClauses old new → (parts : List (Option Part)) → AreLiveParts old parts → AreLiveParts new parts
parts_kept old new keeps [] live = tt
parts_kept old new keeps (None ∷ parts) live = (tt, parts_kept old new keeps parts live.1)
parts_kept old new keeps (Some part ∷ parts) live = (keeps part.id part.clause live.0, parts_kept old new keeps parts live.1)

pub variable-x-requires : goal.variable-x-requires
variable-x-requires g c = c.requires.both.within

pub behind-long-requires : goal.behind-long-requires
behind-long-requires g c = c.requires.both.short

pub step_hints-hints-requires : goal.step_hints-hints-requires
step_hints-hints-requires g c =
    let long = c.as_slice-own.ensures.literals ∙ c.behind-long.ensures in
    omega (arith, ap (λ (l : List ℤ). length l) long, c.requires.both.short)

pub add-requires-clause-some : goal.add-requires-clause-some
add-requires-clause-some g c = not_empty c.negated.result c.args.clause.now _ (c.as_slice-own.ensures.literals ∙ c.behind-long.ensures)

pub add-requires-clause-strict : goal.add-requires-clause-strict
add-requires-clause-strict g c =
    let graph = c.args.table.now.graph in
    let live = c.args.table.now.book.state.live in
    let clause = c.args.clause.now in
    let own = c.as_slice-own.result.now in
    let both = c.requires.both in
    let long : c.as_slice-own.result.now ≡ high_of graph c.args.level clause =
    c.as_slice-own.ensures.literals ∙ c.behind-long.ensures ∙ ap (λ (l : ℤ). l ∷ clause) (c.negated.ensures ∙ ap neg_ℤ c.variable-x.ensures) in
    let chosen = c.step_hints-hints.ensures both.highs
    (subst (λ (l : List ℤ). Spells (literals_of l) c.args.high.now both.highs) (sym long) both.on_high) in
    subst (λ (hints : List ℕ). RefutesStrictly live own hints) (sym c.as_slice.ensures)
    (c.greedy_law.ensures.refutes live own (parts_in both.highs) _ chosen both.high_live)

pub add-requires-clause-over_nodes : goal.add-requires-clause-over_nodes
add-requires-clause-over_nodes g c =
    let graph = c.args.table.now.graph in
    let clause = c.args.clause.now in
    let tied = c.requires.sound.tied in
    let both = c.requires.both in
    let long : c.as_slice-own.result.now ≡ high_of graph c.args.level clause =
    c.as_slice-own.ensures.literals ∙ c.behind-long.ensures ∙ ap (λ (l : ℤ). l ∷ clause) (c.negated.ensures ∙ ap neg_ℤ c.variable-x.ensures) in
    subst (λ (l : List ℤ). IsOverNodes graph l) (sym long)
    (c.literal_law.ensures.behind graph tied.reduced tied.ordered c.args.level both.within clause both.owned both.apart).1

pub step_hints_behind-low_hints-requires-clause-new : goal.step_hints_behind-low_hints-requires-clause-new
step_hints_behind-low_hints-requires-clause-new g c =
    let graph = c.args.table.now.graph in
    let clause = c.args.clause.now in
    let tied = c.requires.sound.tied in
    let both = c.requires.both in
    subst (λ (y : ℤ). literals_of clause y ≡ false) (sym c.variable-x.ensures)
    (c.closing_law.ensures.apart (pos (variable_at graph c.args.level)) clause
    (c.literal_law.ensures.behind graph tied.reduced tied.ordered c.args.level both.within clause both.owned both.apart).0).0

pub step_hints_behind-low_hints-requires-clause-open : goal.step_hints_behind-low_hints-requires-clause-open
step_hints_behind-low_hints-requires-clause-open g c =
    let graph = c.args.table.now.graph in
    let clause = c.args.clause.now in
    let tied = c.requires.sound.tied in
    let both = c.requires.both in
    subst (λ (y : ℤ). literals_of clause (neg_ℤ y) ≡ false) (sym c.variable-x.ensures)
    (c.closing_law.ensures.apart (pos (variable_at graph c.args.level)) clause
    (c.literal_law.ensures.behind graph tied.reduced tied.ordered c.args.level both.within clause both.owned both.apart).0).1

pub add-requires-2-clause-strict : goal.add-requires-2-clause-strict
add-requires-2-clause-strict g c =
    let old = c.args.table.now.book.state.live in
    let new = c.add.new.table.book.state.live in
    let clause = c.args.clause.now in
    let first = c.in_ok-first in
    let both = c.requires.both in
    let stands : clause_at new first.first ≡ Some (neg_ℤ c.variable-x.result ∷ clause) = first.ensures.clause
    ∙ ap Some (c.as_slice-own.ensures.literals ∙ c.behind-long.ensures ∙ ap (λ (l : ℤ). l ∷ clause) c.negated.ensures) in
    let chosen = c.step_hints_behind-low_hints.ensures both.lows
    (subst (λ (y : ℤ). Spells (with_literal y (literals_of clause)) c.args.low.now both.lows) (sym c.variable-x.ensures) both.on_low) in
    subst (λ (hints : List ℕ). RefutesStrictly new clause hints) (sym c.as_slice-2.ensures)
    (c.greedy_law.ensures.refutes new clause
    (Some (record { id = first.first; clause = neg_ℤ c.variable-x.result ∷ clause }) ∷ parts_in both.lows) _ chosen
    (stands, parts_kept old new first.ensures.added.steps.extends.clauses (parts_in both.lows) both.low_live))

pub add-requires-2-clause-over_nodes : goal.add-requires-2-clause-over_nodes
add-requires-2-clause-over_nodes g c =
    subst (λ (graph : Graph). IsOverNodes graph c.args.clause.now) (sym c.in_ok-first.ensures.nodes)
    (λ y there above. c.requires.both.owned y there)

pub add-requires-2-clause-some : goal.add-requires-2-clause-some
add-requires-2-clause-some g c = c.requires.both.some

pub returns-in-Ok-clause-steps : goal.returns-in-Ok-clause-steps
returns-in-Ok-clause-steps g c =
    (c.high_clause_law.ensures.served c.args.table.now c.add.new.table c.add-2.new.table c.retire.new.self c.in_ok-first.first
    c.in-Ok.id c.in_ok-first.ensures.added c.in-Ok.ensures.added
    (record { steps = c.retire.ensures.steps; is = c.retire.ensures.retired })).0

pub returns-in-Ok-clause-retires : goal.returns-in-Ok-clause-retires
returns-in-Ok-clause-retires g c =
    (c.high_clause_law.ensures.served c.args.table.now c.add.new.table c.add-2.new.table c.retire.new.self c.in_ok-first.first
    c.in-Ok.id c.in_ok-first.ensures.added c.in-Ok.ensures.added
    (record { steps = c.retire.ensures.steps; is = c.retire.ensures.retired })).1

pub returns-in-Ok-clause-gives : goal.returns-in-Ok-clause-gives
returns-in-Ok-clause-gives g c whole =
    (c.high_clause_law.ensures.served c.args.table.now c.add.new.table c.add-2.new.table c.retire.new.self c.in_ok-first.first
    c.in-Ok.id c.in_ok-first.ensures.added c.in-Ok.ensures.added
    (record { steps = c.retire.ensures.steps; is = c.retire.ensures.retired })).2

pub returns-in_err-first-clause-gives : goal.returns-in_err-first-clause-gives
returns-in_err-first-clause-gives g c untorn =
    let old = c.args.table.now in
    let new = c.add.new.table in
    let came = c.in_err-first.field-0.0 in
    let is = c.from_residual.ensures.1 in
    subst (λ (r : Result ℕ TableError). GivesOne old new (given_clause r)) (sym (handed_on _ came came is refl))
    (c.high_clause_law.ensures.refused old new c.requires.sound (c.in_err-first.ensures.refused
    (λ fault. untorn (handed_on _ came WriteFault is fault))))

pub returns-in-Err-clause-steps : goal.returns-in-Err-clause-steps
returns-in-Err-clause-steps g c = c.steps_law.ensures.further _ _ _ _ _ _ c.in_ok-first.ensures.added.steps c.in-Err.ensures.steps

pub returns-clause-steps : goal.returns-clause-steps
returns-clause-steps g c =
    let other : c.in-Err.e ≢ WriteFault = search rules in
    (c.high_clause_law.ensures.left c.args.table.now c.add.new.table c.add-2.new.table c.retire-in-Err-2.new.self
    c.in_ok-first.first c.in-Err.e c.in_ok-first.ensures.added
    (record { steps = c.in-Err.ensures.steps; whole = other; same = c.in-Err.ensures.refused other })
    (record { steps = c.retire-in-Err-2.ensures.steps; is = c.retire-in-Err-2.ensures.retired })).0

pub returns-clause-retires : goal.returns-clause-retires
returns-clause-retires g c =
    let other : c.in-Err.e ≢ WriteFault = search rules in
    (c.high_clause_law.ensures.left c.args.table.now c.add.new.table c.add-2.new.table c.retire-in-Err-2.new.self
    c.in_ok-first.first c.in-Err.e c.in_ok-first.ensures.added
    (record { steps = c.in-Err.ensures.steps; whole = other; same = c.in-Err.ensures.refused other })
    (record { steps = c.retire-in-Err-2.ensures.steps; is = c.retire-in-Err-2.ensures.retired })).1

pub returns-clause-gives : goal.returns-clause-gives
returns-clause-gives g c untorn =
    let other : c.in-Err.e ≢ WriteFault = λ is. untorn (ap Err is) in
    (c.high_clause_law.ensures.left c.args.table.now c.add.new.table c.add-2.new.table c.retire-in-Err-2.new.self
    c.in_ok-first.first c.in-Err.e c.in_ok-first.ensures.added
    (record { steps = c.in-Err.ensures.steps; whole = other; same = c.in-Err.ensures.refused other })
    (record { steps = c.retire-in-Err-2.ensures.steps; is = c.retire-in-Err-2.ensures.retired })).2

pub returns-clause-id_limit : goal.returns-clause-id_limit
returns-clause-id_limit g c is = subst (λ (t : TableState g.row.S.Denot). IsUsedUp t)
    (sym c.retire-in-Err-2.ensures.retired) (c.in-Err.ensures.id_limit (ap Err (same_error is)))

pub retire-requires-clause-own : goal.retire-requires-clause-own
retire-requires-clause-own g c =
    let high = c.in_ok-first.ensures.added in
    c.steps_law.ensures.added c.add.new.table c.add-2.new.table high.steps.leaves.sound c.in-Ok.ensures.steps.leaves.sound
    c.in-Ok.ensures.steps.extends c.in_ok-first.first high.own

pub returns-in-Ok-clause-two_added : goal.returns-in-Ok-clause-two_added
returns-in-Ok-clause-two_added g c =
    let first = c.in_ok-first.ensures.added in
    let second = c.in-Ok.ensures.added in
    let retired = c.retire.ensures.retired in (
      omega (arith, first.number, first.top, second.number),
      ap (λ (t : TableState g.row.S.Denot). t.book.state.top) retired ∙ second.top,
      ap (λ (t : TableState g.row.S.Denot). t.retired) retired ∙ (λ i. (second.retired ∙ first.retired) i ++ first.number i ∷ []),
    )

pub returns-in-Ok-clause-told : goal.returns-in-Ok-clause-told
returns-in-Ok-clause-told g c both =
    let old = c.args.table.now in
    let graph = old.graph in
    let clause = c.args.clause.now in
    let first = c.in_ok-first in
    let between = c.add.new.table.book in
    let long : c.as_slice-own.result.now ≡ high_of graph c.args.level clause =
    c.as_slice-own.ensures.literals ∙ c.behind-long.ensures ∙ ap (λ (l : ℤ). l ∷ clause) (c.negated.ensures ∙ ap neg_ℤ c.variable-x.ensures) in
    let x = c.variable-x.result in
    let high_part : record { id = first.first; clause = neg_ℤ x ∷ clause } ≡ part_of (old.book.state.top + 1)
    (high_of graph c.args.level clause) = (λ i. record { id = first.ensures.added.number i; clause = neg_ℤ (c.variable-x.ensures i) ∷ clause }) in
    let chosen = c.step_hints-hints.ensures both.highs
    (subst (λ (l : List ℤ). Spells (literals_of l) c.args.high.now both.highs) (sym long) both.on_high) in
    let low_chosen = c.step_hints_behind-low_hints.ensures both.lows
    (subst (λ (y : ℤ). Spells (with_literal y (literals_of clause)) c.args.low.now both.lows) (sym c.variable-x.ensures) both.on_low) in record {
      between = between;
      first = subst (λ (l : List ℤ). AddsFrom old.book between l (parts_in both.highs)) long (record {
        hints = c.as_slice.result.now;
        chosen = chosen ∙ ap Some (sym c.as_slice.ensures);
        told = first.ensures.told;
      });
      second = subst (λ (t : TableState g.row.S.Denot). AddsFrom between t.book clause
          (Some (part_of (old.book.state.top + 1) (high_of graph c.args.level clause)) ∷ parts_in both.lows)) (sym c.retire.ensures.retired)
          (subst (λ (p : Part). AddsFrom between c.add-2.new.table.book clause (Some p ∷ parts_in both.lows)) high_part (record {
            hints = c.as_slice-2.result.now;
            chosen = low_chosen ∙ ap Some (sym c.as_slice-2.ensures);
            told = c.in-Ok.ensures.told;
          }));
    }
