-- The clause that is given is retired.
use Rattle.std.proofs.Common.{◌≡◌, ◌∙◌, ◌++◌, ℕ, List, [], ◌∷◌, Contains, sym, ap, subst, inl, inr}
use Rattle.node_table.specs.Table.{TableState}
use Rattle.operations.proofs.Accounts.{one_retired, one_there, same_some}
use Rattle.operations.proofs.retired.retire.Goals as goal

pub retire-requires-clause-own : goal.retire-requires-clause-own
retire-requires-clause-own g c = c.requires.own c.in-Some.id c.in-Some.is

pub returns-in-Some : goal.returns-in-Some
returns-in-Some g c =
    let list : c.retire.new.self.retired ≡ c.args.table.now.retired ++ c.in-Some.id
    ∷ [] = ap (λ (t : TableState g.row.S.Denot). t.retired) c.retire.ensures.retired in record {
      steps = c.retire.ensures.steps;
      same = c.retire.ensures.retired ∙ ap (λ (r : List ℕ). record c.args.table.now { retired = r }) (sym list);
      only = λ id gone. elim (one_retired c.args.table.now.retired c.in-Some.id id (subst (λ (r : List ℕ). Contains r id) list gone)) [
        | inl was ↦ inl was
        | inr same ↦ inr (c.in-Some.is ∙ same)
      ];
      retired = λ id is. subst (λ (r : List ℕ). Contains r id) (sym list)
          (one_there c.args.table.now.retired c.in-Some.id id (same_some c.in-Some.id id (sym c.in-Some.is ∙ is)));
    }
