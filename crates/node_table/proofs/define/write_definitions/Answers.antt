-- What each call of `write_one` asks, and what was written where one of them fails.
use Rattle.std.proofs.Common.{◌≡◌, ◌+◌, ◌≤◌, not, ℤ, [], ◌∷◌, is_some, refl, sym, ap, ◌∙◌, subst, arith, take}
use Rattle.lrat_rules.specs.State.{State}
use Rattle.lrat_rules.specs.Strict.{IsDefinition}
use Rattle.hint_chain.specs.declared.atom.Atom.{Atom}
use Rattle.hint_chain.specs.declared.atom.Atom.TheVariants.{Of}
use Rattle.hint_chain.specs.Atoms.{clause_from_atoms}
use Rattle.node_table.specs.Defined.{one_if, is_always, ups_from}
use Rattle.node_table.proofs.DefineClauses.{is_some-clause_from_atoms}
use Rattle.node_table.proofs.DefineGood.{IsStart, lu_definition, hd_definition, ld_definition, ups_are, top_after_hd}
use Rattle.node_table.proofs.DefineSteps.{AreWritten-none, AreWritten-more, IsCallOf, torn_next, hu_of, lu_of, hd_of, ld_of}
use Rattle.node_table.proofs.Deleting.{on_err}
use Rattle.node_table.proofs.define.write_definitions.Goals as goal

-- equal atoms give one clause
clauses_alike : {a b d e : ℤ} {c f : Atom} → a ≡ d → b ≡ e → c ≡ f → clause_from_atoms (Of a ∷ Of b ∷ c ∷ []) ≡ clause_from_atoms (Of d ∷ Of e ∷ f ∷ [])
clauses_alike first second third i = clause_from_atoms (Of (first i) ∷ Of (second i) ∷ third i ∷ [])

pub write_one-requires-2-clause-definition : goal.write_one-requires-2-clause-definition
write_one-requires-2-clause-definition g c clause is =
    let state = c.args.ledger.now.state in
    let u = c.args.u in
    let x = c.args.x in
    let high = c.args.high.now in
    let low = c.args.low.now in
    let start : IsStart state u x high low = record {
      law = c.live_law.ensures;
      numbers = c.last_id.ensures.numbers;
      new = c.requires.new_variable;
    } in
    let hu : IsCallOf (clause_from_atoms (Of u ∷ Of c.negated-not_x.result ∷ c.negated.result ∷ [])) []
    (hu_of u x high) = record { clause = clauses_alike refl c.negated-not_x.ensures c.negated.ensures; candidates = refl } in
    let none = AreWritten-none c.args.ledger.now c.requires.in_step in
    let one = AreWritten-more none hu c.in_ok-hu.ensures.told in
    let lu : IsCallOf (clause_from_atoms (Of u ∷ Of x ∷ c.negated-2.result ∷ [])) []
    (lu_of u x low) = record { clause = clauses_alike refl refl c.negated-2.ensures; candidates = refl } in
    subst (λ (s : State). IsDefinition s.live clause []) (sym one.reached)
    (lu_definition state u x high low start clause (sym lu.clause ∙ is))

pub write_one-requires-3-clause-definition : goal.write_one-requires-3-clause-definition
write_one-requires-3-clause-definition g c clause is =
    let state = c.args.ledger.now.state in
    let u = c.args.u in
    let x = c.args.x in
    let high = c.args.high.now in
    let low = c.args.low.now in
    let start : IsStart state u x high low = record {
      law = c.live_law.ensures;
      numbers = c.last_id.ensures.numbers;
      new = c.requires.new_variable;
    } in
    let hu : IsCallOf (clause_from_atoms (Of u ∷ Of c.negated-not_x.result ∷ c.negated.result ∷ [])) []
    (hu_of u x high) = record { clause = clauses_alike refl c.negated-not_x.ensures c.negated.ensures; candidates = refl } in
    let none = AreWritten-none c.args.ledger.now c.requires.in_step in
    let one = AreWritten-more none hu c.in_ok-hu.ensures.told in
    let lu : IsCallOf (clause_from_atoms (Of u ∷ Of x ∷ c.negated-2.result ∷ [])) []
    (lu_of u x low) = record { clause = clauses_alike refl refl c.negated-2.ensures; candidates = refl } in
    let two = AreWritten-more one lu c.in_ok-lu.ensures.told in
    let ups = ups_are state u x high low start c.in_row-ids.ensures.ids c.in_ok-hu.ensures.id c.in_ok-lu.ensures.id hu.clause lu.clause
    one.reached in
    let hd : IsCallOf (clause_from_atoms (Of c.negated-not_u.result ∷ Of c.negated-not_x.result ∷ high ∷ []))
    (take c.in_row-ids.result.1 c.in_row-ids.result.0) (hd_of u x high low (state.top + 1)) =
    record { clause = clauses_alike c.negated-not_u.ensures c.negated-not_x.ensures refl; candidates = ups } in
    subst (λ candidates. IsDefinition c.write_one-2.new.ledger.state.live clause candidates) (sym ups)
    (subst (λ (s : State). IsDefinition s.live clause (ups_from high low (state.top + 1))) (sym two.reached)
    (hd_definition state u x high low start clause (sym hd.clause ∙ is)))

pub write_one-requires-4-clause-definition : goal.write_one-requires-4-clause-definition
write_one-requires-4-clause-definition g c clause is =
    let state = c.args.ledger.now.state in
    let u = c.args.u in
    let x = c.args.x in
    let high = c.args.high.now in
    let low = c.args.low.now in
    let start : IsStart state u x high low = record {
      law = c.live_law.ensures;
      numbers = c.last_id.ensures.numbers;
      new = c.requires.new_variable;
    } in
    let hu : IsCallOf (clause_from_atoms (Of u ∷ Of c.negated-not_x.result ∷ c.negated.result ∷ [])) []
    (hu_of u x high) = record { clause = clauses_alike refl c.negated-not_x.ensures c.negated.ensures; candidates = refl } in
    let none = AreWritten-none c.args.ledger.now c.requires.in_step in
    let one = AreWritten-more none hu c.in_ok-hu.ensures.told in
    let lu : IsCallOf (clause_from_atoms (Of u ∷ Of x ∷ c.negated-2.result ∷ [])) []
    (lu_of u x low) = record { clause = clauses_alike refl refl c.negated-2.ensures; candidates = refl } in
    let two = AreWritten-more one lu c.in_ok-lu.ensures.told in
    let ups = ups_are state u x high low start c.in_row-ids.ensures.ids c.in_ok-hu.ensures.id c.in_ok-lu.ensures.id hu.clause lu.clause
    one.reached in
    let hd : IsCallOf (clause_from_atoms (Of c.negated-not_u.result ∷ Of c.negated-not_x.result ∷ high ∷ []))
    (take c.in_row-ids.result.1 c.in_row-ids.result.0) (hd_of u x high low (state.top + 1)) =
    record { clause = clauses_alike c.negated-not_u.ensures c.negated-not_x.ensures refl; candidates = ups } in
    let three = AreWritten-more two hd c.in_ok-write_one.ensures.told in
    let ld : IsCallOf (clause_from_atoms (Of c.negated-not_u.result ∷ Of x ∷ low ∷ [])) (take c.in_row-ids.result.1 c.in_row-ids.result.0)
    (ld_of u x high low (state.top + 1)) = record { clause = clauses_alike c.negated-not_u.ensures refl refl; candidates = ups } in
    subst (λ candidates. IsDefinition c.write_one-3.new.ledger.state.live clause candidates) (sym ups)
    (subst (λ (s : State). IsDefinition s.live clause (ups_from high low (state.top + 1))) (sym three.reached)
    (ld_definition state u x high low start clause (sym ld.clause ∙ is)))

pub write_one-requires-4-clause-room : goal.write_one-requires-4-clause-room
write_one-requires-4-clause-room g c =
    let state = c.args.ledger.now.state in
    let u = c.args.u in
    let x = c.args.x in
    let high = c.args.high.now in
    let low = c.args.low.now in
    let start : IsStart state u x high low = record {
      law = c.live_law.ensures;
      numbers = c.last_id.ensures.numbers;
      new = c.requires.new_variable;
    } in
    let hu : IsCallOf (clause_from_atoms (Of u ∷ Of c.negated-not_x.result ∷ c.negated.result ∷ [])) []
    (hu_of u x high) = record { clause = clauses_alike refl c.negated-not_x.ensures c.negated.ensures; candidates = refl } in
    let none = AreWritten-none c.args.ledger.now c.requires.in_step in
    let one = AreWritten-more none hu c.in_ok-hu.ensures.told in
    let lu : IsCallOf (clause_from_atoms (Of u ∷ Of x ∷ c.negated-2.result ∷ [])) []
    (lu_of u x low) = record { clause = clauses_alike refl refl c.negated-2.ensures; candidates = refl } in
    let two = AreWritten-more one lu c.in_ok-lu.ensures.told in
    let ups = ups_are state u x high low start c.in_row-ids.ensures.ids c.in_ok-hu.ensures.id c.in_ok-lu.ensures.id hu.clause lu.clause
    one.reached in
    let hd : IsCallOf (clause_from_atoms (Of c.negated-not_u.result ∷ Of c.negated-not_x.result ∷ high ∷ []))
    (take c.in_row-ids.result.1 c.in_row-ids.result.0) (hd_of u x high low (state.top + 1)) =
    record { clause = clauses_alike c.negated-not_u.ensures c.negated-not_x.ensures refl; candidates = ups } in
    let three = AreWritten-more two hd c.in_ok-write_one.ensures.told in
    let top = ap (λ (s : State). s.top) three.reached in
    let last : one_if (is_some (clause_from_atoms (Of c.negated-not_u.result ∷ Of x ∷ low ∷ [])))
    ≡ one_if (not (is_always low)) = ap one_if (is_some-clause_from_atoms c.negated-not_u.result x low) in
    let enough : c.write_one-3.new.ledger.state.top + one_if (is_some (clause_from_atoms (Of c.negated-not_u.result ∷ Of x ∷ low ∷ [])))
    ≤ c.write_one-3.new.ledger.limit =
    omega (arith, c.requires.room, top, top_after_hd state u x high low start, last, three.limit) in
    enough

pub returns-clause-told : goal.returns-clause-told
returns-clause-told g c =
    let state = c.args.ledger.now.state in
    let u = c.args.u in
    let x = c.args.x in
    let high = c.args.high.now in
    let low = c.args.low.now in
    let start : IsStart state u x high low = record {
      law = c.live_law.ensures;
      numbers = c.last_id.ensures.numbers;
      new = c.requires.new_variable;
    } in
    let hu : IsCallOf (clause_from_atoms (Of u ∷ Of c.negated-not_x.result ∷ c.negated.result ∷ [])) []
    (hu_of u x high) = record { clause = clauses_alike refl c.negated-not_x.ensures c.negated.ensures; candidates = refl } in
    let none = AreWritten-none c.args.ledger.now c.requires.in_step in
    let one = AreWritten-more none hu c.in_ok-hu.ensures.told in
    let lu : IsCallOf (clause_from_atoms (Of u ∷ Of x ∷ c.negated-2.result ∷ [])) []
    (lu_of u x low) = record { clause = clauses_alike refl refl c.negated-2.ensures; candidates = refl } in
    let two = AreWritten-more one lu c.in_ok-lu.ensures.told in
    let ups = ups_are state u x high low start c.in_row-ids.ensures.ids c.in_ok-hu.ensures.id c.in_ok-lu.ensures.id hu.clause lu.clause
    one.reached in
    let hd : IsCallOf (clause_from_atoms (Of c.negated-not_u.result ∷ Of c.negated-not_x.result ∷ high ∷ []))
    (take c.in_row-ids.result.1 c.in_row-ids.result.0) (hd_of u x high low (state.top + 1)) =
    record { clause = clauses_alike c.negated-not_u.ensures c.negated-not_x.ensures refl; candidates = ups } in
    let three = AreWritten-more two hd c.in_ok-write_one.ensures.told in
    let ld : IsCallOf (clause_from_atoms (Of c.negated-not_u.result ∷ Of x ∷ low ∷ [])) (take c.in_row-ids.result.1 c.in_row-ids.result.0)
    (ld_of u x high low (state.top + 1)) = record { clause = clauses_alike c.negated-not_u.ensures refl refl; candidates = ups } in
    (AreWritten-more three ld c.in_ok-write_one-2.ensures.told).told

pub returns-in_err-hu-clause-torn : goal.returns-in_err-hu-clause-torn
returns-in_err-hu-clause-torn g c =
    let state = c.args.ledger.now.state in
    let u = c.args.u in
    let x = c.args.x in
    let high = c.args.high.now in
    let low = c.args.low.now in
    let hu : IsCallOf (clause_from_atoms (Of u ∷ Of c.negated-not_x.result ∷ c.negated.result ∷ [])) []
    (hu_of u x high) = record { clause = clauses_alike refl c.negated-not_x.ensures c.negated.ensures; candidates = refl } in
    let none = AreWritten-none c.args.ledger.now c.requires.in_step in
    on_err c.from_residual.result (torn_next none hu (lu_of u x low ∷ hd_of u x high low (state.top + 1) ∷ ld_of u x high low (state.top + 1) ∷ [])
    c.in_err-hu.ensures.torn)

pub returns-in_err-lu-clause-torn : goal.returns-in_err-lu-clause-torn
returns-in_err-lu-clause-torn g c =
    let state = c.args.ledger.now.state in
    let u = c.args.u in
    let x = c.args.x in
    let high = c.args.high.now in
    let low = c.args.low.now in
    let hu : IsCallOf (clause_from_atoms (Of u ∷ Of c.negated-not_x.result ∷ c.negated.result ∷ [])) []
    (hu_of u x high) = record { clause = clauses_alike refl c.negated-not_x.ensures c.negated.ensures; candidates = refl } in
    let none = AreWritten-none c.args.ledger.now c.requires.in_step in
    let one = AreWritten-more none hu c.in_ok-hu.ensures.told in
    let lu : IsCallOf (clause_from_atoms (Of u ∷ Of x ∷ c.negated-2.result ∷ [])) []
    (lu_of u x low) = record { clause = clauses_alike refl refl c.negated-2.ensures; candidates = refl } in
    on_err c.from_residual-in_err-lu.result (torn_next one lu (hd_of u x high low (state.top + 1) ∷ ld_of u x high low (state.top + 1) ∷ []) c.in_err-lu.ensures.torn)

pub returns-in_err-write_one-clause-torn : goal.returns-in_err-write_one-clause-torn
returns-in_err-write_one-clause-torn g c =
    let state = c.args.ledger.now.state in
    let u = c.args.u in
    let x = c.args.x in
    let high = c.args.high.now in
    let low = c.args.low.now in
    let start : IsStart state u x high low = record {
      law = c.live_law.ensures;
      numbers = c.last_id.ensures.numbers;
      new = c.requires.new_variable;
    } in
    let hu : IsCallOf (clause_from_atoms (Of u ∷ Of c.negated-not_x.result ∷ c.negated.result ∷ [])) []
    (hu_of u x high) = record { clause = clauses_alike refl c.negated-not_x.ensures c.negated.ensures; candidates = refl } in
    let none = AreWritten-none c.args.ledger.now c.requires.in_step in
    let one = AreWritten-more none hu c.in_ok-hu.ensures.told in
    let lu : IsCallOf (clause_from_atoms (Of u ∷ Of x ∷ c.negated-2.result ∷ [])) []
    (lu_of u x low) = record { clause = clauses_alike refl refl c.negated-2.ensures; candidates = refl } in
    let two = AreWritten-more one lu c.in_ok-lu.ensures.told in
    let ups = ups_are state u x high low start c.in_row-ids.ensures.ids c.in_ok-hu.ensures.id c.in_ok-lu.ensures.id hu.clause lu.clause
    one.reached in
    let hd : IsCallOf (clause_from_atoms (Of c.negated-not_u.result ∷ Of c.negated-not_x.result ∷ high ∷ []))
    (take c.in_row-ids.result.1 c.in_row-ids.result.0) (hd_of u x high low (state.top + 1)) =
    record { clause = clauses_alike c.negated-not_u.ensures c.negated-not_x.ensures refl; candidates = ups } in
    on_err c.from_residual-in_err-write_one.result (torn_next two hd (ld_of u x high low (state.top + 1) ∷ []) c.in_err-write_one.ensures.torn)

pub returns-in_err-write_one-2-clause-torn : goal.returns-in_err-write_one-2-clause-torn
returns-in_err-write_one-2-clause-torn g c =
    let state = c.args.ledger.now.state in
    let u = c.args.u in
    let x = c.args.x in
    let high = c.args.high.now in
    let low = c.args.low.now in
    let start : IsStart state u x high low = record {
      law = c.live_law.ensures;
      numbers = c.last_id.ensures.numbers;
      new = c.requires.new_variable;
    } in
    let hu : IsCallOf (clause_from_atoms (Of u ∷ Of c.negated-not_x.result ∷ c.negated.result ∷ [])) []
    (hu_of u x high) = record { clause = clauses_alike refl c.negated-not_x.ensures c.negated.ensures; candidates = refl } in
    let none = AreWritten-none c.args.ledger.now c.requires.in_step in
    let one = AreWritten-more none hu c.in_ok-hu.ensures.told in
    let lu : IsCallOf (clause_from_atoms (Of u ∷ Of x ∷ c.negated-2.result ∷ [])) []
    (lu_of u x low) = record { clause = clauses_alike refl refl c.negated-2.ensures; candidates = refl } in
    let two = AreWritten-more one lu c.in_ok-lu.ensures.told in
    let ups = ups_are state u x high low start c.in_row-ids.ensures.ids c.in_ok-hu.ensures.id c.in_ok-lu.ensures.id hu.clause lu.clause
    one.reached in
    let hd : IsCallOf (clause_from_atoms (Of c.negated-not_u.result ∷ Of c.negated-not_x.result ∷ high ∷ []))
    (take c.in_row-ids.result.1 c.in_row-ids.result.0) (hd_of u x high low (state.top + 1)) =
    record { clause = clauses_alike c.negated-not_u.ensures c.negated-not_x.ensures refl; candidates = ups } in
    let three = AreWritten-more two hd c.in_ok-write_one.ensures.told in
    let ld : IsCallOf (clause_from_atoms (Of c.negated-not_u.result ∷ Of x ∷ low ∷ [])) (take c.in_row-ids.result.1 c.in_row-ids.result.0)
    (ld_of u x high low (state.top + 1)) = record { clause = clauses_alike c.negated-not_u.ensures refl refl; candidates = ups } in
    on_err c.from_residual-in_err-write_one-2.result (torn_next three ld [] c.in_err-write_one-2.ensures.torn)
