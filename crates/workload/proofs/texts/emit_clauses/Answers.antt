-- What is left to show of `emit_clauses`.
use Rattle.std.proofs.Common.{◌≡◌, ◌+◌, ◌-◌, ℕ, ℤ, List, [], get_or, ◌∙◌, ap, refl, arith}
use Rattle.std.specs.List.{flat_map}
use Rattle.std.proofs.lemmas.List.{take_all}
use Rattle.workload.specs.Texts.{clause_line}
use Rattle.host_io.proofs.Emitting.{one_more, fails_at, same_text}
use Rattle.workload.proofs.texts.emit_clauses.Goals as goal

same : (clauses : List (List ℤ)) (place : ℕ) → get_or clauses (place + 1 - 1) [] ≡ get_or clauses place []
same clauses place = let e : place + 1 - 1 ≡ place = omega arith in ap (λ (k : ℕ). get_or clauses k []) e

pub returns-in_err-emit_clause-clause-emits : goal.returns-in_err-emit_clause-clause-emits
returns-in_err-emit_clause-clause-emits g c =
    fails_at clause_line c.args.formula.now.clauses c.loop-place.place [] c.emit_clause.new.held.items
    (omega arith) c.loop-place.invariant.0
    (ap clause_line (c.clause.ensures ∙ same c.args.formula.now.clauses c.loop-place.place)) c.in_err-emit_clause.ensures.emits refl
    c.from_residual.ensures.0

pub loop-place-preserved : goal.loop-place-preserved
loop-place-preserved g c = (
  one_more clause_line c.args.formula.now.clauses c.loop-place.place [] (omega arith) c.loop-place.invariant.0
      (ap clause_line (c.clause.ensures ∙ same c.args.formula.now.clauses c.loop-place.place)) c.in_ok-emit_clause.ensures.emits,
  c.in_ok-emit_clause.ensures.beside ∙ c.loop-place.invariant.1,
)

pub returns-clause-emits : goal.returns-clause-emits
returns-clause-emits g c = same_text c.loop-place.invariant.0 (ap (flat_map clause_line)
    (take_all c.loop-place.place c.args.formula.now.clauses (omega arith)))
