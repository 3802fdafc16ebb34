-- What is left to show of `emit_cnf`.
use Rattle.std.proofs.Common.{◌≡◌, ℕ, List, ◌++◌, length, refl, ap, sym, append_assoc}
use Rattle.std.specs.Prelude.{codes, decimal}
use Rattle.std.specs.List.{flat_map}
use Rattle.workload.specs.Texts.{cnf_text, clause_line}
use Rattle.host_io.proofs.Emitting.{in_turn, fails_within, same_text}
use Rattle.workload.proofs.texts.emit_cnf.Goals as goal

-- the header's parts
from_count : (a b c d e f : List ℕ) → ((((a ++ b) ++ c) ++ d) ++ e) ++ f ≡ (a ++ b) ++ (((c ++ d) ++ e) ++ f)
from_count a b c d e f = simp append_assoc

from_end : (a b c d e f : List ℕ) → ((((a ++ b) ++ c) ++ d) ++ e) ++ f ≡ ((a ++ b) ++ (c ++ d)) ++ (e ++ f)
from_end a b c d e f = simp append_assoc

from_clauses : (a b c d e f : List ℕ) → ((((a ++ b) ++ c) ++ d) ++ e) ++ f ≡ (((a ++ b) ++ (c ++ d)) ++ e) ++ f
from_clauses a b c d e f = simp append_assoc

pub returns-in_err-emit_number-clause-emits : goal.returns-in_err-emit_number-clause-emits
returns-in_err-emit_number-clause-emits g c =
    let f = c.args.formula.now in
    fails_within (same_text c.in_err-emit_number.ensures.emits (ap (λ (k : ℕ). codes "p cnf " ++ decimal k) c.vars.ensures)) refl
    c.from_residual.ensures.0 (cnf_text f) _ c.emit_number.new.held.items
    (from_count (codes "p cnf ") (decimal f.vars) (codes " ") (decimal (length f.clauses)) (codes "\n") (flat_map clause_line f.clauses))

pub returns-in_err-emit_number-2-clause-emits : goal.returns-in_err-emit_number-2-clause-emits
returns-in_err-emit_number-2-clause-emits g c =
    let f = c.args.formula.now in
    fails_within (in_turn (same_text c.in_ok-emit_number.ensures.emits (ap (λ (k : ℕ). codes "p cnf " ++ decimal k) c.vars.ensures)) refl
    (same_text c.in_err-emit_number-2.ensures.emits (ap (λ (k : ℕ). codes " " ++ decimal k) c.len.ensures))) refl
    c.from_residual-in_err-emit_number-2.ensures.0 (cnf_text f) _ c.emit_number-2.new.held.items
    (from_end (codes "p cnf ") (decimal f.vars) (codes " ") (decimal (length f.clauses)) (codes "\n") (flat_map clause_line f.clauses))

pub returns-in_err-emit-clause-emits : goal.returns-in_err-emit-clause-emits
returns-in_err-emit-clause-emits g c =
    let f = c.args.formula.now in
    fails_within (in_turn (in_turn (same_text c.in_ok-emit_number.ensures.emits
    (ap (λ (k : ℕ). codes "p cnf " ++ decimal k) c.vars.ensures)) refl
    (same_text c.in_ok-emit_number-2.ensures.emits (ap (λ (k : ℕ). codes " " ++ decimal k) c.len.ensures))) refl
    c.in_err-emit.ensures.emits) refl c.from_residual-in_err-emit.ensures.0 (cnf_text f) _ c.emit.new.held.items
    (from_clauses (codes "p cnf ") (decimal f.vars) (codes " ") (decimal (length f.clauses)) (codes "\n") (flat_map clause_line f.clauses))

pub returns-clause-emits : goal.returns-clause-emits
returns-clause-emits g c =
    let f = c.args.formula.now in
    same_text (in_turn (in_turn (in_turn (same_text c.in_ok-emit_number.ensures.emits
    (ap (λ (k : ℕ). codes "p cnf " ++ decimal k) c.vars.ensures)) refl
    (same_text c.in_ok-emit_number-2.ensures.emits (ap (λ (k : ℕ). codes " " ++ decimal k) c.len.ensures))) refl c.in_ok-emit.ensures.emits)
    refl c.emit_clauses.ensures.emits)
    (sym (from_clauses (codes "p cnf ") (decimal f.vars) (codes " ") (decimal (length f.clauses)) (codes "\n")
    (flat_map clause_line f.clauses)))
