-- What is left to show of `emit_column`.
use Rattle.std.proofs.Common.{◌≡◌, ℕ, ◌++◌, List, ap, sym, ◌∙◌, append_assoc, refl}
use Rattle.std.specs.Prelude.{codes}
use Rattle.std.specs.List.{flat_map}
use Rattle.std.proofs.lemmas.Grind.{flat_map-append}
use Rattle.workload.specs.Schedule.{column_clauses, ending, column_commands, conjoining, quantifying, terms_in_column}
use Rattle.workload.specs.declared.schedule.Way.{Way}
use Rattle.workload.specs.Texts.{spaced, command_line}
use Rattle.host_io.proofs.Emitting.{in_turn, fails_within, same_text, from_second, from_third, from_fourth}
use Rattle.workload.proofs.schedule.emit_column.Goals as goal

abbrev numbers : ℕ → ℕ → List ℕ
numbers n column = flat_map spaced (column_clauses n column)

abbrev joins : Way → ℕ → ℕ → List ℕ
joins way n column = flat_map (command_line way) (conjoining (terms_in_column n column))

abbrev lasts : Way → ℕ → ℕ → List ℕ
lasts way n column = flat_map (command_line way) (quantifying (ending n column))

whole : (way : Way) (n column : ℕ) → flat_map (command_line way) (column_commands n column)
    ≡ (((codes "c" ++ numbers n column) ++ codes "\n") ++ joins way n column) ++ lasts way n column
whole way n column =
    ap (λ (l : List ℕ). ((codes "c" ++ numbers n column) ++ codes "\n")
    ++ l) (flat_map-append (command_line way) (conjoining (terms_in_column n column)) (quantifying (ending n column)))
    ∙ sym (append_assoc ((codes "c" ++ numbers n column) ++ codes "\n") (joins way n column) (lasts way n column))

pub returns-in_err-emit-clause-emits : goal.returns-in_err-emit-clause-emits
returns-in_err-emit-clause-emits g c =
    let n : ℕ = c.args.n in
    let k : ℕ = c.args.column in
    let way : Way = c.args.way in
    fails_within c.in_err-emit.ensures.emits refl c.from_residual.ensures.0 (flat_map (command_line way) (column_commands n k)) (numbers n k
    ++ (codes "\n" ++ (joins way n k ++ lasts way n k))) c.emit.new.held.items
    (whole way n k ∙ from_second (codes "c") (numbers n k) (codes "\n") (joins way n k) (lasts way n k))

pub returns-in_err-emit_clauses-clause-emits : goal.returns-in_err-emit_clauses-clause-emits
returns-in_err-emit_clauses-clause-emits g c =
    let n : ℕ = c.args.n in
    let k : ℕ = c.args.column in
    let way : Way = c.args.way in
    fails_within (in_turn c.in_ok-emit.ensures.emits refl c.in_err-emit_clauses.ensures.emits) refl
    c.from_residual-in_err-emit_clauses.ensures.0
    (flat_map (command_line way) (column_commands n k)) (codes "\n" ++ (joins way n k ++ lasts way n k)) c.emit_clauses.new.held.items
    (whole way n k ∙ from_third (codes "c") (numbers n k) (codes "\n") (joins way n k) (lasts way n k))

pub returns-in_err-emit-2-clause-emits : goal.returns-in_err-emit-2-clause-emits
returns-in_err-emit-2-clause-emits g c =
    let n : ℕ = c.args.n in
    let k : ℕ = c.args.column in
    let way : Way = c.args.way in
    fails_within (in_turn (in_turn c.in_ok-emit.ensures.emits refl c.in_ok-emit_clauses.ensures.emits) refl c.in_err-emit-2.ensures.emits)
    refl c.from_residual-in_err-emit-2.ensures.0
    (flat_map (command_line way) (column_commands n k)) (joins way n k ++ lasts way n k) c.emit-2.new.held.items
    (whole way n k ∙ from_fourth (codes "c") (numbers n k) (codes "\n") (joins way n k) (lasts way n k))

pub returns-in_err-emit_conjoining-clause-emits : goal.returns-in_err-emit_conjoining-clause-emits
returns-in_err-emit_conjoining-clause-emits g c =
    let n : ℕ = c.args.n in
    let k : ℕ = c.args.column in
    let way : Way = c.args.way in
    let terms = ap (λ (t : ℕ). flat_map (command_line way) (conjoining t)) c.terms_in_column.ensures.value in
    fails_within (in_turn
    (in_turn (in_turn c.in_ok-emit.ensures.emits refl c.in_ok-emit_clauses.ensures.emits) refl c.in_ok-emit-2.ensures.emits) refl
    (same_text (c.in_err-emit_conjoining.ensures.emits way) terms))
    refl c.from_residual-in_err-emit_conjoining.ensures.0 (flat_map (command_line way) (column_commands n k))
    (lasts way n k) c.emit_conjoining.new.held.items (whole way n k)

pub returns-clause-emits : goal.returns-clause-emits
returns-clause-emits g c =
    let n : ℕ = c.args.n in
    let k : ℕ = c.args.column in
    let way : Way = c.args.way in
    let terms = ap (λ (t : ℕ). flat_map (command_line way) (conjoining t)) c.terms_in_column.ensures.value in
    same_text (in_turn (in_turn
    (in_turn (in_turn c.in_ok-emit.ensures.emits refl c.in_ok-emit_clauses.ensures.emits) refl c.in_ok-emit-2.ensures.emits) refl
    (same_text (c.in_ok-emit_conjoining.ensures.emits way) terms))
    refl c.emit_quantifying.ensures.emits) (sym (whole way n k))
