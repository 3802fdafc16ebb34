-- What is left to show of `emit_literals`.
use Rattle.std.proofs.Common.{◌≡◌, ℕ, ℤ, List, map, ◌∙◌, sym, ap, refl}
use Rattle.std.specs.List.{flat_map}
use Rattle.std.proofs.lemmas.List.{take_all}
use Rattle.std.proofs.lemmas.List.Folds.{flat_map-map}
use Rattle.drat_text.specs.LineText.{literal_text}
use Rattle.fresh_names.specs.Fresh.{named}
use Rattle.fresh_names.specs.Renaming.{name_of}
use Rattle.host_io.proofs.Emitting.{one_more, fails_at, same_text}
use Rattle.drat_proof.proofs.line.emit_literals.Goals as goal

-- the text of a literal by its name
abbrev by_name : (ℕ → ℕ) → ℤ → List ℕ
by_name name literal = literal_text (named name literal)

all_by_name : (name : ℕ → ℕ) (clause : List ℤ) → flat_map (by_name name) clause ≡ flat_map literal_text (map (named name) clause)
all_by_name name clause = sym (flat_map-map literal_text (named name) clause)

pub returns-in_err-emit_literal-clause-emits : goal.returns-in_err-emit_literal-clause-emits
returns-in_err-emit_literal-clause-emits g c =
    let name : ℕ → ℕ = name_of c.args.renaming.now in
    same_text (fails_at (by_name name) c.args.clause.now c.loop-literal.literal-index c.literal-item.result c.emit_literal.new.held.items
    c.loop-literal-test.true c.loop-literal.invariant.0
    (ap (by_name name) c.literal-item.is) (same_text c.in_err-emit_literal.ensures.emits (ap literal_text c.literal.ensures)) refl
    c.from_residual.ensures.0) (all_by_name name c.args.clause.now)

pub loop-literal-preserved : goal.loop-literal-preserved
loop-literal-preserved g c =
    let name : ℕ → ℕ = name_of c.args.renaming.now in (
      one_more (by_name name) c.args.clause.now c.loop-literal.literal-index c.literal-item.result c.loop-literal-test.true
          c.loop-literal.invariant.0 (ap (by_name name) c.literal-item.is)
          (same_text c.in_ok-emit_literal.ensures.emits (ap literal_text c.literal.ensures)),
      c.in_ok-emit_literal.ensures.beside ∙ c.loop-literal.invariant.1,
    )

pub returns-clause-emits : goal.returns-clause-emits
returns-clause-emits g c =
    let name : ℕ → ℕ = name_of c.args.renaming.now in
    same_text c.loop-literal.invariant.0 (ap (flat_map (by_name name))
    (take_all c.loop-literal.literal-index c.args.clause.now c.loop-literal-test.false) ∙ all_by_name name c.args.clause.now)
