-- What is left to show of `emit_addition`.
use Rattle.std.proofs.Common.{◌≡◌, [], ◌∷◌, ◌++◌, ◌∙◌, ap, refl}
use Rattle.std.specs.Prelude.{decimal}
use Rattle.lrat_write.specs.LineText.{literals_text, hints_text, addition_text}
use Rattle.host_io.proofs.Emitting.{in_turn, fails_within, same_text, from_second, from_third, from_fourth}
use Rattle.lrat_write.proofs.step.emit_addition.Goals as goal

pub returns-in_err-emit-clause-emits : goal.returns-in_err-emit-clause-emits
returns-in_err-emit-clause-emits g c =
    let id : c.as_bytes.result.now ≡ decimal c.args.id = c.as_bytes.ensures.value ∙ c.format.ensures.text ∙ ap decimal c.get.ensures in
    let clause = literals_text c.args.clause.now in
    let hints = hints_text c.args.hints.now c.args.groups.now in
    fails_within (same_text c.in_err-emit.ensures.emits id) refl c.from_residual.ensures.0
    (addition_text c.args.id c.args.clause.now c.args.hints.now c.args.groups.now)
    (clause ++ (32 ∷ 48 ∷ [] ++ (hints ++ 32 ∷ 48 ∷ 10 ∷ []))) c.emit.new.held.items
    (from_second (decimal c.args.id) clause (32 ∷ 48 ∷ []) hints (32 ∷ 48 ∷ 10 ∷ []))

pub returns-in_err-emit_literals-clause-emits : goal.returns-in_err-emit_literals-clause-emits
returns-in_err-emit_literals-clause-emits g c =
    let id : c.as_bytes.result.now ≡ decimal c.args.id = c.as_bytes.ensures.value ∙ c.format.ensures.text ∙ ap decimal c.get.ensures in
    let hints = hints_text c.args.hints.now c.args.groups.now in
    fails_within (in_turn (same_text c.in_ok-emit.ensures.emits id) refl c.in_err-emit_literals.ensures.emits) refl
    c.from_residual-in_err-emit_literals.ensures.0
    (addition_text c.args.id c.args.clause.now c.args.hints.now c.args.groups.now)
    (32 ∷ 48 ∷ [] ++ (hints ++ 32 ∷ 48 ∷ 10 ∷ [])) c.emit_literals.new.held.items
    (from_third (decimal c.args.id) (literals_text c.args.clause.now) (32 ∷ 48 ∷ []) hints (32 ∷ 48 ∷ 10 ∷ []))

pub returns-in_err-emit-2-clause-emits : goal.returns-in_err-emit-2-clause-emits
returns-in_err-emit-2-clause-emits g c =
    let id : c.as_bytes.result.now ≡ decimal c.args.id = c.as_bytes.ensures.value ∙ c.format.ensures.text ∙ ap decimal c.get.ensures in
    let hints = hints_text c.args.hints.now c.args.groups.now in
    fails_within (in_turn (in_turn (same_text c.in_ok-emit.ensures.emits id) refl c.in_ok-emit_literals.ensures.emits) refl
    c.in_err-emit-2.ensures.emits) refl c.from_residual-in_err-emit-2.ensures.0
    (addition_text c.args.id c.args.clause.now c.args.hints.now c.args.groups.now)
    (hints ++ 32 ∷ 48 ∷ 10 ∷ []) c.emit-2.new.held.items (from_fourth (decimal c.args.id) (literals_text c.args.clause.now) (32 ∷ 48
    ∷ []) hints (32 ∷ 48 ∷ 10 ∷ []))

pub returns-in_err-emit_hints-clause-emits : goal.returns-in_err-emit_hints-clause-emits
returns-in_err-emit_hints-clause-emits g c =
    let id : c.as_bytes.result.now ≡ decimal c.args.id = c.as_bytes.ensures.value ∙ c.format.ensures.text ∙ ap decimal c.get.ensures in
    fails_within (in_turn
    (in_turn (in_turn (same_text c.in_ok-emit.ensures.emits id) refl c.in_ok-emit_literals.ensures.emits) refl
    c.in_ok-emit-2.ensures.emits) refl c.in_err-emit_hints.ensures.emits)
    refl c.from_residual-in_err-emit_hints.ensures.0 (addition_text c.args.id c.args.clause.now c.args.hints.now c.args.groups.now)
    (32 ∷ 48 ∷ 10 ∷ []) c.emit_hints.new.held.items refl

pub returns-clause-emits : goal.returns-clause-emits
returns-clause-emits g c =
    let id : c.as_bytes.result.now ≡ decimal c.args.id = c.as_bytes.ensures.value ∙ c.format.ensures.text ∙ ap decimal c.get.ensures in
    in_turn (in_turn (in_turn (in_turn (same_text c.in_ok-emit.ensures.emits id) refl c.in_ok-emit_literals.ensures.emits) refl
    c.in_ok-emit-2.ensures.emits) refl c.in_ok-emit_hints.ensures.emits) refl c.emit-3.ensures.emits
