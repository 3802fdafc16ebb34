-- What is left to show of `emit_deletion`.
use Rattle.std.proofs.Common.{◌≡◌, [], ◌∷◌, ◌++◌, ◌∙◌, ap, refl, append_assoc}
use Rattle.std.specs.Prelude.{decimal}
use Rattle.lrat_write.specs.LineText.{ids_text, deletion_text}
use Rattle.host_io.proofs.Emitting.{in_turn, fails_within, same_text, from_second-4}
use Rattle.lrat_write.proofs.line.emit_deletion.Goals as goal

pub returns-in_err-emit-clause-emits : goal.returns-in_err-emit-clause-emits
returns-in_err-emit-clause-emits g c =
    let id : c.as_bytes.result.now ≡ decimal c.args.id = c.as_bytes.ensures.value ∙ c.format.ensures.text ∙ ap decimal c.get.ensures in
    let ids = ids_text (32 ∷ []) c.args.ids.now in
    fails_within (same_text c.in_err-emit.ensures.emits id) refl c.from_residual.ensures.0 (deletion_text c.args.id c.args.ids.now)
    (32 ∷ 100 ∷ [] ++ (ids ++ 32 ∷ 48 ∷ 10 ∷ [])) c.emit.new.held.items
    (from_second-4 (decimal c.args.id) (32 ∷ 100 ∷ []) ids (32 ∷ 48 ∷ 10 ∷ []))

pub returns-in_err-emit-2-clause-emits : goal.returns-in_err-emit-2-clause-emits
returns-in_err-emit-2-clause-emits g c =
    let id : c.as_bytes.result.now ≡ decimal c.args.id = c.as_bytes.ensures.value ∙ c.format.ensures.text ∙ ap decimal c.get.ensures in
    let ids = ids_text (32 ∷ []) c.args.ids.now in
    fails_within (in_turn (same_text c.in_ok-emit.ensures.emits id) refl c.in_err-emit-2.ensures.emits) refl
    c.from_residual-in_err-emit-2.ensures.0 (deletion_text c.args.id c.args.ids.now)
    (ids ++ 32 ∷ 48 ∷ 10 ∷ []) c.emit-2.new.held.items (append_assoc (decimal c.args.id ++ 32 ∷ 100 ∷ []) ids (32 ∷ 48 ∷ 10 ∷ []))

pub returns-in_err-emit_ids-clause-emits : goal.returns-in_err-emit_ids-clause-emits
returns-in_err-emit_ids-clause-emits g c =
    let id : c.as_bytes.result.now ≡ decimal c.args.id = c.as_bytes.ensures.value ∙ c.format.ensures.text ∙ ap decimal c.get.ensures in
    fails_within (in_turn (in_turn (same_text c.in_ok-emit.ensures.emits id) refl c.in_ok-emit-2.ensures.emits) refl
    c.in_err-emit_ids.ensures.emits)
    refl c.from_residual-in_err-emit_ids.ensures.0 (deletion_text c.args.id c.args.ids.now) (32 ∷ 48 ∷ 10
    ∷ []) c.emit_ids.new.held.items refl

pub returns-clause-emits : goal.returns-clause-emits
returns-clause-emits g c =
    let id : c.as_bytes.result.now ≡ decimal c.args.id = c.as_bytes.ensures.value ∙ c.format.ensures.text ∙ ap decimal c.get.ensures in
    in_turn (in_turn (in_turn (same_text c.in_ok-emit.ensures.emits id) refl c.in_ok-emit-2.ensures.emits) refl
    c.in_ok-emit_ids.ensures.emits) refl c.emit-3.ensures.emits
