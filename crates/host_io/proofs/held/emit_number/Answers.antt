-- What is left to show of `emit_number`.
use Rattle.std.proofs.Common.{◌++◌, List, ℕ, ◌∙◌, ap, refl}
use Rattle.host_io.proofs.Emitting.{in_turn, fails_within, same_text}
use Rattle.host_io.proofs.held.emit_number.Goals as goal

pub returns-in_err-emit-clause-emits : goal.returns-in_err-emit-clause-emits
returns-in_err-emit-clause-emits g c =
    fails_within c.in_err-emit.ensures.emits refl c.from_residual.ensures.0 (c.args.lead.now
    ++ g.I.Integer.text c.args.number) (g.I.Integer.text c.args.number) c.emit.new.held.items refl

pub returns-clause-emits : goal.returns-clause-emits
returns-clause-emits g c =
    same_text (in_turn c.in_ok-emit.ensures.emits refl c.emit-2.ensures.emits)
    (ap (λ (l : List ℕ). c.args.lead.now ++ l) (c.as_bytes.ensures.value ∙ c.format.ensures.text))
