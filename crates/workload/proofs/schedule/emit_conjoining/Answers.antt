-- What is left to show of `emit_conjoining`.
use Rattle.std.proofs.Common.{◌≡◌, ℕ, ◌≤◌, [], ◌∷◌, ◌++◌, cond, ap, sym, ◌∙◌, refl, arith}
use Rattle.std.specs.Prelude.{codes, decimal}
use Rattle.std.specs.List.{flat_map}
use Rattle.std.proofs.lemmas.Bool.{le-leb}
use Rattle.std.proofs.lemmas.List.{append-nil}
use Rattle.workload.specs.Schedule.{Conjoin, conjoining}
use Rattle.workload.specs.declared.schedule.Way.{Way}
use Rattle.workload.specs.Texts.{command_line}
use Rattle.host_io.proofs.Emitting.{in_turn, fails_within, same_text}
use Rattle.workload.proofs.schedule.emit_conjoining.Goals as goal

line : (way : Way) (terms : ℕ) → 2 ≤ terms → flat_map (command_line way) (conjoining terms) ≡ (codes "a " ++ decimal terms) ++ codes "\n"
line way terms enough =
    ap (λ b. flat_map (command_line way) (cond b (Conjoin terms ∷ []) [])) (le-leb 2 terms enough)
    ∙ append-nil ((codes "a " ++ decimal terms) ++ codes "\n")

pub returns-in_err-emit_number-clause-emits : goal.returns-in_err-emit_number-clause-emits
returns-in_err-emit_number-clause-emits g c = λ way.
    fails_within c.in_err-emit_number.ensures.emits refl c.from_residual.ensures.0 (flat_map (command_line way) (conjoining c.args.terms))
    (codes "\n") c.emit_number.new.held.items (line way c.args.terms (omega arith))

pub returns-clause-emits : goal.returns-clause-emits
returns-clause-emits g c = λ way. same_text (in_turn c.in_ok-emit_number.ensures.emits refl c.emit.ensures.emits)
    (sym (line way c.args.terms (omega arith)))
