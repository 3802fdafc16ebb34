-- What is left to show of `emit`.
use Rattle.std.proofs.Common.{[], ◌++◌, List, ℕ, sym, ◌∙◌, ap, refl}
use Rattle.host_io.proofs.Emitting.{cut_short, in_turn, all_at_once}
use Rattle.host_io.proofs.held.emit.Goals as goal

pub returns-in_err-write_all-in-Err-clause-emits : goal.returns-in_err-write_all-in-Err-clause-emits
returns-in_err-write_all-in-Err-clause-emits g c =
    cut_short c.in_err-write_all-in-Err.ensures.writes refl c.from_residual.ensures.0 c.args.held.now.items c.args.piece.now
    c.try_extend_from_slice.new.self.items c.args.piece.now
    (ap (λ (l : List ℕ). l ++ c.args.piece.now) (sym (c.as_slice.ensures.value ∙ ap (λ v. v.items) c.in-Err.ensures.err)))

pub returns-in_ok-write_all-in-Err-clause-emits : goal.returns-in_ok-write_all-in-Err-clause-emits
returns-in_ok-write_all-in-Err-clause-emits g c =
    let first = all_at_once c.in_ok-write_all-in-Err.ensures.writes refl c.args.held.now.items [] c.clear.new.self.items
    (ap (λ (l : List ℕ). l ++ []) (sym (c.as_slice.ensures.value ∙ ap (λ v. v.items) c.in-Err.ensures.err))
    ∙ ap (λ (l : List ℕ). c.as_slice.result.now ++ l) (sym c.clear.ensures)) in
    in_turn first refl c.emit_first.ensures.emits
