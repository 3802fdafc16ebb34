-- What is left to show of `emit_following`.
use Rattle.std.proofs.Common.{◌≡◌, ℕ, suc, ◌+◌, ◌-◌, ◌≤◌, ◌∷◌, [], ◌++◌, List, ap, sym, ◌∙◌, refl, arith}
use Rattle.std.specs.List.{flat_map}
use Rattle.std.proofs.lemmas.List.{append-nil}
use Rattle.std.proofs.lemmas.Grind.{flat_map-append}
use Rattle.workload.specs.Schedule.{following}
use Rattle.workload.specs.Texts.{spaced}
use Rattle.workload.proofs.Steps.{following_next, following_split}
use Rattle.host_io.proofs.Emitting.{in_turn, fails_within, same_text}
use Rattle.workload.proofs.schedule.emit_following.Goals as goal

one_more : (start clause : ℕ) → start ≤ clause → flat_map spaced (following start (clause + 1 - start))
    ≡ flat_map spaced (following start (clause - start)) ++ spaced (clause + 1)
one_more start clause small =
    let count : ℕ = clause - start in
    let next : clause + 1 - start ≡ suc count = omega (arith, small) in
    let number : suc (start + count) ≡ clause + 1 = omega (arith, small) in
    ap (λ (k : ℕ). flat_map spaced (following start k)) next ∙ ap (flat_map spaced) (following_next start count
    ∙ ap (λ (k : ℕ). following start count ++ k ∷ []) number)
    ∙ flat_map-append spaced (following start count) ((clause + 1) ∷ [])
    ∙ ap (λ (l : List ℕ). flat_map spaced (following start count) ++ l) (append-nil (spaced (clause + 1)))

pub returns-in_err-emit_number-clause-emits : goal.returns-in_err-emit_number-clause-emits
returns-in_err-emit_number-clause-emits g c =
    let start : ℕ = c.args.start in
    let clause : ℕ = c.loop-clause.clause in
    let done : ℕ = clause + 1 - start in
    let all : done + (c.args.count - done) ≡ c.args.count = omega arith in
    fails_within (same_text (in_turn c.loop-clause.invariant.0 refl c.in_err-emit_number.ensures.emits)
    (sym (one_more start clause (omega arith)))) refl c.from_residual.ensures.0
    (flat_map spaced (following start c.args.count)) (flat_map spaced
    (following (start + done) (c.args.count - done))) c.emit_number.new.held.items
    (ap (λ (k : ℕ). flat_map spaced (following start k)) (sym all) ∙ ap (flat_map spaced) (following_split start done (c.args.count - done))
    ∙ flat_map-append spaced (following start done) (following (start + done) (c.args.count - done)))

pub loop-clause-preserved : goal.loop-clause-preserved
loop-clause-preserved g c = (
  same_text (in_turn c.loop-clause.invariant.0 refl c.in_ok-emit_number.ensures.emits)
      (sym (one_more c.args.start c.loop-clause.clause (omega arith))),
  c.in_ok-emit_number.ensures.beside ∙ c.loop-clause.invariant.1,
)

pub returns-clause-emits : goal.returns-clause-emits
returns-clause-emits g c =
    let all : c.loop-clause.clause - c.args.start ≡ c.args.count = omega arith in
    same_text c.loop-clause.invariant.0 (ap (λ (k : ℕ). flat_map spaced (following c.args.start k)) all)
