-- What is left to show of `Ledger::add`: its step keeps the proof one, and its line stands behind the others, or a front of it.
use Rattle.std.proofs.Common.{◌≡◌, ◌≤◌, ℕ, ◌+◌, ◌++◌, ◌∷◌, [], None, Ok, Err, Bool, true, false, refl, sym, ◌∙◌, ap, subst, arith}
use Rattle.cnf_base.specs.declared.step.Step.TheVariants.{Add}
use Rattle.cnf_base.specs.ProofText.{is_printable, line_of_step, max_id}
use Rattle.host_io.specs.Channel.{WritesAll}
use Rattle.lrat_rules.specs.Addition.{fault}
use Rattle.lrat_rules.specs.Strict.{RefutesStrictly}
use Rattle.clause_ledger.specs.Book.{Book, IsProofOf, IsSince, with_next}
use Rattle.clause_ledger.specs.History.{Story}
use Rattle.clause_ledger.proofs.Added.{addition_proof, hints_printable}
use Rattle.clause_ledger.proofs.Written.{AreOf, written_cut, written_whole}
use Rattle.clause_ledger.proofs.ledger.Ledger.add.Given.{Over}
use Rattle.clause_ledger.proofs.ledger.Ledger.add.Goals as goal
use Rattle.clause_ledger.proofs.ledger.Ledger.add.Goals.{After-write_add}

abbrev story : (g : Over) → After-write_add g → Story
story g c = c.self.inside.history.story

next_is : (g : Over) (c : After-write_add g) → c.in_ok-id.id ≡ (story g c).state.top + 1
next_is g c = c.in_ok-id.ensures.next.0 ∙ sym (ap (λ (b : Book g.row.S.Denot). b.state.top + 1) c.self.view_is)

small : (g : Over) (c : After-write_add g) → (story g c).state.top + 1 ≤ max_id
small g c =
    let next = next_is g c in
    let few : c.in_ok-id.id ≤ max_id = c.in_ok-id.ensures.next.1 in
    omega (arith, next, few)

proof : (g : Over) (c : After-write_add g) → IsProofOf (story g c).formula
    ((story g c).steps ++ Add ((story g c).state.top + 1) c.args.clause.now c.args.hints.now [] ∷ [])
    (with_next (story g c).state c.args.clause.now)
proof g c =
    let state = (story g c).state in
    let strict = subst (λ (b : Book g.row.S.Denot). RefutesStrictly b.state.live c.args.clause.now c.args.hints.now) (sym c.self.view_is)
    c.requires.strict in
    let good : fault state (state.top + 1) c.args.clause.now c.args.hints.now [] ≡ None = c.strict_addition_law.ensures.good state
    (state.top + 1) c.args.clause.now c.args.hints.now (omega arith) strict in
    let printable : is_printable (Add (state.top + 1) c.args.clause.now c.args.hints.now []) ≡ true =
    hints_printable state.live state.top c.self.invariant.3.numbers (small g c) c.args.clause.now c.write_add.ensures.range
    c.args.hints.now (c.strict_addition_law.ensures.live state.live c.args.clause.now c.args.hints.now strict) in
    addition_proof c.live_law.ensures c.derivation_law.ensures.one_more (story g c).formula (story g c).steps state c.args.clause.now
    c.args.hints.now [] good printable c.self.invariant.3

in_step : (g : Over) (c : After-write_add g) → c.self.inside.in_step ≡ true
in_step g c = ap (λ (b : Book g.row.S.Denot). b.in_step) c.self.view_is ∙ c.requires.in_step

since : (g : Over) (c : After-write_add g) → IsSince g.S.Sink.tells true (story g c).finished (story g c).steps
    (g.S.Sink.channel c.self.inside.origin.value) (g.S.Sink.channel c.self.inside.sink)
since g c = subst (λ (b : Bool). IsSince g.S.Sink.tells b (story g c).finished (story g c).steps
    (g.S.Sink.channel c.self.inside.origin.value) (g.S.Sink.channel c.self.inside.sink)) (in_step g c) c.self.invariant.4

pub invariant_of-self-in-Ok : goal.invariant_of-self-in-Ok
invariant_of-self-in-Ok g c =
    let after = (goal.at.invariant_of-self-in-Ok g c).After-write_add in
    let was = story g after in
    let whole = written_whole c.derivation_law.ensures.text g.S.Sink.tells was.finished was.steps _
    (g.S.Sink.channel c.self.inside.origin.value) (g.S.Sink.channel c.self.inside.sink) (g.S.Sink.channel c.write_add.new.sink) _
    (since g after) (subst (λ (n : ℕ). WritesAll g.S.Sink.tells (g.S.Sink.channel c.self.inside.sink) (g.S.Sink.channel c.write_add.new.sink)
    (line_of_step (Add n c.args.clause.now c.args.hints.now [])) (Ok c.in-Ok.field-0)) (next_is g after) c.in-Ok.ensures.writes) refl in
    let is = subst (AreOf g.S.Sink.tells true (g.S.Sink.channel c.self.inside.origin.value) (g.S.Sink.channel c.write_add.new.sink)
    c.push_kept.new.kept c.get-self-inside.result) (sym c.then-self-inside.ensures) (
      sym (next_is g after) ∙ sym c.get-self-inside.ensures,
      proof g after,
      whole,
      c.in_ok-push_kept.ensures.kept was.state c.self.invariant.6,
    ) in (
      c.self.invariant.0,
      omega (arith, c.get-self-inside.ensures, next_is g after, small g after),
      is.0,
      is.1,
      subst (λ (b : Bool). IsSince g.S.Sink.tells b c.then-self-inside.result.story.finished c.then-self-inside.result.story.steps
          (g.S.Sink.channel c.self.inside.origin.value) (g.S.Sink.channel c.write_add.new.sink)) (sym (in_step g after)) is.2,
      c.write_add.ensures.beside ∙ c.self.invariant.5,
      is.3,
    )

pub invariant_of-self-in-Err : goal.invariant_of-self-in-Err
invariant_of-self-in-Err g c =
    let after = (goal.at.invariant_of-self-in-Err g c).After-write_add in
    let was = story g after in
    let cut = written_cut c.derivation_law.ensures.text g.S.Sink.tells was.finished was.steps _
    (g.S.Sink.channel c.self.inside.origin.value) (g.S.Sink.channel c.self.inside.sink) (g.S.Sink.channel c.write_add.new.sink) _
    (since g after) (subst (λ (n : ℕ). WritesAll g.S.Sink.tells (g.S.Sink.channel c.self.inside.sink) (g.S.Sink.channel c.write_add.new.sink)
    (line_of_step (Add n c.args.clause.now c.args.hints.now [])) (Err c.in-Err.field-0)) (next_is g after) c.in-Err.ensures.writes) refl in
    let is = subst (AreOf g.S.Sink.tells false (g.S.Sink.channel c.self.inside.origin.value) (g.S.Sink.channel c.write_add.new.sink)
    c.push_kept.new.kept c.get-self-inside.result) (sym c.then-self-inside.ensures) (
      sym (next_is g after) ∙ sym c.get-self-inside.ensures,
      proof g after,
      cut,
      c.in_ok-push_kept.ensures.kept was.state c.self.invariant.6,
    ) in (
      c.self.invariant.0,
      omega (arith, c.get-self-inside.ensures, next_is g after, small g after),
      is.0,
      is.1,
      subst (λ (b : Bool). IsSince g.S.Sink.tells b c.then-self-inside.result.story.finished c.then-self-inside.result.story.steps
          (g.S.Sink.channel c.self.inside.origin.value) (g.S.Sink.channel c.write_add.new.sink)) (sym c.put_out.ensures.out_of_step) is.2,
      c.write_add.ensures.beside ∙ c.self.invariant.5,
      is.3,
    )
