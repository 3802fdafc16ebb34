-- What is left to show of `Ledger::define`: its step keeps the proof one, and its line stands behind the others, or a front of it.
use Rattle.std.proofs.Common.{◌≡◌, ◌≤◌, ℕ, ◌+◌, ◌++◌, ◌∷◌, [], None, Ok, Err, Bool, true, false, refl, sym, ◌∙◌, ap, subst, arith}
use Rattle.cnf_base.specs.declared.step.Step.TheVariants.{Add}
use Rattle.cnf_base.specs.ProofText.{is_printable, line_of_step, max_id}
use Rattle.host_io.specs.Channel.{WritesAll}
use Rattle.lrat_rules.specs.Addition.{fault}
use Rattle.lrat_rules.specs.Strict.{IsDefinition}
use Rattle.lrat_write.specs.LineText.{bare_groups}
use Rattle.clause_ledger.specs.Book.{Book, IsProofOf, IsSince, with_next}
use Rattle.clause_ledger.specs.History.{Story}
use Rattle.clause_ledger.proofs.Added.{addition_proof, candidates_in_range, candidates_printable}
use Rattle.clause_ledger.proofs.Written.{AreOf, written_cut, written_whole}
use Rattle.clause_ledger.proofs.ledger.Ledger.define.Given.{Over}
use Rattle.clause_ledger.proofs.ledger.Ledger.define.Goals as goal
use Rattle.clause_ledger.proofs.ledger.Ledger.define.Goals.{After-write_define}

abbrev story : (g : Over) → After-write_define g → Story
story g c = c.self.inside.history.story

next_is : (g : Over) (c : After-write_define g) → c.in_ok-id.id ≡ (story g c).state.top + 1
next_is g c = c.in_ok-id.ensures.next.0 ∙ sym (ap (λ (b : Book g.row.S.Denot). b.state.top + 1) c.self.view_is)

small : (g : Over) (c : After-write_define g) → (story g c).state.top + 1 ≤ max_id
small g c =
    let next = next_is g c in
    let few : c.in_ok-id.id ≤ max_id = c.in_ok-id.ensures.next.1 in
    omega (arith, next, few)

definition : (g : Over) (c : After-write_define g) → IsDefinition (story g c).state.live c.args.clause.now c.args.candidates.now
definition g c = subst (λ (b : Book g.row.S.Denot). IsDefinition b.state.live c.args.clause.now c.args.candidates.now) (sym c.self.view_is)
    c.requires.definition

proof : (g : Over) (c : After-write_define g) → IsProofOf (story g c).formula
    ((story g c).steps ++ Add ((story g c).state.top + 1) c.args.clause.now [] (bare_groups c.args.candidates.now) ∷ [])
    (with_next (story g c).state c.args.clause.now)
proof g c =
    let state = (story g c).state in
    let good : fault state (state.top + 1) c.args.clause.now [] (bare_groups c.args.candidates.now) ≡ None = c.definition_law.ensures state
    (state.top + 1) c.args.clause.now c.args.candidates.now (omega arith) (definition g c) in
    let printable : is_printable (Add (state.top + 1) c.args.clause.now [] (bare_groups c.args.candidates.now)) ≡ true =
    candidates_printable state.live state.top c.self.invariant.3.numbers (small g c) c.args.clause.now c.write_define.ensures.range
    c.args.candidates.now (definition g c) in
    addition_proof c.live_law.ensures c.derivation_law.ensures.one_more (story g c).formula (story g c).steps state c.args.clause.now
    [] (bare_groups c.args.candidates.now) good printable c.self.invariant.3

in_step : (g : Over) (c : After-write_define g) → c.self.inside.in_step ≡ true
in_step g c = ap (λ (b : Book g.row.S.Denot). b.in_step) c.self.view_is ∙ c.requires.in_step

since : (g : Over) (c : After-write_define g) → IsSince g.S.Sink.tells true (story g c).finished (story g c).steps
    (g.S.Sink.channel c.self.inside.origin.value) (g.S.Sink.channel c.self.inside.sink)
since g c = subst (λ (b : Bool). IsSince g.S.Sink.tells b (story g c).finished (story g c).steps
    (g.S.Sink.channel c.self.inside.origin.value) (g.S.Sink.channel c.self.inside.sink)) (in_step g c) c.self.invariant.4

pub invariant_of-self-in-Ok : goal.invariant_of-self-in-Ok
invariant_of-self-in-Ok g c =
    let after = (goal.at.invariant_of-self-in-Ok g c).After-write_define in
    let was = story g after in
    let whole = written_whole c.derivation_law.ensures.text g.S.Sink.tells was.finished was.steps _
    (g.S.Sink.channel c.self.inside.origin.value) (g.S.Sink.channel c.self.inside.sink) (g.S.Sink.channel c.write_define.new.sink) _
    (since g after) (subst (λ (n : ℕ). WritesAll g.S.Sink.tells (g.S.Sink.channel c.self.inside.sink) (g.S.Sink.channel c.write_define.new.sink)
    (line_of_step (Add n c.args.clause.now [] (bare_groups c.args.candidates.now))) (Ok c.in-Ok.field-0)) (next_is g after) c.in-Ok.ensures.writes) refl in
    let is = subst (AreOf g.S.Sink.tells true (g.S.Sink.channel c.self.inside.origin.value) (g.S.Sink.channel c.write_define.new.sink)
    c.push_kept.new.kept c.get-self-inside.result) (sym c.then-self-inside.ensures) (
      sym (next_is g after) ∙ sym c.get-self-inside.ensures,
      proof g after,
      whole,
      c.in_ok-push_kept.ensures.kept was.state c.self.invariant.6,
    ) in (
      c.self.invariant.0,
      omega (arith, c.get-self-inside.ensures, next_is g after, small g after),
      is.0,
      is.1,
      subst (λ (b : Bool). IsSince g.S.Sink.tells b c.then-self-inside.result.story.finished c.then-self-inside.result.story.steps
          (g.S.Sink.channel c.self.inside.origin.value) (g.S.Sink.channel c.write_define.new.sink)) (sym (in_step g after)) is.2,
      c.write_define.ensures.beside ∙ c.self.invariant.5,
      is.3,
    )

pub invariant_of-self-in-Err : goal.invariant_of-self-in-Err
invariant_of-self-in-Err g c =
    let after = (goal.at.invariant_of-self-in-Err g c).After-write_define in
    let was = story g after in
    let cut = written_cut c.derivation_law.ensures.text g.S.Sink.tells was.finished was.steps _
    (g.S.Sink.channel c.self.inside.origin.value) (g.S.Sink.channel c.self.inside.sink) (g.S.Sink.channel c.write_define.new.sink) _
    (since g after) (subst (λ (n : ℕ). WritesAll g.S.Sink.tells (g.S.Sink.channel c.self.inside.sink) (g.S.Sink.channel c.write_define.new.sink)
    (line_of_step (Add n c.args.clause.now [] (bare_groups c.args.candidates.now))) (Err c.in-Err.field-0)) (next_is g after) c.in-Err.ensures.writes) refl in
    let is = subst (AreOf g.S.Sink.tells false (g.S.Sink.channel c.self.inside.origin.value) (g.S.Sink.channel c.write_define.new.sink)
    c.push_kept.new.kept c.get-self-inside.result) (sym c.then-self-inside.ensures) (
      sym (next_is g after) ∙ sym c.get-self-inside.ensures,
      proof g after,
      cut,
      c.in_ok-push_kept.ensures.kept was.state c.self.invariant.6,
    ) in (
      c.self.invariant.0,
      omega (arith, c.get-self-inside.ensures, next_is g after, small g after),
      is.0,
      is.1,
      subst (λ (b : Bool). IsSince g.S.Sink.tells b c.then-self-inside.result.story.finished c.then-self-inside.result.story.steps
          (g.S.Sink.channel c.self.inside.origin.value) (g.S.Sink.channel c.write_define.new.sink)) (sym c.put_out.ensures.out_of_step) is.2,
      c.write_define.ensures.beside ∙ c.self.invariant.5,
      is.3,
    )

pub write_define-requires : goal.write_define-requires
write_define-requires g c =
    let state = c.self.inside.history.story.state in
    let next : c.in_ok-id.id ≡ state.top + 1 = c.in_ok-id.ensures.next.0
    ∙ sym (ap (λ (b : Book g.row.S.Denot). b.state.top + 1) c.self.view_is) in
    let few : c.in_ok-id.id ≤ max_id = c.in_ok-id.ensures.next.1 in
    candidates_in_range state.live state.top c.self.invariant.3.numbers (omega (arith, next, few)) c.args.clause.now c.args.candidates.now
    (subst (λ (b : Book g.row.S.Denot). IsDefinition b.state.live c.args.clause.now c.args.candidates.now) (sym c.self.view_is)
    c.requires.definition)
