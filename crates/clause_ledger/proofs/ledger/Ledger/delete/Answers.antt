-- What is left to show of `Ledger::delete`: its step keeps the proof one, and its line stands behind the others, or a front of it.
use Rattle.std.proofs.Common.{◌≡◌, ◌==◌, ◌++◌, ◌∷◌, ℕ, List, [], Ok, Err, Bool, true, false, refl, sym, ◌∙◌, ap, subst, arith}
use Rattle.std.specs.Prelude.{length}
use Rattle.cnf_base.specs.declared.step.Step.{Step}
use Rattle.cnf_base.specs.declared.step.Step.TheVariants.{Delete}
use Rattle.cnf_base.specs.ProofText.{line_of_step}
use Rattle.host_io.specs.Channel.{WritesAll}
use Rattle.lrat_rules.specs.Derivation.{are_added}
use Rattle.clause_ledger.specs.Book.{Book, IsProofOf, IsSince}
use Rattle.clause_ledger.specs.History.{Story, with_steps}
use Rattle.clause_ledger.proofs.Deleted.{deletion_proof, one_deletion, without}
use Rattle.clause_ledger.proofs.Written.{AreOf, written_cut, written_whole}
use Rattle.clause_ledger.proofs.ledger.Ledger.delete.Given.{Over}
use Rattle.clause_ledger.proofs.ledger.Ledger.delete.Goals as goal
use Rattle.clause_ledger.proofs.ledger.Ledger.delete.Goals.{After-write_delete}

abbrev story : (g : Over) → After-write_delete g → Story
story g c = c.self.inside.history.story

abbrev step : (g : Over) → After-write_delete g → Step
step g c = Delete (story g c).state.top c.args.ids.now

in_step : (g : Over) (c : After-write_delete g) → c.self.inside.in_step ≡ true
in_step g c = ap (λ (b : Book g.row.S.Denot). b.in_step) c.self.view_is ∙ c.requires.in_step

since : (g : Over) (c : After-write_delete g) → IsSince g.S.Sink.tells true (story g c).finished (story g c).steps
    (g.S.Sink.channel c.self.inside.origin.value) (g.S.Sink.channel c.self.inside.sink)
since g c = subst (λ (b : Bool). IsSince g.S.Sink.tells b (story g c).finished (story g c).steps
    (g.S.Sink.channel c.self.inside.origin.value) (g.S.Sink.channel c.self.inside.sink)) (in_step g c) c.self.invariant.4

some_ids : (g : Over) (c : After-write_delete g) → c.args.ids.now ≡ [] → ⊥
some_ids g c none = let e : true ≡ false = sym (c.is_empty.ensures ∙ ap (λ (ids : List ℕ). length ids == 0) none) ∙ c.if-is_empty.false in
    cc

proof : (g : Over) (c : After-write_delete g) → IsProofOf (story g c).formula ((story g c).steps ++ step g c ∷ [])
    (without (story g c).state c.args.ids.now)
proof g c =
    let was = story g c in
    let added = subst (λ (b : Book g.row.S.Denot). are_added (length b.formula) b.state.live c.args.ids.now ≡ true) (sym c.self.view_is)
    c.requires.live in
    deletion_proof c.derivation_law.ensures.one_more was.formula was.steps was.state c.args.ids.now
    (omega (arith, c.self.invariant.1, c.self.invariant.2)) (some_ids g c) added c.self.invariant.3

-- the story goes on by one step
more : (g : Over) (c : After-write_delete g) → with_steps (story g c) (step g c ∷ []) ≡ c.then-self-inside.result.story
more g c = ap (with_steps (story g c)) (sym (one_deletion (story g c).state c.args.ids.now (some_ids g c))) ∙ sym c.then-self-inside.ensures

pub invariant_of-self : goal.invariant_of-self
invariant_of-self g c =
    let after = (goal.at.invariant_of-self g c).After-write_delete in
    let was = story g after in
    let whole = written_whole c.derivation_law.ensures.text g.S.Sink.tells was.finished was.steps (step g after)
    (g.S.Sink.channel c.self.inside.origin.value) (g.S.Sink.channel c.self.inside.sink) (g.S.Sink.channel c.write_delete.new.sink)
    (Ok c.in-Ok.field-0) (since g after)
    (subst (λ (n : ℕ). WritesAll g.S.Sink.tells (g.S.Sink.channel c.self.inside.sink) (g.S.Sink.channel c.write_delete.new.sink)
    (line_of_step (Delete n c.args.ids.now)) (Ok c.in-Ok.field-0)) (sym c.self.invariant.2) c.in-Ok.ensures.writes) refl in
    let is = subst (AreOf g.S.Sink.tells true (g.S.Sink.channel c.self.inside.origin.value) (g.S.Sink.channel c.write_delete.new.sink)
    c.remove_kept.new.kept c.self.inside.top) (more g after)
    (c.self.invariant.2, proof g after, whole, c.remove_kept.ensures.kept was.state c.self.invariant.6) in (
      c.self.invariant.0,
      c.self.invariant.1,
      is.0,
      is.1,
      subst (λ (b : Bool). IsSince g.S.Sink.tells b c.then-self-inside.result.story.finished c.then-self-inside.result.story.steps
          (g.S.Sink.channel c.self.inside.origin.value) (g.S.Sink.channel c.write_delete.new.sink)) (sym (in_step g after)) is.2,
      c.write_delete.ensures.beside ∙ c.self.invariant.5,
      is.3,
    )

pub invariant_of-self-in-Err : goal.invariant_of-self-in-Err
invariant_of-self-in-Err g c =
    let after = (goal.at.invariant_of-self-in-Err g c).After-write_delete in
    let was = story g after in
    let cut = written_cut c.derivation_law.ensures.text g.S.Sink.tells was.finished was.steps (step g after)
    (g.S.Sink.channel c.self.inside.origin.value) (g.S.Sink.channel c.self.inside.sink) (g.S.Sink.channel c.write_delete.new.sink)
    (Err c.in-Err.field-0) (since g after)
    (subst (λ (n : ℕ). WritesAll g.S.Sink.tells (g.S.Sink.channel c.self.inside.sink) (g.S.Sink.channel c.write_delete.new.sink)
    (line_of_step (Delete n c.args.ids.now)) (Err c.in-Err.field-0)) (sym c.self.invariant.2) c.in-Err.ensures.writes) refl in
    let is = subst (AreOf g.S.Sink.tells false (g.S.Sink.channel c.self.inside.origin.value) (g.S.Sink.channel c.write_delete.new.sink)
    c.remove_kept.new.kept c.self.inside.top) (more g after)
    (c.self.invariant.2, proof g after, cut, c.remove_kept.ensures.kept was.state c.self.invariant.6) in (
      c.self.invariant.0,
      c.self.invariant.1,
      is.0,
      is.1,
      subst (λ (b : Bool). IsSince g.S.Sink.tells b c.then-self-inside.result.story.finished c.then-self-inside.result.story.steps
          (g.S.Sink.channel c.self.inside.origin.value) (g.S.Sink.channel c.write_delete.new.sink)) (sym c.put_out.ensures.out_of_step) is.2,
      c.write_delete.ensures.beside ∙ c.self.invariant.5,
      is.3,
    )
