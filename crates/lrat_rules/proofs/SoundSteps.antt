-- Steps and runs are sound.
use Rattle.std.proofs.Common.{◌≡◌, ℕ, ◌+◌, Bool, true, false, cond, ℤ, List, [], ◌∷◌, Option, None, Some, if◌then◌else◌, nat_cmp, nat_le}
use Rattle.std.proofs.Common.{refl, sym, ap, ◌∙◌, subst, inl, inr, eq-eqb}
use Rattle.std.specs.List.{list_any, list_all}
use Rattle.std.specs.Ordering.{eq_by_cmp}
use Rattle.std.specs.Cmp.{unsigned_tied}
use Rattle.std.specs.FinMap as finmap
use Rattle.std.proofs.lemmas.Bool.{and_parts, or_from, both_ways}
use Rattle.std.proofs.lemmas.Cmp.{nat_cmp_total}
use Rattle.cnf_base.specs.declared.list.Group.{Group}
use Rattle.cnf_base.specs.declared.step.Step.{Step}
use Rattle.cnf_base.specs.declared.step.Step.TheVariants.{Add, Delete}
use Rattle.cnf_base.specs.ProofText.{Line}
use Rattle.cnf_base.specs.Truth.{Assignment, clause_holds}
use Rattle.lrat_rules.specs.declared.outcome.Reason.{Reason}
use Rattle.lrat_rules.specs.declared.outcome.Reason.TheVariants.{IdNotGreater}
use Rattle.lrat_rules.specs.State.{State, Live, clause_at, start, with_clause, without_clauses, SatisfiesLive}
use Rattle.lrat_rules.specs.Chain.{literals_of, Outcome, Open, Closed, Bad, chain}
use Rattle.lrat_rules.specs.Addition.{fault_after_hints, fault}
use Rattle.lrat_rules.specs.Run.{step_fault, after_step, Judged, Reached, judge_step, judge_line, run, step_adds_empty, line_adds_empty}
use Rattle.lrat_rules.specs.Soundness.{make_true, has_no_zero, LiveHasNoZero, step_has_no_zero, line_has_no_zero, lines_have_no_zero}
use Rattle.lrat_rules.specs.Soundness.{SatisfiesUpToPivot}
use Rattle.lrat_rules.proofs.Chains.{Falsifies-literals_of, chain-sound, IsSound, clause_holds-Closes}
use Rattle.lrat_rules.proofs.Resolvents.{literal_holds-make_true, SatisfiesLive-make_true}
use Rattle.lrat_rules.proofs.Starts.{numbered_at, clause_at-start}

-- each live clause passes the test
abbrev pub LivePass : (List ℤ → Bool) → Live → Type 0
LivePass test live = (id : ℕ) (clause : List ℤ) → clause_at live id ≡ Some clause → test clause ≡ true

pub LivePass-with_clause : (test : List ℤ → Bool) (live : Live) (id : ℕ) (clause : List ℤ) → LivePass test live → test clause ≡ true
    → LivePass test (with_clause live id clause)
LivePass-with_clause test live id clause each new q other at =
    let is : cond (eq_by_cmp nat_cmp q id) (Some clause) (clause_at live q)
    ≡ Some other = sym (finmap.get-insert nat_cmp_total live id clause q) ∙ at in
    elim (eq_by_cmp nat_cmp q id) as (λ b. cond b (Some clause) (clause_at live q) ≡ Some other → test other ≡ true) [
      | true ↦ λ e. subst (λ o. test o ≡ true) (same_inside clause other e) new
      | false ↦ λ e. each q other e
    ] is where
      same_inside : (x y : List ℤ) → Some x ≡ Some y → x ≡ y
      same_inside x y e = cc

LivePass-remove : (test : List ℤ → Bool) (live : Live) (id : ℕ) → LivePass test live → LivePass test (finmap.remove live id)
LivePass-remove test live id each q other at =
    let is : cond (eq_by_cmp nat_cmp q id) None (clause_at live q) ≡ Some other = sym (finmap.get-remove nat_cmp_total live id q) ∙ at in
    elim (eq_by_cmp nat_cmp q id) as (λ b. cond b None (clause_at live q) ≡ Some other → test other ≡ true) [
      | true ↦ λ e. cc
      | false ↦ λ e. each q other e
    ] is

pub LivePass-without_clauses : (test : List ℤ → Bool) (live : Live) (ids : List ℕ) → LivePass test live
    → LivePass test (without_clauses live ids)
LivePass-without_clauses test live [] each = each
LivePass-without_clauses test live (id ∷ ids) each = LivePass-without_clauses test (finmap.remove live id) ids
    (LivePass-remove test live id each)

numbered_at-pass : (test : List ℤ → Bool) (first : ℕ) (clauses : List (List ℤ)) → list_all test clauses ≡ true
    → (id : ℕ) (clause : List ℤ) → numbered_at first clauses id ≡ Some clause → test clause ≡ true
numbered_at-pass test first [] all id clause at = cc
numbered_at-pass test first (c ∷ cs) all id clause at =
    elim (eq_by_cmp nat_cmp id first) as (λ b. cond b (Some c) (numbered_at (first + 1) cs id) ≡ Some clause → test clause ≡ true) [
      | true ↦ λ e. subst (λ o. test o ≡ true) (same_inside c clause e) (and_parts (test c) _ all).0
      | false ↦ λ e. numbered_at-pass test (first + 1) cs (and_parts (test c) _ all).1 id clause e
    ] at where
      same_inside : (x y : List ℤ) → Some x ≡ Some y → x ≡ y
      same_inside x y e = cc

-- what each clause of the formula passes, each live clause at the start passes
pub LivePass-start : (test : List ℤ → Bool) (clauses : List (List ℤ)) → list_all test clauses ≡ true → LivePass test (start clauses).live
LivePass-start test clauses all id clause at = numbered_at-pass test 1 clauses all id clause (sym (clause_at-start clauses id) ∙ at)

-- hints that close
pub SatisfiesLive-Closes : (a : Assignment) (live : Live) (id : ℕ) (clause : List ℤ) (hints : List ℕ) → LiveHasNoZero live
    → SatisfiesLive a live
    → chain live (literals_of clause) hints ≡ Closed → SatisfiesLive a (with_clause live id clause)
SatisfiesLive-Closes a live id clause hints z s closed = LivePass-with_clause (clause_holds a) live id clause s
    (clause_holds-Closes a live clause hints z s closed)

-- by the outcome of the positive hints
after_hints-sound : (a : Assignment) (live : Live) (id : ℕ) (clause : List ℤ) (groups : List Group) → LiveHasNoZero live
    → SatisfiesLive a live → clause_holds a clause ≡ false
    → (o : Outcome) → IsSound a o → fault_after_hints live clause groups o ≡ None → SatisfiesUpToPivot a clause (with_clause live id clause)
after_hints-sound a live id clause groups z s fails (Bad reason) sound h = cc
after_hints-sound a live id clause groups z s fails Closed sound h = absurd sound
after_hints-sound a live id [] groups z s fails (Open n) sound h = cc
after_hints-sound a live id (pivot ∷ clause) groups z s fails (Open n) sound h =
    inr (LivePass-with_clause (clause_holds (make_true pivot a)) live id (pivot
    ∷ clause) (SatisfiesLive-make_true a live n pivot groups z s sound h)
    (rw (literal_holds-make_true pivot a)))

same_up_to_pivot : (a : Assignment) (clause : List ℤ) (live : Live) → SatisfiesLive a live → SatisfiesUpToPivot a clause live
same_up_to_pivot a [] live s = s
same_up_to_pivot a (pivot ∷ clause) live s = inl s

fault-none : (b : Bool) (later : Option Reason) → (if b then Some IdNotGreater else later) ≡ None → later ≡ None
fault-none true later h = cc
fault-none false later h = h

pub SatisfiesUpToPivot-fault : (a : Assignment) (state : State) (id : ℕ) (clause : List ℤ) (hints : List ℕ) (groups : List Group)
    → LiveHasNoZero state.live
    → SatisfiesLive a state.live → fault state id clause hints groups ≡ None
    → SatisfiesUpToPivot a clause (with_clause state.live id clause)
SatisfiesUpToPivot-fault a state id clause hints groups z s good =
    elim (clause_holds a clause) as (λ b. clause_holds a clause ≡ b → SatisfiesUpToPivot a clause (with_clause state.live id clause)) [
      | true ↦ λ e. same_up_to_pivot a clause (with_clause state.live id clause)
          (LivePass-with_clause (clause_holds a) state.live id clause s e)
      | false ↦ λ e. after_hints-sound a state.live id clause groups z s e (chain state.live (literals_of clause) hints)
          (chain-sound a state.live z s (literals_of clause) hints (Falsifies-literals_of a clause e))
          (fault-none (nat_le id state.top) _ good)
    ] refl

-- an assignment under which the live clauses hold, none of which has a 0
pub record IsModel (a : Assignment) (live : Live) : Type 0 where
  pub nonzero : LiveHasNoZero live
  pub satisfied : SatisfiesLive a live

some_model : (a : Assignment) (clause : List ℤ) (live : Live) → SatisfiesUpToPivot a clause live → (b : Assignment) × SatisfiesLive b live
some_model a [] live s = (a, s)
some_model a (pivot ∷ clause) live (inl s) = (a, s)
some_model a (pivot ∷ clause) live (inr s) = (make_true pivot a, s)

pub LiveHasNoZero-step : (state : State) (step : Step) → LiveHasNoZero state.live → step_has_no_zero step ≡ true
    → LiveHasNoZero (after_step state step).live
LiveHasNoZero-step state (Add id clause hints groups) z h = LivePass-with_clause has_no_zero state.live id clause z h
LiveHasNoZero-step state (Delete id ids) z h = LivePass-without_clauses has_no_zero state.live ids z

step-sound : (a : Assignment) (state : State) (step : Step) → IsModel a state.live → step_has_no_zero step ≡ true → step_fault state step
    ≡ None
    → (b : Assignment) × IsModel b (after_step state step).live
step-sound a state (Add id clause hints groups) m z good =
    let next : (b : Assignment) × SatisfiesLive b (with_clause state.live id clause) =
    some_model a clause (with_clause state.live id clause)
    (SatisfiesUpToPivot-fault a state id clause hints groups m.nonzero m.satisfied good) in
    (next.0, record { nonzero = LiveHasNoZero-step state (Add id clause hints groups) m.nonzero z; satisfied = next.1 })
step-sound a state (Delete id ids) m z good = (
  a,
  record {
    nonzero = LiveHasNoZero-step state (Delete id ids) m.nonzero z;
    satisfied = LivePass-without_clauses (clause_holds a) state.live ids m.satisfied;
  },
)

-- after the addition of the empty clause nothing satisfies the live clauses
adds_no_empty : (b : Assignment) (state : State) (step : Step) → IsModel b (after_step state step).live → step_adds_empty step ≡ false
adds_no_empty b state (Add id [] hints groups) m =
    absurd (both_ways false refl (m.satisfied id [] (finmap.get-insert nat_cmp_total state.live id [] id
    ∙ ap (λ t. cond t (Some []) (clause_at state.live id)) (unsigned_tied id id ∙ eq-eqb id id refl))))
adds_no_empty b state (Add id (x ∷ xs) hints groups) m = refl
adds_no_empty b state (Delete id ids) m = refl

-- where a run from a satisfied state leads
pub record Survives (lines : List Line) (live : Live) : Type 0 where
  pub assignment : Assignment
  pub model : IsModel assignment live
  pub no_empty : list_any (λ line. line_adds_empty line.step) lines ≡ false

judge_line-sound : (state reached : State) (number : ℕ) (lines : List Line) (a : Assignment) → IsModel a state.live
    → ((next : State) (b : Assignment) → IsModel b next.live → run next lines ≡ Reached reached → Survives lines reached.live)
    → (o : Option Step) → line_has_no_zero o ≡ true → judge_line state number (λ next. run next lines) o ≡ Reached reached
    → (line_adds_empty o ≡ false) × Survives lines reached.live
judge_line-sound state reached number lines a m more None z h = cc
judge_line-sound state reached number lines a m more (Some step) z h =
    elim (step_fault state step) as (λ f. step_fault state step ≡ f → judge_step state number (λ next. run next lines) step f
    ≡ Reached reached
    → (step_adds_empty step ≡ false) × Survives lines reached.live) [
      | None ↦ λ good goes_on.
          let next : (b : Assignment) × IsModel b (after_step state step).live = step-sound a state step m z good in
          (adds_no_empty next.0 state step next.1, more (after_step state step) next.0 next.1 goes_on)
      | Some reason ↦ λ bad stops. cc
    ] refl h

pub same_reached : (x y : State) → Reached x ≡ Reached y → x ≡ y
same_reached x y e = cc

pub run-sound : (a : Assignment) (state reached : State) (lines : List Line) → IsModel a state.live → lines_have_no_zero lines ≡ true
    → run state lines ≡ Reached reached
    → Survives lines reached.live
run-sound a state reached [] m z h = record {
  assignment = a;
  model = subst (λ s. IsModel a s.live) (same_reached state reached h) m;
  no_empty = refl;
}
run-sound a state reached (line ∷ lines) m z h =
    let both : (line_has_no_zero line.step ≡ true) × (lines_have_no_zero lines ≡ true) = and_parts (line_has_no_zero line.step) _ z in
    let rest : (line_adds_empty line.step ≡ false) × Survives lines reached.live =
    judge_line-sound state reached line.line lines a m (λ next b n r. run-sound b next reached lines n both.1 r) line.step both.0 h in
    record { assignment = rest.1.assignment; model = rest.1.model; no_empty = or_from _ _ rest.0 rest.1.no_empty }

LiveHasNoZero-judge_line : (state reached : State) (number : ℕ) (later : State → Judged) → LiveHasNoZero state.live
    → ((next : State) → LiveHasNoZero next.live → later next ≡ Reached reached → LiveHasNoZero reached.live)
    → (o : Option Step) → line_has_no_zero o ≡ true → judge_line state number later o ≡ Reached reached → LiveHasNoZero reached.live
LiveHasNoZero-judge_line state reached number later z more None h r = cc
LiveHasNoZero-judge_line state reached number later z more (Some step) h r =
    elim (step_fault state step) as (λ f. judge_step state number later step f ≡ Reached reached → LiveHasNoZero reached.live) [
      | None ↦ λ goes_on. more (after_step state step) (LiveHasNoZero-step state step z h) goes_on
      | Some reason ↦ λ stops. cc
    ] r

pub LiveHasNoZero-run : (state reached : State) (lines : List Line) → run state lines ≡ Reached reached → LiveHasNoZero state.live
    → lines_have_no_zero lines ≡ true → LiveHasNoZero reached.live
LiveHasNoZero-run state reached [] r z h = subst (λ s. LiveHasNoZero s.live) (same_reached state reached r) z
LiveHasNoZero-run state reached (line ∷ lines) r z h =
    let both : (line_has_no_zero line.step ≡ true) × (lines_have_no_zero lines ≡ true) = and_parts (line_has_no_zero line.step) _ h in
    LiveHasNoZero-judge_line state reached line.line (λ next. run next lines) z
    (λ next n g. LiveHasNoZero-run next reached lines g n both.1) line.step both.0 r
