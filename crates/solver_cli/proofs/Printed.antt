-- What is promised of a run that decided its formula.
use Rattle.std.proofs.Common.{◌≡◌, ℕ, Bool, true, false, List, [], ◌++◌, append-nil, refl, sym, ap, ◌∙◌, subst, Ok, Err, IsTrue, inl, inr}
use Rattle.std.proofs.Common.{true≢false}
use Rattle.std.specs.Prelude.{Option, Result, ⊤}
use Rattle.cnf_base.specs.Formula.{Formula}
use Rattle.host_io.specs.declared.role.Role.TheVariants.{ProofOut, Out}
use Rattle.host_io.specs.declared.source.Failed.{Failed}
use Rattle.lrat_rules.specs.declared.outcome.Reason.{Reason}
use Rattle.schedule_plan.specs.declared.limits.Limits.{Limits}
use Rattle.schedule_plan.specs.declared.plan.Move.{Move}
use Rattle.term_runner.specs.declared.outcome.Outcome.{Outcome}
use Rattle.term_runner.specs.declared.outcome.Outcome.TheVariants as outcome
use Rattle.term_runner.specs.declared.outcome.Run.{Run as Ending}
use Rattle.bdd_terms.specs.declared.error.RunError.{RunError}
use Rattle.bdd_terms.specs.declared.error.RunError.TheVariants.{WriteFault as Torn}
use Rattle.term_runner.specs.Price.{IsDecision}
use Rattle.solver_cli.specs.Sums.{IsPaidAs}
use Rattle.term_runner.specs.Proofs.{Refutation, IsProof}
use Rattle.term_runner.specs.Ends.{Says, Shows}
use Rattle.term_runner.specs.Recovered.{IsRecovered}
use Rattle.command_line.specs.Command.{Command, command, parity_asked}
use Rattle.solver_cli.specs.declared.status.Status.TheVariants.{Sat, Unsat, Unknown, Verified, NotVerified, WriteFault}
use Rattle.solver_cli.specs.declared.status.Why.{Why}
use Rattle.solver_cli.specs.declared.status.Why.TheVariants.{NodeLimit, IdLimit}
use Rattle.solver_cli.specs.Answer.{ending_text, last_identifier, outcome_at, shape_asked, status_of, with_last}
use Rattle.solver_cli.specs.ErrorText.{is_answer}
use Rattle.solver_cli.specs.Phases.{PutsText, WritesProof}
use Rattle.solver_cli.specs.Stages.{Job, Answered, status_after}
use Rattle.solver_cli.specs.Headline.{AnswerTo, IsRefuted, IsSatisfied, IsUndecided, IsTrueAnswer, ProofStands}
use Rattle.solver_cli.specs.Run.{Run, written_in, limits_given, text_for, OutputFailed, AsksFor}
use Rattle.solver_cli.proofs.Facts.{behind, grown_by, whole_of, no_answer}
use Rattle.solver_cli.proofs.Promised.{Core, due, no_text, no_verdict}
use Rattle.solver_cli.proofs.Accepted.{Posed, asks_by, asks_for, decision, same_limits, same_parity, solve_complete, answer_due}
use Rattle.solver_cli.proofs.Accepted.{Accepts, accepts_write}
use Rattle.solver_cli.proofs.Accepted.{accepts_answer, proof_whole, so_far_of_kind, steps_stand}

is_unsat : (found : Outcome) → status_of found ≡ Unsat → found ≡ outcome.Unsat
is_unsat (outcome.Sat values) e = cc
is_unsat outcome.Unsat e = refl
is_unsat outcome.NodeLimit e = cc
is_unsat outcome.IdLimit e = cc

is_sat : (found : Outcome) → status_of found ≡ Sat → (values : List Bool) × (found ≡ outcome.Sat values)
is_sat (outcome.Sat values) e = (values, refl)
is_sat outcome.Unsat e = cc
is_sat outcome.NodeLimit e = cc
is_sat outcome.IdLimit e = cc

is_unknown : (found : Outcome) (why : Why) → status_of found ≡ Unknown why → found ≡ outcome_at why
is_unknown (outcome.Sat values) why e = cc
is_unknown outcome.Unsat why e = cc
is_unknown outcome.NodeLimit NodeLimit e = refl
is_unknown outcome.NodeLimit IdLimit e = cc
is_unknown outcome.IdLimit NodeLimit e = cc
is_unknown outcome.IdLimit IdLimit e = refl

answers : (found : Outcome) → is_answer (status_of found) ≡ true
answers (outcome.Sat values) = refl
answers outcome.Unsat = refl
answers outcome.NodeLimit = refl
answers outcome.IdLimit = refl

no_verdict_of : (found : Outcome) → (status_of found ≡ Verified → ⊥)
    × ((line : ℕ) (reason : Reason) → status_of found ≡ NotVerified line reason → ⊥)
no_verdict_of (outcome.Sat values) = ((λ e. cc), λ line reason e. cc)
no_verdict_of outcome.Unsat = ((λ e. cc), λ line reason e. cc)
no_verdict_of outcome.NodeLimit = ((λ e. cc), λ line reason e. cc)
no_verdict_of outcome.IdLimit = ((λ e. cc), λ line reason e. cc)

none_decided : (why : Why) → IsDecision (outcome_at why) → ⊥
none_decided NodeLimit is = is
none_decided IdLimit is = is

no_write : (found : Outcome) → status_of found ≡ WriteFault → ⊥
no_write (outcome.Sat values) e = cc
no_write outcome.Unsat e = cc
no_write outcome.NodeLimit e = cc
no_write outcome.IdLimit e = cc

pub answered : (run : Run) {problem : Formula} {order : List ℕ} {moves : List Move} {job : Job} → Posed run problem order moves job
    → Answered run.tells (run.before ProofOut) (run.after ProofOut) (run.before Out) (run.after Out) problem order moves job run.status
    → Core run
answered run {problem = problem} {order = order} {moves = moves} {job = job} posed a = go a.printed a.puts a.ends where
  found : Outcome
  found = a.ending.outcome

  text : List ℕ
  text = ending_text job.shape job.limits a.ending

  given : IsTrue run.tells → AsksFor run problem
  given = asks_for run posed

  writes : WritesProof (parity_asked (command run.words)) run.tells a.created (run.after ProofOut) problem order moves (limits_given run)
      (Ok a.ending)
  writes = subst (λ (p : Bool). WritesProof p run.tells a.created (run.after ProofOut) problem order moves (limits_given run) (Ok a.ending))
      (same_parity run posed)
      (subst (λ (l : Limits). WritesProof job.parity run.tells a.created (run.after ProofOut) problem order moves l (Ok a.ending))
      (same_limits run posed) a.writes)

  same_bytes : written_in run ProofOut ≡ (run.after ProofOut).written
  same_bytes = whole_of (run.before ProofOut) (run.after ProofOut) a.opens.was_idle.written

  -- the text is the one for the formula and the proof's bytes
  same_ending : IsTrue run.tells → a.ending ≡ with_last problem.clauses (written_in run ProofOut) found
  same_ending t =
      ap (λ (last : ℕ). record { outcome = found; last_id = last }) (writes.last t ∙ ap (last_identifier problem.clauses) (sym same_bytes))

  same_text : IsTrue run.tells → text ≡ text_for run problem found
  same_text t = λ i. ending_text ((posed.shape ∙ sym (ap (λ (c : Option Command). shape_asked c problem) posed.gives)) i)
      (same_limits run posed i) (same_ending t i)

  shows : IsTrue run.tells → Shows problem (limits_given run) (written_in run ProofOut) found
  shows t = subst (λ (bytes : List ℕ). Shows problem (limits_given run) bytes found) (sym same_bytes) (writes.shows t)

  -- the same of an outcome that is known by its name
  says_as : (other : Outcome) → found ≡ other → Says problem order moves (limits_given run) other
  says_as other is = subst (λ (x : Outcome). Says problem order moves (limits_given run) x) is writes.says

  shows_as : (other : Outcome) → found ≡ other → IsTrue run.tells → Shows problem (limits_given run) (written_in run ProofOut) other
  shows_as other is t = subst (λ (x : Outcome). Shows problem (limits_given run) (written_in run ProofOut) x) is (shows t)

  ok_err : (ending : Ending) (error : RunError) → ◌≡◌ {A = Result Ending RunError} (Ok ending) (Err error) → ⊥
  ok_err ending error e = cc

  whole : IsTrue run.tells → IsProof problem (limits_given run) (written_in run ProofOut)
  whole t = proof_whole run problem a.opens.was_idle.written (writes.whole (λ e. ok_err a.ending Torn e) t)

  stands : ProofStands run
  stands = record {
    so_far = λ t. inr (problem, given t, inl (whole t));
    whole = λ unfaulted t. inr (problem, given t, whole t);
    price = λ t. inr (
      problem,
      given t,
      λ width price has paid. so_far_of_kind run problem
          (IsPaidAs (parity_asked (command run.words)) problem (limits_given run) moves width price) a.opens.was_idle.written (writes.price width price has paid t),
    );
  }

  true_answer : IsTrue run.tells → (rest : List ℕ) → text_for run problem found ≡ written_in run Out ++ rest
      → IsTrueAnswer run (AnswerTo problem found)
  true_answer t rest front = record {
    found = record {
      asked = given t;
      holds = record { says = writes.says; shows = shows t };
      proof = whole t;
      flushed = writes.flushed refl t;
    };
    rest = rest;
    front = front;
  }

  grows : (printed : Result ⊤ Failed) → PutsText run.tells (run.before Out) (run.after Out) text printed → IsTrue run.tells
      → (run.after Out).written ≡ (run.before Out).written ++ written_in run Out
  grows printed puts t = let front = puts.front t in grown_by (run.before Out) (run.after Out) front.0 front.2

  fronts : (printed : Result ⊤ Failed) → PutsText run.tells (run.before Out) (run.after Out) text printed → IsTrue run.tells
      → IsTrueAnswer run (AnswerTo problem found)
  fronts printed puts t = let front = puts.front t in true_answer t front.1 (sym (same_text t) ∙ front.3
      ∙ ap (λ (l : List ℕ). l ++ front.1) (sym (behind (run.before Out) (run.after Out) front.0 front.2)))

  printed_as : (IsTrue run.tells → written_in run Out ≡ text) → (other : Outcome) → found ≡ other → IsTrue run.tells → written_in run Out
      ≡ text_for run problem other
  printed_as all other is t = all t ∙ same_text t ∙ ap (text_for run problem) is

  refuted : (IsTrue run.tells → written_in run Out ≡ text) → found ≡ outcome.Unsat → IsRefuted run
  refuted all is = record {
    given = decision run posed;
    problem = problem;
    board = λ task here. (posed.board task here).its_formula;
    unsatisfiable = says_as outcome.Unsat is;
    shown = λ t. let shown : Refutation problem.clauses (written_in run ProofOut) = shows_as outcome.Unsat is t in
        record { asked = given t; refuted = shown.refutes; at_once = shown.at_once; printed = printed_as all outcome.Unsat is t };
  }

  satisfied : (IsTrue run.tells → written_in run Out ≡ text) → (values : List Bool) → found ≡ outcome.Sat values → IsSatisfied run
  satisfied all values is =
      let recovered : IsRecovered problem order moves values = says_as (outcome.Sat values) is in
      record {
        given = decision run posed;
        problem = problem;
        order = order;
        moves = moves;
        values = values;
        board = posed.board;
        one_each = recovered.one_each;
        satisfied = recovered.satisfied;
        recovered = recovered;
        shown = λ t. record {
          asked = asks_by run posed t;
          few = shows_as (outcome.Sat values) is t;
          printed = printed_as all (outcome.Sat values) is t;
        };
      }

  undecided : (IsTrue run.tells → written_in run Out ≡ text) → (why : Why) → found ≡ outcome_at why → IsUndecided run why
  undecided all why is = record {
    given = decision run posed;
    problem = problem;
    order = order;
    moves = moves;
    board = posed.board;
    needs = says_as (outcome_at why) is;
    short = λ width price has paid ample. none_decided why (subst IsDecision is (writes.certain width price has paid ample));
    sums = λ adds node. writes.conflict adds (is ∙ ap outcome_at node);
    shown = λ t. record {
      asked = asks_by run posed t;
      reached = shows_as (outcome_at why) is t;
      printed = printed_as all (outcome_at why) is t;
    };
  }

  fine : (x : ⊤) → PutsText run.tells (run.before Out) (run.after Out) text (Ok x) → run.status ≡ status_of found → Core run
  fine x puts ends =
      let accepts : Accepts run.status = accepts_answer run.status found ends in
      let yes_answer : is_answer run.status ≡ true = ap is_answer ends ∙ answers found in
      let all : IsTrue run.tells → written_in run Out ≡ text = λ t. behind (run.before Out) (run.after Out) text (puts.done t refl) in
      record {
        unsatisfiable = λ e. refuted all (is_unsat found (sym ends ∙ e));
        satisfiable = λ e. let sat = is_sat found (sym ends ∙ e) in satisfied all sat.0 sat.1;
        undecided = λ why e. inl (undecided all why (is_unknown found why (sym ends ∙ e)));
        answered = λ e. absurd (accepts.answered e);
        verdict = record {
          verified = λ e. absurd ((no_verdict_of found).0 (sym ends ∙ e));
          not_verified = λ line reason e. absurd ((no_verdict_of found).1 line reason (sym ends ∙ e));
        };
        made = λ e. absurd (accepts.done e);
        made_file = no_text run posed.made;
        refusals = answer_due run found ends;
        faults = λ quiet. record {
          read = λ e. absurd (accepts.read e);
          named = λ e. absurd (accepts.read e);
          undecided = λ e. absurd (accepts.read e);
          quiet = quiet;
          write = λ e. absurd (no_write found (sym ends ∙ e));
          created = λ e. absurd (no_write found (sym ends ∙ e));
          accepted = λ e. absurd (no_write found (sym ends ∙ e));
        };
        output = record {
          grows = grows (Ok x) puts;
          front = λ t. inr (inl (AnswerTo problem found, fronts (Ok x) puts t));
          answered = λ _ t. (
            AnswerTo problem found,
            true_answer t [] (sym (same_text t) ∙ sym (all t)
                ∙ sym (append-nil (written_in run Out))),
            ends,
            refl,
          );
          helped = λ e. absurd (accepts.help e);
          flushed = λ _ t. puts.flushed t refl;
          silent = λ unanswered. absurd (true≢false (sym yes_answer ∙ unanswered));
        };
        proof = steps_stand run posed stands;
        complete = solve_complete run posed (λ unharmed. inl yes_answer);
      }

  failed : (e : Failed) → PutsText run.tells (run.before Out) (run.after Out) text (Err e) → run.status ≡ WriteFault → Core run
  failed e puts ends =
      let unanswered : is_answer run.status ≡ false = ap is_answer ends in
      let accepts : Accepts run.status = accepts_write run.status ends in
      let failure : OutputFailed run = (Out, inr refl, puts.fault refl) in
      record {
        unsatisfiable = λ d. absurd (no_answer unanswered refl d);
        satisfiable = λ d. absurd (no_answer unanswered refl d);
        undecided = λ why d. absurd (no_answer unanswered refl d);
        answered = λ d. absurd (no_answer unanswered refl d);
        verdict = no_verdict run unanswered;
        made = λ d. absurd (accepts.done d);
        made_file = no_text run posed.made;
        refusals = due run ends tt;
        faults = λ quiet. record {
          read = λ d. absurd (accepts.read d);
          named = λ d. absurd (accepts.read d);
          undecided = λ d. absurd (accepts.read d);
          quiet = quiet;
          write = λ d. failure;
          created = λ d. inl (puts.fault refl);
          accepted = λ d. inr ((posed.asked, posed.gives), λ t. inl (problem, given t));
        };
        output = record {
          grows = grows (Err e) puts;
          front = λ t. inr (inl (AnswerTo problem found, fronts (Err e) puts t));
          answered = λ yes_answer. absurd (true≢false (sym yes_answer ∙ unanswered));
          helped = λ d. absurd (accepts.help d);
          flushed = λ either. elim either [
            | inl yes_answer ↦ absurd (true≢false (sym yes_answer ∙ unanswered))
            | inr d ↦ absurd
                (accepts.help d)
          ];
          silent = λ _ _ unfaulted. absurd (unfaulted ends);
        };
        proof = steps_stand run posed stands;
        complete = solve_complete run posed (λ unharmed. absurd (unharmed.1 failure));
      }

  go : (printed : Result ⊤ Failed) → PutsText run.tells (run.before Out) (run.after Out) text printed → run.status
      ≡ status_after a.ending printed → Core run
  go (Ok x) puts ends = fine x puts ends
  go (Err e) puts ends = failed e puts ends
