-- How a run ends, by what its moves led to and by the flush.
use Rattle.std.proofs.Common.{◌≡◌, ◌≢◌, ◌<◌, ◌≤◌, ◌+◌, ◌++◌, ◌∷◌, ◌⊎◌, [], ℕ, max, Bool, true, false, ℤ, List, length, Option, None, Some, Result, Ok, Err, refl, sym, ap, ◌∙◌}
use Rattle.std.proofs.Common.{subst, arith, inl, inr}
use Rattle.std.specs.Prelude.{IsTrue, IfOk}
use Rattle.std.specs.List.{list_all}
use Rattle.cnf_base.specs.Formula.{Formula}
use Rattle.host_io.specs.Beside.{Beside, beside_lent}
use Rattle.host_io.specs.Channel.{Channel, Rose}
use Rattle.cnf_base.specs.declared.step.Step.{Step}
use Rattle.lrat_rules.specs.State.{start}
use Rattle.lrat_rules.specs.Derivation.{IsCutProof, IsWritten, text_of}
use Rattle.clause_ledger.specs.Book.{Book, IsBook, IsCutText, IsProofOf, IsTextOf, after_steps}
use Rattle.node_table.specs.declared.error.TableError.{TableError}
use Rattle.schedule_plan.specs.declared.plan.Move.{Move}
use Rattle.bdd_terms.specs.declared.error.RunError.{RunError}
use Rattle.bdd_terms.specs.declared.error.RunError.TheVariants.{OutOfMemory, WriteFault}
use Rattle.schedule_plan.specs.declared.limits.Limits.{Limits}
use Rattle.term_runner.specs.declared.outcome.Outcome.{Outcome}
use Rattle.term_runner.specs.declared.outcome.Outcome.TheVariants.{Unsat, Sat, NodeLimit, IdLimit}
use Rattle.term_runner.specs.declared.outcome.Run.{Run}
use Rattle.term_runner.specs.Clauses.{is_tautology}
use Rattle.term_runner.specs.Price.{AreAmpleFrom, IsDecision, IsPaidFor, IsPaidFrom}
use Rattle.bdd_terms.specs.Price.{IsMovePrice}
use Rattle.term_runner.specs.Proofs.{IsProof, IsProofOfKind, IsProofSoFarOfKind, LeadsTo, UsesVariables}
use Rattle.term_runner.specs.Width.{HasWidth, HasWidthWith, keeps_trail}
use Rattle.term_runner.specs.Ends.{Ends, EndsFrom, HasLast, Says, Shows, ShowsFrom, outcome_of}
use Rattle.term_runner.specs.Opened.{EndsWithinFrom, IsBehind, IsFlushed, Leads}
use Rattle.node_table.specs.declared.error.TableError.TheVariants as table

-- in step the bytes are a proof of what is live
pub written_of : {S : Type 0} (tells : Bool) (before after : Channel) (clauses : List (List ℤ)) (book : Book S)
    → IsBehind tells before after clauses book → IsTrue tells → IsTrue book.in_step → IsWritten clauses after.written book.state
written_of tells before after clauses book behind t in_step = record {
  steps = book.steps;
  derived = behind.proof.derived;
  text = behind.text t in_step;
}

-- what the ledger's law says of one over these clauses whose sink had no bytes
module _ {S B : Type 0} (tells : Bool) (channel : S → Channel) (beside : S → B) (book : Book S) (clauses : List (List ℤ))
    (of_formula : book.formula ≡ clauses) (fresh : IsTrue tells → (channel book.origin).written ≡ [])
    (is : IsBook tells channel beside book)
    (cut : (bytes : List ℕ) (earlier : List Step) (last : Step) → IsTextOf false book.steps bytes → book.steps ≡ earlier ++ last ∷ []
    → IsCutProof book.formula bytes (after_steps (start book.formula) earlier) book.state) where
  bytes_are : (t : IsTrue tells) → (channel book.sink).written ≡ (is.since.text t).0
  bytes_are t = (is.since.text t).1 ∙ ap (λ (front : List ℕ). front ++ (is.since.text t).0) (fresh t)

  in_step_text : (in_step : Bool) (steps : List Step) (bytes : List ℕ) → in_step ≡ true → IsTextOf in_step steps bytes → bytes ≡ text_of steps
  in_step_text in_step steps bytes on (inl whole) = whole
  in_step_text in_step steps bytes on (inr torn) = absurd (let e : true ≡ false = sym on ∙ torn.0 in cc)

  spelled_of : (in_step : Bool) (steps : List Step) (front bytes : List ℕ) → bytes ≡ front → IsTextOf in_step steps front
      → (bytes ≡ text_of steps) ⊎ IsCutText steps bytes
  spelled_of in_step steps front bytes same (inl whole) = inl (same ∙ whole)
  spelled_of in_step steps front bytes same (inr torn) = inr (subst (IsCutText steps) (sym same) torn.1)

  pub behind_of : IsBehind tells (channel book.origin) (channel book.sink) clauses book
  behind_of = record {
    proof = subst (λ (all : List (List ℤ)). IsProofOf all book.steps book.state) of_formula is.proof;
    text = λ t on. bytes_are t ∙ in_step_text book.in_step book.steps (is.since.text t).0 on (is.since.text t).2;
    spelled = λ t. spelled_of book.in_step book.steps (is.since.text t).0 (channel book.sink).written (bytes_are t) (is.since.text t).2;
    cut = λ t off earlier last parts.
        subst (λ (all : List (List ℤ)). IsCutProof all (channel book.sink).written (after_steps (start all) earlier) book.state) of_formula
        (subst (λ (bytes : List ℕ). IsCutProof book.formula bytes (after_steps (start book.formula) earlier) book.state) (sym (bytes_are t))
        (cut (is.since.text t).0 earlier last
        (subst (λ (b : Bool). IsTextOf b book.steps (is.since.text t).0) off (is.since.text t).2) parts));
    name = is.since.name;
    faults = is.since.faults;
    unfailed = is.since.unfailed;
    rose = is.since.rose;
  }

-- the same since a later time, until when no write failed
pub behind_since : {S : Type 0} (tells : Bool) (before later after : Channel) (clauses : List (List ℤ)) (book : Book S)
    → later.name ≡ before.name → later.faults ≡ before.faults → IsBehind tells before after clauses book
    → IsBehind tells later after clauses book
behind_since tells before later after clauses book name faults behind = record {
  proof = behind.proof;
  text = behind.text;
  spelled = behind.spelled;
  cut = behind.cut;
  name = behind.name ∙ sym name;
  faults = omega (arith, behind.faults, faults);
  unfailed = λ on. behind.unfailed on ∙ sym faults;
  rose = λ off. subst (λ (n : ℕ). Rose n after.faults) (sym faults) (behind.rose off);
}

-- a fact of each outcome that the moves may come to
pub by_outcome : (P : Outcome → Type 0) (found : Result (Option (List Bool)) TableError) → (found ≡ Ok None → P Unsat)
    → ((values : List Bool) → found ≡ Ok (Some values) → P (Sat values))
    → (found ≡ Err table.NodeLimit → P NodeLimit) → (found ≡ Err table.IdLimit → P IdLimit) → IfOk (outcome_of found) P
by_outcome P (Ok None) unsat sat nodes numbers = unsat refl
by_outcome P (Ok (Some values)) unsat sat nodes numbers = sat values refl
by_outcome P (Err table.NodeLimit) unsat sat nodes numbers = nodes refl
by_outcome P (Err table.IdLimit) unsat sat nodes numbers = numbers refl
by_outcome P (Err table.OutOfMemory) unsat sat nodes numbers = tt
by_outcome P (Err table.WriteFault) unsat sat nodes numbers = tt

-- a write fault is one of the moves'
pub torn_of : (found : Result (Option (List Bool)) TableError) → outcome_of found ≡ Err WriteFault → found ≡ Err table.WriteFault
torn_of (Ok None) is = let e : ◌≡◌ {A = Result Outcome RunError} (Ok Unsat) (Err WriteFault) = is in cc
torn_of (Ok (Some values)) is = let e : ◌≡◌ {A = Result Outcome RunError} (Ok (Sat values)) (Err WriteFault) = is in cc
torn_of (Err table.NodeLimit) is = let e : ◌≡◌ {A = Result Outcome RunError} (Ok NodeLimit) (Err WriteFault) = is in cc
torn_of (Err table.IdLimit) is = let e : ◌≡◌ {A = Result Outcome RunError} (Ok IdLimit) (Err WriteFault) = is in cc
torn_of (Err table.OutOfMemory) is = let e : ◌≡◌ {A = Result Outcome RunError} (Err OutOfMemory) (Err WriteFault) = is in cc
torn_of (Err table.WriteFault) is = refl

pub whole_of : (found : Result (Option (List Bool)) TableError) → outcome_of found ≢ Err WriteFault → found ≢ Err table.WriteFault
whole_of found whole is = whole (ap outcome_of is)

module _ (first : ℕ) (tells : Bool) (before mid after : Channel) (formula : Formula) (order : List ℕ) (moves : List Move) (limits : Limits) where
  -- what stands of a run before the flush
  pub record Shown (run : Run) : Type 0 where
    pub says : Says formula order moves limits run.outcome
    pub certain : (width price : ℕ) → HasWidthWith (keeps_trail limits.max_nodes) formula order moves width
        → IsMovePrice formula.vars limits.cache width price
        → AreAmpleFrom first limits moves width price → IsDecision run.outcome
    pub shows : IsTrue tells → ShowsFrom first formula limits mid.written run.outcome
    pub last : IsTrue tells → LeadsTo formula limits mid.written run.last_id
    pub variables : IsTrue tells → UsesVariables (formula.vars + limits.max_nodes) mid.written
    pub price : (width price : ℕ) → HasWidth formula order moves width → IsMovePrice formula.vars limits.cache width price → IsTrue tells
        → IsProofOfKind formula.clauses (IsPaidFrom first formula limits moves width price) mid.written
    pub tautologies : IsTrue (list_all is_tautology formula.clauses) → mid.written ≡ before.written
    pub name : mid.name ≡ before.name
    pub unfailed : mid.faults ≡ before.faults
    pub small : HasLast formula limits run

  stays : (run : Run) → Shown run → after.written ≡ mid.written → after.name ≡ mid.name → after.faults ≡ mid.faults
      → (IsTrue tells → after.flushed ≡ length after.written)
      → EndsFrom first tells before after formula order moves limits (Ok run)
  stays run shown written name unfailed flushed = record {
    says = shown.says;
    certain = shown.certain;
    shows = λ t. subst (λ (b : List ℕ). ShowsFrom first formula limits b run.outcome) (sym written) (shown.shows t);
    last = λ t. subst (λ (b : List ℕ). LeadsTo formula limits b run.last_id) (sym written) (shown.last t);
    whole = λ _ t. subst (λ (b : List ℕ). IsProof formula limits b) (sym written) (shown.last t).proof;
    so_far = λ t. inl (subst (λ (b : List ℕ). IsProof formula limits b) (sym written) (shown.last t).proof);
    variables = λ t. subst (UsesVariables (formula.vars + limits.max_nodes)) (sym written) (shown.variables t);
    price = λ width price has paid t. inl (subst (λ (b : List ℕ). IsProofOfKind formula.clauses
        (IsPaidFrom first formula limits moves width price) b) (sym written) (shown.price width price has paid t));
    flushed = λ _ t. flushed t;
    fault = λ e. cc;
    unfailed = λ _. unfailed ∙ shown.unfailed;
    tautologies = λ all. written ∙ shown.tautologies all;
    name = name ∙ shown.name;
    faults = omega (arith, unfailed, shown.unfailed);
  }

  fails : (run : Run) → Shown run → after.written ≡ mid.written → after.name ≡ mid.name → mid.faults ≤ after.faults
      → Rose mid.faults after.faults
      → EndsFrom first tells before after formula order moves limits (Err WriteFault)
  fails run shown written name faults rose = record {
    says = tt;
    certain = λ width price has paid ample. tt;
    shows = λ t. tt;
    last = λ t. tt;
    whole = λ no t. absurd (no refl);
    so_far = λ t. inl (subst (λ (b : List ℕ). IsProof formula limits b) (sym written) (shown.last t).proof);
    variables = λ t. subst (UsesVariables (formula.vars + limits.max_nodes)) (sym written) (shown.variables t);
    price = λ width price has paid t. inl (subst (λ (b : List ℕ). IsProofOfKind formula.clauses
        (IsPaidFrom first formula limits moves width price) b) (sym written) (shown.price width price has paid t));
    flushed = λ ok t. absurd (let e : false ≡ true = ok in cc);
    fault = λ e. omega (arith, rose, shown.unfailed);
    unfailed = λ no. absurd (no refl);
    tautologies = λ all. written ∙ shown.tautologies all;
    name = name ∙ shown.name;
    faults = omega (arith, faults, shown.unfailed);
  }

  pub flushed_ends : (run : Run) (result : Result Run RunError) → IsFlushed tells mid after (Ok run) result → Shown run
      → EndsWithinFrom first tells before after formula order moves limits result
  flushed_ends run result flushes shown = elim flushes.ends [
    | inl same ↦ subst (λ (r : Result Run RunError). EndsWithinFrom first tells before after formula order moves limits r) (sym same.0)
        (record { ends = stays run shown flushes.written flushes.name same.2 same.1; last = shown.small })
    | inr broke ↦ subst (λ (r : Result Run RunError). EndsWithinFrom first tells before after formula order moves limits r) (sym broke.0)
        (record { ends = fails run shown flushes.written flushes.name flushes.faults broke.1; last = tt })
  ]

  module _ {S : Type 0} (book : Book S) where
    proof_of : (found : Result Outcome RunError) → Leads first tells before mid formula order moves limits book found → found ≢ Err WriteFault
        → IsTrue tells → IsProof formula limits mid.written
    proof_of found leads whole t = record {
      state = book.state;
      written = leads.written whole t;
      within = leads.within whole;
    }

    priced_of : (found : Result Outcome RunError) → Leads first tells before mid formula order moves limits book found → found ≢ Err WriteFault
        → (width price : ℕ) → HasWidth formula order moves width → IsMovePrice formula.vars limits.cache width price → IsTrue tells
        → IsProofOfKind formula.clauses (IsPaidFrom first formula limits moves width price) mid.written
    priced_of found leads whole width price has paid t =
        record {
          state = book.state;
          written = leads.written whole t;
          within = leads.paid width price has paid whole;
        }

    pub outcome_shown : (outcome : Outcome) (last : ℕ) → Leads first tells before mid formula order moves limits book (Ok outcome) → last
        ≡ book.state.top → Shown (record { outcome = outcome; last_id = last })
    unfolding proof_of
    outcome_shown outcome last leads top = record {
      says = leads.says;
      certain = leads.certain;
      shows = leads.shows;
      last = λ t. record { proof = proof_of (Ok outcome) leads (λ e. cc) t; top = sym top };
      variables = leads.variables;
      price = priced_of (Ok outcome) leads (λ e. cc);
      tautologies = leads.tautologies;
      name = leads.name;
      unfailed = leads.unfailed (λ e. cc);
      small = record {
        within = subst (λ (n : ℕ). n ≤ max (length formula.clauses) limits.max_ids) (sym top) (leads.within (λ e. cc)).numbers;
        spent = λ is. subst (λ (n : ℕ). limits.max_ids < n + 4) (sym top) (leads.spent is);
      };
    }

    -- without an outcome nothing is flushed
    pub failure_ends : (error : RunError) → Leads first tells before mid formula order moves limits book (Err error)
        → EndsFrom first tells before mid formula order moves limits (Err error)
    failure_ends OutOfMemory leads = record {
      says = tt;
      certain = λ width price has paid ample. tt;
      shows = λ t. tt;
      last = λ t. tt;
      whole = λ _ t. proof_of (Err OutOfMemory) leads (λ e. cc) t;
      so_far = λ t. inl (proof_of (Err OutOfMemory) leads (λ e. cc) t);
      variables = leads.variables;
      price = λ width price has paid t. inl (priced_of (Err OutOfMemory) leads (λ e. cc) width price has paid t);
      flushed = λ ok t. absurd (let e : false ≡ true = ok in cc);
      fault = λ e. cc;
      unfailed = λ _. leads.unfailed (λ e. cc);
      tautologies = leads.tautologies;
      name = leads.name;
      faults = leads.faults;
    }
    failure_ends WriteFault leads = record {
      says = tt;
      certain = λ width price has paid ample. tt;
      shows = λ t. tt;
      last = λ t. tt;
      whole = λ no t. absurd (no refl);
      so_far = λ t. inr (leads.broken refl t);
      variables = leads.variables;
      price = λ width price has paid t. inr (leads.broken_paid width price has paid refl t);
      flushed = λ ok t. absurd (let e : false ≡ true = ok in cc);
      fault = λ e. leads.fault refl;
      unfailed = λ no. absurd (no refl);
      tautologies = leads.tautologies;
      name = leads.name;
      faults = leads.faults;
    }

-- From the start nothing is left out.
module _ (tells : Bool) (before after : Channel) (formula : Formula) (order : List ℕ) (moves : List Move) (limits : Limits) where
  abbrev start_is : ℕ
  start_is = length formula.clauses

  shows_at_start : (bytes : List ℕ) (outcome : Outcome) → ShowsFrom start_is formula limits bytes outcome → Shows formula limits bytes outcome
  shows_at_start bytes Unsat shows = record { refutes = shows.refutes; at_once = shows.at_once refl }
  shows_at_start bytes (Sat values) shows = shows (inl refl)
  shows_at_start bytes NodeLimit shows = shows
  shows_at_start bytes IdLimit shows = shows

  shown_at_start : (result : Result Run RunError) → IfOk result (λ run. ShowsFrom start_is formula limits after.written run.outcome)
      → IfOk result (λ run. Shows formula limits after.written run.outcome)
  shown_at_start (Ok run) shows = shows_at_start after.written run.outcome shows
  shown_at_start (Err e) shows = tt

  paid_at_start : (width price : ℕ) → IsProofSoFarOfKind formula.clauses (IsPaidFrom start_is formula limits moves width price) after.written
      → IsProofSoFarOfKind formula.clauses (IsPaidFor formula limits moves width price) after.written
  paid_at_start width price so_far = elim so_far [
    | inl whole ↦ inl (record { state = whole.state; written = whole.written; within = whole.within.from_start refl })
    | inr broken ↦ inr (record {
      before = broken.before;
      after = broken.after;
      cut = broken.cut;
      within_before = broken.within_before.from_start refl;
      within_after = broken.within_after.from_start refl;
    })
  ]

  pub ends_at_start : (result : Result Run RunError) → EndsFrom start_is tells before after formula order moves limits result
      → Ends tells before after formula order moves limits result
  ends_at_start result ends = record {
    says = ends.says;
    certain = ends.certain;
    shows = λ t. shown_at_start result (ends.shows t);
    last = ends.last;
    whole = ends.whole;
    so_far = ends.so_far;
    variables = ends.variables;
    price = λ width price has is t. paid_at_start width price (ends.price width price has is t);
    flushed = ends.flushed;
    fault = ends.fault;
    unfailed = ends.unfailed;
    tautologies = ends.tautologies;
    name = ends.name;
    faults = ends.faults;
  }

-- the end where memory ran out before the moves
pub nothing_ends : (tells : Bool) (before after : Channel) (formula : Formula) (order : List ℕ) (moves : List Move) (limits : Limits)
    → (IsTrue tells → IsProof formula limits after.written) → (IsTrue tells → after.written ≡ [])
    → ((width price : ℕ) → IsTrue tells → IsProofOfKind formula.clauses (IsPaidFor formula limits moves width price) after.written)
    → after.written ≡ before.written → after.name ≡ before.name → after.faults ≡ before.faults
    → Ends tells before after formula order moves limits (Err OutOfMemory)
nothing_ends tells before after formula order moves limits whole none within_price written name unfailed = record {
  says = tt;
  certain = λ width price has paid ample. tt;
  shows = λ t. tt;
  last = λ t. tt;
  whole = λ _ t. whole t;
  so_far = λ t. inl (whole t);
  variables = λ t. record { steps = []; spelled = inl (none t); few = tt };
  price = λ width price has paid t. inl (within_price width price t);
  flushed = λ ok t. absurd (let e : false ≡ true = ok in cc);
  fault = λ e. cc;
  unfailed = λ _. unfailed;
  tautologies = λ all. written;
  name = name;
  faults = omega (arith, unfailed);
}

first_lender : List ℕ → ℕ
first_lender [] = 0
first_lender (lender ∷ _) = lender

-- what is beside a lent sink names who lent it
pub lender_kept : {one other : ℕ} {inner rest : Beside} → beside_lent one inner ≡ beside_lent other rest → one ≡ other
unfolding first_lender
lender_kept same = ap (λ (b : Beside). first_lender b.lenders) same

other_lenders : List ℕ → List ℕ
other_lenders [] = []
other_lenders (_ ∷ lenders) = lenders

-- and what is beside that sink itself
pub inner_kept : {one other : ℕ} {inner rest : Beside} → beside_lent one inner ≡ beside_lent other rest → inner ≡ rest
unfolding other_lenders
inner_kept same = ap (λ (b : Beside). record { lenders = other_lenders b.lenders; rest = b.rest }) same
