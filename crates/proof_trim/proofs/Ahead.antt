-- What is cut of a proof so far, and what is ahead of it.
use Rattle.std.proofs.Common.{◌≡◌, ℕ, ◌+◌, Bool, true, false, ◌||◌, List, [], ◌∷◌, ◌++◌, Ok, Err, refl, sym, ap, ◌∙◌, append_assoc, arith}
use Rattle.std.specs.Prelude.{Result, reverse, IsTrue}
use Rattle.std.proofs.lemmas.List.{append-nil}
use Rattle.cnf_base.specs.declared.step.Step.{Step}
use Rattle.host_io.specs.Beside.{Beside}
use Rattle.host_io.specs.Channel.{Channel}
use Rattle.text_scan.specs.Decides.{Decides, Decides-map}
use Rattle.lrat_text.specs.Draft.{lrat_form}
use Rattle.lrat_text.specs.Reader.{Reader, steps_ahead}
use Rattle.lrat_text.specs.Steps.{Steps, no_more, next_step}
use Rattle.lrat_rules.specs.State.{State}
use Rattle.lrat_rules.specs.Run.{after_step, step_adds_empty}
use Rattle.proof_judging.specs.declared.verdict.Verdict.{Verdict}
use Rattle.proof_judging.specs.declared.verdict.Verdict.TheVariants.{Verified}
use Rattle.proof_judging.specs.declared.verdict.CheckError.{CheckError}
use Rattle.proof_judging.specs.Run.{Exit, IsNext, Leads, Leaves, Runs, answer_at, before_all, at_end, at_bad_line, at_limit, at_fault}
use Rattle.proof_judging.specs.Run.{at_memory, at_step}
use Rattle.proof_judging.proofs.Covered.{runs_covered}
use Rattle.proof_trim.specs.declared.cutting.CutProof.{CutProof}
use Rattle.proof_trim.specs.Trimmed.{cut_step, cut_steps, none_if, one_if_addition, additions_ahead}
use Rattle.proof_trim.specs.Packed.{packed_back, packed_if}
use Rattle.proof_trim.specs.Sweep.{pile_of}
use Rattle.proof_trim.specs.Answer.{with_step}
use Rattle.proof_trim.specs.Trimming.{Work, trimming_rules}
use Rattle.proof_trim.proofs.Piles.{pile_later}

-- what was cut so far, with what will be cut of these steps
abbrev pub cut_then : CutProof → Bool → State → Steps → CutProof
cut_then cut ended state steps = record {
  steps = pile_of (reverse (none_if ended (cut_steps state steps))) ++ cut.steps;
  total = cut.total + additions_ahead steps;
}

-- all that is cut of these steps
abbrev pub whole_cut : State → Steps → CutProof
whole_cut state steps = record { steps = pile_of (reverse (cut_steps state steps)); total = additions_ahead steps }

at_first : (state : State) (steps : Steps) → whole_cut state steps ≡ cut_then (record { steps = []; total = 0 }) false state steps
at_first state steps =
    let same : additions_ahead steps ≡ 0 + additions_ahead steps = omega arith in
    λ i. record { steps = sym (append-nil (pile_of (reverse (cut_steps state steps)))) i; total = same i }

pub cut_first : (state : State) (steps : Steps) (cut : CutProof) → cut ≡ record { steps = []; total = 0 }
    → whole_cut state steps ≡ cut_then cut false state steps
cut_first state steps cut none = at_first state steps ∙ sym (ap (λ (c : CutProof). cut_then c false state steps) none)

-- one step more
ahead_more : (so_far : List ℕ) (ended ends : Bool) (step : Step) (more : List Step)
    → pile_of (reverse (none_if ended (step ∷ none_if ends more))) ++ so_far
    ≡ pile_of (reverse (none_if (ended || ends) more)) ++ (packed_if ended step ++ so_far)
ahead_more so_far true ends step more = refl
ahead_more so_far false ends step more =
    ap (λ (l : List ℕ). l ++ so_far) (pile_later step (none_if ends more))
    ∙ append_assoc (pile_of (reverse (none_if ends more))) (packed_back step) so_far

pub cut_on : (cut next : CutProof) (ended behind : Bool) (state after : State) (before rest : Steps) (step : Step) (at : ℕ)
    → before ≡ next_step step at rest → after ≡ after_step state step → behind ≡ (ended || step_adds_empty step)
    → next ≡ with_step ended state step cut → cut_then cut ended state before ≡ cut_then next behind after rest
cut_on cut next ended behind state after before rest step at given moved told taken =
    let more : List Step = cut_steps (after_step state step) rest in
    let count : cut.total + (one_if_addition step + additions_ahead rest) ≡ cut.total + one_if_addition step + additions_ahead rest =
    omega arith in
    ap (cut_then cut ended state) given
    ∙ (λ i. record { steps = ahead_more cut.steps ended (step_adds_empty step) (cut_step state step) more i; total = count i })
    ∙ ap (λ (c : CutProof). cut_then c (ended || step_adds_empty step) (after_step state step) rest) (sym taken)
    ∙ sym (λ i. cut_then next (told i) (moved i) rest)

none_ahead : (b : Bool) (so_far : List ℕ) → pile_of (reverse (none_if b [])) ++ so_far ≡ so_far
none_ahead true so_far = refl
none_ahead false so_far = refl

-- and the end
pub cut_end : (cut : CutProof) (ended : Bool) (state : State) (before : Steps) (line : ℕ) → before ≡ no_more line
    → cut_then cut ended state before ≡ cut
cut_end cut ended state before line none =
    let count : cut.total + 0 ≡ cut.total = omega arith in
    ap (cut_then cut ended state) none ∙ (λ i. record { steps = none_ahead ended cut.steps i; total = count i })

-- The same over a run.
module _ {Judge Source : Type 0} (state_of : Judge → State) (cut_of : Judge → CutProof) (beside_of : Source → Beside) where
  leads_cut : (taken : List (Step × ℕ)) (state last : State) (work now : Work) (had has : Bool) (rest : Steps)
      → Leads (trimming_rules state_of cut_of beside_of) state work had taken last now has
      → cut_then work.cut had state (before_all taken rest) ≡ cut_then now.cut has last rest
  leads_cut [] state last work now had has rest leads =
      λ i. cut_then (ap (λ (w : Work). w.cut) leads.1 i) (leads.2 i) (leads.0 i) rest
  leads_cut ((step, line) ∷ taken) state last work now had has rest leads =
      cut_on work.cut leads.1.cut had (had || step_adds_empty step) state (after_step state step)
      (next_step step line (before_all taken rest)) (before_all taken rest) step line refl refl refl
      (leads.3.1 ∙ ap (λ (w : Work). with_step had state step w.cut) leads.2)
      ∙ leads_cut taken (after_step state step) last leads.1 now (had || step_adds_empty step) has rest leads.5

  -- a run that ends in this verdict was read to the end
  at_the_end : (last : State) (read new : Work) (has : Bool) (exit : Exit Step CheckError) (rest : Steps)
      → Leaves (trimming_rules state_of cut_of beside_of) last read new has exit → answer_at (λ error. error) has exit ≡ Ok Verified
      → IsNext exit rest → (read ≡ new) × ((line : ℕ) × (rest ≡ no_more line))
  at_the_end last read new has (at_end line) rest leaves e next = (leaves, (line, next))
  at_the_end last read new has (at_bad_line line) rest leaves e next = cc
  at_the_end last read new has at_limit rest leaves e next = cc
  at_the_end last read new has at_fault rest leaves e next = cc
  at_the_end last read new has at_memory rest leaves e next = cc
  at_the_end last read new has (at_step step line (Ok reason)) rest leaves e next = cc
  at_the_end last read new has (at_step step line (Err error)) rest leaves e next = cc

  pub runs_cut : (tells : Bool) (in_old in_new : Channel) (state : State) (old new : Work) (reader : Reader)
      (result : Result Verdict CheckError)
      → Runs lrat_form tells (trimming_rules state_of cut_of beside_of) in_old in_new state old new reader result
      → old.cut ≡ record { steps = []; total = 0 } → IsTrue tells → result ≡ Ok Verified
      → Decides in_old in_new (λ bytes more. new.cut ≡ whole_cut state (steps_ahead reader bytes))
  runs_cut tells in_old in_new state old new reader result runs none told verified =
      Decides-map _ (runs.ahead told) (λ bytes more ahead.
      let ends = at_the_end runs.last runs.read new runs.has_empty runs.exit ahead.rest runs.leaves
      (sym runs.answer ∙ verified) ahead.next in
      sym (cut_first state (steps_ahead reader bytes) old.cut none
      ∙ ap (cut_then old.cut false state) ahead.parts
      ∙ leads_cut runs.taken state runs.last old runs.done false runs.has_empty ahead.rest runs.leads
      ∙ cut_end runs.done.cut runs.has_empty runs.last ahead.rest ends.1.0 ends.1.1
      ∙ ap (λ (w : Work). w.cut) (sym runs.reads ∙ ends.0)))

  pub runs_beside : (tells : Bool) (in_old in_new : Channel) (state : State) (old new : Work) (reader : Reader)
      (result : Result Verdict CheckError)
      → Runs lrat_form tells (trimming_rules state_of cut_of beside_of) in_old in_new state old new reader result → new.beside ≡ old.beside
  runs_beside tells in_old in_new state old new reader result runs =
      runs_covered (trimming_rules state_of cut_of beside_of) (λ before after. after.beside ≡ before.beside) (λ work. refl)
      (λ before now after first second. second ∙ first) (λ before after e. ap (λ (w : Work). w.beside) e)
      (λ at before after has step answer does. does.0)
      lrat_form tells in_old in_new state old new reader result runs
