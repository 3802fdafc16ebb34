-- One line more, or a front of it, behind those of the steps before.
use Rattle.std.proofs.Common.{◌≡◌, ℕ, Bool, true, false, List, [], ◌∷◌, ◌++◌, take, Option, Result, inl, inr, refl, sym, ◌∙◌, ap, arith}
use Rattle.std.proofs.lemmas.List.{append_assoc}
use Rattle.std.specs.Prelude.{IsOk, IsErr, IfSome}
use Rattle.cnf_base.specs.declared.step.Step.{Step}
use Rattle.cnf_base.specs.ProofText.{line_of_step}
use Rattle.host_io.specs.Channel.{Channel, WritesAll}
use Rattle.host_io.specs.declared.source.Failed.{Failed}
use Rattle.lrat_rules.specs.Derivation.{text_of}
use Rattle.clause_ledger.specs.Book.{IsProofOf, IsSince, IsTextOf}
use Rattle.clause_ledger.specs.History.{Story}
use Rattle.clause_ledger.specs.Kept.{AreKept, KeptClauses}

abbrev pub TextLaw : Type 0
TextLaw = (steps : List Step) (step : Step) → text_of (steps ++ step ∷ []) ≡ text_of steps ++ line_of_step step

pub whole : (steps : List Step) (bytes : List ℕ) → IsTextOf true steps bytes → bytes ≡ text_of steps
whole steps bytes (inl is) = is
whole steps bytes (inr cut) = let e : true ≡ false = cut.0 in cc

module _ {T : Type 0} (text : TextLaw) (tells finished : Bool) (steps : List Step) (step : Step) (origin before after : Channel)
    (result : Result T Failed) (since : IsSince tells true finished steps origin before)
    (writes : WritesAll tells before after (line_of_step step) result) where
  pub written_whole : IsOk result → IsSince tells true finished (steps ++ step ∷ []) origin after
  written_whole ok = record {
    text = λ t.
        let was = since.text t in (
          was.0 ++ line_of_step step,
          writes.done t ok ∙ ap (λ (bytes : List ℕ). bytes ++ line_of_step step) was.1
              ∙ append_assoc origin.written was.0 (line_of_step step),
          inl (ap (λ (bytes : List ℕ). bytes ++ line_of_step step) (whole steps was.0 was.2) ∙ sym (text steps step)),
        );
    flushed = λ f. writes.flushed ∙ since.flushed f;
    taken = writes.taken ∙ since.taken;
    left = writes.left ∙ since.left;
    name = writes.name ∙ since.name;
    faults = omega (arith, since.faults, writes.faults.no_less);
    unfailed = λ _. writes.faults.unfailed ok ∙ since.unfailed refl;
    rose = λ e. cc;
  }

  pub written_cut : IsErr result → IsSince tells false finished (steps ++ step ∷ []) origin after
  written_cut err = record {
    text = λ t.
        let was = since.text t in
        let front = writes.failed t err in (
          was.0 ++ take front.0 (line_of_step step),
          front.1 ∙ ap (λ (bytes : List ℕ). bytes ++ take front.0 (line_of_step step)) was.1
              ∙ append_assoc origin.written was.0 (take front.0 (line_of_step step)),
          inr (
            refl,
            record {
              earlier = steps;
              last = step;
              parts = refl;
              count = front.0;
              text = ap (λ (bytes : List ℕ). bytes ++ take front.0 (line_of_step step)) (whole steps was.0 was.2);
            },
          ),
        );
    flushed = λ f. writes.flushed ∙ since.flushed f;
    taken = writes.taken ∙ since.taken;
    left = writes.left ∙ since.left;
    name = writes.name ∙ since.name;
    faults = omega (arith, since.faults, writes.faults.no_less);
    unfailed = λ e. cc;
    rose = λ _. let rose = writes.faults.cause err in let same = since.unfailed refl in omega (arith, rose, same);
  }

-- what a ledger's parts have to do with what it went through, beside what is proved
abbrev pub AreOf : Bool → Bool → Channel → Channel → Option KeptClauses → ℕ → Story → Type 0
AreOf tells in_step origin sink kept top story = (story.state.top ≡ top) × IsProofOf story.formula story.steps story.state
    × IsSince tells in_step story.finished story.steps origin sink × IfSome kept (AreKept story.state)
