-- How a step is written by its names, and deletions one after another.
use Rattle.std.proofs.Common.{◌≡◌, ℕ, Bool, ℤ, List, [], ◌∷◌, ◌++◌, Ok, Err, refl, sym, ap, subst}
use Rattle.std.proofs.Common.{◌∙◌, ◌<◌, ◌+◌, suc, length, drop, get_or, append_assoc, arith}
use Rattle.std.proofs.Math.Seq.{drop-cons}
use Rattle.std.specs.Prelude.{Result, IsErr}
use Rattle.std.specs.FinMap as map
use Rattle.std.proofs.lemmas.List.{append-nil}
use Rattle.host_io.specs.declared.source.Failed.{Failed}
use Rattle.host_io.specs.Channel.{Channel, WritesAll}
use Rattle.host_io.proofs.Emitting.{in_turn, fails_within, alone, written_out, cut_before}
use Rattle.lrat_rules.specs.State.{Live, clause_at, without_clauses}
use Rattle.drat_text.specs.declared.step.DratStep.{DratStep}
use Rattle.drat_text.specs.declared.step.DratStep.TheVariants.{Add as adds}
use Rattle.drat_text.specs.DratText.{line_of_drat, drat_text}
use Rattle.drat_proof.specs.Drat.{deletion_of, deletions}
use Rattle.drat_proof.specs.Naming.{NamesAhead, named_by, behind, behind_all, step_by}
use Rattle.drat_proof.specs.Conversion.{WritesAddition, step_answer}
use Rattle.drat_proof.proofs.Named.{no_steps, one_step, behind-append, named_text-append}

-- the line of one step is its text
pub one_line : {tells : Bool} {old new : Channel} {written : Result (Unit {0}) Failed} (step : DratStep)
    → WritesAll tells old new (line_of_drat step) written → WritesAll tells old new (drat_text (step ∷ [])) written
one_line {tells} {old} {new} {written} step w =
    subst (λ (l : List ℕ). WritesAll tells old new l written) (sym (append-nil (line_of_drat step))) w

-- the same by names, of which the later ones are those behind the step
pub one_line_by : {tells : Bool} {old new : Channel} {written : Result (Unit {0}) Failed} (names next : NamesAhead) (step : DratStep)
    → next ≡ behind names step → WritesAll tells old new (line_of_drat (step_by next step)) written
    → WritesAll tells old new (drat_text (named_by names (step ∷ []))) written
one_line_by {tells} {old} {new} {written} names next step is w =
    subst (λ (l : List DratStep). WritesAll tells old new (drat_text l) written)
    (ap (λ (n : NamesAhead). step_by n step ∷ []) is ∙ sym (one_step names step)) (one_line (step_by next step) w)

-- Writes in turn.
pub nothing_written : {tells : Bool} (channel : Channel) → WritesAll {T = Unit {0}} tells channel channel [] (Ok tt)
nothing_written channel = record {
  done = λ t ok. sym (append-nil channel.written);
  failed = λ t err. cc;
  flushed = refl;
  taken = refl;
  left = refl;
  name = refl;
  faults = record { no_less = omega arith; cause = λ err. cc; unfailed = λ ok. refl };
}

writes_then : {tells : Bool} {a b c : Channel} {first second : List ℕ} (result : Result (Unit {0}) Failed)
    → WritesAll {T = Unit {0}} tells a b first (Ok tt) → WritesAll tells b c second result
    → WritesAll tells a c (first ++ second) result
writes_then {c = c} (Ok u) before behind = written_out (in_turn (alone before) refl (alone behind)) refl (nothing_written c)
writes_then (Err e) before behind = cut_before (in_turn (alone before) refl (alone behind)) refl refl

-- no more was written of a longer text, where a write failed
writes_short : {tells : Bool} {a b : Channel} {first : List ℕ} {answer : Result (Unit {0}) Failed} (failed : Failed) (text more : List ℕ)
    → text ≡ first ++ more → WritesAll {T = Unit {0}} tells a b first (Err failed) → IsErr answer
    → WritesAll tells a b text answer
writes_short failed text more whole writes err =
    cut_before {result = Err failed} (fails_within (alone writes) refl refl text more [] whole) refl err

-- The first of the numbers had their turn: these are live now, and the rest are to come.
pub record Deletes (tells : Bool) (old new : Channel) (live : Live) (names : NamesAhead) (ids : List ℕ) (now : Live) (next : NamesAhead)
    (rest : List ℕ) : Type 0 where
  pub front : List DratStep
  pub parts : deletions live ids ≡ front ++ deletions now rest
  pub written : WritesAll {T = Unit {0}} tells old new (drat_text (named_by names front)) (Ok tt)
  pub named : next ≡ behind_all names front
  pub left : without_clauses now rest ≡ without_clauses live ids

pub deletes_none : (tells : Bool) (channel : Channel) (live : Live) (names : NamesAhead) (ids : List ℕ)
    → Deletes tells channel channel live names ids live names ids
deletes_none tells channel live names ids = record {
  front = [];
  parts = refl;
  written = subst (λ (l : List DratStep). WritesAll {T = Unit {0}} tells channel channel (drat_text l) (Ok tt)) (sym (no_steps names))
      (nothing_written channel);
  named = refl;
  left = refl;
}

module _ {tells : Bool} {old mid new : Channel} {live now : Live} {names next : NamesAhead} {ids rest : List ℕ} where
  -- one number more
  pub deletes_on : {live' : Live} {next' : NamesAhead} (id : ℕ) (more : List ℕ) → Deletes tells old mid live names ids now next rest
      → rest ≡ id ∷ more → WritesAll {T = Unit {0}} tells mid new (drat_text (named_by next (deletion_of (clause_at now id)))) (Ok tt)
      → next' ≡ behind_all next (deletion_of (clause_at now id)) → live' ≡ map.remove now id
      → Deletes tells old new live names ids live' next' more
  deletes_on {live'} {next'} id more so_far turn writes later removed =
      let piece : List DratStep = deletion_of (clause_at now id) in
      let by_names : drat_text (named_by next piece) ≡ drat_text (named_by (behind_all names so_far.front) piece) =
      ap (λ (n : NamesAhead). drat_text (named_by n piece)) so_far.named in
      record {
        front = so_far.front ++ piece;
        parts = so_far.parts ∙ ap (λ (l : List ℕ). so_far.front ++ deletions now l) turn
            ∙ sym (append_assoc so_far.front piece (deletions (map.remove now id) more))
            ∙ ap (λ (l : Live). (so_far.front ++ piece) ++ deletions l more) (sym removed);
        written = subst (λ (l : List ℕ). WritesAll {T = Unit {0}} tells old new l (Ok tt))
            (ap (λ (l : List ℕ). drat_text (named_by names so_far.front) ++ l) by_names ∙ sym (named_text-append names so_far.front piece))
            (writes_then (Ok tt) so_far.written writes);
        named = later ∙ ap (λ (n : NamesAhead). behind_all n piece) so_far.named ∙ sym (behind-append names so_far.front piece);
        left = ap (λ (l : Live). without_clauses l more) removed ∙ sym (ap (without_clauses now) turn) ∙ so_far.left;
      }

  -- a write failed at its turn
  pub deletes_fail : {answer : Result (Unit {0}) Failed} (id : ℕ) (more : List ℕ) (failed : Failed)
      → Deletes tells old mid live names ids now next rest → rest ≡ id ∷ more
      → WritesAll {T = Unit {0}} tells mid new (drat_text (named_by next (deletion_of (clause_at now id)))) (Err failed) → IsErr answer
      → WritesAll tells old new (drat_text (named_by names (deletions live ids))) answer
  deletes_fail id more failed so_far turn writes err =
      let piece : List DratStep = deletion_of (clause_at now id) in
      let rest_of : List DratStep = deletions (map.remove now id) more in
      let later : NamesAhead = behind_all next piece in
      writes_short failed _ (drat_text (named_by later rest_of))
      (ap (λ (l : List DratStep). drat_text (named_by names l)) (so_far.parts ∙ ap (λ (l : List ℕ). so_far.front ++ deletions now l) turn)
      ∙ named_text-append names so_far.front (piece ++ rest_of)
      ∙ ap (λ (n : NamesAhead). drat_text (named_by names so_far.front) ++ drat_text (named_by n (piece ++ rest_of))) (sym so_far.named)
      ∙ ap (λ (l : List ℕ). drat_text (named_by names so_far.front) ++ l) (named_text-append next piece rest_of)
      ∙ sym (append_assoc (drat_text (named_by names so_far.front)) (drat_text (named_by next piece)) (drat_text (named_by later rest_of))))
      (writes_then (Err failed) so_far.written writes) err

module _ {tells : Bool} {old new : Channel} {live now : Live} {names next : NamesAhead} {ids : List ℕ} (rest : List ℕ)
    (so_far : Deletes tells old new live names ids now next rest) (none : rest ≡ []) where
  all_parts : so_far.front ≡ deletions live ids
  all_parts = sym (so_far.parts ∙ ap (λ (l : List ℕ). so_far.front ++ deletions now l) none ∙ append-nil so_far.front)

  -- all of them had their turn
  pub deletes_all : WritesAll {T = Unit {0}} tells old new (drat_text (named_by names (deletions live ids))) (Ok tt)
  deletes_all = subst (λ (l : List DratStep). WritesAll {T = Unit {0}} tells old new (drat_text (named_by names l)) (Ok tt)) all_parts
      so_far.written

  pub all_removed : now ≡ without_clauses live ids
  all_removed = sym (ap (without_clauses now) none) ∙ so_far.left

  pub all_named : next ≡ behind_all names (deletions live ids)
  all_named = so_far.named ∙ ap (behind_all names) all_parts

-- the number at a place, and those behind it
pub turn_of : (ids : List ℕ) (place id : ℕ) → place < length ids → id ≡ get_or ids place id → drop place ids ≡ id ∷ drop (place + 1) ids
turn_of ids place id within is =
    let next : suc place ≡ place + 1 = omega arith in
    drop-cons ids place id within ∙ ap (λ (x : ℕ). x ∷ drop (suc place) ids) (sym is) ∙ ap (λ (n : ℕ). id ∷ drop n ids) next

-- an addition is written by the names behind it
pub writes_addition : {tells : Bool} {old new : Channel} {next : NamesAhead} (names : NamesAhead) (clause : List ℤ)
    (written : Result (Unit {0}) Failed) → next ≡ behind names (adds clause)
    → WritesAll tells old new (line_of_drat (step_by next (adds clause))) written
    → WritesAddition tells old new names next clause (step_answer written)
writes_addition {next = next} names clause (Ok u) is w = (one_line_by names next (adds clause) is w, is)
writes_addition {next = next} names clause (Err failed) is w = (failed, one_line_by names next (adds clause) is w)
