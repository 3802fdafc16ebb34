-- What was added to a channel, and the text of steps in parts.
use Rattle.std.proofs.Common.{◌≡◌, ℕ, List, [], ◌++◌, take, drop, length, Err, refl, sym, ap, subst, ◌∙◌, append_assoc}
use Rattle.std.specs.Prelude.{Result}
use Rattle.std.proofs.lemmas.List.{append-nil, take-append-drop}
use Rattle.std.proofs.lemmas.Grind.{flat_map-append}
use Rattle.std.proofs.Math.Seq.{drop-append_seam}
use Rattle.host_io.specs.Channel.{Channel}
use Rattle.drat_text.specs.declared.step.DratStep.{DratStep}
use Rattle.drat_text.specs.DratText.{line_of_drat, drat_text}
use Rattle.proof_judging.specs.declared.verdict.Verdict.{Verdict}
use Rattle.drat_proof.specs.declared.error.ConvertError.{ConvertError}
use Rattle.drat_proof.specs.declared.error.ConvertError.TheVariants.{OutOfMemory}
use Rattle.drat_proof.specs.Conversion.{AreFirstLines, HasWritten}
use Rattle.drat_proof.specs.TwoRoles.{added}

pub added_is : (old new : Channel) (text : List ℕ) → new.written ≡ old.written ++ text → added old new ≡ text
added_is old new text e = ap (drop (length old.written)) e ∙ drop-append_seam old.written text

pub appended : (old new : Channel) (text : List ℕ) → new.written ≡ old.written ++ text → new.written ≡ old.written ++ added old new
appended old new text e = e ∙ ap (λ (l : List ℕ). old.written ++ l) (sym (added_is old new text e))

pub text-append : (front rest : List DratStep) → drat_text (front ++ rest) ≡ drat_text front ++ drat_text rest
text-append front rest = flat_map-append line_of_drat front rest

-- the lines of one more step
pub one_more : (start middle end : List ℕ) (front piece : List DratStep) → middle ≡ start ++ drat_text front → end ≡ middle
    ++ drat_text piece → end ≡ start ++ drat_text (front ++ piece)
one_more start middle end front piece first second =
    second ∙ ap (λ (l : List ℕ). l ++ drat_text piece) first ∙ append_assoc start (drat_text front) (drat_text piece)
    ∙ ap (λ (l : List ℕ). start ++ l) (sym (text-append front piece))

-- a front of the lines of one more step
pub front_more : (start middle end : List ℕ) (n : ℕ) (front : List DratStep) (piece : List ℕ) → middle ≡ start ++ drat_text front → end
    ≡ middle ++ take n piece → end ≡ start ++ (drat_text front ++ take n piece)
front_more start middle end n front piece first second =
    second ∙ ap (λ (l : List ℕ). l ++ take n piece) first ∙ append_assoc start (drat_text front) (take n piece)

-- what is left then of the whole text
pub front_of : (n : ℕ) (front piece rest whole : List DratStep) (written : List ℕ) → whole ≡ front ++ (piece ++ rest) → written
    ≡ drat_text front ++ take n (drat_text piece)
    → drat_text whole ≡ written ++ (drop n (drat_text piece) ++ drat_text rest)
front_of n front piece rest whole written parts is =
    let lines : List ℕ = drat_text piece in
    let halves : lines ++ drat_text rest ≡ take n lines ++ (drop n lines ++ drat_text rest) =
    ap (λ (l : List ℕ). l ++ drat_text rest) (sym (take-append-drop n lines)) ∙ append_assoc (take n lines) (drop n lines) (drat_text rest) in
    ap drat_text parts ∙ text-append front (piece ++ rest)
    ∙ ap (λ (l : List ℕ). drat_text front ++ l) (text-append piece rest ∙ halves)
    ∙ sym (append_assoc (drat_text front) (take n lines) (drop n lines ++ drat_text rest))
    ∙ ap (λ (l : List ℕ). l ++ (drop n lines ++ drat_text rest)) (sym is)

-- nothing was written, for want of memory
pub none_written : (result : Result Verdict ConvertError) (sink : Channel) (steps : List DratStep) → result ≡ Err OutOfMemory
    → HasWritten result (added sink sink) steps
none_written result sink steps is =
    let lines : AreFirstLines (added sink sink) steps = record {
      front = [];
      rest = steps;
      parts = refl;
      lines = added_is sink sink [] (sym (append-nil sink.written));
    } in
    subst (λ (r : Result Verdict ConvertError). HasWritten r (added sink sink) steps) (sym is) lines
