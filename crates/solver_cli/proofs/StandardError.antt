-- What was said on standard error.
use Rattle.std.proofs.Common.{◌≡◌, ◌≤◌, ℕ, Bool, true, false, List, [], ◌++◌, refl, sym, ap, ◌∙◌, IsTrue}
use Rattle.std.proofs.Common.{append-nil, append_assoc, arith}
use Rattle.host_io.specs.Channel.{Channel, Rose}
use Rattle.host_io.specs.declared.role.Role.TheVariants.{Err as ErrRole}
use Rattle.command_line.specs.Command.{command, progress_asked}
use Rattle.solver_cli.specs.Phases.{Complains}
use Rattle.drat_proof.specs.TwoRoles.{added}
use Rattle.solver_cli.specs.Comments.{are_comments, are_comments_so_far}
use Rattle.solver_cli.specs.Explained.{is_explained}
use Rattle.solver_cli.specs.Progress.{Comments, IsTold}
use Rattle.solver_cli.specs.Headline.{ErrorStands}
use Rattle.solver_cli.specs.Run.{Run}
use Rattle.solver_cli.proofs.Facts.{behind, grown_by}

-- what was noted, or explained, in front of the text
record Noted (asked : Bool) (old mid : Channel) (notes : List ℕ) : Type 0 where
  pub written : mid.written ≡ old.written ++ notes
  pub comments : are_comments_so_far notes ≡ true
  pub whole : (Rose old.faults mid.faults → ⊥) → are_comments notes ≡ true
  pub unasked : asked ≡ false → notes ≡ []
  pub faults : old.faults ≤ mid.faults

noted : (asked tells : Bool) (old mid : Channel) → IsTold asked tells old mid → IsTrue tells → (notes : List ℕ) × Noted asked old mid notes
noted true tells old mid told t = by told.0 (told.1.told refl) where
  by : (after : Bool) → Comments after tells old mid → (notes : List ℕ) × Noted true old mid notes
  by true c = (
    added old mid,
    record {
      written = c.written t;
      comments = c.so_far t;
      whole = λ _. c.whole t refl;
      unasked = λ e. cc;
      faults = c.faults;
    },
  )
  by false c = (
    added old mid,
    record {
      written = c.written t;
      comments = c.so_far t;
      whole = λ none. absurd (none (c.broken refl));
      unasked = λ e. cc;
      faults = c.faults;
    },
  )
noted false tells old mid told t =
    let same = (told.1.silent refl).0 in (
      [],
      record {
        written = ap (λ (c : Channel). c.written) same ∙ sym (append-nil old.written);
        comments = refl;
        whole = λ _. refl;
        unasked = λ _. refl;
        faults = let is = ap (λ (c : Channel). c.faults) same in omega (arith, is);
      },
    )

-- the pieces of a text, one behind another
in_turn : (start notes reasons said : List ℕ) → ((start ++ notes) ++ reasons) ++ said ≡ start ++ (notes ++ (reasons ++ said))
in_turn start notes reasons said = append_assoc (start ++ notes) reasons said ∙ append_assoc start notes (reasons ++ said)

pub error_stands : (run : Run) (middle later : Channel) → IsTold (progress_asked (command run.words)) run.tells (run.before ErrRole) middle
    → IsTold (is_explained run.words run.status) run.tells middle later
    → Complains run.tells later (run.after ErrRole) run.status → ErrorStands run
error_stands run middle later told explained complains = record {
  grows = λ t. grown_by before after (notes t ++ (reasons t ++ put t)) (grown t);
  said = λ t. (
    notes t,
    reasons t,
    put t,
    record {
      written = behind before after (notes t ++ (reasons t ++ put t)) (grown t);
      unasked = (at t).unasked;
      unexplained = (behind_at t).unasked;
      comments = (at t).comments;
      explanation = (behind_at t).comments;
      rest = (complains.written t).1;
      front = (complains.written t).3;
      whole = λ none. (
        (at t).whole (λ rose. none (let second = (behind_at t).faults in let third = complains.only.faults in omega (arith, rose, second, third))),
        (behind_at t).whole (λ rose. none (let first = (at t).faults in let third = complains.only.faults in omega (arith, rose, first, third))),
        (complains.written t).4 (λ rose. none (let first = (at t).faults in let second = (behind_at t).faults in omega (arith, rose, first, second))),
      );
    },
  );
  flushed = λ t none. complains.flushed t
      (λ rose. none (let first = (at t).faults in let second = (behind_at t).faults in omega (arith, rose, first, second)));
} where
  before : Channel
  before = run.before ErrRole

  after : Channel
  after = run.after ErrRole

  notes : IsTrue run.tells → List ℕ
  notes t = (noted (progress_asked (command run.words)) run.tells before middle told t).0

  at : (t : IsTrue run.tells) → Noted (progress_asked (command run.words)) before middle (notes t)
  at t = (noted (progress_asked (command run.words)) run.tells before middle told t).1

  reasons : IsTrue run.tells → List ℕ
  reasons t = (noted (is_explained run.words run.status) run.tells middle later explained t).0

  behind_at : (t : IsTrue run.tells) → Noted (is_explained run.words run.status) middle later (reasons t)
  behind_at t = (noted (is_explained run.words run.status) run.tells middle later explained t).1

  put : IsTrue run.tells → List ℕ
  put t = (complains.written t).0

  grown : (t : IsTrue run.tells) → after.written ≡ before.written ++ (notes t ++ (reasons t ++ put t))
  grown t = (complains.written t).2
      ∙ ap (λ (l : List ℕ). l ++ put t) ((behind_at t).written ∙ ap (λ (l : List ℕ). l ++ reasons t) (at t).written)
      ∙ in_turn before.written (notes t) (reasons t) (put t)
