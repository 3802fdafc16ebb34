-- The numbers stand behind those that the line has.
use Rattle.std.proofs.Common.{◌≡◌, ℤ, List, None, Some, sym, ◌∙◌, ap, subst, if◌then◌else◌}
use Rattle.text_scan.specs.Scan.{TookNumbers}
use Rattle.lrat_text.specs.Form.{with_numbers}
use Rattle.drat_text.specs.Draft.{DratDraft, all_numbers, draft_on, drat_form}
use Rattle.drat_text.proofs.DratNumbers.{added, all_more}
use Rattle.drat_text.proofs.line.DratLineLineForm.take_numbers.Goals as goal

pub returns-then-not-self : goal.returns-then-not-self
returns-then-not-self c =
    let s = c.self.inside in
    let taken = c.take_from.ensures in
    let own : List ℤ = all_numbers s.kind s.first s.numbers in
    let now : draft_on s.line s.kind (Some own) ≡ c.args.self.now =
    ap (λ b. draft_on s.line s.kind (if b then None else Some own)) (sym c.if-not-self.true) ∙ c.self.view_is in
    record {
      numbers = taken.numbers;
      took = subst (λ line. TookNumbers taken.numbers line c.args.scanner.now c.take_from.new.scanner)
          (ap (λ (draft : DratDraft). draft.line) c.self.view_is) taken.took;
      behind = ap (λ b. draft_on s.line s.kind (if b then None else Some (all_numbers s.kind s.first c.take_from.new.self)))
          c.if-not-self.true
          ∙ ap (λ l. draft_on s.line s.kind (Some (all_numbers s.kind s.first l))) taken.behind
          ∙ ap (λ l. draft_on s.line s.kind (Some l)) (all_more s.kind s.first s.numbers taken.numbers)
          ∙ sym (added taken.numbers s.line s.kind own)
          ∙ ap (λ draft. with_numbers drat_form draft taken.numbers) now;
    }
