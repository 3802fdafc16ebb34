-- The numbers of an addition stand behind those that it has.
use Rattle.std.proofs.Common.{◌≡◌, ◌<◌, true, length, None, Some, sym, ◌∙◌, ap, subst, arith, if◌then◌else◌}
use Rattle.text_scan.specs.Scan.{TookNumbers}
use Rattle.lrat_text.specs.declared.draft.Kind.TheVariants.{Adds}
use Rattle.lrat_text.specs.Form.{with_numbers}
use Rattle.lrat_text.specs.Draft.{DraftLine, lrat_form, is_adding}
use Rattle.lrat_text.proofs.DraftNumbers.{line_with, adds_more}
use Rattle.lrat_text.proofs.draft.LratLine.add_numbers.Goals as goal

pub returns-then-take_from-gt0 : goal.returns-then-take_from-gt0
returns-then-take_from-gt0 c =
    let s = c.self.inside in
    let taken = c.take_from.ensures in
    let some : 0 < length taken.numbers = omega (arith, taken.size, c.if-take_from-gt0.true) in
    let adding : is_adding s.kind ≡ true = ap (λ (draft : DraftLine). is_adding draft.kind) c.self.view_is ∙ c.requires in
    record {
      numbers = taken.numbers;
      took = subst (λ line. TookNumbers taken.numbers line c.args.scanner.now c.take_from.new.scanner)
          (ap (λ (draft : DraftLine). draft.line) c.self.view_is) taken.took;
      behind = ap (λ b. line_with s.line Adds s.id (if b then None else Some c.take_from.new.self)) c.if-self.false
          ∙ ap (λ l. line_with s.line Adds s.id (Some l)) taken.behind
          ∙ sym (adds_more s.kind s.line s.id s.numbers taken.numbers adding some)
          ∙ ap (λ b. with_numbers lrat_form (line_with s.line s.kind s.id (if b then None else Some s.numbers)) taken.numbers)
          (sym c.if-self.false)
          ∙ ap (λ draft. with_numbers lrat_form draft taken.numbers) c.self.view_is;
    }
