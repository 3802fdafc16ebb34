-- The numbers of a deletion stand behind those that it has, unless one is negative.
use Rattle.std.proofs.Common.{◌≡◌, ◌-◌, ◌++◌, length, take, drop, None, Some, sym, ◌∙◌, ap, subst, if◌then◌else◌}
use Rattle.std.specs.Int.{is_negative}
use Rattle.std.specs.List.{list_any}
use Rattle.text_scan.specs.Scan.{TookNumbers}
use Rattle.lrat_text.specs.declared.draft.Kind.TheVariants.{Deletes}
use Rattle.lrat_text.specs.Form.{with_numbers}
use Rattle.lrat_text.specs.Draft.{DraftLine, lrat_form}
use Rattle.lrat_text.proofs.DraftNumbers.{line_with, deletes_more, behind}
use Rattle.lrat_text.proofs.draft.LratLine.delete_numbers.Goals as goal

pub returns : goal.returns
returns c =
    let s = c.self.inside in
    let taken = c.take_from.ensures in
    let kind : s.kind ≡ Deletes = c.in-Deletes.is in
    let found : c.has_negative-self-inside.result ≡ list_any is_negative taken.numbers = c.has_negative-self-inside.ensures
    ∙ ap (λ n. list_any is_negative (take (length c.as_slice.result.now - n) (drop n c.as_slice.result.now))) c.len-before.ensures
    ∙ ap (λ l. list_any is_negative (take (length l - length s.numbers) (drop (length s.numbers) l))) (c.as_slice.ensures ∙ taken.behind)
    ∙ ap (list_any is_negative) (behind s.numbers taken.numbers) in
    record {
      numbers = taken.numbers;
      took = subst (λ line. TookNumbers taken.numbers line c.args.scanner.now c.take_from.new.scanner)
          (ap (λ (draft : DraftLine). draft.line) c.self.view_is) taken.took;
      behind = ap (λ l. line_with s.line s.kind s.id (if c.has_negative-self-inside.result then None else Some l)) taken.behind
          ∙ ap (λ b. line_with s.line s.kind s.id (if b then None else Some (s.numbers ++ taken.numbers))) found
          ∙ ap (λ k. line_with s.line k s.id (if list_any is_negative taken.numbers then None else Some (s.numbers ++ taken.numbers))) kind
          ∙ sym (deletes_more taken.numbers s.line s.id s.numbers)
          ∙ ap (λ k. with_numbers lrat_form (line_with s.line k s.id (Some s.numbers)) taken.numbers) (sym kind)
          ∙ ap (λ b. with_numbers lrat_form (line_with s.line s.kind s.id (if b then None else Some s.numbers)) taken.numbers)
          (sym c.if-self.false)
          ∙ ap (λ draft. with_numbers lrat_form draft taken.numbers) c.self.view_is;
    }
