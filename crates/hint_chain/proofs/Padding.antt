-- Arrays whose places behind the last literal are blank.
use Rattle.std.proofs.Common.{◌≡◌, ℕ, ◌+◌, ◌-◌, ◌<◌, ℤ, pos, List, drop, set, sym, ap, ◌∙◌, arith, length-set}
use Rattle.std.specs.Prelude.{replicate}
use Rattle.std.proofs.lemmas.List.{drop-set-lt, drop-replicate, drop-drop}
use Rattle.hint_chain.specs.Inline.{IsPadded}

pub IsPadded-set : (places : ℕ) (array : List ℤ) (count : ℕ) (literal : ℤ) → count < places → IsPadded places array count
    → IsPadded places (set array count literal) (count + 1)
IsPadded-set places array count literal room p =
    let rest : places - count - 1 ≡ places - (count + 1) = omega arith in
    record {
      within = omega arith;
      full = length-set array count literal ∙ p.full;
      blank = drop-set-lt (count + 1) array count literal (omega arith)
          ∙ sym (drop-drop 1 count array)
          ∙ ap (drop 1) p.blank
          ∙ drop-replicate 1 (places - count) (pos 1)
          ∙ ap (λ k. replicate k (pos 1)) rest;
    }
